-- The text of a formula.
use Rattle.std.specs.Prelude.{◌≡◌, ℕ, ◌+◌, ◌^◌, ◌<◌, List, [], ◌∷◌, ◌++◌, codes, decimal}
use Rattle.grammar.specs.Grammar.{◌>>=◌, pure, word, optional}
use Rattle.operators.specs.Sizes.{max_size}
use Rattle.spl_ast.specs.Formula.{Formula, Identity, Fourier, Hadamard, Twiddles, Diagonal, Stride, Permutation, GoodThomasIn, GoodThomasOut, Product, TensorLeft, TensorRight, DirectSum, Pending}

-- numbers with commas before them
abbrev pub more_text : List ℕ → List ℕ
more_text [] = []
more_text (v ∷ vs) = codes "," ++ (decimal v ++ more_text vs)

-- numbers with commas between them
abbrev pub values_text : List ℕ → List ℕ
values_text [] = []
values_text (v ∷ vs) = decimal v ++ more_text vs

abbrev pub size_text : List ℕ → ℕ → List ℕ
size_text head n = head ++ (decimal n ++ codes ")")

abbrev pub pair_text : List ℕ → ℕ → ℕ → List ℕ
pair_text head n r = head ++ (decimal n ++ (codes "," ++ (decimal r ++ codes ")")))

-- a formula's one spelling; a part still to be rewritten has none
abbrev pub spelling : Formula → List ℕ
spelling (Identity n) = size_text (codes "I(") n
spelling (Fourier n w) = pair_text (codes "DFT(") n w
spelling (Hadamard n) = size_text (codes "WHT(") n
spelling (Twiddles n s w) = codes "T(" ++ (decimal n ++ (codes "," ++ (decimal s ++ (codes "," ++ (decimal w ++ codes ")")))))
spelling (Diagonal c) = codes "DIAG(" ++ (values_text c ++ codes ")")
spelling (Stride n r) = pair_text (codes "L(") n r
spelling (Permutation k) = codes "PERM(" ++ (values_text k ++ codes ")")
spelling (GoodThomasIn r s) = pair_text (codes "GTIN(") r s
spelling (GoodThomasOut r s) = pair_text (codes "GTOUT(") r s
spelling (Product a b) = codes "TIMES(" ++ (spelling a ++ (codes "," ++ (spelling b ++ codes ")")))
spelling (TensorLeft a k) = codes "LEFT(" ++ (spelling a ++ (codes "," ++ (decimal k ++ codes ")")))
spelling (TensorRight k a) = codes "RIGHT(" ++ (decimal k ++ (codes "," ++ (spelling a ++ codes ")")))
spelling (DirectSum a b) = codes "SUM(" ++ (spelling a ++ (codes "," ++ (spelling b ++ codes ")")))
spelling (Pending a) = []

-- a size or a factor
abbrev pub IsFactor : ℕ → Type 0
IsFactor n = (0 < n) × (n < max_size + 1)

abbrev pub IsValue : ℕ → Type 0
IsValue v = v < 2 ^ 62

abbrev pub AreValues : List ℕ → Type 0
AreValues [] = Unit {0}
AreValues (v ∷ vs) = IsValue v × AreValues vs

-- one value or more
abbrev pub AreSomeValues : List ℕ → Type 0
AreSomeValues [] = ⊥
AreSomeValues (v ∷ vs) = IsValue v × AreValues vs

-- the numbers of the formula are within the limits of texts, whatever the shapes of its parts
abbrev pub HasSpelling : Formula → Type 0
HasSpelling (Identity n) = IsFactor n
HasSpelling (Fourier n w) = IsFactor n × IsValue w
HasSpelling (Hadamard n) = IsFactor n
HasSpelling (Twiddles n s w) = IsFactor n × IsFactor s × IsValue w
HasSpelling (Diagonal c) = AreSomeValues c
HasSpelling (Stride n r) = IsFactor n × IsFactor r
HasSpelling (Permutation k) = AreSomeValues k
HasSpelling (GoodThomasIn r s) = IsFactor r × IsFactor s
HasSpelling (GoodThomasOut r s) = IsFactor r × IsFactor s
HasSpelling (Product a b) = HasSpelling a × HasSpelling b
HasSpelling (TensorLeft a k) = HasSpelling a × IsFactor k
HasSpelling (TensorRight k a) = IsFactor k × HasSpelling a
HasSpelling (DirectSum a b) = HasSpelling a × HasSpelling b
HasSpelling (Pending a) = ⊥

-- the text is the spelling of the formula
unfoldable pub spells : List ℕ → Formula → Type 0
spells text f = HasSpelling f × (text ≡ spelling f)

-- the same, with or without a line end after it
abbrev pub spells_line : List ℕ → Formula → Type 0
spells_line = do
  f ← spells
  _ ← optional tt (word (codes "\n"))
  pure f
