-- The grammar of formulas by their heads. What stands behind a head is put together from numbers and formulas, with commas between them
-- and a parenthesis at the end. The texts of each such piece are those of its good values (`HasTexts`), so both ways between the grammar
-- and the spelling follow from a few laws.
use Rattle.std.proofs.Common.{◌≡◌, ℕ, ◌^◌, ◌<◌, List, [], ◌∷◌, ◌++◌, codes, decimal, refl, sym, ap, subst, ◌∙◌}
use Rattle.std.proofs.Common.{append_assoc}
use Rattle.std.proofs.Common.{inl, inr, arith}
use Rattle.std.proofs.lemmas.List.{append-nil}
use Rattle.grammar.specs.Grammar.{◌>>=◌, ◌>>◌, Follows, Begins, pure, word, one_of, number, positive, named_number, many}
use Rattle.grammar.proofs.Parts.{follows, spells_named}
use Rattle.spl_ast.specs.Formula.{Formula, Identity, Fourier, Hadamard, Twiddles, Diagonal, Stride, Permutation}
use Rattle.spl_ast.specs.Formula.{GoodThomasIn, GoodThomasOut, Product, TensorLeft, TensorRight, DirectSum, Pending}
use Rattle.spl_text.specs.declared.reading.Head.{Head}
use Rattle.spl_text.specs.declared.reading.Head.TheVariants as head
use Rattle.spl_text.specs.Answer.{opened}
use Rattle.spl_text.specs.Reading.{heads}
use Rattle.spl_text.specs.Spelling.{more_text, values_text, spelling, IsFactor, IsValue, AreValues, AreSomeValues}
use Rattle.spl_text.specs.Spelling.{HasSpelling, spells}
use Rattle.spl_text.proofs.Parentheses.{Opens}

-- ---- the grammar

-- a piece and a comma, and what comes behind them
abbrev pub first : {A B : Type 0} → (List ℕ → A → Type 0) → (A → List ℕ → B → Type 0) → List ℕ → B → Type 0
first piece next = do
  x ← piece
  word (codes ",")
  next x

-- a piece and the parenthesis
abbrev pub last : {A B : Type 0} → (List ℕ → A → Type 0) → (A → B) → List ℕ → B → Type 0
last piece make = do
  x ← piece
  word (codes ")")
  pure (make x)

abbrev pub one_size : List ℕ → ℕ → Type 0
one_size = last (positive 1048577) (λ n. n)

abbrev pub two_sizes : List ℕ → ℕ × ℕ → Type 0
two_sizes = first (positive 1048577) (λ n. last (positive 1048577) (λ r. (n, r)))

abbrev pub size_value : List ℕ → ℕ × ℕ → Type 0
size_value = first (positive 1048577) (λ n. last (number (2 ^ 62)) (λ w. (n, w)))

abbrev pub sizes_value : List ℕ → ℕ × ℕ × ℕ → Type 0
sizes_value = first (positive 1048577) (λ n. first (positive 1048577) (λ s. last (number (2 ^ 62)) (λ w. (n, s, w))))

abbrev pub item : List ℕ → ℕ → Type 0
item = named_number (codes ",") (2 ^ 62)

abbrev pub values : List ℕ → List ℕ → Type 0
values = number (2 ^ 62) >>= λ x. last (many item) (λ xs. x ∷ xs)

abbrev pub two_formulas : (Formula → Formula → Formula) → List ℕ → Formula → Type 0
two_formulas make = first spells (λ a. last spells (make a))

abbrev pub made : {A : Type 0} → (List ℕ → A → Type 0) → (A → Formula) → List ℕ → Formula → Type 0
made numbers make = numbers >>= λ x. pure (make x)

abbrev pub arguments : Head → List ℕ → Formula → Type 0
arguments head.I = made one_size Identity
arguments head.Dft = made size_value (λ x. Fourier x.0 x.1)
arguments head.Wht = made one_size Hadamard
arguments head.T = made sizes_value (λ x. Twiddles x.0 x.1 x.2)
arguments head.Diag = made values Diagonal
arguments head.L = made two_sizes (λ x. Stride x.0 x.1)
arguments head.Perm = made values Permutation
arguments head.GtIn = made two_sizes (λ x. GoodThomasIn x.0 x.1)
arguments head.GtOut = made two_sizes (λ x. GoodThomasOut x.0 x.1)
arguments head.Times = two_formulas Product
arguments head.Left = first spells (λ a. last (positive 1048577) (TensorLeft a))
arguments head.Right = first (positive 1048577) (λ k. last spells (TensorRight k))
arguments head.Sum = two_formulas DirectSum

abbrev pub by_heads : List ℕ → Formula → Type 0
by_heads = one_of heads >>= arguments

-- ---- the words of heads

abbrev pub head_word : Head → List ℕ
head_word head.I = codes "I("
head_word head.Dft = codes "DFT("
head_word head.Wht = codes "WHT("
head_word head.T = codes "T("
head_word head.Diag = codes "DIAG("
head_word head.L = codes "L("
head_word head.Perm = codes "PERM("
head_word head.GtIn = codes "GTIN("
head_word head.GtOut = codes "GTOUT("
head_word head.Times = codes "TIMES("
head_word head.Left = codes "LEFT("
head_word head.Right = codes "RIGHT("
head_word head.Sum = codes "SUM("

-- as the heads stand in the grammar
all_heads : List Head
all_heads =
    head.I ∷ head.Dft ∷ head.Wht ∷ head.T ∷ head.Diag ∷ head.L ∷ head.Perm
    ∷ head.GtIn ∷ head.GtOut ∷ head.Times ∷ head.Left ∷ head.Right ∷ head.Sum ∷ []

abbrev with_words : List Head → List (List ℕ × Head)
with_words [] = []
with_words (h ∷ hs) = (head_word h, h) ∷ with_words hs

word_among : (hs : List Head) (u : List ℕ) (h : Head) → one_of (with_words hs) u h → u ≡ head_word h
word_among [] u h l = absurd l
word_among (g ∷ hs) u h (inl l) = l.0 ∙ ap head_word (sym l.1)
word_among (g ∷ hs) u h (inr l) = word_among hs u h l

pub word_of_head : (u : List ℕ) (h : Head) → one_of heads u h → u ≡ head_word h
unfolding all_heads
word_of_head u h l = word_among all_heads u h l

pub head_of_word : (h : Head) → one_of heads (head_word h) h
head_of_word head.I = inl (refl, refl)
head_of_word head.Dft = inr (inl (refl, refl))
head_of_word head.Wht = inr (inr (inl (refl, refl)))
head_of_word head.T = inr (inr (inr (inl (refl, refl))))
head_of_word head.Diag = inr (inr (inr (inr (inl (refl, refl)))))
head_of_word head.L = inr (inr (inr (inr (inr (inl (refl, refl))))))
head_of_word head.Perm = inr (inr (inr (inr (inr (inr (inl (refl, refl)))))))
head_of_word head.GtIn = inr (inr (inr (inr (inr (inr (inr (inl (refl, refl))))))))
head_of_word head.GtOut = inr (inr (inr (inr (inr (inr (inr (inr (inl (refl, refl)))))))))
head_of_word head.Times = inr (inr (inr (inr (inr (inr (inr (inr (inr (inl (refl, refl))))))))))
head_of_word head.Left = inr (inr (inr (inr (inr (inr (inr (inr (inr (inr (inl (refl, refl)))))))))))
head_of_word head.Right = inr (inr (inr (inr (inr (inr (inr (inr (inr (inr (inr (inl (refl, refl))))))))))))
head_of_word head.Sum = inr (inr (inr (inr (inr (inr (inr (inr (inr (inr (inr (inr (inl (refl, refl)))))))))))))

-- a head ends with its one parenthesis
pub opening : (h : Head) → (x : List ℕ) × (head_word h ≡ x ++ 40 ∷ []) × Opens 0 x × (opened x ≡ 0)
opening head.I = (codes "I", refl, refl, refl)
opening head.Dft = (codes "DFT", refl, refl, refl)
opening head.Wht = (codes "WHT", refl, refl, refl)
opening head.T = (codes "T", refl, refl, refl)
opening head.Diag = (codes "DIAG", refl, refl, refl)
opening head.L = (codes "L", refl, refl, refl)
opening head.Perm = (codes "PERM", refl, refl, refl)
opening head.GtIn = (codes "GTIN", refl, refl, refl)
opening head.GtOut = (codes "GTOUT", refl, refl, refl)
opening head.Times = (codes "TIMES", refl, refl, refl)
opening head.Left = (codes "LEFT", refl, refl, refl)
opening head.Right = (codes "RIGHT", refl, refl, refl)
opening head.Sum = (codes "SUM", refl, refl, refl)

-- ---- the texts of a language are those of the good values that it is made of

pub record HasTexts {A B : Type 0} (L : List ℕ → B → Type 0) (make : A → B) (P : A → Type 0) (text : A → List ℕ) : Type 0 where
  pub from : (u : List ℕ) (y : B) → L u y → (x : A) × P x × (y ≡ make x) × (u ≡ text x)
  pub back : (x : A) → P x → L (text x) (make x)

pub some_text : {A B : Type 0} {L : List ℕ → B → Type 0} {make : A → B} {P : A → Type 0} {text : A → List ℕ} →
    HasTexts L make P text → (x : A) → P x → Begins L []
some_text {A} {B} {L} {make} {P} {text} t x h = (text x, make x, t.back x h)

joined : (u x y front rest : List ℕ) → u ≡ front ++ rest → front ≡ x → rest ≡ y → u ≡ x ++ y
joined u x y front rest e p q = e ∙ ap (λ z. z ++ rest) p ∙ ap (λ z. x ++ z) q

then_texts : {A B C : Type 0} {L : List ℕ → A → Type 0} {P : A → Type 0} {text : A → List ℕ} →
    HasTexts L (λ x. x) P text
    → (next : A → List ℕ → C → Type 0) (make : A → B → C) (Q : B → Type 0) (more : B → List ℕ) →
    ((a : A) → HasTexts (next a) (make a) Q more)
    → HasTexts (Follows L next) (λ (x : A × B). make x.0 x.1) (λ x. P x.0 × Q x.1) (λ x. text x.0 ++ more x.1)
then_texts {A} {B} {C} {L} {P} {text} piece next make Q more others = record {
  from = λ u y l.
      let x = piece.from l.front l.spelt l.begins in
      let z = (others l.spelt).from l.rest y l.ends in
      ((x.0, z.0), (x.1, z.1), z.2 ∙ ap (λ a. make a z.0) x.2, joined u (text x.0) (more z.0) l.front l.rest l.whole x.3 z.3);
  back = λ x h. follows L next (text x.0) (more x.1) x.0 (make x.0 x.1) (piece.back x.0 h.0) ((others x.0).back x.1 h.1);
}

-- a comma before them
comma_texts : {A B : Type 0} {L : List ℕ → B → Type 0} {make : A → B} {P : A → Type 0} {text : A → List ℕ} →
    HasTexts L make P text → HasTexts (word (codes ",") >> L) make P (λ x. codes "," ++ text x)
comma_texts {A} {B} {L} {make} {P} {text} t = record {
  from = λ u y l.
      let x = t.from l.rest y l.ends in (x.0, x.1, x.2, joined u (codes ",") (text x.0) l.front l.rest l.whole l.begins x.3);
  back = λ x h. follows (word (codes ",")) (λ _. L) (codes ",") (text x) tt (make x) refl (t.back x h);
}

last_texts : {A B : Type 0} {L : List ℕ → A → Type 0} {P : A → Type 0} {text : A → List ℕ} → HasTexts L (λ x. x) P text →
    (make : A → B) → HasTexts (last L make) make P (λ x. text x ++ codes ")")
last_texts {A} {B} {L} {P} {text} t make = record {
  from = λ u y l.
      let x = t.from l.front l.spelt l.begins in
      let end = l.ends in
      let closed : l.rest ≡ codes ")" = joined l.rest (codes ")") [] end.front end.rest end.whole end.begins end.ends.0 in
      (x.0, x.1, end.ends.1 ∙ ap make x.2, joined u (text x.0) (codes ")") l.front l.rest l.whole x.3 closed);
  back = λ x h. follows L _ (text x) (codes ")") x (make x) (t.back x h)
      (follows (word (codes ")")) (λ _. pure (make x)) (codes ")") [] tt (make x) refl (refl, refl));
}

pub made_texts : {A B : Type 0} {L : List ℕ → B → Type 0} {make : A → B} {P : A → Type 0} {text : A → List ℕ} →
    HasTexts L make P text → (more : B → Formula) → HasTexts (made L more) (λ x. more (make x)) P text
made_texts {A} {B} {L} {make} {P} {text} t more = record {
  from = λ u y l.
      let x = t.from l.front l.spelt l.begins in
      let whole : u ≡ text x.0 ++ [] = joined u (text x.0) [] l.front l.rest l.whole x.3 l.ends.0 in
      (x.0, x.1, l.ends.1 ∙ ap more x.2, whole ∙ append-nil (text x.0));
  back = λ x h. record { front = text x; rest = []; spelt = make x; whole = sym (append-nil (text x)); begins = t.back x h; ends = (refl, refl) };
}

-- ---- the texts of the pieces

size_texts : HasTexts (positive 1048577) (λ n. n) IsFactor decimal
size_texts = record { from = λ u n l. (n, (l.0, l.1), refl, l.2); back = λ n h. (h.0, h.1, refl) }

value_texts : HasTexts (number (2 ^ 62)) (λ w. w) IsValue decimal
value_texts = record { from = λ u w l. (w, l.0, refl, l.1); back = λ w h. (h, refl) }

formula_texts : HasTexts spells (λ f. f) HasSpelling spelling
unfolding spells
formula_texts = record { from = λ u f l. (f, l.0, refl, l.1); back = λ f h. (h, refl) }

from_many : (u xs : List ℕ) → many item u xs → AreValues xs × (u ≡ more_text xs)
unfolding many
from_many u [] l = (tt, l)
from_many u (x ∷ xs) l =
    let r = from_many l.1 xs l.4 in
    let n = l.3 in
    let number : l.0 ≡ codes "," ++ decimal x = joined l.0 (codes ",") (decimal x) n.front n.rest n.whole n.begins n.ends.1 in
    ((n.ends.0, r.0), joined u (codes "," ++ decimal x) (more_text xs) l.0 l.1 l.2 number r.1 ∙ append_assoc (codes ",") (decimal x) (more_text xs))

to_many : (xs : List ℕ) → AreValues xs → many item (more_text xs) xs
unfolding many
to_many [] h = refl
to_many (x ∷ xs) h =
    (codes "," ++ decimal x, more_text xs, sym (append_assoc (codes ",") (decimal x) (more_text xs)), spells_named (codes ",") (2 ^ 62) x h.0, to_many xs h.1)

more_texts : HasTexts (many item) (λ xs. xs) AreValues more_text
more_texts = record { from = λ u xs l. let r = from_many u xs l in (xs, r.0, refl, r.1); back = to_many }

pub one_size_texts : HasTexts one_size (λ n. n) IsFactor (λ n. decimal n ++ codes ")")
one_size_texts = last_texts size_texts (λ n. n)

-- two pieces
pair_texts : {A B C : Type 0} {L : List ℕ → A → Type 0} {P : A → Type 0} {text : A → List ℕ} {M : List ℕ → B → Type 0}
    {Q : B → Type 0} {more : B → List ℕ} → HasTexts L (λ x. x) P text → HasTexts M (λ x. x) Q more →
    (make : A → B → C)
    → HasTexts (first L (λ a. last M (make a))) (λ (x : A × B). make x.0 x.1) (λ x. P x.0 × Q x.1)
    (λ x. text x.0 ++ (codes "," ++ (more x.1 ++ codes ")")))
pair_texts l m make = then_texts l _ make _ _ (λ a. comma_texts (last_texts m (make a)))

pub two_sizes_texts : HasTexts two_sizes (λ (x : ℕ × ℕ). (x.0, x.1)) (λ x. IsFactor x.0 × IsFactor x.1)
    (λ x. decimal x.0 ++ (codes "," ++ (decimal x.1 ++ codes ")")))
two_sizes_texts = pair_texts size_texts size_texts (λ n r. (n, r))

pub size_value_texts : HasTexts size_value (λ (x : ℕ × ℕ). (x.0, x.1)) (λ x. IsFactor x.0 × IsValue x.1)
    (λ x. decimal x.0 ++ (codes "," ++ (decimal x.1 ++ codes ")")))
size_value_texts = pair_texts size_texts value_texts (λ n w. (n, w))

pub sizes_value_texts : HasTexts sizes_value (λ (x : ℕ × (ℕ × ℕ)). (x.0, x.1.0, x.1.1))
    (λ x. IsFactor x.0 × (IsFactor x.1.0 × IsValue x.1.1))
    (λ x. decimal x.0 ++ (codes "," ++ (decimal x.1.0 ++ (codes "," ++ (decimal x.1.1 ++ codes ")")))))
sizes_value_texts =
    then_texts size_texts _ (λ n (y : ℕ × ℕ). (n, y.0, y.1)) _ _ (λ n. comma_texts (pair_texts size_texts value_texts (λ s w. (n, s, w))))

first_and_more : HasTexts values (λ (x : ℕ × List ℕ). x.0 ∷ x.1) (λ x. IsValue x.0 × AreValues x.1)
    (λ x. decimal x.0 ++ (more_text x.1 ++ codes ")"))
first_and_more = then_texts value_texts _ (λ n ns. n ∷ ns) _ _ (λ n. last_texts more_texts (λ ns. n ∷ ns))

pub values_texts : HasTexts values (λ c. c) AreSomeValues (λ c. values_text c ++ codes ")")
values_texts = record { from = from_values; back = to_values }
  where
    from_values : (u c : List ℕ) → values u c →
        (k : List ℕ) × AreSomeValues k × (c ≡ k) × (u ≡ values_text k ++ codes ")")
    from_values u c l =
        let x = first_and_more.from u c l in
        (x.0.0 ∷ x.0.1, x.1, x.2, x.3 ∙ sym (append_assoc (decimal x.0.0) (more_text x.0.1) (codes ")")))

    to_values : (c : List ℕ) → AreSomeValues c → values (values_text c ++ codes ")") c
    to_values [] h = absurd h
    to_values (x ∷ xs) h =
        subst (λ t. values t (x ∷ xs)) (sym (append_assoc (decimal x) (more_text xs) (codes ")"))) (first_and_more.back (x, xs) h)

pub two_formulas_texts : (make : Formula → Formula → Formula) → HasTexts (two_formulas make)
    (λ (x : Formula × Formula). make x.0 x.1)
    (λ x. HasSpelling x.0 × HasSpelling x.1) (λ x. spelling x.0 ++ (codes "," ++ (spelling x.1 ++ codes ")")))
two_formulas_texts make = pair_texts formula_texts formula_texts make

pub left_texts : HasTexts (arguments head.Left) (λ (x : Formula × ℕ). TensorLeft x.0 x.1)
    (λ x. HasSpelling x.0 × IsFactor x.1)
    (λ x. spelling x.0 ++ (codes "," ++ (decimal x.1 ++ codes ")")))
left_texts = pair_texts formula_texts size_texts TensorLeft

pub right_texts : HasTexts (arguments head.Right) (λ (x : ℕ × Formula). TensorRight x.0 x.1)
    (λ x. IsFactor x.0 × HasSpelling x.1)
    (λ x. decimal x.0 ++ (codes "," ++ (spelling x.1 ++ codes ")")))
right_texts = pair_texts size_texts formula_texts TensorRight

-- ---- from the grammar to the spelling

pub one : Formula
one = Identity 1

pub one_spelt : HasSpelling one
unfolding one
one_spelt = (omega arith, omega arith)

pub one_factor : (0 < 1) × (1 < 1048577)
one_factor = (omega arith, omega arith)

-- some arguments stand behind a head, and they end the spelling of a formula
record HasArguments (h : Head) : Type 0 where
  some : Begins (arguments h) []
  from : (u v : List ℕ) (f : Formula) → arguments h v f → u ≡ head_word h ++ v → spells u f

by_texts : (h : Head) {A : Type 0} {make : A → Formula} {P : A → Type 0} {text : A → List ℕ} →
    HasTexts (arguments h) make P text
    → ((x : A) → P x → HasSpelling (make x) × (spelling (make x) ≡ head_word h ++ text x)) → (x : A) → P x →
    HasArguments h
unfolding spells
by_texts h {A} {make} {P} {text} t good some is_good = record {
  some = some_text t some is_good;
  from = λ u v f l e.
      let x = t.from v f l in
      let g = good x.0 x.1 in
      subst (λ z. HasSpelling z × (u ≡ spelling z)) (sym x.2) (g.0, e ∙ ap (λ z. head_word h ++ z) x.3 ∙ sym g.1);
}

has_arguments : (h : Head) → HasArguments h
has_arguments head.I = by_texts head.I (made_texts one_size_texts Identity) (λ n h. (h, refl)) 1 one_factor
has_arguments head.Dft = by_texts head.Dft (made_texts size_value_texts _) (λ x h. (h, refl)) (1, 1) (one_factor, omega arith)
has_arguments head.Wht = by_texts head.Wht (made_texts one_size_texts Hadamard) (λ n h. (h, refl)) 1 one_factor
has_arguments head.T =
    by_texts head.T (made_texts sizes_value_texts _) (λ x h. ((h.0, h.1.0, h.1.1), refl)) (1, (1, 1)) (one_factor, (one_factor, omega arith))
has_arguments head.Diag = by_texts head.Diag (made_texts values_texts Diagonal) (λ c h. (h, refl)) (1 ∷ []) (omega arith, tt)
has_arguments head.L = by_texts head.L (made_texts two_sizes_texts _) (λ x h. (h, refl)) (1, 1) (one_factor, one_factor)
has_arguments head.Perm = by_texts head.Perm (made_texts values_texts Permutation) (λ k h. (h, refl)) (1 ∷ []) (omega arith, tt)
has_arguments head.GtIn = by_texts head.GtIn (made_texts two_sizes_texts _) (λ x h. (h, refl)) (1, 1) (one_factor, one_factor)
has_arguments head.GtOut = by_texts head.GtOut (made_texts two_sizes_texts _) (λ x h. (h, refl)) (1, 1) (one_factor, one_factor)
has_arguments head.Times = by_texts head.Times (two_formulas_texts Product) (λ x h. (h, refl)) (one, one) (one_spelt, one_spelt)
has_arguments head.Left = by_texts head.Left left_texts (λ x h. (h, refl)) (one, 1) (one_spelt, one_factor)
has_arguments head.Right = by_texts head.Right right_texts (λ x h. (h, refl)) (1, one) (one_factor, one_spelt)
has_arguments head.Sum = by_texts head.Sum (two_formulas_texts DirectSum) (λ x h. (h, refl)) (one, one) (one_spelt, one_spelt)

-- each head has some arguments
pub some_arguments : (h : Head) (u : List ℕ) → one_of heads u h → Begins (arguments h) []
some_arguments h u l = (has_arguments h).some

pub from_heads : (u : List ℕ) (f : Formula) → by_heads u f → spells u f
from_heads u f l =
    (has_arguments l.spelt).from u l.rest f l.ends (l.whole ∙ ap (λ z. z ++ l.rest) (word_of_head l.front l.spelt l.begins))

-- ---- and back

to_arguments : (h : Head) (v : List ℕ) (f : Formula) → arguments h v f → by_heads (head_word h ++ v) f
to_arguments h v f l = follows (one_of heads) arguments (head_word h) v h f (head_of_word h) l

pub spelt_by_heads : (f : Formula) → HasSpelling f → by_heads (spelling f) f
unfolding spells
spelt_by_heads (Identity n) h = to_arguments head.I _ (Identity n) ((made_texts one_size_texts Identity).back n h)
spelt_by_heads (Fourier n w) h = to_arguments head.Dft _ (Fourier n w) ((made_texts size_value_texts _).back (n, w) h)
spelt_by_heads (Hadamard n) h = to_arguments head.Wht _ (Hadamard n) ((made_texts one_size_texts Hadamard).back n h)
spelt_by_heads (Twiddles n s w) h =
    to_arguments head.T _ (Twiddles n s w) ((made_texts sizes_value_texts _).back (n, (s, w)) (h.0, (h.1, h.2)))
spelt_by_heads (Diagonal c) h = to_arguments head.Diag _ (Diagonal c) ((made_texts values_texts Diagonal).back c h)
spelt_by_heads (Stride n r) h = to_arguments head.L _ (Stride n r) ((made_texts two_sizes_texts _).back (n, r) h)
spelt_by_heads (Permutation k) h = to_arguments head.Perm _ (Permutation k) ((made_texts values_texts Permutation).back k h)
spelt_by_heads (GoodThomasIn r s) h = to_arguments head.GtIn _ (GoodThomasIn r s) ((made_texts two_sizes_texts _).back (r, s) h)
spelt_by_heads (GoodThomasOut r s) h = to_arguments head.GtOut _ (GoodThomasOut r s) ((made_texts two_sizes_texts _).back (r, s) h)
spelt_by_heads (Product a b) h = to_arguments head.Times _ (Product a b) ((two_formulas_texts Product).back (a, b) h)
spelt_by_heads (TensorLeft a k) h = to_arguments head.Left _ (TensorLeft a k) (left_texts.back (a, k) h)
spelt_by_heads (TensorRight k a) h = to_arguments head.Right _ (TensorRight k a) (right_texts.back (k, a) h)
spelt_by_heads (DirectSum a b) h = to_arguments head.Sum _ (DirectSum a b) ((two_formulas_texts DirectSum).back (a, b) h)
spelt_by_heads (Pending a) h = absurd h

pub to_heads : (u : List ℕ) (f : Formula) → spells u f → by_heads u f
unfolding spells
to_heads u f l = subst (λ t. by_heads t f) (sym l.1) (spelt_by_heads f l.0)
