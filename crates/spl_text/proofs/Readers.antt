-- The reader of formulas.
use Rattle.std.proofs.Common.{◌≡◌, ℕ, zero, suc, ◌+◌, ◌-◌, ◌^◌, ◌<◌, ◌≤◌, List, [], ◌∷◌, ◌++◌, length, codes}
use Rattle.std.proofs.Common.{Result, Ok, Err, Option, Some, None, refl, sym, ap, ap₂, IfOk, subst, ◌∙◌, append_assoc}
use Rattle.std.proofs.Common.{arith}
use Rattle.std.specs.Option.{option_map}
use Rattle.std.proofs.lemmas.List.{length-append}
use Rattle.grammar.specs.Grammar.{◌>>◌, Follows, pure, word, one_of, number, positive, many}
use Rattle.grammar.specs.Reading.{Place, and_then, pure_at, one_of_at, word_at, number_at, positive_at, named_number_at, all_at}
use Rattle.grammar.specs.Stops.{Stop, and_go_on, spelling_only, tested_at, HasFault}
use Rattle.grammar.specs.Cursor.{Gives}
use Rattle.grammar.specs.declared.token.Stuck.{Stuck}
use Rattle.grammar.proofs.Numbers.{NoDigit}
use Rattle.grammar.proofs.Parts.{Anything, Nothing, Behind, behind_anything, behind_word, named_no_digit}
use Rattle.grammar.proofs.Parts.{named_excluded, keeps_pure, word_reader, one_of_reader, number_reader}
use Rattle.grammar.proofs.Parts.{named_number_reader, starts}
use Rattle.grammar.proofs.Many.{many_reader}
use Rattle.grammar.proofs.Positive.{positive_reader}
use Rattle.grammar.proofs.Places as places
use Rattle.grammar.proofs.Places.{Leaves, bind_lost, optional_reader}
use Rattle.grammar.proofs.Stops.{Answers, IsReader, Persists, plain_reader, bind_reader, fault_persists, tested_reader}
use Rattle.grammar.proofs.Stops.{change_reader}
use Rattle.spl_ast.specs.Formula.{Formula, Identity, Fourier, Hadamard, Twiddles, Diagonal, Stride, Permutation}
use Rattle.spl_ast.specs.Formula.{GoodThomasIn, GoodThomasOut, Product, TensorLeft, TensorRight, DirectSum}
use Rattle.spl_text.specs.declared.reading.Head.{Head}
use Rattle.spl_text.specs.declared.reading.Head.TheVariants as head
use Rattle.spl_text.specs.Arguments.{one_size_at, two_sizes_at, size_value_at, sizes_value_at, values_at}
use Rattle.spl_text.specs.Fault.{TextFault, TooDeep, Shape, refusal, shape_fault}
use Rattle.spl_text.specs.Reading.{heads, plain, made_at, arguments_by, two_formulas_by, too_deep, formula_at, line_at}
use Rattle.spl_text.specs.Spelling.{spells, spells_line, spelling}
use Rattle.spl_text.proofs.Heads.{first, last, one_size, two_sizes, size_value, sizes_value, item, values, two_formulas}
use Rattle.spl_text.proofs.Heads.{made, arguments, by_heads, word_of_head, opening, one, one_spelt}
use Rattle.spl_text.proofs.Heads.{some_arguments, from_heads, to_heads}

any : {B : Type 0} (L : List ℕ → B → Type 0) → Leaves Anything Anything L
any L = behind_anything Anything L

-- ---- numbers

pub factors : places.IsReader NoDigit (positive 1048577) (positive_at 1048577)
factors = positive_reader 1048577 (omega arith) (omega arith)

ring_values : places.IsReader NoDigit (number (2 ^ 62)) (number_at (2 ^ 62))
ring_values = number_reader (2 ^ 62) (omega arith) (omega arith)

pub close : places.IsReader {A = Unit {0}} Anything (word (codes ")")) (word_at (codes ")"))
close = word_reader Anything (codes ")")

pub commas : places.IsReader {A = Unit {0}} Anything (word (codes ",")) (word_at (codes ","))
commas = word_reader Anything (codes ",")

-- a number and the parenthesis
last_reader : {B : Type 0} {L : List ℕ → ℕ → Type 0} {read : Place ℕ → Result (ℕ × Place ℕ) ℕ} →
    places.IsReader NoDigit L read → (make : ℕ → B) →
    places.IsReader Anything (last L make)
    (λ place. and_then (read place) (λ x after. and_then (word_at (codes ")") after) (λ _. pure_at (make x))))
last_reader reader make =
    places.bind_reader NoDigit Anything _ _ _ _ reader
    (λ x u l. places.bind_reader Anything Anything _ _ _ _ close (λ w u l. places.pure_reader Anything (make x)) (λ w. any _))
    (λ x. behind_word Anything (codes ")") _ refl)

-- a number, a comma and more
first_reader : {B : Type 0} {L : List ℕ → ℕ → Type 0} {read : Place ℕ → Result (ℕ × Place ℕ) ℕ} →
    places.IsReader NoDigit L read
    → (next : ℕ → List ℕ → B → Type 0) (next_at : ℕ → Place ℕ → Result (B × Place ℕ) ℕ) →
    ((x : ℕ) → places.IsReader Anything (next x) (next_at x))
    → places.IsReader Anything (first L next)
    (λ place. and_then (read place) (λ x after. and_then (word_at (codes ",") after) (λ _. next_at x)))
first_reader reader next next_at others =
    places.bind_reader NoDigit Anything _ _ _ _ reader
    (λ x u l. places.bind_reader Anything Anything _ _ _ _ commas (λ w u l. others x) (λ w. any _))
    (λ x. behind_word Anything (codes ",") _ refl)

pub one_size_reader : places.IsReader Anything one_size one_size_at
one_size_reader = last_reader factors (λ n. n)

pub two_sizes_reader : places.IsReader Anything two_sizes two_sizes_at
two_sizes_reader = first_reader factors _ _ (λ n. last_reader factors (λ r. (n, r)))

pub size_value_reader : places.IsReader Anything size_value size_value_at
size_value_reader = first_reader factors _ _ (λ n. last_reader ring_values (λ w. (n, w)))

pub sizes_value_reader : places.IsReader Anything sizes_value sizes_value_at
sizes_value_reader = first_reader factors _ _ (λ n. first_reader factors _ _ (λ s. last_reader ring_values (λ w. (n, s, w))))

-- ---- lists

goes_on : Leaves NoDigit (Behind (codes ",")) (many item)
unfolding many
goes_on u [] v l c = subst (λ y. NoDigit (y ++ v)) (sym l) c.no_digit
goes_on u (x ∷ xs) v l c =
    subst NoDigit (sym (append_assoc l.0 l.1 v) ∙ ap (λ y. y ++ v) (sym l.2)) (named_no_digit Anything (codes ",") (2 ^ 62) refl l.0 x (l.1 ++ v) l.3 tt)

long : (u : List ℕ) (x : ℕ) → item u x → 0 < length u
long u x l = let e : length u ≡ length l.front + length l.rest = ap length l.whole ∙ length-append l.front l.rest in omega (arith, ap length l.begins)

more_reader : places.IsReader (Behind (codes ",")) (many item) (all_at (named_number_at (codes ",") (2 ^ 62)))
more_reader = many_reader NoDigit (Behind (codes ",")) item (named_number_at (codes ",") (2 ^ 62)) record {
  item = named_number_reader (codes ",") (2 ^ 62) (omega arith) (omega arith);
  long = long;
  excludes = λ u x v l c. named_excluded (codes ",") (2 ^ 62) u x v l c;
  goes_on = goes_on;
}

-- a parenthesis after the list
list_closes : {B : Type 0} (L : Unit {0} → List ℕ → B → Type 0) →
    Leaves (Behind (codes ",")) Anything (Follows (word (codes ")")) L)
list_closes L u b v l c = record {
  no_digit = behind_word Anything (codes ")") L refl u b v l c;
  no_word = ap (λ y. starts (codes ",") (y ++ v)) (l.whole ∙ ap (λ y. y ++ l.rest) l.begins);
}

more_leaves : {B : Type 0} (L : List ℕ → List ℕ → B → Type 0) →
    ((xs : List ℕ) → Leaves (Behind (codes ",")) Anything (L xs)) → Leaves NoDigit Anything (Follows (many item) L)
more_leaves L closes u b v l c =
    subst NoDigit (sym (append_assoc l.front l.rest v) ∙ ap (λ y. y ++ v) (sym l.whole)) (goes_on l.front l.spelt (l.rest ++ v) l.begins (closes l.spelt l.rest b v l.ends tt))

pub values_reader : places.IsReader Anything values values_at
values_reader =
    places.bind_reader NoDigit Anything _ _ _ _ ring_values (λ first u l.
    places.bind_reader (Behind (codes ",")) Anything _ _ _ _ more_reader (λ others u l.
    places.bind_reader Anything Anything _ _ _ _ close (λ w u l. places.pure_reader Anything (first ∷ others)) (λ w. any _))
    (λ others. list_closes _)) (λ first. more_leaves _ (λ others. list_closes _))

-- ---- formulas

-- what a fault shows of the text
abbrev pub Exposes : TextFault → List ℕ → Type 0
Exposes (TooDeep left) text = (before : List ℕ) × (after : List ℕ) × (text ≡ before ++ (40 ∷ after)) × (left ≡ length after + 1)
Exposes (Shape left first second) text = HasFault spells shape_fault (Shape left first second) text

persists : Persists Exposes
persists (TooDeep left) front rest h = (front ++ h.0, h.1, ap (λ y. front ++ y) h.2 ∙ sym (append_assoc front h.0 (40 ∷ h.1)), h.3)
persists (Shape left first second) front rest h = fault_persists spells shape_fault (Shape left first second) front rest h

other_heads : List (List ℕ × Head)
other_heads =
    (codes "DFT(", head.Dft) ∷ (codes "WHT(", head.Wht) ∷ (codes "T(", head.T)
    ∷ (codes "DIAG(", head.Diag) ∷ (codes "L(", head.L) ∷ (codes "PERM(", head.Perm)
    ∷ (codes "GTIN(", head.GtIn) ∷ (codes "GTOUT(", head.GtOut) ∷ (codes "TIMES(", head.Times)
    ∷ (codes "LEFT(", head.Left) ∷ (codes "RIGHT(", head.Right) ∷ (codes "SUM(", head.Sum) ∷ []

pub heads_reader : places.IsReader Anything (one_of heads) (one_of_at heads)
unfolding other_heads
heads_reader = one_of_reader Anything (codes "I(", head.I) other_heads refl

-- numbers after a head, and what they make
leaf_reader : {A : Type 0} {L : List ℕ → A → Type 0} {read : Place ℕ → Result (A × Place ℕ) ℕ} →
    places.IsReader Anything L read → (make : A → Formula) → IsReader Exposes Anything (made L make) (made_at read make)
leaf_reader reader make =
    bind_reader Exposes Anything Anything _ _ _ _ persists (plain_reader Exposes Anything _ _ reader)
    (λ x u l. plain_reader Exposes Anything _ _ (places.pure_reader Anything (make x))) (λ x. any _)

-- a piece and a word, and what comes behind them
piece_reader : {A : Type 0} (C : List ℕ → Type 0) {L : List ℕ → A → Type 0}
    {read : Place ℕ → Result (A × Place ℕ) (Stop TextFault)} → IsReader Exposes C L read → (w : List ℕ)
    (next : A → List ℕ → Formula → Type 0) (next_at : A → Place ℕ → Result (Formula × Place ℕ) (Stop TextFault))
    → ((x : A) → Leaves C Anything (word w >> next x)) → ((x : A) → IsReader Exposes Anything (next x) (next_at x)) →
    IsReader Exposes Anything (Follows L (λ x. word w >> next x))
    (λ place. and_go_on (read place) (λ x after. and_go_on (plain (word_at w) after) (λ _. next_at x)))
piece_reader C reader w next next_at leaves others =
    bind_reader Exposes C Anything _ _ _ _ persists reader
    (λ x u l. bind_reader Exposes Anything Anything _ _ _ _ persists
    (plain_reader Exposes Anything _ _ (word_reader Anything w)) (λ e u l. others x) (λ e. any _)) leaves

ends : (f : Formula) → IsReader Exposes Anything (pure f) (plain (pure_at f))
ends f = plain_reader Exposes Anything _ _ (places.pure_reader Anything f)

pub part_sizes : IsReader Exposes NoDigit (positive 1048577) (plain (positive_at 1048577))
part_sizes = plain_reader Exposes NoDigit _ _ factors

module _ (read : Place ℕ → Result (Formula × Place ℕ) (Stop TextFault))
    (inner : IsReader Exposes Anything spells read) where
  two_formulas_reader : (make : Formula → Formula → Formula) →
      IsReader Exposes Anything (two_formulas make) (two_formulas_by read make)
  two_formulas_reader make =
      piece_reader Anything inner (codes ",") _ _ (λ a. any _)
      (λ a. piece_reader Anything inner (codes ")") _ _ (λ b. any _) (λ b. ends (make a b)))

  arguments_reader : (h : Head) → IsReader Exposes Anything (arguments h) (arguments_by read h)
  arguments_reader head.I = leaf_reader one_size_reader Identity
  arguments_reader head.Dft = leaf_reader size_value_reader (λ y. Fourier y.0 y.1)
  arguments_reader head.Wht = leaf_reader one_size_reader Hadamard
  arguments_reader head.T = leaf_reader sizes_value_reader (λ y. Twiddles y.0 y.1 y.2)
  arguments_reader head.Diag = leaf_reader values_reader Diagonal
  arguments_reader head.L = leaf_reader two_sizes_reader (λ y. Stride y.0 y.1)
  arguments_reader head.Perm = leaf_reader values_reader Permutation
  arguments_reader head.GtIn = leaf_reader two_sizes_reader (λ y. GoodThomasIn y.0 y.1)
  arguments_reader head.GtOut = leaf_reader two_sizes_reader (λ y. GoodThomasOut y.0 y.1)
  arguments_reader head.Times = two_formulas_reader Product
  arguments_reader head.Left =
      piece_reader Anything inner (codes ",") _ _ (λ a. any _) (λ a. piece_reader NoDigit part_sizes (codes ")") _ _
      (λ k. behind_word Anything (codes ")") _ refl) (λ k. ends (TensorLeft a k)))
  arguments_reader head.Right =
      piece_reader NoDigit part_sizes (codes ",") _ _ (λ k. behind_word Anything (codes ",") _ refl)
      (λ k. piece_reader Anything inner (codes ")") _ _ (λ a. any _) (λ a. ends (TensorRight k a)))
  arguments_reader head.Sum = two_formulas_reader DirectSum

one_formula : by_heads (spelling one) one
unfolding spells
one_formula = to_heads (spelling one) one (one_spelt, refl)

pub one_factor : (0 < 1) × (1 < 1048577)
one_factor = (omega arith, omega arith)

deep_answers : (place : Place ℕ) (r : Result (Head × Place ℕ) ℕ) → places.Answers Anything (one_of heads) place r →
    Answers Exposes Anything by_heads place (too_deep r)
deep_answers place (Ok x) p =
    let o = opening x.0 in
    (o.0, x.1.rest, p.whole ∙ ap (λ y. y ++ x.1.rest) (word_of_head p.text x.0 p.spelt ∙ o.1) ∙ append_assoc o.0 (40 ∷ []) x.1.rest, refl)
deep_answers place (Err left) p = bind_lost Anything Anything (one_of heads) arguments (λ h. any (arguments h)) some_arguments place left p

pub no_depth : (o : Option (ℕ × ℕ)) (left left' : ℕ) → option_map (λ p. Shape left p.0 p.1) o ≡ Some (TooDeep left') → ⊥
no_depth None left left' e = absurd cc
no_depth (Some p) left left' e = absurd cc

exposes : (fault : TextFault) (text : List ℕ) → HasFault spells shape_fault fault text → Exposes fault text
exposes (TooDeep left) text h = absurd (no_depth (refusal h.3) (length (h.1 ++ h.2)) left h.6)
exposes (Shape left first second) text h = h

-- a part, before its test
pub part_reader : (read : Place ℕ → Result (Formula × Place ℕ) (Stop TextFault)) →
    IsReader Exposes Anything spells read →
    IsReader Exposes Anything spells (λ place. and_go_on (plain (one_of_at heads) place) (arguments_by read))
part_reader read inner =
    change_reader Exposes Anything by_heads spells _ from_heads to_heads
    (bind_reader Exposes Anything Anything _ _ _ _ persists (plain_reader Exposes Anything _ _ heads_reader)
    (λ h u l. arguments_reader read inner h) (λ h. any (arguments h)))

pub formula_reader : (depth : ℕ) → IsReader Exposes Anything spells (formula_at depth)
unfolding formula_at
formula_reader zero =
    change_reader Exposes Anything by_heads spells _ from_heads to_heads (record { some = (spelling one, one, one_formula); each = λ place. deep_answers place (one_of_at heads place) (heads_reader.each place) })
formula_reader (suc depth) = tested_reader Exposes Anything spells shape_fault _ exposes
    (part_reader (formula_at depth) (formula_reader depth))

-- ---- the line

pub no_line_end : (u : List ℕ) (x : Unit {0}) (v : List ℕ) → word (codes "\n") u x → Nothing (u ++ v) → ⊥
no_line_end u x v l e = let none : 10 ∷ v ≡ [] = ap (λ y. y ++ v) (sym l) ∙ e in absurd cc

pub line_reader : IsReader Exposes Nothing spells_line line_at
line_reader =
    bind_reader Exposes Anything Nothing _ _ _ _ persists (formula_reader 128) (λ f u l.
    bind_reader Exposes Nothing Nothing _ _ _ _ persists
    (plain_reader Exposes Nothing _ _ (optional_reader Nothing (word (codes "\n")) tt (word_at (codes "\n")) (word_reader Nothing (codes "\n")) no_line_end))
    (λ w u l. plain_reader Exposes Nothing _ _ (places.pure_reader Nothing f)) (λ w. keeps_pure Nothing f))
    (λ f. behind_anything Nothing _)

-- ---- the steps of the code

head_shorter : (place next : Place ℕ) (h : Head) → one_of_at heads place ≡ Ok (h, next) →
    length next.rest + 1 ≤ length place.rest
head_shorter place next h e =
    let took = subst (λ r. places.Answers Anything (one_of heads) place r) e (heads_reader.each place) in
    let o = opening h in
    let spelt : took.text ≡ o.0 ++ 40 ∷ [] = word_of_head took.text h took.spelt ∙ o.1 in
    omega (arith, ap length took.whole, length-append took.text next.rest, ap length spelt, length-append o.0 (40 ∷ []))

pub gives_shorter : (r : Result Head Stuck) (old new : Place ℕ) → Gives r new (one_of_at heads old) →
    IfOk r (λ _. length new.rest + 1 ≤ length old.rest)
gives_shorter (Ok h) old new e = head_shorter old new h e
gives_shorter (Err stuck) old new e = tt

pub formula_step : (depth n : ℕ) (old next : Place ℕ) (h : Head) → 0 < depth → n ≡ length old.rest →
    one_of_at heads old ≡ Ok (h, next)
    → formula_at depth old ≡ tested_at n shape_fault (arguments_by (formula_at (depth - 1)) h next)
unfolding formula_at
formula_step zero n old next h pos long e = absurd (omega arith)
formula_step (suc d) n old next h pos long e =
    let down : suc d - 1 ≡ d = omega arith in
    ap (λ r. tested_at (length old.rest) shape_fault (and_go_on (spelling_only r) (arguments_by (formula_at d)))) e
    ∙ ap₂ (λ k m. tested_at k shape_fault (arguments_by (formula_at m) h next)) (sym long) (sym down)
