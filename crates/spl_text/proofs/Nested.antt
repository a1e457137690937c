-- What is read has a text with at most 128 open parentheses.
use Rattle.std.proofs.Common.{◌≡◌, ℕ, zero, suc, ◌+◌, ◌≤◌, List, [], ◌∷◌, Option, Some, None, Result, Ok, Err, refl}
use Rattle.std.proofs.Common.{sym, ap, subst, arith}
use Rattle.grammar.specs.Reading.{Place, start, ended, pure_at, one_of_at}
use Rattle.grammar.specs.Stops.{Stop, ◌>>=◌, and_go_on, passed, tested_at}
use Rattle.spl_ast.specs.Formula.{Formula, Identity, Fourier, Hadamard, Twiddles, Diagonal, Stride, Permutation}
use Rattle.spl_ast.specs.Formula.{GoodThomasIn, GoodThomasOut, Product, TensorLeft, TensorRight, DirectSum, Pending}
use Rattle.spl_ast.specs.Nesting.{nesting_of, IsComplete, IsPrintable}
use Rattle.spl_text.specs.declared.reading.Head.{Head}
use Rattle.spl_text.specs.declared.reading.Head.TheVariants as head
use Rattle.spl_text.specs.Arguments.{factor_at, comma_at, close_at, one_size_at, two_sizes_at, size_value_at}
use Rattle.spl_text.specs.Arguments.{sizes_value_at, values_at}
use Rattle.spl_text.specs.Fault.{TextFault, shape_fault}
use Rattle.spl_text.specs.Reading.{heads, plain, made_at, arguments_by, too_deep, formula_at, line_at}
use Rattle.spl_text.specs.Reading.{ended_formula, all_of, whole_line}
use Rattle.spl_text.specs.Spelling.{spells, spells_line, HasSpelling}

pub go_ok : {A B : Type 0} (r : Result (A × Place ℕ) (Stop TextFault))
    (next : A → Place ℕ → Result (B × Place ℕ) (Stop TextFault)) (y : B × Place ℕ) → and_go_on r next ≡ Ok y →
    (x : A × Place ℕ) × (r ≡ Ok x) × (next x.0 x.1 ≡ Ok y)
go_ok (Ok x) next y e = (x, refl, e)
go_ok (Err s) next y e = absurd cc

test_cases : (found : Option TextFault) (x y : Formula × Place ℕ) → passed found x ≡ Ok y → x ≡ y
test_cases None x y e = cc
test_cases (Some f) x y e = absurd cc

tested_ok : (left : ℕ) (r : Result (Formula × Place ℕ) (Stop TextFault)) (y : Formula × Place ℕ) →
    tested_at left shape_fault r ≡ Ok y → r ≡ Ok y
tested_ok left (Ok x) y e = ap (λ z. Ok z) (test_cases (shape_fault left x.0) x y e)
tested_ok left (Err s) y e = absurd cc

same_ok : (x y : Formula × Place ℕ) → (let r : Result (Formula × Place ℕ) (Stop TextFault) = Ok x in r ≡ Ok y) → x.0 ≡ y.0
same_ok x y e = let both : x ≡ y = cc in ap (λ z. z.0) both

-- two pieces behind a head, and what they make
abbrev pub pair_by : {A B : Type 0} → (Place ℕ → Result (A × Place ℕ) (Stop TextFault)) →
    (Place ℕ → Result (B × Place ℕ) (Stop TextFault)) → (A → B → Formula) → Place ℕ →
    Result (Formula × Place ℕ) (Stop TextFault)
pair_by read read' make = do
  a ← read
  _ ← plain comma_at
  b ← read'
  _ ← plain close_at
  plain (pure_at (make a b))

abbrev IsLow : ℕ → Formula → Type 0
IsLow k f = nesting_of f ≤ k

abbrev IsAny : ℕ → Type 0
IsAny n = Unit {0}

module _ (k : ℕ) where
  made_nesting : {A : Type 0} (read : Place ℕ → Result (A × Place ℕ) ℕ) (make : A → Formula) →
      ((x : A) → IsLow (k + 1) (make x))
      → (place : Place ℕ) (y : Formula × Place ℕ) → made_at read make place ≡ Ok y → IsLow (k + 1) y.0
  made_nesting read make low place y e =
      let g = go_ok (plain read place) (λ x. plain (pure_at (make x))) y e in
      subst (IsLow (k + 1)) (same_ok (make g.0.0, g.0.1) y g.2) (low g.0.0)

  pair_nesting : {A B : Type 0} (P : A → Type 0) (Q : B → Type 0) (make : A → B → Formula) →
      ((a : A) (b : B) → P a → Q b → IsLow (k + 1) (make a b))
      → (read : Place ℕ → Result (A × Place ℕ) (Stop TextFault)) → ((place : Place ℕ) (x : A × Place ℕ) →
      read place ≡ Ok x → P x.0)
      → (read' : Place ℕ → Result (B × Place ℕ) (Stop TextFault)) → ((place : Place ℕ) (x : B × Place ℕ) →
      read' place ≡ Ok x → Q x.0)
      → (place : Place ℕ) (y : Formula × Place ℕ) → pair_by read read' make place ≡ Ok y → IsLow (k + 1) y.0
  pair_nesting P Q make low read first read' second place y e =
      let g1 = go_ok (read place) _ y e in
      let g2 = go_ok (plain comma_at g1.0.1) _ y g1.2 in
      let g3 = go_ok (read' g2.0.1) _ y g2.2 in
      let g4 = go_ok (plain close_at g3.0.1) _ y g3.2 in
      subst (IsLow (k + 1)) (same_ok (make g1.0.0 g3.0.0, g4.0.1) y g4.2)
      (low g1.0.0 g3.0.0 (first place g1.0 g1.1) (second g2.0.1 g3.0 g3.1))

  pub arguments_nesting : (read : Place ℕ → Result (Formula × Place ℕ) (Stop TextFault)) →
      ((place : Place ℕ) (x : Formula × Place ℕ) → read place ≡ Ok x → IsLow k x.0)
      → (h : Head) (place : Place ℕ) (y : Formula × Place ℕ) → arguments_by read h place ≡ Ok y → IsLow (k + 1) y.0
  arguments_nesting read inner head.I = made_nesting one_size_at Identity (λ x. omega arith)
  arguments_nesting read inner head.Dft = made_nesting size_value_at (λ x. Fourier x.0 x.1) (λ x. omega arith)
  arguments_nesting read inner head.Wht = made_nesting one_size_at Hadamard (λ x. omega arith)
  arguments_nesting read inner head.T = made_nesting sizes_value_at (λ x. Twiddles x.0 x.1 x.2) (λ x. omega arith)
  arguments_nesting read inner head.Diag = made_nesting values_at Diagonal (λ x. omega arith)
  arguments_nesting read inner head.L = made_nesting two_sizes_at (λ x. Stride x.0 x.1) (λ x. omega arith)
  arguments_nesting read inner head.Perm = made_nesting values_at Permutation (λ x. omega arith)
  arguments_nesting read inner head.GtIn = made_nesting two_sizes_at (λ x. GoodThomasIn x.0 x.1) (λ x. omega arith)
  arguments_nesting read inner head.GtOut = made_nesting two_sizes_at (λ x. GoodThomasOut x.0 x.1) (λ x. omega arith)
  arguments_nesting read inner head.Times =
      pair_nesting (IsLow k) (IsLow k) Product (λ a b h g. omega arith) read inner read inner
  arguments_nesting read inner head.Sum =
      pair_nesting (IsLow k) (IsLow k) DirectSum (λ a b h g. omega arith) read inner read inner
  arguments_nesting read inner head.Left =
      pair_nesting (IsLow k) IsAny TensorLeft (λ a b h g. omega arith) read inner (plain factor_at) (λ p x e. tt)
  arguments_nesting read inner head.Right =
      pair_nesting IsAny (IsLow k) TensorRight (λ a b h g. omega arith) (plain factor_at) (λ p x e. tt) read inner

never_too_deep : (r : Result (Head × Place ℕ) ℕ) (y : Formula × Place ℕ) → too_deep r ≡ Ok y → ⊥
never_too_deep (Ok x) y e = cc
never_too_deep (Err left) y e = cc

pub formula_nesting : (depth : ℕ) (place : Place ℕ) (y : Formula × Place ℕ) → formula_at depth place ≡ Ok y →
    nesting_of y.0 ≤ depth
unfolding formula_at
formula_nesting zero place y e = absurd (never_too_deep (one_of_at heads place) y e)
formula_nesting (suc depth) place y e =
    let g = go_ok (plain (one_of_at heads) place) (arguments_by (formula_at depth)) y (tested_ok _ _ y e) in
    omega (arith, arguments_nesting depth (formula_at depth) (formula_nesting depth) g.0.0 g.0.1 y g.2)

line_has : (P : Formula → Type 0) (place : Place ℕ) → ((y : Formula × Place ℕ) → formula_at 128 place ≡ Ok y → P y.0) →
    (y : Formula × Place ℕ) → line_at place ≡ Ok y → P y.0
line_has P place inner y e =
    let g1 = go_ok (formula_at 128 place) _ y e in
    let g2 = go_ok _ (λ _. plain (pure_at g1.0.0)) y g1.2 in
    subst P (same_ok (g1.0.0, g2.0.1) y g2.2) (inner g1.0 g1.1)

ended_ok : (x f : Formula) (rest : List ℕ) (far : ℕ) → ended_formula (ended x rest far) ≡ Ok f → x ≡ f
ended_ok x f [] far e = cc
ended_ok x f (y ∷ rest) far e = absurd cc

whole_has : (P : Formula → Type 0) (f : Formula) (r : Result (Formula × Place ℕ) (Stop TextFault)) →
    ((y : Formula × Place ℕ) → r ≡ Ok y → P y.0) → all_of r ≡ Ok f → P f
whole_has P f (Ok x) h e = subst P (ended_ok x.0 f x.1.rest x.1.far e) (h x refl)
whole_has P f (Err s) h e = absurd cc

-- what holds of a formula that is read holds of the whole text's
pub text_has : (P : Formula → Type 0) (text : List ℕ) (f : Formula) →
    ((y : Formula × Place ℕ) → formula_at 128 (start text) ≡ Ok y → P y.0) → whole_line text ≡ Ok f → P f
text_has P text f inner e = whole_has P f (line_at (start text)) (line_has P (start text) inner) e

complete_of : (f : Formula) → HasSpelling f → IsComplete f
complete_of (Identity n) h = tt
complete_of (Fourier n w) h = tt
complete_of (Hadamard n) h = tt
complete_of (Twiddles n s w) h = tt
complete_of (Diagonal c) h = tt
complete_of (Stride n r) h = tt
complete_of (Permutation k) h = tt
complete_of (GoodThomasIn r s) h = tt
complete_of (GoodThomasOut r s) h = tt
complete_of (Product a b) h = (complete_of a h.0, complete_of b h.1)
complete_of (TensorLeft a k) h = complete_of a h.0
complete_of (TensorRight k a) h = complete_of a h.1
complete_of (DirectSum a b) h = (complete_of a h.0, complete_of b h.1)
complete_of (Pending a) h = absurd h

spelt_of : (text : List ℕ) (f : Formula) → spells_line text f → HasSpelling f
unfolding spells
spelt_of text f l = subst HasSpelling (sym l.ends.ends.1) l.begins.0

pub read_is_printable : (text : List ℕ) (f : Formula) → spells_line text f → whole_line text ≡ Ok f → IsPrintable f
read_is_printable text f l e = record {
  complete = complete_of f (spelt_of text f l);
  shallow = text_has (λ g. nesting_of g ≤ 128) text f (formula_nesting 128 (start text)) e;
}
