-- Linear places: their values, and what tests tell of them.
use Rattle.nests.proofs.Bools.{three_true, both_kept}
use Rattle.std.proofs.Common.{◌≡◌, ◌≢◌, ℕ, suc, ◌+◌, ◌*◌, ◌<◌, ◌≤◌, Bool, true, false, not, cond, ◌&&◌, List, []}
use Rattle.std.proofs.Common.{◌∷◌, ◌++◌, length, refl, sym, ap, ap₂, ◌∙◌, subst, arith, inl, inr, eq-eqb, ne_eqb}
use Rattle.std.proofs.Common.{leb-true, eqb-true}
use Rattle.std.specs.Prelude.{slice_index, nat_le, ◌==◌, if◌then◌else◌}
use Rattle.std.proofs.lemmas.Bool.{cases_eq, true≢false}
use Rattle.icode.specs.Expression.{alone, with_part, parts_numbers}
use Rattle.icode.specs.declared.program.Array.{Array}
use Rattle.icode.specs.Plain.{PlainParts, PlainPart, PlainOp, PlainBody, Sum, NoParts}
use Rattle.icode.specs.Plain.{AndParts, Proc, Var, Load, Store, MulTable, Loop, Do, NoStmts, AndStmts}
use Rattle.icode.proofs.Bools.{both_true}
use Rattle.nests.specs.Places.{are_linear, is_linear, stride, same_part, same_parts}
use Rattle.nests.specs.Rounds.{Stored, same_array, is_placed, are_placed}

-- ---- the values of two loops one in the other

at-first : (vs us : List ℕ) (i j : ℕ) → slice_index (vs ++ i ∷ j ∷ us) (length vs) ≡ i
at-first [] us i j = refl
at-first (v ∷ vs) us i j = at-first vs us i j

at-second : (vs us : List ℕ) (i j : ℕ) → slice_index (vs ++ i ∷ j ∷ us) (suc (length vs)) ≡ j
at-second [] us i j = refl
at-second (v ∷ vs) us i j = at-second vs us i j

-- the values of rounds
pub first-at : (loop : ℕ) (vs us : List ℕ) (i j : ℕ) → length vs ≡ loop → slice_index (vs ++ i ∷ j ∷ us) loop ≡ i
first-at loop vs us i j is = ap (slice_index (vs ++ i ∷ j ∷ us)) (sym is) ∙ at-first vs us i j

pub second-at : (loop : ℕ) (vs us : List ℕ) (i j : ℕ) → length vs ≡ loop → slice_index (vs ++ i ∷ j ∷ us) (loop + 1) ≡ j
second-at loop vs us i j is =
    let e : loop + 1 ≡ suc (length vs) = omega arith in
    ap (slice_index (vs ++ i ∷ j ∷ us)) e ∙ at-second vs us i j

-- ---- what the tests tell

-- a test that fails does not hold
pub wrong : {P : Type 0} → false ≡ true → P
wrong h = absurd (true≢false (sym h))

pub from_least : (least depth : ℕ) (more : Bool) → (nat_le least depth && more) ≡ true → (least ≤ depth) × (more ≡ true)
from_least least depth more h = let two = both_true (nat_le least depth) more h in (leb-true least depth two.0, two.1)

pub chosen : {X : Type 0} (a b : ℕ) (x y : X) → a ≡ b → (if a == b then x else y) ≡ x
chosen a b x y e = ap (λ t. cond t x y) (eq-eqb a b e)

pub passed : {X : Type 0} (a b : ℕ) (x y : X) → a ≢ b → (if a == b then x else y) ≡ y
passed a b x y e = ap (λ t. cond t x y) (ne_eqb a b e)

-- what holds of either, where it is taken, holds of the one that is
pub by_equal : {X : Type 0} (P : X → Type 0) (a b : ℕ) (x y : X) → (a ≡ b → P x) → (a ≢ b → P y) →
    P (if a == b then x else y)
by_equal P a b x y same other =
    elim (cases_eq a b) [
      | inl e ↦ subst P (sym (chosen a b x y e)) (same e)
      | inr ne ↦ subst P (sym (passed a b x y ne)) (other ne)
    ]

-- the processor's part stands before those of the loops' values
pub proc_first : (least factor : ℕ) (rest : PlainParts) → are_linear least (AndParts (Proc factor) rest) ≡ true →
    (least ≡ 0) × (are_linear least rest ≡ true)
proc_first least factor rest h = let two = both_true (least == 0) (are_linear least rest) h in (eqb-true least 0 two.0, two.1)

-- no part of a loop before the least depth
pub stride_before : (least loop : ℕ) (parts : PlainParts) → are_linear least parts ≡ true → loop < least →
    stride loop parts ≡ 0
stride_before least loop NoParts h before = refl
stride_before least loop (AndParts (Proc factor) rest) h before = stride_before least loop rest (proc_first least factor rest h).1 before
stride_before least loop (AndParts (Var depth factor) rest) h before =
    let two = from_least least depth _ h in
    passed depth loop factor (stride loop rest) (λ e. omega (arith, two.0)) ∙ stride_before (depth + 1) loop rest two.1 (omega (arith, two.0))
stride_before least loop (AndParts part rest) h before = wrong h

-- parts of deeper loops alone, whose values agree
pub from_depth : (least : ℕ) (parts : PlainParts) (ws us : List ℕ) (q : ℕ) → are_linear least parts ≡ true →
    ((d : ℕ) → least ≤ d → slice_index us d ≡ slice_index ws d) → parts_numbers parts us q ≡ parts_numbers parts ws q
from_depth least NoParts ws us q h same = refl
from_depth least (AndParts (Proc factor) rest) ws us q h same =
    ap (with_part (alone (q * factor))) (from_depth least rest ws us q (proc_first least factor rest h).1 same)
from_depth least (AndParts (Var depth factor) rest) ws us q h same =
    let two = from_least least depth _ h in
    ap₂ with_part (ap (λ v. alone (v * factor)) (same depth two.0))
    (from_depth (depth + 1) rest ws us q two.1 (λ d le. same d (omega (arith, le, two.0))))
from_depth least (AndParts part rest) ws us q h same = wrong h

-- ---- the same parts

same-part : (a b : PlainPart) → same_part a b ≡ true → a ≡ b
same-part (Proc a) (Proc b) h = ap Proc (eqb-true a b h)
same-part (Var v a) (Var w b) h = let two = both_true (v == w) (a == b) h in ap₂ Var (eqb-true v w two.0) (eqb-true a b two.1)
same-part _ _ h = wrong h

pub parts_equal : (a b : PlainParts) → same_parts a b ≡ true → a ≡ b
parts_equal NoParts NoParts h = refl
parts_equal (AndParts a more) (AndParts b others) h =
    let two = both_true (same_part a b) (same_parts more others) h in ap₂ AndParts (same-part a b two.0) (parts_equal more others two.1)
parts_equal _ _ h = wrong h

-- ---- what the test tells of a store

pub record StoreTold (lanes : ℕ) (to : Stored) (array : Array) (constant : ℕ) (parts : PlainParts) (step : ℕ) : Type 0 where
  pub into : same_array array to.array ≡ true
  pub by : parts ≡ to.parts
  pub low : constant + lanes ≤ step

pub store_told : (lanes : ℕ) (to : Stored) (step : ℕ) (array : Array) (constant : ℕ) (parts : PlainParts) (r : ℕ) →
    is_placed lanes to step (Store array (Sum constant parts) r) ≡ true → StoreTold lanes to array constant parts step
store_told lanes to step array constant parts r h =
    let both = three_true (same_array array to.array) (same_parts parts to.parts) (nat_le (constant + lanes) step) h in
    record { into = both.0; by = parts_equal parts to.parts both.1; low = leb-true (constant + lanes) step both.2 }

-- ---- statements whose places are linear

abbrev pub has_linear_place : PlainOp → Bool
has_linear_place (Load register array place) = is_linear place
has_linear_place (Store array place register) = is_linear place
has_linear_place (MulTable register source table place step) = is_linear place
has_linear_place op = true

-- straight statements
abbrev pub has_linear_places : PlainBody → Bool
has_linear_places NoStmts = true
has_linear_places (AndStmts (Do op) rest) = has_linear_place op && has_linear_places rest
has_linear_places (AndStmts (Loop count body) rest) = false

placed-linear : (lanes : ℕ) (to : Stored) (step : ℕ) (op : PlainOp) → are_linear 0 to.parts ≡ true →
    is_placed lanes to step op ≡ true →
    has_linear_place op ≡ true
placed-linear lanes to step (Load r array place) linear h = (both_true (not (same_array array to.array)) (is_linear place) h).1
placed-linear lanes to step (Store array (Sum constant parts) r) linear h =
    ap (are_linear 0) (store_told lanes to step array constant parts r h).by ∙ linear
placed-linear lanes to step (MulTable r x table place entries) linear h = h
placed-linear lanes to step _ linear h = refl

-- statements that store by linear parts have linear places
pub placed_linear : (lanes : ℕ) (to : Stored) (step : ℕ) (body : PlainBody) → are_linear 0 to.parts ≡ true →
    are_placed lanes to step body ≡ true →
    has_linear_places body ≡ true
placed_linear lanes to step NoStmts linear h = refl
placed_linear lanes to step (AndStmts (Do op) rest) linear h =
    both_kept (placed-linear lanes to step op linear) (placed_linear lanes to step rest linear) h
placed_linear lanes to step (AndStmts (Loop count body) rest) linear h = wrong h
