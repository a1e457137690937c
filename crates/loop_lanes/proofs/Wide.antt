-- Places of a step that is as wide as several rounds: they are those of its first round, and go on by a stride.
use Rattle.std.proofs.Common.{◌≡◌, ◌≢◌, ℕ, zero, suc, ◌+◌, ◌*◌, ◌≤◌, true, List, [], ◌∷◌, ◌++◌, length, refl, sym, ap}
use Rattle.std.proofs.Common.{ap₂, ◌∙◌, arith, mul-le-mul_left, mul_comm}
use Rattle.std.specs.Prelude.{slice_index}
use Rattle.std.proofs.Math.Nat.{mul_assoc}
use Rattle.std.proofs.Math.Seq.{get_or-append_seam}
use Rattle.icode.specs.Expression.{alone, with_part, with_sum, sum_numbers, parts_numbers}
use Rattle.icode.specs.Plain.{PlainExpr, PlainParts, Sum, NoParts, AndParts, Proc, Var}
use Rattle.nests.specs.Places.{are_linear, is_linear, stride}
use Rattle.nests.proofs.Linear.{by_equal, from_depth, wrong, proc_first, from_least}
use Rattle.nests.proofs.Apart.{added, value_by_strides}
use Rattle.loop_lanes.specs.Rows.{widened_parts, widened, place_stride}

-- ---- the value of the innermost loop

pub here : (vs : List ℕ) (x : ℕ) → slice_index (vs ++ x ∷ []) (length vs) ≡ x
here vs x = get_or-append_seam vs x [] 0

elsewhere : (vs : List ℕ) (x y d : ℕ) → d ≢ length vs → slice_index (vs ++ x ∷ []) d ≡ slice_index (vs ++ y ∷ []) d
elsewhere [] x y zero ne = absurd (ne refl)
elsewhere [] x y (suc d) ne = refl
elsewhere (v ∷ vs) x y zero ne = refl
elsewhere (v ∷ vs) x y (suc d) ne = elsewhere vs x y d (λ e. ne (ap suc e))

grows : (vs : List ℕ) (x y d : ℕ) → x ≤ y → slice_index (vs ++ x ∷ []) d ≤ slice_index (vs ++ y ∷ []) d
grows [] x y zero le = le
grows [] x y (suc d) le = omega arith
grows (v ∷ vs) x y zero le = omega arith
grows (v ∷ vs) x y (suc d) le = grows vs x y d le

-- ---- wide steps

-- parts of the wide step are those of its first round
widened-numbers : (v least : ℕ) (parts : PlainParts) (vs : List ℕ) (b q : ℕ) → are_linear least parts ≡ true →
    parts_numbers (widened_parts v (length vs) parts) (vs ++ b ∷ []) q ≡ parts_numbers parts (vs ++ (v * b) ∷ []) q
widened-numbers v least NoParts vs b q h = refl
widened-numbers v least (AndParts (Proc factor) rest) vs b q h =
    ap (with_part (alone (q * factor))) (widened-numbers v least rest vs b q (proc_first least factor rest h).1)
widened-numbers v least (AndParts (Var depth factor) rest) vs b q h =
    let two = from_least least depth _ h in
    let wide : PlainParts = AndParts (Var depth (v * factor)) rest in
    let kept : PlainParts = AndParts (Var depth factor) (widened_parts v (length vs) rest) in
    by_equal (λ parts. parts_numbers parts (vs ++ b ∷ []) q ≡ parts_numbers (AndParts (Var depth factor) rest)
    (vs ++ (v * b) ∷ []) q) depth (length vs) wide kept
    (λ same.
    ap₂ with_part (ap alone (at-loop same))
    (from_depth (depth + 1) rest (vs ++ (v * b) ∷ []) (vs ++ b ∷ []) q two.1
    (λ d le. elsewhere vs b (v * b) d (λ e. omega (arith, e, le, same)))))
    (λ other.
    ap₂ with_part (ap (λ n. alone (n * factor)) (elsewhere vs b (v * b) depth other))
    (widened-numbers v (depth + 1) rest vs b q two.1))
  where
    at-loop : depth ≡ length vs →
        slice_index (vs ++ b ∷ []) depth * (v * factor) ≡ slice_index (vs ++ (v * b) ∷ []) depth * factor
    at-loop same =
        ap (λ n. n * (v * factor)) (ap (slice_index (vs ++ b ∷ [])) same ∙ here vs b)
        ∙ sym (mul_assoc b v factor)
        ∙ ap (λ n. n * factor) (mul_comm b v ∙ sym (ap (slice_index (vs ++ (v * b) ∷ [])) same ∙ here vs (v * b)))
widened-numbers v least (AndParts _ rest) vs b q h = wrong h

-- with the innermost loop at this depth
moved-parts : (v loop : ℕ) (parts : PlainParts) (vs : List ℕ) (b q : ℕ) →
    are_linear 0 parts ≡ true → length vs ≡ loop →
    parts_numbers (widened_parts v loop parts) (vs ++ b ∷ []) q ≡ parts_numbers parts (vs ++ (v * b) ∷ []) q
moved-parts v loop parts vs b q h deep =
    ap (λ l. parts_numbers (widened_parts v l parts) (vs ++ b ∷ []) q) (sym deep) ∙ widened-numbers v 0 parts vs b q h

-- a place of the wide step is that of its first round
pub widened_value : (v loop : ℕ) (place : PlainExpr) (vs : List ℕ) (b q : ℕ) →
    is_linear place ≡ true → length vs ≡ loop →
    sum_numbers (widened v loop place) (vs ++ b ∷ []) q ≡ sum_numbers place (vs ++ (v * b) ∷ []) q
widened_value v loop (Sum constant parts) vs b q h deep =
    ap (with_sum constant) (moved-parts v loop parts vs b q h deep)

-- ---- rounds after the first

added-last : (loop : ℕ) (vs : List ℕ) (x : ℕ) (parts : PlainParts) →
    added loop (vs ++ x ∷ []) parts ≡ added loop vs parts + x * stride (loop + length vs) parts
added-last loop [] x parts =
    let same : loop ≡ loop + 0 = omega arith in
    nothing (x * stride loop parts) ∙ ap (λ l. 0 + x * stride l parts) same
  where
    nothing : (a : ℕ) → a + 0 ≡ 0 + a
    nothing a = omega arith
added-last loop (v ∷ vs) x parts =
    let same : loop + 1 + length vs ≡ loop + suc (length vs) = omega arith in
    ap (λ n. v * stride loop parts + n) (added-last (loop + 1) vs x parts)
    ∙ turned (v * stride loop parts) (added (loop + 1) vs parts) (x * stride (loop + 1 + length vs) parts)
    ∙ ap (λ l. v * stride loop parts + added (loop + 1) vs parts + x * stride l parts) same
  where
    turned : (a b c : ℕ) → a + (b + c) ≡ a + b + c
    turned a b c = omega arith

parts-by-lane : (parts : PlainParts) (vs : List ℕ) (a l q : ℕ) → are_linear 0 parts ≡ true →
    (parts_numbers parts (vs ++ (a + l) ∷ []) q).value
    ≡ (parts_numbers parts (vs ++ a ∷ []) q).value + stride (length vs) parts * l
parts-by-lane parts vs a l q h =
    let s : ℕ = stride (length vs) parts in
    let none : ℕ = (parts_numbers parts [] q).value in
    let zeroth : stride (0 + length vs) parts ≡ s = ap (λ l. stride l parts) (omega arith) in
    value_by_strides 0 parts (vs ++ (a + l) ∷ []) q h
    ∙ ap (λ n. none + n) (added-last 0 vs (a + l) parts ∙ ap (λ s. added 0 vs parts + (a + l) * s) zeroth)
    ∙ spread none (added 0 vs parts) s
    ∙ sym (ap (λ n. n + s * l) (value_by_strides 0 parts (vs ++ a ∷ []) q h
    ∙ ap (λ n. none + n) (added-last 0 vs a parts ∙ ap (λ s. added 0 vs parts + a * s) zeroth)))
  where
    spread : (n m s : ℕ) → n + (m + (a + l) * s) ≡ n + (m + a * s) + s * l
    spread n m s = let e : (a + l) * s ≡ a * s + s * l = omega arith in omega (arith, e)

-- the place in a round is that of the first round, and a stride for each round before it
pub lane_value : (loop : ℕ) (place : PlainExpr) (vs : List ℕ) (a l q : ℕ) → is_linear place ≡ true → length vs ≡ loop →
    (sum_numbers place (vs ++ (a + l) ∷ []) q).value
    ≡ (sum_numbers place (vs ++ a ∷ []) q).value + place_stride loop place * l
lane_value loop (Sum constant parts) vs a l q h deep =
    let is = parts-by-lane parts vs a l q h in
    let far : stride (length vs) parts * l ≡ stride loop parts * l = ap (λ d. stride d parts * l) deep in
    omega (arith, is, far)

-- and so it is that of the wide step
pub wide_value : (v : ℕ) (place : PlainExpr) (vs : List ℕ) (b l q : ℕ) → is_linear place ≡ true →
    (sum_numbers place (vs ++ (v * b + l) ∷ []) q).value
    ≡ (sum_numbers (widened v (length vs) place) (vs ++ b ∷ []) q).value + place_stride (length vs) place * l
wide_value v place vs b l q h =
    lane_value (length vs) place vs (v * b) l q h refl
    ∙ ap (λ n. n.value + place_stride (length vs) place * l) (sym (widened_value v (length vs) place vs b q h refl))

peak-grows : (least : ℕ) (parts : PlainParts) (vs : List ℕ) (x y q : ℕ) → are_linear least parts ≡ true → x ≤ y →
    (parts_numbers parts (vs ++ x ∷ []) q).peak ≤ (parts_numbers parts (vs ++ y ∷ []) q).peak
peak-grows least NoParts vs x y q h le = omega arith
peak-grows least (AndParts (Proc factor) rest) vs x y q h le =
    let more = peak-grows least rest vs x y q (proc_first least factor rest h).1 le in
    omega (arith, more)
peak-grows least (AndParts (Var depth factor) rest) vs x y q h le =
    let two = from_least least depth _ h in
    let more = peak-grows (depth + 1) rest vs x y q two.1 le in
    let one : factor * slice_index (vs ++ x ∷ []) depth ≤ factor * slice_index (vs ++ y ∷ []) depth =
    mul-le-mul_left factor (grows vs x y depth le) in
    omega (arith, more, one)
peak-grows least (AndParts _ rest) vs x y q h le = wrong h

-- ---- a place of the wide step that is moved by strides is that of a round after the first

-- from this constant on, by linear parts, in this round
abbrev pub moved : ℕ → ℕ → ℕ → PlainParts → ℕ → PlainExpr
moved v loop constant parts l = Sum (constant + stride loop parts * l) (widened_parts v loop parts)

pub moved_value : (v loop constant : ℕ) (parts : PlainParts) (vs : List ℕ) (b l q : ℕ) →
    are_linear 0 parts ≡ true → length vs ≡ loop →
    (sum_numbers (moved v loop constant parts l) (vs ++ b ∷ []) q).value
    ≡ (sum_numbers (Sum constant parts) (vs ++ (v * b + l) ∷ []) q).value
moved_value v loop constant parts vs b l q h deep =
    let first = ap (λ n. n.value) (moved-parts v loop parts vs b q h deep) in
    let is = lane_value loop (Sum constant parts) vs (v * b) l q h deep in
    omega (arith, first, is)

pub moved_peak : (v loop constant : ℕ) (parts : PlainParts) (vs : List ℕ) (b l q : ℕ) →
    are_linear 0 parts ≡ true → length vs ≡ loop →
    (sum_numbers (moved v loop constant parts l) (vs ++ b ∷ []) q).peak
    ≤ (sum_numbers (Sum constant parts) (vs ++ (v * b + l) ∷ []) q).peak
moved_peak v loop constant parts vs b l q h deep =
    let value = moved_value v loop constant parts vs b l q h deep in
    let first = ap (λ n. n.peak) (moved-parts v loop parts vs b q h deep) in
    let low : v * b ≤ v * b + l = omega arith in
    let more = peak-grows 0 parts vs (v * b) (v * b + l) q h low in
    omega (arith, value, first, more)
