-- The entries that factors are made of, in blocks and rows, and tables that are walked over.
use Rattle.nests.proofs.Bools.{three_true}
use Rattle.std.proofs.Common.{◌≡◌, ℕ, ◌+◌, ◌*◌, ◌/◌, ◌%◌, ◌<◌, ◌≤◌, sym, ap, ◌∙◌, arith, mul_comm, mul-le-mul_left}
use Rattle.std.proofs.Common.{zero, suc, true, List, [], ◌∷◌, length, eqb-true, ltb-true, ⊎_elim, ◌-◌, ◌&&◌, Bool}
use Rattle.std.proofs.Common.{false, ◌++◌, Vec, Global, drop, ap₂, add-one, drop-cons}
use Rattle.std.proofs.Math.Nat.{div-mul-le_self, div-add-mod', mul-add-mod_self_right, mod-eq_of_lt}
use Rattle.std.proofs.Math.Nat.{lt_of_mul-lt-mul_right, mul_assoc, div-lt_iff_lt-mul, le-mul_of_pos_right}
use Rattle.std.proofs.lemmas.Nat.{div-mul-add, mod_below}
use Rattle.std.specs.Prelude.{slice_index, nat_lt, slice_index_or}
use Rattle.std.specs.List.{range_with_len, list_all}
use Rattle.ring_mod.specs.Residue.{product_mod}
use Rattle.std.proofs.lemmas.Bool.{cases_eq}
use Rattle.icode.proofs.Bools.{both_true}
use Rattle.two_tables.specs.Factors.{Cut, first_place, second_place, is_product_at, is_table, are_factors}
use Rattle.std.proofs.lemmas.List.{drop-map, length-map}
use Rattle.std.proofs.lemmas.List.FromFn.{map-range_with_len_more}
use Rattle.operators.specs.Sum.{list_below}
use Rattle.icode.specs.declared.program.Stmt.{Stmt}
use Rattle.icode.specs.Plain.{PlainBody, NoStmts, plain_body, plain_phases}

-- a block of the table
pub block_room : (n w j : ℕ) → j < n / w → j * w + w ≤ n
block_room n w j below =
    let a = mul-le-mul_left w below in
    let b = div-mul-le_self n w in
    let c : w * (n / w) ≡ n / w * w = mul_comm w (n / w) in
    let d : w * (j + 1) ≡ j * w + w = omega arith in
    omega (arith, a, b, c, d)

-- the lanes of a group stand in one block
pub record IsInBlock (w e l : ℕ) : Type 0 where
  pub block : (e + l) / w ≡ e / w
  pub place : (e + l) % w ≡ e % w + l

-- a multiple of the lanes below another
group_room : (lanes r w : ℕ) → 0 < lanes → r % lanes ≡ 0 → w % lanes ≡ 0 → r < w → r + lanes ≤ w
group_room lanes r w some first all below =
    let a = div-add-mod' r lanes in
    let b = div-add-mod' w lanes in
    multiples (r / lanes) (w / lanes) (omega (arith, a, first)) (omega (arith, b, all))
  where
    multiples : (x y : ℕ) → r ≡ x * lanes → w ≡ y * lanes → r + lanes ≤ w
    multiples x y is end =
        let less : x < y = lt_of_mul-lt-mul_right lanes (omega (arith, is, end, below)) in
        let room = mul-le-mul_left lanes less in
        let c : lanes * (x + 1) ≡ x * lanes + lanes = omega arith in
        let d : lanes * y ≡ y * lanes = mul_comm lanes y in
        omega (arith, room, c, d, is, end)

pub in_block : (w lanes e l : ℕ) → 0 < lanes → 0 < w → e % lanes ≡ 0 → w % lanes ≡ 0 → l < lanes → IsInBlock w e l
in_block w lanes e l some wide even whole below =
    let r = e % w in
    let q = e / w in
    let is : e ≡ q * w + r = sym (div-add-mod' e w) in
    let small : r < w = mod_below e w wide in
    let b = div-add-mod' w lanes in
    let w_is : w ≡ w / lanes * lanes = omega (arith, b, whole) in
    let e_is : e ≡ q * (w / lanes) * lanes + r = is ∙ ap (λ k. k + r) (ap (λ k. q * k) w_is ∙ sym (mul_assoc q (w / lanes) lanes)) in
    let r_even : r % lanes ≡ 0 = sym (mul-add-mod_self_right (q * (w / lanes)) lanes r) ∙ ap (λ k. k % lanes) (sym e_is) ∙ even in
    let room = group_room lanes r w some r_even whole small in
    let low : r + l < w = omega arith in
    let there : e + l ≡ q * w + (r + l) = omega (arith, is) in
    record {
      block = ap (λ k. k / w) there ∙ div-mul-add q w (r + l) low;
      place = ap (λ k. k % w) there ∙ mul-add-mod_self_right q w (r + l) ∙ mod-eq_of_lt low;
    }

-- ---- what the walk over a table's entries has found

of_range : (f : ℕ → Bool) (a n e : ℕ) → list_all f (range_with_len a n) ≡ true → a ≤ e → e < a + n → f e ≡ true
of_range f a zero e h low high = absurd (omega arith)
of_range f a (suc n) e h low high =
    let two = both_true (f a) (list_all f (range_with_len (a + 1) n)) h in
    ⊎_elim (λ (is : a ≡ e). ap f (sym is) ∙ two.0) (λ ne. of_range f (a + 1) n e two.1 (omega arith) (omega arith)) (cases_eq a e)

entry_small : (m : ℕ) (entries : List ℕ) (k : ℕ) → 0 < m → list_all (λ c. nat_lt c m) entries ≡ true →
    slice_index entries k < m
entry_small m [] k pos h = pos
entry_small m (c ∷ entries) zero pos h = ltb-true c m (both_true (nat_lt c m) _ h).0
entry_small m (c ∷ entries) (suc k) pos h = entry_small m entries k pos (both_true (nat_lt c m) _ h).1

some_residue : (m : ℕ) (entries : List ℕ) → is_table m entries ≡ true → 0 < m
some_residue m [] h = cc
some_residue m (c ∷ entries) h =
    let less = ltb-true c m (both_true (nat_lt c m) _ (both_true (nat_lt 0 (length (c ∷ entries))) _ h).1).0 in omega (arith, less)

pub table_small : (m : ℕ) (entries : List ℕ) (k : ℕ) → is_table m entries ≡ true → slice_index entries k < m
table_small m entries k h = entry_small m entries k (some_residue m entries h) (both_true (nat_lt 0 (length entries)) _ h).1

-- an entry is the product of two that are there
pub record IsProduct (m : ℕ) (cut : Cut) (first second entries : List ℕ) (e : ℕ) : Type 0 where
  pub first_there : first_place cut e < length first
  pub second_there : second_place cut e < length second
  pub product : product_mod m (slice_index first (first_place cut e)) (slice_index second (second_place cut e))
      ≡ slice_index entries e

pub record AreFactors (m : ℕ) (cut : Cut) (first second entries : List ℕ) : Type 0 where
  pub some : 0 < m
  pub first_small : is_table m first ≡ true
  pub second_small : is_table m second ≡ true
  pub each : (e : ℕ) → e < length entries → IsProduct m cut first second entries e

pub walked : (m : ℕ) (cut : Cut) (first second entries : List ℕ) → are_factors m cut first second entries ≡ true →
    AreFactors m cut first second entries
walked m cut first second entries h =
    let more = three_true (is_table m first) (is_table m second) _ h in
    record {
      some = some_residue m first more.0;
      first_small = more.0;
      second_small = more.1;
      each = λ e lt.
          let here = of_range (is_product_at m cut first second entries) 0 (length entries) e more.2 (omega arith) (omega arith) in
          let a = both_true (nat_lt (first_place cut e) (length first)) _ here in
          let b = both_true (nat_lt (second_place cut e) (length second)) _ a.1 in
          record {
            first_there = ltb-true _ _ a.0;
            second_there = ltb-true _ _ b.0;
            product = eqb-true _ _ b.1;
          };
    }

-- ---- the entries that factors are made of, and tables that are walked over

-- where an entry of the second factor comes from
pub record IsFrom (n w a j : ℕ) : Type 0 where
  pub block : j / w * a ≤ n
  pub row : j / w * a * w ≤ n
  pub entry : j / w * a * w + j % w < n

pub from_block : (n w a j : ℕ) → 0 < w → 0 < a → j < n / w / a * w → IsFrom n w a j
from_block n w a j wide some below =
    let rows : j / w < n / w / a = (div-lt_iff_lt-mul wide).1 below in
    let blocks : j / w * a + a ≤ n / w = block_room (n / w) a (j / w) rows in
    let first : j / w * a < n / w = omega (arith, blocks, some) in
    let room : j / w * a * w + w ≤ n = block_room n w (j / w * a) first in
    let small = mod_below j w wide in
    let up : j / w * a ≤ j / w * a * w = le-mul_of_pos_right (j / w * a) wide in
    record { block = omega (arith, up, room); row = omega (arith, room); entry = omega (arith, room, small) }

-- one entry more
pub list_more : (n : ℕ) (f : ℕ → ℕ) (xs new : List ℕ) (x : ℕ) → xs ≡ list_below n f → new ≡ xs ++ x ∷ [] → x ≡ f n →
    new ≡ list_below (n + 1) f
list_more n f xs new x is pushed e =
    pushed ∙ (ap₂ (λ ys y. ys ++ y ∷ []) is e ∙ sym (map-range_with_len_more f 0 n n (omega arith)))

-- one number more passes
pub range_more : (f : ℕ → Bool) (a n : ℕ) (whole : Bool) → a < n → f a ≡ true →
    list_all f (range_with_len a (n - a)) ≡ whole → list_all f (range_with_len (a + 1) (n - (a + 1))) ≡ whole
range_more f a n whole lt passes h =
    ap (λ b. b && list_all f (range_with_len (a + 1) (n - (a + 1)))) (sym passes)
    ∙ (ap (λ k. list_all f (range_with_len a k)) (sym left) ∙ h)
  where
    left : n - a ≡ suc (n - (a + 1))
    left = omega arith

-- one phase more
phase-next : (items : List (Vec Stmt Global)) (i : ℕ) → i < length items →
    plain_phases (drop i items) ≡ slice_index_or (plain_phases items) i NoStmts ∷ plain_phases (drop (i + 1) items)
phase-next items i lt =
    let view : Vec Stmt Global → PlainBody = λ body. plain_body body.items in
    let there : i < length (plain_phases items) = omega (arith, lt, length-map items view) in
    sym (drop-map view i items)
    ∙ (drop-cons (plain_phases items) i NoStmts there
    ∙ ap (λ bodies. slice_index_or (plain_phases items) i NoStmts ∷ bodies)
    (ap (λ n. drop n (plain_phases items)) (sym (add-one i)) ∙ drop-map view (i + 1) items))

pub phase_passes : (f : PlainBody → Bool) (items : List (Vec Stmt Global)) (i : ℕ) (whole : Bool) → i < length items →
    f (slice_index_or (plain_phases items) i NoStmts) ≡ true →
    list_all f (plain_phases (drop i items)) ≡ whole → list_all f (plain_phases (drop (i + 1) items)) ≡ whole
phase_passes f items i whole lt passes h =
    ap (λ b. b && list_all f (plain_phases (drop (i + 1) items))) (sym passes) ∙ (ap (list_all f) (sym (phase-next items i lt)) ∙ h)

pub phase_fails : (f : PlainBody → Bool) (items : List (Vec Stmt Global)) (i : ℕ) (whole : Bool) → i < length items →
    f (slice_index_or (plain_phases items) i NoStmts) ≡ false →
    list_all f (plain_phases (drop i items)) ≡ whole → false ≡ whole
phase_fails f items i whole lt fails h =
    ap (λ b. b && list_all f (plain_phases (drop (i + 1) items))) (sym fails) ∙ (ap (list_all f) (sym (phase-next items i lt)) ∙ h)
