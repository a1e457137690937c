-- Places have the values in C that they have.
use Rattle.std.proofs.Common.{◌≡◌, ℕ, ◌+◌, ◌*◌, ◌/◌, ◌%◌, ◌^◌, ◌<◌, ◌≤◌, ◌⊎◌, ⊎_elim, true, List, length, max, arith, div-le_self, mod-lt, if◌then◌else◌, sym, ap, ap₂, subst, ◌∙◌}
use Rattle.std.specs.Prelude.{pos, nat_lt, nat_le, slice_index}
use Rattle.std.proofs.lemmas.Bool.{ltb-true, lt-ltb, and_parts}
use Rattle.icode.specs.Expression.{sum_numbers, parts_numbers, one_numbers}
use Rattle.icode.specs.Limits.{is_small, is_small_positive, rank, next_rank, is_sum_within, are_parts_within, is_part_within}
use Rattle.icode.specs.Plain.{PlainExpr, PlainParts, PlainPart, Sum, NoParts, AndParts, Proc, Var, Product, Rem, Quot}
use Rattle.c_meaning.specs.Types.{Bare, room, common, constant_type}
use Rattle.c_meaning.specs.Syntax.{CExpr, Constant, Named, Grouped, Two, Plus, Times, Over, Modulo, Tight}
use Rattle.c_meaning.specs.Numbers.{Defined, Undefined, ◌>>=◌}
use Rattle.c_meaning.specs.Scopes.{Scope, Words}
use Rattle.c_meaning.specs.Expressions.{type_of, value_of, operated}
use Rattle.c_meaning.specs.PlaceTrees.{processor, loop_variable, times, place_tree, with_parts, part_tree}
use Rattle.c_meaning.specs.PlaceLaws.{Knows, AreNamed, PlacesHaveValues}
use Rattle.c_meaning.proofs.PlaceRoom.{Fits, IsRoomy, AreRoomy, IsRoomyPart, ints_roomy, named_roomy, times_fits, modulo_fits, over_fits, word_fits, loop_fits, outer_open}
use Rattle.c_meaning.proofs.NumberLaws.{sum_is, product_is, quotient_is, remainder_is, constant_below, widens, widens_right, promotes}

-- the tree has a value in the scope, for which there is room in its type
pub record Has (s : Scope) (words : Words) (tree : CExpr) (n : ℕ) : Type 0 where
  pub value : value_of s words tree ≡ Defined (pos n)
  pub below : n < room (type_of s tree)

pub constant_has : (s : Scope) (words : Words) (n : ℕ) → n < 2 ^ 32 → Has s words (Constant n Bare) n
constant_has s words n h =
    let below : n < room (constant_type Bare n) = constant_below n (omega arith) in
    record { value = ap (λ b. if b then Defined (pos n) else Undefined) (lt-ltb n (room (constant_type Bare n)) below); below = below }

-- a sum and a product of trees
pub sum_has : (s : Scope) (words : Words) (limit : ℕ) (left right : CExpr) (x y : ℕ) → Has s words left x → Has s words right y →
    Fits s limit right → x + y < limit → Has s words (Two Plus Tight left right) (x + y)
sum_has s words limit left right x y h g fits small =
    let below : x + y < room (common (type_of s left) (type_of s right)) =
    omega (arith, fits, widens_right (type_of s left) (type_of s right)) in
    record {
      value =
          ap₂ (λ a b. a >>= λ x. b >>= λ y. operated Plus (type_of s left) (type_of s right) x y) h.value g.value
          ∙ sum_is (type_of s left) (type_of s right) x y h.below g.below below;
      below = below;
    }

pub product_has : (s : Scope) (words : Words) (limit : ℕ) (left right : CExpr) (x y : ℕ) → Has s words left x → Has s words right y →
    Fits s limit left → x * y < limit → Has s words (Two Times Tight left right) (x * y)
product_has s words limit left right x y h g fits small =
    let below : x * y < room (common (type_of s left) (type_of s right)) =
    omega (arith, fits, widens (type_of s left) (type_of s right)) in
    record {
      value =
          ap₂ (λ a b. a >>= λ x. b >>= λ y. operated Times (type_of s left) (type_of s right) x y) h.value g.value
          ∙ product_is (type_of s left) (type_of s right) x y h.below g.below below;
      below = below;
    }

quotient_has : (s : Scope) (words : Words) (left right : CExpr) (x y : ℕ) → Has s words left x → Has s words right y → 0 < y →
    Has s words (Two Over Tight left right) (x / y)
quotient_has s words left right x y h g positive =
    record {
      value =
          ap₂ (λ a b. a >>= λ x. b >>= λ y. operated Over (type_of s left) (type_of s right) x y) h.value g.value
          ∙ quotient_is (type_of s left) (type_of s right) x y h.below g.below positive;
      below = omega (arith, div-le_self x y, h.below, promotes (type_of s left), widens (type_of s left) (type_of s right));
    }

remainder_has : (s : Scope) (words : Words) (left right : CExpr) (x y : ℕ) → Has s words left x → Has s words right y → 0 < y →
    Has s words (Two Modulo Tight left right) (x % y)
remainder_has s words left right x y h g positive =
    record {
      value =
          ap₂ (λ a b. a >>= λ x. b >>= λ y. operated Modulo (type_of s left) (type_of s right) x y) h.value g.value
          ∙ remainder_is (type_of s left) (type_of s right) x y h.below g.below positive;
      below = omega (arith, mod-lt x positive, g.below, promotes (type_of s right), widens_right (type_of s left) (type_of s right));
    }

-- a product with a factor
times_has : (s : Scope) (words : Words) (limit : ℕ) (left : CExpr) (x factor : ℕ) → Has s words left x → factor < 2 ^ 32 →
    Fits s limit left → x * factor < limit → Has s words (times left factor) (x * factor)
times_has s words limit left x factor h small fits below =
    product_has s words limit left (Constant factor Bare) x factor h (constant_has s words factor small) fits below

-- the least of two is below what the greater is below
max_below : (a b limit : ℕ) → max a b < limit → (a < limit) × (b < limit)
max_below a b limit h = (omega arith, omega arith)

module _ (s : Scope) (words : Words) (vs : List ℕ) (q : ℕ) (knows : Knows s vs q) (limit : ℕ) (most : limit ≤ 2 ^ 64) where
  processor_has : Has s words (Named processor) q
  processor_has =
      record { value = knows.processor_value; below = subst (λ type. q < room type) (sym knows.processor_type) knows.processor_below }

  loop_has : (depth : ℕ) → depth < length vs → Has s words (Named (loop_variable depth)) (slice_index vs depth)
  loop_has depth h =
      record {
        value = knows.loop_value depth h;
        below = subst (λ type. slice_index vs depth < room type) (sym (knows.loop_type depth h)) (knows.loop_below depth h);
      }

  grouped_has : (tree : CExpr) (n : ℕ) → Has s words tree n → Has s words (Grouped tree) n
  grouped_has tree n h = record { value = h.value; below = h.below }

  factor_small : (factor : ℕ) → is_small_positive factor ≡ true → factor < 2 ^ 32
  factor_small factor h = ltb-true factor (2 ^ 32) (and_parts (nat_lt 0 factor) _ h).1

  divisor_positive : (divisor : ℕ) → is_small_positive divisor ≡ true → 0 < divisor
  divisor_positive divisor h = ltb-true 0 divisor (and_parts (nat_lt 0 divisor) _ h).0

  mutual
    pub place_has : (place : PlainExpr) → is_sum_within place (length vs) ≡ true → IsRoomy s limit place →
        (sum_numbers place vs q).peak < limit → Has s words (place_tree place) (sum_numbers place vs q).value
    place_has (Sum constant parts) h roomy below =
        let within = and_parts (is_small constant) _ h in
        let peaks = max_below (constant + (parts_numbers parts vs q).value) (parts_numbers parts vs q).peak limit below in
        parts_have parts 0 within.1 roomy peaks.1 (Constant constant Bare) constant
        (constant_has s words constant (ltb-true constant (2 ^ 32) within.0)) peaks.0

    parts_have : (parts : PlainParts) (least : ℕ) → are_parts_within parts (length vs) least ≡ true → AreRoomy s limit parts →
        (parts_numbers parts vs q).peak < limit → (left : CExpr) (m : ℕ) → Has s words left m →
        m + (parts_numbers parts vs q).value < limit → Has s words (with_parts left parts) (m + (parts_numbers parts vs q).value)
    parts_have NoParts least h roomy below left m has small = subst (λ n. Has s words left n) (omega arith) has
    parts_have (AndParts part rest) least h roomy below left m has small =
        let within = and_parts (is_part_within part (length vs)) _ h in
        let more = (and_parts (nat_le least (rank part)) _ within.1).1 in
        let peaks = max_below (one_numbers part vs q).peak (parts_numbers rest vs q).peak limit below in
        let first = part_has part within.0 roomy.1 peaks.0 in
        let a = (one_numbers part vs q).value in
        let b = (parts_numbers rest vs q).value in
        let sum : m + a < limit = omega arith in
        let whole : (m + a) + b < limit = omega arith in
        let both = sum_has s words limit left (part_tree part) m a has first roomy.0 sum in
        let same : (m + a) + b ≡ m + (a + b) = omega arith in
        subst (λ n. Has s words (with_parts left (AndParts part rest)) n) same
        (parts_have rest (next_rank part) more roomy.2 peaks.1 (Two Plus Tight left (part_tree part)) (m + a) both whole)

    part_has : (part : PlainPart) → is_part_within part (length vs) ≡ true → IsRoomyPart s limit part →
        (one_numbers part vs q).peak < limit → Has s words (part_tree part) (one_numbers part vs q).value
    part_has (Proc factor) h roomy below =
        times_has s words limit (Named processor) q factor processor_has (factor_small factor h)
        (word_fits s limit (Named processor) knows.processor_type most) below
    part_has (Var depth factor) h roomy below =
        let within = and_parts (nat_lt depth (length vs)) _ h in
        let is_open = ltb-true depth (length vs) within.0 in
        times_has s words limit (Named (loop_variable depth)) (slice_index vs depth) factor (loop_has depth is_open)
        (factor_small factor within.1) (loop_fits s limit vs q depth knows is_open most) below
    part_has (Product outer inner factor) h roomy below =
        let within = and_parts (nat_lt outer inner) _ h in
        let more = and_parts (nat_lt inner (length vs)) _ within.1 in
        let outer_is = outer_open outer inner (length vs) within.0 more.0 in
        let inner_is = ltb-true inner (length vs) more.0 in
        let first = Named (loop_variable outer) in
        let second = Named (loop_variable inner) in
        let both = slice_index vs outer * slice_index vs inner in
        let peaks = max_below both (both * factor) limit below in
        let fits = loop_fits s limit vs q outer knows outer_is most in
        let product = product_has s words limit first second (slice_index vs outer) (slice_index vs inner)
        (loop_has outer outer_is) (loop_has inner inner_is) fits peaks.0 in
        times_has s words limit (Two Times Tight first second) both factor product (factor_small factor more.1)
        (times_fits s limit first second fits) peaks.1
    part_has (Rem of divisor factor) h roomy below =
        let within = and_parts (is_sum_within of (length vs)) _ h in
        let numbers = and_parts (is_small_positive divisor) _ within.1 in
        let inner = sum_numbers of vs q in
        let peaks = max_below inner.peak (inner.value % divisor * factor) limit below in
        let tree = Grouped (place_tree of) in
        let has = grouped_has (place_tree of) inner.value (place_has of within.0 roomy.1 peaks.0) in
        let rest = remainder_has s words tree (Constant divisor Bare) inner.value divisor has
        (constant_has s words divisor (factor_small divisor numbers.0)) (divisor_positive divisor numbers.0) in
        times_has s words limit (Two Modulo Tight tree (Constant divisor Bare)) (inner.value % divisor) factor rest
        (factor_small factor numbers.1) (modulo_fits s limit tree (Constant divisor Bare) roomy.0) peaks.1
    part_has (Quot of divisor factor) h roomy below =
        let within = and_parts (is_sum_within of (length vs)) _ h in
        let numbers = and_parts (is_small_positive divisor) _ within.1 in
        let inner = sum_numbers of vs q in
        let peaks = max_below inner.peak (inner.value / divisor * factor) limit below in
        let tree = Grouped (place_tree of) in
        let has = grouped_has (place_tree of) inner.value (place_has of within.0 roomy.1 peaks.0) in
        let rest = quotient_has s words tree (Constant divisor Bare) inner.value divisor has
        (constant_has s words divisor (factor_small divisor numbers.0)) (divisor_positive divisor numbers.0) in
        times_has s words limit (Two Over Tight tree (Constant divisor Bare)) (inner.value / divisor) factor rest
        (factor_small factor numbers.1) (over_fits s limit tree (Constant divisor Bare) roomy.0) peaks.1

ints_enough : 2 ^ 31 ≤ 2 ^ 64
ints_enough = omega arith

words_enough : 2 ^ 64 ≤ 2 ^ 64
words_enough = omega arith

pub place_holds : (s : Scope) (words : Words) (vs : List ℕ) (q : ℕ) (place : PlainExpr) → Knows s vs q →
    is_sum_within place (length vs) ≡ true →
    ((sum_numbers place vs q).peak < 2 ^ 31) ⊎ (AreNamed place × ((sum_numbers place vs q).peak < 2 ^ 64)) →
    Has s words (place_tree place) (sum_numbers place vs q).value
place_holds s words vs q place knows within numbers =
    ⊎_elim
    (λ below. place_has s words vs q knows (2 ^ 31) ints_enough place within (ints_roomy s place) below)
    (λ named. place_has s words vs q knows (2 ^ 64) words_enough place within (named_roomy s vs q knows place within named.0) named.1)
    numbers

pub places_have_values : PlacesHaveValues
places_have_values s words vs q place knows within numbers = (place_holds s words vs q place knows within numbers).value
