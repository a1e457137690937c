-- Arithmetic lane by lane.
use Rattle.std.proofs.Common.{◌≡◌, ℕ, ◌+◌, ◌-◌, ◌*◌, ◌<◌, ◌≤◌, ◌≢◌, inl, inr, List, [], ◌∷◌, length, map, replicate}
use Rattle.std.proofs.Common.{refl, sym, ap, ap₂, ◌∙◌, arith, mul-le-mul_left, mul_comm}
use Rattle.std.proofs.lemmas.List.{length-replicate}
use Rattle.std.specs.Prelude.{slice_index}
use Rattle.std.proofs.Math.Path.{fun_ext}
use Rattle.std.proofs.lemmas.Bool.{cases_eq, cases_lt}
use Rattle.std.proofs.lemmas.Bool.Decides.{nat_tests}
use Rattle.ring_mod.specs.Residue.{sum_mod, difference_mod, negation_mod, product_mod}
use Rattle.icode.specs.declared.action.Action.{Action}
use Rattle.icode.specs.declared.action.Action.TheVariants.{Load, Store, Zero, Add, Sub, Neg, Mul, Tile}
use Rattle.icode.specs.declared.action.Counts.{Counts}
use Rattle.icode.specs.Machine.{Local, effect, counted, counts_of, weighted, value_put, register_put, register_of}
use Rattle.icode.specs.Machine.{with_words, lane_by_lane}
use Rattle.icode.proofs.Words.{length-words_at}
use Rattle.icode.specs.Sequences.Lanes.{Registers, lane_of, with_register, lane_effect, lane_effects, IsArithmetic}
use Rattle.icode.specs.Sequences.Lanes.{operations, weighted_of, weighted_operations}
use Rattle.icode.specs.Sequences.Laws.{ArithmeticIsByLane, ListsFollow, MulsAreByLane, OperationsAreByLane}
use Rattle.icode.specs.Sequences.Laws.{WeightedIsByLane}
use Rattle.icode.proofs.SequenceLemmas.Placing.{slice_index-words_at, slice_index-lane_by_lane, length-lane_by_lane}
use Rattle.icode.proofs.SequenceLemmas.Placing.{slice_index-map, length-mapped, slice_index-replicate, length-with_words}
use Rattle.icode.proofs.SequenceLemmas.Placing.{with_words_there, with_words_elsewhere}

pub this_register : (g : Registers) (r v : ℕ) → with_register g r v r ≡ v
this_register g r v = grind (arith, nat_tests)

pub other_register : (g : Registers) (q r v : ℕ) → q ≢ r → with_register g r v q ≡ g q
other_register g q r v other = grind (arith, nat_tests)

-- a register that gets the words vs
pub put_register : (lanes regs r : ℕ) (words vs : List ℕ) (lane v : ℕ) → length vs ≡ lanes → r < regs →
    regs * lanes ≤ length words → lane < lanes → slice_index vs lane ≡ v →
    lane_of lanes (with_words words (r * lanes) vs) lane ≡ with_register (lane_of lanes words lane) r v
put_register lanes regs r words vs lane v size low room below is = fun_ext (λ q. at q)
  where
    fits : r * lanes + length vs ≤ length words
    fits = let a = mul-le-mul_left lanes low in omega arith

    at : (q : ℕ) → lane_of lanes (with_words words (r * lanes) vs) lane q
        ≡ with_register (lane_of lanes words lane) r v q
    at q =
        elim (cases_eq q r) [
          | inl same ↦
              ap (λ k. slice_index (with_words words (r * lanes) vs) (k * lanes + lane)) same
              ∙ with_words_there vs words (r * lanes) lane (omega arith) fits
              ∙ is
              ∙ sym (ap (with_register (lane_of lanes words lane) r v) same ∙ this_register (lane_of lanes words lane) r v)
          | inr other ↦
              with_words_elsewhere vs words (r * lanes) (q * lanes + lane) (λ a b.
              elim (cases_lt q r) [
                | inl lower ↦ let c = mul-le-mul_left lanes lower in omega arith
                | inr higher ↦ let d : r < q = omega arith in let c = mul-le-mul_left lanes d in omega arith
              ])
              ∙ sym (other_register (lane_of lanes words lane) q r v other)
        ]

-- the words of a register, lane by lane
pub lane_word : (lanes : ℕ) (words : List ℕ) (r lane : ℕ) → lane < lanes →
    slice_index (register_of lanes words r) lane ≡ lane_of lanes words lane r
lane_word lanes words r lane below = slice_index-words_at lanes words (r * lanes) lane below

-- one action of arithmetic
pub effect_by_lane : (m lanes regs : ℕ) (action : Action) (s : Local) (lane : ℕ) → IsArithmetic lanes regs action →
    regs * lanes ≤ length s.registers → lane < lanes →
    lane_of lanes (effect m lanes action s).registers lane ≡ lane_effect m lane action (lane_of lanes s.registers lane)
effect_by_lane m lanes regs (Load r address) s lane is room below = absurd is
effect_by_lane m lanes regs (Store address r) s lane is room below = absurd is
effect_by_lane m lanes regs (Tile r x) s lane is room below = absurd is
effect_by_lane m lanes regs (Zero r) s lane is room below =
    put_register lanes regs r s.registers (replicate lanes 0) lane 0 (length-replicate {A = ℕ} lanes 0) is room below (slice_index-replicate lanes 0 lane below)
effect_by_lane m lanes regs (Add r x y) s lane is room below =
    let f = sum_mod m in
    let xs = register_of lanes s.registers x in
    let ys = register_of lanes s.registers y in
    let wide : length xs ≡ lanes = length-words_at lanes s.registers (x * lanes) in
    let wide_too : length ys ≡ lanes = length-words_at lanes s.registers (y * lanes) in
    put_register lanes regs r s.registers (lane_by_lane f xs ys) lane _ (length-lane_by_lane f xs ys (omega arith) ∙ wide) is.0 room below
    (slice_index-lane_by_lane f xs ys lane (omega arith) (omega arith)
    ∙ ap₂ f (lane_word lanes s.registers x lane below) (lane_word lanes s.registers y lane below))
effect_by_lane m lanes regs (Sub r x y) s lane is room below =
    let f = difference_mod m in
    let xs = register_of lanes s.registers x in
    let ys = register_of lanes s.registers y in
    let wide : length xs ≡ lanes = length-words_at lanes s.registers (x * lanes) in
    let wide_too : length ys ≡ lanes = length-words_at lanes s.registers (y * lanes) in
    put_register lanes regs r s.registers (lane_by_lane f xs ys) lane _ (length-lane_by_lane f xs ys (omega arith) ∙ wide) is.0 room below
    (slice_index-lane_by_lane f xs ys lane (omega arith) (omega arith)
    ∙ ap₂ f (lane_word lanes s.registers x lane below) (lane_word lanes s.registers y lane below))
effect_by_lane m lanes regs (Neg r x) s lane is room below =
    let f = negation_mod m in
    let xs = register_of lanes s.registers x in
    let wide : length xs ≡ lanes = length-words_at lanes s.registers (x * lanes) in
    put_register lanes regs r s.registers (map f xs) lane _ (length-mapped f xs ∙ wide) is.0 room below
    (slice_index-map f xs lane (omega arith) ∙ ap f (lane_word lanes s.registers x lane below))
effect_by_lane m lanes regs (Mul r x factors) s lane is room below =
    let f = product_mod m in
    let xs = register_of lanes s.registers x in
    let wide : length xs ≡ lanes = length-words_at lanes s.registers (x * lanes) in
    let enough : lanes ≤ length factors = is.2 in
    put_register lanes regs r s.registers (lane_by_lane f xs factors) lane _ (length-lane_by_lane f xs factors (omega arith) ∙ wide) is.0 room below
    (slice_index-lane_by_lane f xs factors lane (omega arith) (omega arith)
    ∙ ap (λ a. f a (slice_index factors lane)) (lane_word lanes s.registers x lane below))

-- no action changes how many words there are
pub length-registers_after : (m lanes : ℕ) (action : Action) (s : Local) →
    length (effect m lanes action s).registers ≡ length s.registers
length-registers_after m lanes action s = length-with_words (value_put m lanes action s) s.registers (register_put action * lanes)

memory_kept : (m lanes regs : ℕ) (action : Action) (s : Local) → IsArithmetic lanes regs action →
    (effect m lanes action s).memory ≡ s.memory
memory_kept m lanes regs (Load r address) s is = absurd is
memory_kept m lanes regs (Store address r) s is = absurd is
memory_kept m lanes regs (Tile r x) s is = absurd is
memory_kept m lanes regs (Zero r) s is = refl
memory_kept m lanes regs (Add r x y) s is = refl
memory_kept m lanes regs (Sub r x y) s is = refl
memory_kept m lanes regs (Neg r x) s is = refl
memory_kept m lanes regs (Mul r x factors) s is = refl

pub arithmetic_is_by_lane : ArithmeticIsByLane
arithmetic_is_by_lane m lanes regs [] s are room = (refl, λ lane below. refl)
arithmetic_is_by_lane m lanes regs (action ∷ actions) s are room =
    let wide = length-registers_after m lanes action s in
    let rest = arithmetic_is_by_lane m lanes regs actions (effect m lanes action s) are.1 (omega arith) in (
      rest.0 ∙ memory_kept m lanes regs action s are.0,
      λ lane below. rest.1 lane below ∙ ap (lane_effects m lane actions) (effect_by_lane m lanes regs action s lane are.0 room below),
    )

pub lists_follow : ListsFollow
lists_follow m lanes [] second s = refl
lists_follow m lanes (action ∷ first) second s = lists_follow m lanes first second (effect m lanes action s)

pub operations_are_by_lane : OperationsAreByLane
operations_are_by_lane lanes [] = omega arith
operations_are_by_lane lanes (Load r address ∷ actions) = omega (arith, operations_are_by_lane lanes actions)
operations_are_by_lane lanes (Store address r ∷ actions) = omega (arith, operations_are_by_lane lanes actions)
operations_are_by_lane lanes (Zero r ∷ actions) = omega (arith, operations_are_by_lane lanes actions)
operations_are_by_lane lanes (Tile r x ∷ actions) = omega (arith, operations_are_by_lane lanes actions)
operations_are_by_lane lanes (Add r x y ∷ actions) = omega (arith, operations_are_by_lane lanes actions)
operations_are_by_lane lanes (Sub r x y ∷ actions) = omega (arith, operations_are_by_lane lanes actions)
operations_are_by_lane lanes (Neg r x ∷ actions) = omega (arith, operations_are_by_lane lanes actions)
operations_are_by_lane lanes (Mul r x factors ∷ actions) = omega (arith, operations_are_by_lane lanes actions)

pub muls_are_by_lane : MulsAreByLane
muls_are_by_lane lanes [] = omega arith
muls_are_by_lane lanes (Load r address ∷ actions) = omega (arith, muls_are_by_lane lanes actions)
muls_are_by_lane lanes (Store address r ∷ actions) = omega (arith, muls_are_by_lane lanes actions)
muls_are_by_lane lanes (Zero r ∷ actions) = omega (arith, muls_are_by_lane lanes actions)
muls_are_by_lane lanes (Tile r x ∷ actions) = omega (arith, muls_are_by_lane lanes actions)
muls_are_by_lane lanes (Add r x y ∷ actions) = omega (arith, muls_are_by_lane lanes actions)
muls_are_by_lane lanes (Sub r x y ∷ actions) = omega (arith, muls_are_by_lane lanes actions)
muls_are_by_lane lanes (Neg r x ∷ actions) = omega (arith, muls_are_by_lane lanes actions)
muls_are_by_lane lanes (Mul r x factors ∷ actions) = omega (arith, muls_are_by_lane lanes actions)

-- one more multiplication in each lane
more_muls : (more lanes o m : ℕ) → o + lanes + more * (m + lanes) ≡ lanes * (more + 1) + (o + more * m)
more_muls more lanes o m =
    let a : more * (m + lanes) ≡ more * m + more * lanes = omega arith in
    let b : lanes * (more + 1) ≡ lanes * more + lanes = omega arith in
    let c : lanes * more ≡ more * lanes = mul_comm lanes more in
    omega arith

weighted-counted : (weight lanes : ℕ) (action : Action) (c : Counts) → 0 < weight →
    weighted weight (counted lanes action c) ≡ lanes * weighted_of weight action + weighted weight c
weighted-counted weight lanes (Load r address) c some = omega arith
weighted-counted weight lanes (Store address r) c some = omega arith
weighted-counted weight lanes (Zero r) c some = omega arith
weighted-counted weight lanes (Tile r x) c some = omega arith
weighted-counted weight lanes (Add r x y) c some = omega arith
weighted-counted weight lanes (Sub r x y) c some = omega arith
weighted-counted weight lanes (Neg r x) c some = omega arith
weighted-counted weight lanes (Mul r x factors) c some =
    let whole : weight ≡ weight - 1 + 1 = omega arith in
    more_muls (weight - 1) lanes c.operations c.muls ∙ ap (λ w. lanes * w + weighted weight c) (sym whole)

pub weighted_is_by_lane : WeightedIsByLane
weighted_is_by_lane weight lanes [] some = omega arith
weighted_is_by_lane weight lanes (action ∷ actions) some =
    let one = weighted-counted weight lanes action (counts_of lanes actions) some in
    let rest = weighted_is_by_lane weight lanes actions some in
    let spread : lanes * (weighted_of weight action + weighted_operations weight actions) ≡ lanes * weighted_of weight action + lanes * weighted_operations weight actions = omega arith in
    one ∙ ap (λ n. lanes * weighted_of weight action + n) rest ∙ sym spread

-- where a multiplication counts once, all operations do
pub weight_of_one : (actions : List Action) → weighted_operations 1 actions ≡ operations actions
weight_of_one [] = refl
weight_of_one (Load r address ∷ actions) = omega (arith, weight_of_one actions)
weight_of_one (Store address r ∷ actions) = omega (arith, weight_of_one actions)
weight_of_one (Zero r ∷ actions) = omega (arith, weight_of_one actions)
weight_of_one (Tile r x ∷ actions) = omega (arith, weight_of_one actions)
weight_of_one (Add r x y ∷ actions) = omega (arith, weight_of_one actions)
weight_of_one (Sub r x y ∷ actions) = omega (arith, weight_of_one actions)
weight_of_one (Neg r x ∷ actions) = omega (arith, weight_of_one actions)
weight_of_one (Mul r x factors ∷ actions) = omega (arith, weight_of_one actions)
