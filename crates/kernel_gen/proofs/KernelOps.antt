-- KernelOps on the machine: each lane does what one lane does.
use Rattle.std.proofs.Common.{◌≡◌, ℕ, zero, suc, ◌+◌, ◌-◌, ◌<◌, ◌≤◌, arith, refl, ap, ap₂, ◌∙◌, List, [], ◌∷◌, ◌++◌}
use Rattle.std.proofs.Common.{length, map, replicate}
use Rattle.std.specs.Prelude.{All, slice_index}
use Rattle.std.specs.List.{range_with_len}
use Rattle.std.proofs.lemmas.List.Elements.{All-nil, All-cons, All-append, All-replicate}
use Rattle.icode.specs.Actions.{lane_factors, plain, step_of}
use Rattle.icode.specs.Machine.{counts_of}
use Rattle.icode.specs.Plain.{PlainProgram}
use Rattle.icode.specs.Sequences.Lanes.{Registers, with_register, lane_effect, lane_effects, AreArithmetic, operations}
use Rattle.icode.specs.Sequences.Lanes.{weighted_of, weighted_operations}
use Rattle.operators.specs.Sum.{list_below}
use Rattle.operators.proofs.Lists.{length-list_below, at-list_below}
use Rattle.ring_mod.specs.Residue.{product_mod}
use Rattle.kernel_gen.specs.declared.straight.KernelOp.{KernelOp}
use Rattle.kernel_gen.specs.declared.straight.KernelOp.TheVariants.{Add, Sub, Neg, Mul}
use Rattle.kernel_gen.specs.KernelOps.{op_of, action_by, actions_by, code_effect, code_cost, AreWithin}
use Rattle.kernel_gen.proofs.Below.{length-joined}
use Rattle.icode.proofs.SequenceLemmas.Tiles.{slice_index-front}

-- the step of an operation of a kernel, in any program, at any values of the loops and on any processor
pub step-is : (p : PlainProgram) (i : KernelOp) (vs : List ℕ) (q : ℕ) →
    step_of p (op_of i) vs q ≡ plain (action_by p.lanes i)
step-is p (Add r x y) vs q = refl
step-is p (Sub r x y) vs q = refl
step-is p (Neg r x) vs q = refl
step-is p (Mul r x c) vs q = refl

-- ---- factors

lane_factor : (lanes lane c : ℕ) → lane < lanes → slice_index (lane_factors lanes (λ _. c)) lane ≡ c
lane_factor lanes lane c below =
    slice_index-front (list_below lanes (λ _. c)) (replicate (16 - lanes) 0) lane (rw (length-list_below lanes (λ _. c)) below)
    ∙ at-list_below lanes (λ _. c) lane below

enough_factors : (lanes c : ℕ) → lanes ≤ length (lane_factors lanes (λ _. c))
enough_factors lanes c =
    let all = length-joined (list_below lanes (λ _. c)) (replicate (16 - lanes) 0) in
    let first = length-list_below lanes (λ _. c) in
    omega arith

-- the factors of lanes are residues, where each is one
pub factors-fit : (m lanes : ℕ) (factor : ℕ → ℕ) → 0 < m → ((lane : ℕ) → factor lane < m) →
    All (λ c. c < m) (lane_factors lanes factor)
factors-fit m lanes factor some small = All-append (λ c. c < m) (list_below lanes factor) (replicate (16 - lanes) 0) (below lanes 0) (All-replicate (λ c. c < m) (16 - lanes) 0 some)
  where
    below : (n from : ℕ) → All (λ c. c < m) (map factor (range_with_len from n))
    below zero from = All-nil (λ c. c < m)
    below (suc n) from = All-cons (λ c. c < m) (factor from) (map factor (range_with_len (from + 1) n)) (small from) (below n (from + 1))

-- ---- on lanes

-- each lane does what one lane does
lane-effect : (m lanes lane : ℕ) (i : KernelOp) (g : Registers) → lane < lanes →
    lane_effect m lane (action_by lanes i) g ≡ lane_effect m 0 (action_by 1 i) g
lane-effect m lanes lane (Add r x y) g there = refl
lane-effect m lanes lane (Sub r x y) g there = refl
lane-effect m lanes lane (Neg r x) g there = refl
lane-effect m lanes lane (Mul r x c) g there = ap (λ f. with_register g r (product_mod m (g x) f)) (lane_factor lanes lane c there)

pub actions-effect : (m lanes lane : ℕ) (code : List KernelOp) (g : Registers) → lane < lanes →
    lane_effects m lane (actions_by lanes code) g ≡ code_effect m code g
actions-effect m lanes lane [] g there = refl
actions-effect m lanes lane (i ∷ code) g there =
    ap (lane_effects m lane (actions_by lanes code)) (lane-effect m lanes lane i g there) ∙ actions-effect m lanes lane code (lane_effect m 0 (action_by 1 i) g) there

-- and costs what it costs there
instruction-cost : (weight lanes : ℕ) (i : KernelOp) → weighted_of weight (action_by lanes i)
    ≡ weighted_of weight (action_by 1 i)
instruction-cost weight lanes (Add r x y) = refl
instruction-cost weight lanes (Sub r x y) = refl
instruction-cost weight lanes (Neg r x) = refl
instruction-cost weight lanes (Mul r x c) = refl

pub actions-cost : (weight lanes : ℕ) (code : List KernelOp) →
    weighted_operations weight (actions_by lanes code) ≡ code_cost weight code
actions-cost weight lanes [] = refl
actions-cost weight lanes (i ∷ code) = ap₂ (λ a b. a + b) (instruction-cost weight lanes i) (actions-cost weight lanes code)

-- an operation of a kernel is one of a program
pub actions-operations : (lanes : ℕ) (code : List KernelOp) → operations (actions_by lanes code) ≡ length code
actions-operations lanes [] = refl
actions-operations lanes (Add r x y ∷ code) = omega (arith, actions-operations lanes code)
actions-operations lanes (Sub r x y ∷ code) = omega (arith, actions-operations lanes code)
actions-operations lanes (Neg r x ∷ code) = omega (arith, actions-operations lanes code)
actions-operations lanes (Mul r x c ∷ code) = omega (arith, actions-operations lanes code)

-- they load and store nothing
pub no-traffic : (lanes : ℕ) (code : List KernelOp) → ((counts_of lanes (actions_by lanes code)).loads ≡ 0)
    × ((counts_of lanes (actions_by lanes code)).stores ≡ 0)
no-traffic lanes [] = (refl, refl)
no-traffic lanes (Add r x y ∷ code) = no-traffic lanes code
no-traffic lanes (Sub r x y ∷ code) = no-traffic lanes code
no-traffic lanes (Neg r x ∷ code) = no-traffic lanes code
no-traffic lanes (Mul r x c ∷ code) = no-traffic lanes code

-- ---- within bounds

pub AreWithin-more : (m a b : ℕ) (code : List KernelOp) → a ≤ b → AreWithin m a code → AreWithin m b code
AreWithin-more m a b [] h are = tt
AreWithin-more m a b (Add r x y ∷ code) h are = ((omega (arith, are.0.0), omega (arith, are.0.1), omega (arith, are.0.2)), AreWithin-more m a b code h are.1)
AreWithin-more m a b (Sub r x y ∷ code) h are = ((omega (arith, are.0.0), omega (arith, are.0.1), omega (arith, are.0.2)), AreWithin-more m a b code h are.1)
AreWithin-more m a b (Neg r x ∷ code) h are = ((omega (arith, are.0.0), omega (arith, are.0.1)), AreWithin-more m a b code h are.1)
AreWithin-more m a b (Mul r x c ∷ code) h are = ((omega (arith, are.0.0), omega (arith, are.0.1), are.0.2), AreWithin-more m a b code h are.1)

pub AreWithin-append : (m bound : ℕ) (xs ys : List KernelOp) → AreWithin m bound xs → AreWithin m bound ys →
    AreWithin m bound (xs ++ ys)
AreWithin-append m bound [] ys are more = more
AreWithin-append m bound (i ∷ xs) ys are more = (are.0, AreWithin-append m bound xs ys are.1 more)

pub actions-arithmetic : (m bound lanes : ℕ) (code : List KernelOp) → AreWithin m bound code →
    AreArithmetic lanes bound (actions_by lanes code)
actions-arithmetic m bound lanes [] are = tt
actions-arithmetic m bound lanes (Add r x y ∷ code) are = (are.0, actions-arithmetic m bound lanes code are.1)
actions-arithmetic m bound lanes (Sub r x y ∷ code) are = (are.0, actions-arithmetic m bound lanes code are.1)
actions-arithmetic m bound lanes (Neg r x ∷ code) are = (are.0, actions-arithmetic m bound lanes code are.1)
actions-arithmetic m bound lanes (Mul r x c ∷ code) are = ((are.0.0, are.0.1, enough_factors lanes c), actions-arithmetic m bound lanes code are.1)
