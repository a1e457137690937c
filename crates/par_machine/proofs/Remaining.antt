-- How many turns finish a run.
use Rattle.std.proofs.Common.{◌≡◌, ℕ, zero, suc, ◌+◌, ◌-◌, ◌*◌, ◌^◌, ◌<◌, ◌≤◌, List, [], ◌∷◌, length, drop, replicate}
use Rattle.std.proofs.Common.{flat_map, refl, ap, ◌∙◌, arith, add-one, le_refl}
use Rattle.std.specs.Prelude.{slice_index}
use Rattle.std.specs.List.{range_with_len}
use Rattle.std.proofs.lemmas.List.{length-append, length-replicate}
use Rattle.std.proofs.Math.Nat.{mul-le-mul, mul-le-mul_left}
use Rattle.icode.specs.Machine.{Code, State, acts, completion, none_done, phases_after, rest_of_phase, whole_phases}
use Rattle.par_machine.specs.declared.machine.Machine.TheInside.{Inside}
use Rattle.par_machine.specs.Frame.{lens_of, total}
use Rattle.par_machine.specs.Views.{frame_of, running_of, IsWhole}
use Rattle.par_machine.proofs.Frames.{has_lengths}

-- turns of n processors, each at most so often
few_by : (g : ℕ → ℕ) (most n first : ℕ) → ((q : ℕ) → q < first + n → g q ≤ most) →
    length (flat_map (λ q. replicate (g q) q) (range_with_len first n)) ≤ n * most
few_by g most zero first h = omega arith
few_by g most (suc n) first h =
    let others = few_by g most n (first + 1) (λ q lt. h q (omega arith)) in
    omega (arith, length-append (replicate (g first) first) (flat_map (λ q. replicate (g q) q) (range_with_len (first + 1) n)), length-replicate (g first) first, h first (omega arith), others)

total_of_none : (k : ℕ) → total (drop k []) ≡ 0
total_of_none zero = refl
total_of_none (suc k) = refl

total_from : (lens : List ℕ) (k : ℕ) → slice_index lens k + total (drop (suc k) lens) ≡ total (drop k lens)
total_from [] k = omega (arith, total_of_none k, total_of_none (suc k))
total_from (n ∷ lens) zero = refl
total_from (n ∷ lens) (suc k) = total_from lens k

total_after : (lens : List ℕ) (k : ℕ) → slice_index lens k + total (drop (k + 1) lens) ≡ total (drop k lens)
total_after lens k = ap (λ i. slice_index lens k + total (drop i lens)) (add-one k) ∙ total_from lens k

total_behind : (lens : List ℕ) (k : ℕ) → total (drop k lens) ≤ total lens
total_behind [] k = omega (arith, total_of_none k)
total_behind (n ∷ lens) zero = le_refl (total (n ∷ lens))
total_behind (n ∷ lens) (suc k) = omega (arith, total_behind lens k)

module _ (code : Code) (lens : List ℕ) (each : (phase q : ℕ) → q < code.procs →
    length (acts code phase q) ≡ slice_index lens phase) where
  -- of one phase and those after it
  few_with : (phase : ℕ) (done more : List ℕ) → length more ≤ code.procs * total (drop (phase + 1) lens) →
      length (rest_of_phase code phase done) + length more ≤ code.procs * total (drop phase lens)
  few_with phase done more le =
      let here = few_by (λ q. length (acts code phase q) - slice_index done q) (slice_index lens phase) code.procs 0 (λ q lt. omega (arith, each phase q (omega arith))) in
      omega (arith, here, le, ap (λ n. code.procs * n) (total_after lens phase))

  few_phases : (n phase : ℕ) → length (whole_phases code n phase) ≤ code.procs * total (drop phase lens)
  few_phases zero phase = omega arith
  few_phases (suc n) phase =
      let more : List ℕ = whole_phases code n (phase + 1) in
      omega (arith, length-append (rest_of_phase code phase (none_done code)) more, few_with phase (none_done code) more (few_phases n (phase + 1)))

  few_turns : (s : State) → length (completion code s) ≤ code.procs * total lens
  few_turns s =
      let more : List ℕ = whole_phases code (phases_after code s.phase) (s.phase + 1) in
      omega (arith, length-append (rest_of_phase code s.phase s.done) more, few_with s.phase s.done more (few_phases (phases_after code s.phase) (s.phase + 1)), mul-le-mul_left code.procs (total_behind lens s.phase))

pub few_left : (a : Inside) → IsWhole a → length (completion (running_of a).code (running_of a).state) < 2 ^ 63
few_left a w =
    let turns = few_turns (running_of a).code (lens_of a.phases.items) (has_lengths (frame_of a)).each (running_of a).state in
    let procs : a.header.shape.procs ≤ 16 = w.ready.limits.of_procs.1 in
    let actions : total (lens_of a.phases.items) ≤ 2 ^ 59 - 1 = omega (arith, w.ready.few) in
    omega (arith, turns, mul-le-mul procs actions)
