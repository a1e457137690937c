-- What a machine's methods find.
use Rattle.std.proofs.Common.{⊎_elim, zero, ◌≡◌, ℕ, suc, ◌+◌, ◌<◌, ◌≤◌, List, [], ◌∷◌, length, get_or, Option, None}
use Rattle.std.proofs.Common.{Some, sym, ap, ◌∙◌, arith}
use Rattle.std.specs.Prelude.{slice_index, IfNone}
use Rattle.std.proofs.lemmas.Bool.{false≢true, cases_lt}
use Rattle.std.proofs.lemmas.Grind.{get_or_default_zero}
use Rattle.std.proofs.lemmas.Option.{slice_get-get_or}
use Rattle.icode.specs.declared.action.Action.TheVariants.{Zero}
use Rattle.icode.specs.Machine.{acts, completion, turn}
use Rattle.icode.proofs.Completion.{completion_past, completion_step}
use Rattle.par_machine.specs.declared.machine.Machine.TheInside.{Inside}
use Rattle.par_machine.specs.declared.phase.Routine.{Routine}
use Rattle.par_machine.specs.Lengths.{IsFirstLeft}
use Rattle.par_machine.specs.Position.{Position, first_position}
use Rattle.par_machine.specs.Frame.{total}
use Rattle.par_machine.specs.Processors.{cursors_of}
use Rattle.par_machine.specs.Views.{frame_of, stand_of, running_of, IsWhole}
use Rattle.par_machine.proofs.Frames.{length-positions, places_at, places_past, acts_places, is_code, count_lists}
use Rattle.par_machine.proofs.Frames.{has_lengths, IsHere}
use Rattle.par_machine.proofs.Phases.{over_now}

pub done_is : (a : Inside) (proc done : ℕ) → IsWhole a → proc < a.header.shape.procs →
    done ≡ get_or a.done.items proc done → slice_index a.done.items proc ≡ done
done_is a proc done w lt e = sym (e ∙ get_or_default_zero a.done.items proc done (omega (arith, w.running.dones)))

-- the length of the list of the phase
pub len_is : (a : Inside) (proc : ℕ) (r : Routine) → proc < a.header.shape.procs → a.phase < length a.phases.items →
    r ≡ get_or a.phases.items a.phase r → length (acts (running_of a).code a.phase proc) ≡ r.len
len_is a proc r lt here e =
    acts_places (frame_of a) a.phase proc lt ∙ (ap length (places_at (frame_of a) a.phase r here e) ∙ length-positions r.code.items r.len first_position)

pub len_past : (a : Inside) (proc : ℕ) → proc < a.header.shape.procs → length a.phases.items ≤ a.phase →
    length (acts (running_of a).code a.phase proc) ≡ 0
len_past a proc lt past = acts_places (frame_of a) a.phase proc lt ∙ places_past (frame_of a) a.phase past

pub done_within : (a : Inside) (proc : ℕ) (r : Routine) → IsWhole a → a.phase < length a.phases.items →
    r ≡ get_or a.phases.items a.phase r → slice_index a.done.items proc ≤ r.len
done_within a proc r w here e =
    omega (arith, w.running.within proc, ap length (places_at (frame_of a) a.phase r here e), length-positions r.code.items r.len first_position)

-- where an action is left, there is a phase
pub phase_is_there : (a : Inside) (proc : ℕ) → IsWhole a → proc < a.header.shape.procs →
    slice_index a.done.items proc < length (acts (running_of a).code a.phase proc) → a.phase < length a.phases.items
phase_is_there a proc w lt left =
    ⊎_elim
    (λ (h : a.phase < length a.phases.items). h)
    (λ (h : length a.phases.items ≤ a.phase). absurd (omega (arith, left, len_past a proc lt h)))
    (cases_lt a.phase (length a.phases.items))

pub here_is : (a : Inside) (proc : ℕ) (r : Routine) (cursor : Position) → IsWhole a → proc < a.header.shape.procs →
    slice_index a.done.items proc < length (acts (running_of a).code a.phase proc) →
    r ≡ get_or a.phases.items a.phase r → cursor ≡ get_or (cursors_of a.processors.items) proc cursor →
    IsHere (frame_of a) (stand_of a) proc r cursor
here_is a proc r cursor w lt left er ec =
    let here = phase_is_there a proc w lt left in
    record {
      proc = lt;
      phase = here;
      routine = er;
      cursor_is = ec;
      left = omega (arith, left, len_is a proc r lt here er);
    }

-- The turns that finish the run

pub nothing_left : (a : Inside) → length a.phases.items ≤ a.phase →
    completion (running_of a).code (running_of a).state ≡ []
nothing_left a past = completion_past (running_of a).code (is_code (frame_of a)) (running_of a).state (omega (arith, count_lists (frame_of a), past))

pub next_left : (a : Inside) (q : ℕ) (r : Routine) → IsWhole a → a.phase < length a.phases.items →
    r ≡ get_or a.phases.items a.phase r → IsFirstLeft a.done.items r.len q →
    (q < a.header.shape.procs) × (completion (running_of a).code (running_of a).state ≡ q
    ∷ completion (running_of a).code (turn (running_of a).code (running_of a).state q))
next_left a q r w here e first =
    let inside : q < a.header.shape.procs = omega (arith, first.inside, w.running.dones) in (
      inside,
      completion_step (running_of a).code (is_code (frame_of a)) (running_of a).state q _ w.running.dones inside
          (omega (arith, here, count_lists (frame_of a)))
          (slice_get-get_or (acts (running_of a).code a.phase q) (slice_index a.done.items q) (Zero 0) (omega (arith, first.left, len_is a q r inside here e)))
          (λ k lt. omega (arith, first.none_before k lt, len_is a k r (omega arith) here e)),
    )

pub some_left : (a : Inside) (r : Routine) → IsWhole a → a.phase < length a.phases.items →
    r ≡ get_or a.phases.items a.phase r → ((q : ℕ) → q < length a.done.items → r.len ≤ slice_index a.done.items q) → ⊥
some_left a r w here e none =
    false≢true (sym (over_now (running_of a).code a.phases.items a.phase r a.done.items (has_lengths (frame_of a)) here e (sym w.running.dones) none) ∙ w.running.settled here)

pub if_none : {X : Type 0} {P Q : Type 0} (o : Option X) → (P → Q) → IfNone o P → IfNone o Q
if_none None f p = f p
if_none (Some x) f p = p

pub one_len : (lens : List ℕ) (i : ℕ) → slice_index lens i ≤ total lens
one_len [] i = omega arith
one_len (n ∷ lens) zero = lt_first n (total lens)
  where
    lt_first : (n m : ℕ) → n ≤ n + m
    lt_first n m = omega arith
one_len (n ∷ lens) (suc i) = lt_second n (total lens) (slice_index lens i) (one_len lens i)
  where
    lt_second : (n m k : ℕ) → k ≤ m → k ≤ n + m
    lt_second n m k h = omega arith
