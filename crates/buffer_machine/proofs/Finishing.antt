-- Where no store waits, the machine without buffers finishes the run.
use Rattle.std.proofs.Common.{◌≡◌, ℕ, ◌<◌, ◌≤◌, ◌^◌, List, [], ◌∷◌, false, length, map, replicate, Option, None, Some}
use Rattle.std.proofs.Common.{refl, sym, ap, ap₂, ◌∙◌, subst, arith, ⊎_elim}
use Rattle.std.specs.Prelude.{IfNone}
use Rattle.std.proofs.lemmas.Bool.{cases_lt}
use Rattle.icode.specs.Buffers.{Waiting, Buffered, some_wait, IsBusy, buffered_completion, buffered_finished}
use Rattle.icode.specs.Buffers.{buffered_run}
use Rattle.icode.specs.Machine.{Code, IsCode, State, finished}
use Rattle.icode.proofs.BufferedCompletion.{busy_run, completion_past, finished_ends, next_event}
use Rattle.par_machine.specs.Running.{Running as Machine}
use Rattle.buffer_machine.specs.declared.machine.BufMachine.TheInside.{Inside}
use Rattle.buffer_machine.specs.Lent.{IsHeld, back_from, lent}
use Rattle.buffer_machine.specs.Stand.{Stand, buffered_of, cleared, waits_of, IsStanding}
use Rattle.buffer_machine.specs.Views.{IsWhole}
use Rattle.buffer_machine.specs.Walking.{IsWalking}
use Rattle.buffer_machine.proofs.Direct.{finished_directly, finished_none_done}
use Rattle.buffer_machine.proofs.Standing.{standing_anew}
use Rattle.buffer_machine.proofs.Whole.{code_in, empty_queues, whole_with, with_values}

pub values_held : (code : Code) (t : Stand) → IsStanding code t → IsHeld code t.memory t.registers
values_held code t s =
    record {
      words = s.memory;
      below = s.memory_below;
      files = record { count = s.files; size = s.file; below = s.files_below };
    }

held_standing : (code : Code) (t : Stand) (s : State) → IsHeld code s.memory s.registers → IsStanding code t → IsStanding code (record { memory = s.memory; registers = s.registers; queues = t.queues; phase = t.phase; done = t.done })
held_standing code t s h w =
    record {
      memory = h.words;
      memory_below = h.below;
      files = h.files.count;
      file = h.files.size;
      files_below = h.files.below;
      dones = w.dones;
      lines = w.lines;
      lanes = w.lanes;
      spans = w.spans;
      rooms = w.rooms;
      mosts = w.mosts;
      waiting = w.waiting;
    }

empty_are : (queues : List (List Waiting)) → some_wait queues ≡ false → queues ≡ replicate (length queues) []
empty_are [] e = refl
empty_are ([] ∷ queues) e = ap (λ (qs : List (List Waiting)). [] ∷ qs) (empty_are queues e)
empty_are ((w ∷ queue) ∷ queues) e = cc

-- past all phases there is nothing to finish
pub finished_past : (code : Code) → IsCode code → (b : Buffered) → IsBusy code b → length code.lists ≤ b.state.phase →
    buffered_finished code b ≡ b
finished_past code is b busy ge = ap (buffered_run code b) (completion_past code is b busy ge)

-- a run that is finished has no store that waits
pub finished_quiet : (code : Code) → IsCode code → (b : Buffered) → IsBusy code b → buffered_completion code b ≡ [] →
    some_wait b.queues ≡ false
finished_quiet code is b busy e =
    ⊎_elim
    (λ (lt : b.state.phase < length code.lists). let next = next_event code is b busy lt in absurd (omega (arith, ap length (sym next.1 ∙ e))))
    (λ (ge : length code.lists ≤ b.state.phase). busy.past ge)
    (cases_lt b.state.phase (length code.lists))

pub where_none : {X : Type 0} (o : Option X) (P Q : Type 0) → (P → Q) → IfNone o P → IfNone o Q
where_none None P Q f h = f h
where_none (Some x) P Q f h = h

pub finished_whole : (a : Inside) (v : Stand) (m : Machine) → IsWhole a → some_wait (waits_of a.values.queues) ≡ false →
    a.values.phase < length (code_in a).lists → m.code ≡ a.walker.code →
    m.state ≡ finished (code_in a) (lent a.values a.walker.state) →
    IsHeld (code_in a) m.state.memory m.state.registers → v ≡ back_from m.state a.values →
    IsWhole (with_values a v m) × (buffered_of v ≡ buffered_finished (code_in a) (buffered_of a.values))
finished_whole a v m w none here ec em held ev =
    let code : Code = code_in a in
    let is = w.good.lists in
    let b : Buffered = buffered_of a.values in
    let last : Buffered = buffered_finished code b in
    let at = w.walking.here (w.busy.opens here none) in
    let begins : lent a.values a.walker.state ≡ b.state = ap₂ (λ (p : ℕ) (d : List ℕ). record { memory = a.values.memory; registers = a.values.registers; phase = p; done = d }) at.0 at.1 in
    let ends : m.state ≡ last.state = em ∙ (ap (finished code) begins ∙ sym (finished_directly code is b w.busy none)) in
    let busy : IsBusy code last = busy_run code is (buffered_completion code b) b w.busy in
    let past : length code.lists ≤ last.state.phase = finished_ends code is b w.busy in
    let done : replicate (length a.values.done) 0 ≡ last.state.done = ap (λ n. replicate n 0) w.standing.dones ∙ sym (finished_none_done code is b w.busy here) in
    let queues : waits_of (map cleared a.values.queues) ≡ last.queues =
    empty_queues a.values.queues ∙ (ap (λ n. replicate n []) (w.standing.lines ∙ sym busy.lines) ∙ sym (empty_are last.queues (busy.past past))) in
    let same : buffered_of v ≡ last =
    ap buffered_of ev
    ∙ (ap₂ (λ (d : List ℕ) (qs : List (List Waiting)). record { state = record { memory = m.state.memory; registers = m.state.registers; phase = m.state.phase; done = d }; queues = qs }) done queues
    ∙ ap (λ (s : State). record { state = record { memory = s.memory; registers = s.registers; phase = s.phase; done = last.state.done }; queues = last.queues }) ends) in
    let standing : IsStanding code v = subst (IsStanding code) (sym ev) (standing_anew code (record { memory = m.state.memory; registers = m.state.registers; queues = a.values.queues; phase = a.values.phase; done = a.values.done }) m.state.phase (held_standing code a.values m.state held w.standing)) in
    let few : length (buffered_completion code (buffered_of v)) < 2 ^ 60 = omega (arith, ap (λ (c : Buffered). length (buffered_completion code c)) same, ap length (completion_past code is last busy past)) in
    let walks : IsWalking code (buffered_of v).state m.state = subst (λ (c : Buffered). IsWalking code c.state m.state) (sym same)
    (record {
      here = λ o. (ap (λ (s : State). s.phase) ends, ap (λ (s : State). s.done) ends);
      ahead = λ low c. absurd (omega (arith, low, past));
    }) in (whole_with a v m w ec standing (subst (IsBusy code) (sym same) busy) few walks, same)
