-- What a machine keeps.
use Rattle.std.proofs.Common.{◌≡◌, ℕ, zero, suc, Bool, cond, true, false, ⊎_elim, ◌+◌, ◌-◌, ◌*◌, ◌<◌, ◌≤◌, ◌^◌, List}
use Rattle.std.proofs.Common.{[], ◌∷◌, ◌++◌, length, map, drop, replicate, Some, refl, sym, ap, ap₂, ◌∙◌, subst, arith}
use Rattle.std.proofs.Common.{length-append, get_or, ◌≢◌}
use Rattle.std.specs.Prelude.{slice_get, slice_index, slice_index_or, slice_set}
use Rattle.std.proofs.lemmas.List.{get_or_read, get_or-replicate, length-replicate, length-map}
use Rattle.std.proofs.lemmas.List.{replicate-append-replicate}
use Rattle.std.proofs.lemmas.Bool.{cases_lt, false≢true}
use Rattle.std.proofs.lemmas.Option.{slice_get_within}
use Rattle.icode.specs.declared.action.Action.{Action}
use Rattle.icode.specs.declared.event.Event.{Event}
use Rattle.icode.specs.declared.event.Event.TheVariants.{Turn, Drain}
use Rattle.icode.specs.declared.program.Program.{Program}
use Rattle.icode.specs.Actions.{Step}
use Rattle.icode.specs.Buffers.{Waiting, Buffered, some_wait, IsBusy, buffered_completion}
use Rattle.icode.specs.Buffers.{stores_among, buffered_start, buffered_turn, buffered_turn_with, buffered_moved_on}
use Rattle.icode.specs.Buffers.{buffered_step, drain, drain_with}
use Rattle.icode.specs.Operation.{AddressFits}
use Rattle.icode.specs.Machine.{Code, IsCode, State, acts, padded, start, first_open, whole_lines, is_open}
use Rattle.icode.specs.Machine.{phases_after, none_done, next_action, moved_on, acted, turn_with, turn}
use Rattle.icode.specs.Program.{plain_program, code_of, Fits, steps}
use Rattle.icode.proofs.Below.{below-padded}
use Rattle.icode.proofs.BufferedCompletion.{busy_step, starts_busy, waits_within}
use Rattle.icode.proofs.End.{slice_index-zeros}
use Rattle.icode.proofs.Completion.{first_opens}
use Rattle.icode.proofs.Runs.{open_at}
use Rattle.icode.proofs.Lists.{code_is, list_small}
use Rattle.icode.proofs.Residues.{AreBelow, below-zeros}
use Rattle.icode.proofs.StoreCounts.{stores_first}
use Rattle.icode.proofs.BufferedCompletion.{drop_at}
use Rattle.buffer_machine.specs.declared.machine.BufMachine.TheInside.{Inside}
use Rattle.buffer_machine.specs.Backlog.{Backlog}
use Rattle.buffer_machine.specs.Drains.{IsWritten}
use Rattle.buffer_machine.specs.Fresh.{empty_queue, zero_stand}
use Rattle.buffer_machine.specs.Good.{IsGood}
use Rattle.buffer_machine.specs.Walking.{IsWalking}
use Rattle.buffer_machine.specs.Ready.{CanAct}
use Rattle.par_machine.specs.Running.{Running as Machine}
use Rattle.par_machine.specs.Skipped.{skipped}
use Rattle.buffer_machine.specs.Stand.{Stand, backlog_at, waits_of, buffered_of, acted_stand, cleared, first_busy}
use Rattle.buffer_machine.specs.Stand.{settled_stand, first_stand, HasLens, AreSound, IsStanding}
use Rattle.buffer_machine.specs.Running.{Running}
use Rattle.buffer_machine.specs.Views.{IsWhole, running_of}
use Rattle.buffer_machine.proofs.Fitting.{can_be_done, acts_steps}
use Rattle.buffer_machine.proofs.CompletionLengths.{few_step, few_start, few_events}
use Rattle.buffer_machine.proofs.Lens.{acts_none}
use Rattle.buffer_machine.proofs.Standing.{queue_is, standing_acted, acted_buffered, settled_buffered, standing_settled}
use Rattle.buffer_machine.proofs.Standing.{standing_anew, standing_written, written_buffered, first_is_busy}
use Rattle.par_machine.proofs.Starts.{room_for}

abbrev next_of : Code → State → State
next_of code s = record { memory = s.memory; registers = s.registers; phase = first_open code (phases_after code s.phase) (s.phase + 1); done = none_done code }

abbrev pub code_in : Inside → Code
code_in a = a.walker.code

-- A program is good

pub good : (p : Program) → Fits p → IsGood (code_of p)
good p fits =
    record {
      lists = code_is (plain_program p);
      modulus = omega (arith, p.header.of_modulus.0);
      procs = omega (arith, p.header.of_procs.0);
      size = room_for p.size p.line (omega (arith, p.header.of_line.0));
      few = λ phase q small. ⊎_elim
          (λ (lt : phase < length p.phases.items). omega (arith, list_small p fits phase q lt small, ap length (acts_steps (plain_program p) phase q small), length-map (steps p phase q) (λ (s : Step). s.action)))
          (λ (ge : length p.phases.items ≤ phase). omega (arith, ap length (acts_none p phase q ge)))
          (cases_lt phase (length p.phases.items));
      each = λ phase q i a small e. can_be_done p fits phase q i a small e;
      events = few_events (plain_program p) fits;
    }

-- The same machine with other values

abbrev pub with_values : Inside → Stand → Machine → Inside
with_values a v m = record { shape = a.shape; lens = a.lens; values = v; walker = m }

-- few events are left after a step, and at the start
few_after : (code : Code) (b t : Buffered) (event : Event) → IsCode code → IsBusy code b →
    length (buffered_completion code b) < 2 ^ 60 → t ≡ buffered_step code b event →
    length (buffered_completion code t) < 2 ^ 60
few_after code b t event is busy few e = omega (arith, few, few_step code is b event busy, ap (λ (c : Buffered). length (buffered_completion code c)) e)

few_at_start : (code : Code) → IsGood code → (t : Buffered) (x : List ℕ) → t ≡ buffered_start code x →
    length (buffered_completion code t) < 2 ^ 60
few_at_start code g t x e = omega (arith, g.events, few_start code g.lists x, ap (λ (c : Buffered). length (buffered_completion code c)) e)

pub whole_with : (a : Inside) (v : Stand) (m : Machine) → IsWhole a → m.code ≡ a.walker.code →
    IsStanding (code_in a) v → IsBusy (code_in a) (buffered_of v) →
    length (buffered_completion (code_in a) (buffered_of v)) < 2 ^ 60 →
    IsWalking (code_in a) (buffered_of v).state m.state → IsWhole (with_values a v m)
whole_with a v m w same standing busy few walking =
    record {
      good = subst IsGood (sym same) w.good;
      modulus = w.modulus ∙ ap (λ (c : Code). c.modulus) (sym same);
      procs = w.procs ∙ ap (λ (c : Code). c.procs) (sym same);
      lanes = w.lanes ∙ ap (λ (c : Code). c.lanes) (sym same);
      regs = w.regs ∙ ap (λ (c : Code). c.regs) (sym same);
      lens = subst (λ (c : Code). HasLens c a.lens.items) (sym same) w.lens;
      standing = subst (λ (c : Code). IsStanding c v) (sym same) standing;
      busy = subst (λ (c : Code). IsBusy c (buffered_of v)) (sym same) busy;
      few = subst (λ (c : Code). length (buffered_completion c (buffered_of v)) < 2 ^ 60) (sym same) few;
      walking = subst (λ (c : Code). IsWalking c (buffered_of v).state m.state) (sym same) walking;
    }

-- The phase, and how many actions a processor has in it

module _ {a : Inside} {phase : ℕ} (w : IsWhole a) (is : phase ≡ a.values.phase)
    (some : phase ≢ length a.lens.items) where
  pub phase_there : a.values.phase < length a.lens.items
  phase_there = omega (arith, w.busy.within, w.lens.count)

  pub len_there : (len : ℕ) → len ≡ get_or a.lens.items phase len → len ≡ slice_index a.lens.items a.values.phase
  len_there len e =
      get_or_read a.lens.items phase len (omega (arith, phase_there)) e 0 ∙ ap (slice_index a.lens.items) is

-- A turn

-- the processor has an action left
pub record HasLeft (a : Inside) (q : ℕ) : Type 0 where
  pub whole : IsWhole a
  pub proc : q < (code_in a).procs
  pub phase : a.values.phase < length a.lens.items
  pub left : slice_index a.values.done q < slice_index a.lens.items a.values.phase

pub has_left : {a : Inside} {r : Running} {phase len done : ℕ} (q : ℕ) → IsWhole a → running_of a ≡ r →
    q < r.code.procs → phase ≡ a.values.phase → phase ≢ length a.lens.items → len ≡ get_or a.lens.items phase len →
    done ≡ slice_index a.values.done q → done < len → HasLeft a q
has_left {a} {r} {phase} {len} {done} q w view proc is some read e lt =
    record {
      whole = w;
      proc = omega (arith, ap (λ (r : Running). r.code.procs) view);
      phase = phase_there w is some;
      left = omega (arith, len_there w is some len read);
    }

module _ {a : Inside} {q : ℕ} (h : HasLeft a q) where
  -- the phase is open
  open_here : is_open (code_in a) a.values.phase a.values.done ≡ true
  open_here =
      open_at (code_in a) a.values.phase a.values.done q h.proc
      (omega (arith, h.left, h.whole.lens.each a.values.phase q h.proc))

  pub walker_left : slice_index a.walker.state.done q < length (acts (code_in a) a.walker.state.phase q)
  walker_left =
      let at = h.whole.walking.here open_here in
      let len = h.whole.lens.each a.values.phase q h.proc in
      omega (
        arith,
        len,
        h.left,
        ap (λ (phase : ℕ). length (acts (code_in a) phase q)) at.0,
        ap (λ (done : List ℕ). slice_index done q) at.1,
      )

  -- it does the action that the walker tells
  module _ {action : Action} (told : next_action (code_in a) a.walker.state q ≡ Some action) where
    pub action_is : next_action (code_in a) (buffered_of a.values).state q ≡ Some action
    action_is =
        let at = h.whole.walking.here open_here in
        sym (ap₂ (λ (phase : ℕ) (done : List ℕ). slice_get (acts (code_in a) phase q) (slice_index done q)) at.0 at.1)
        ∙ told

    pub can_act : CanAct a.shape.modulus a.shape.lanes a.shape.regs q action a.values
    can_act =
        let code : Code = code_in a in
        let w = h.whole in
        let s = w.standing in
        let xs : List Action = acts code a.values.phase q in
        let i : ℕ = slice_index a.values.done q in
        let can = w.good.each a.values.phase q i action h.proc action_is in
        let few = w.good.few a.values.phase q h.proc in
        let room : stores_among (action ∷ []) ≤ stores_among (drop i xs) =
        omega (arith, ap stores_among (drop_at xs i action action_is), stores_first action (drop (suc i) xs)) in
        subst (λ m. CanAct m a.shape.lanes a.shape.regs q action a.values) (sym w.modulus)
        (subst (λ lanes. CanAct code.modulus lanes a.shape.regs q action a.values) (sym w.lanes)
        (subst (λ regs. CanAct code.modulus code.lanes regs q action a.values) (sym w.regs)
        (record {
          registers = omega (arith, h.proc, s.files);
          queues = omega (arith, h.proc, s.lines);
          dones = omega (arith, h.proc, s.dones);
          few = omega (arith, few, slice_get_within xs i action action_is);
          named = can.named;
          factors = can.factors;
          address = subst (λ span. AddressFits code.lanes span action) (sym s.memory) can.address;
          file = s.file q h.proc;
          residues = s.files_below q;
          room = omega (arith, room, s.rooms q h.proc);
          span = s.spans q h.proc ∙ sym s.memory;
          lanes_are = s.lanes q h.proc;
        })))

-- The walker keeps up

-- after an action, before the phase moves on
walking_acted : (code : Code) (s m n : State) (q : ℕ) (action : Action) → s.phase < length code.lists →
    is_open code s.phase s.done ≡ true → IsWalking code s m → next_action code m q ≡ Some action →
    n ≡ skipped code m q → (t : State) → t.phase ≡ s.phase → t.done ≡ slice_set s.done q (suc (slice_index s.done q)) →
    IsWalking code t n
walking_acted code s m n q action lt opened w e en t ep ed =
    let at = w.here opened in
    let done : List ℕ = slice_set m.done q (suc (slice_index m.done q)) in
    let same : done ≡ t.done = ap (λ (d : List ℕ). slice_set d q (suc (slice_index d q))) at.1 ∙ sym ed in
    let phase : m.phase ≡ t.phase = at.0 ∙ sym ep in
    let acts : turn code m q ≡ moved_on code (acted code q action m) = ap (turn_with code q m) e in
    let goes : n.phase ≡ (turn code m q).phase = ap (λ (s : State). s.phase) en in
    let does : n.done ≡ (turn code m q).done = ap (λ (s : State). s.done) en in
    record {
      here = λ o.
          let open_m : is_open code m.phase done ≡ true = ap₂ (is_open code) phase same ∙ o in
          let is : turn code m q ≡ acted code q action m = acts ∙ ap (λ b. cond b (acted code q action m) (next_of code (acted code q action m))) open_m in
          (goes ∙ (ap (λ (s : State). s.phase) is ∙ phase), does ∙ (ap (λ (s : State). s.done) is ∙ same));
      ahead = λ low c.
          let closed_m : is_open code m.phase done ≡ false = ap₂ (is_open code) phase same ∙ c in
          let is : turn code m q ≡ next_of code (acted code q action m) = acts ∙ ap (λ b. cond b (acted code q action m) (next_of code (acted code q action m))) closed_m in
          (goes ∙ (ap (λ (s : State). s.phase) is ∙ ap (λ k. first_open code (phases_after code k) (k + 1)) phase), does ∙ ap (λ (s : State). s.done) is);
    }

-- as the phase moves on
walking_moved : (code : Code) → IsCode code → (b : Buffered) (m : State) → b.state.phase < length code.lists →
    IsWalking code b.state m → IsWalking code (buffered_moved_on code b).state m
walking_moved code is b m lt w = at (some_wait b.queues) (is_open code b.state.phase b.state.done) refl
  where
    at : (c o : Bool) → is_open code b.state.phase b.state.done ≡ o →
        IsWalking code (cond c b.state (cond o b.state (next_of code b.state))) m
    at true o eo = w
    at false true eo = w
    at false false eo =
        let next = w.ahead lt eo in
        record {
          here = λ o. next;
          ahead = λ low c. absurd (false≢true (sym c ∙ first_opens code is (phases_after code b.state.phase) (b.state.phase + 1) (omega (arith, low))));
        }

-- after an event that a stand is reached by, and the phase's move
settled_whole : (a : Inside) (event : Event) (u v : Stand) (m : Machine) → IsWhole a → IsStanding (code_in a) u →
    u.phase < length a.lens.items → v ≡ settled_stand a.lens.items u → m.code ≡ a.walker.code →
    IsWalking (code_in a) (buffered_of u).state m.state → buffered_moved_on (code_in a) (buffered_of u)
    ≡ buffered_step (code_in a) (buffered_of a.values) event →
    IsWhole (with_values a v m) × (buffered_of v ≡ buffered_step (code_in a) (buffered_of a.values) event)
settled_whole a event u v m w standing lt ev ec step does =
    let code : Code = code_in a in
    let is = w.good.lists in
    let b : Buffered = buffered_of a.values in
    let moved : buffered_of v ≡ buffered_moved_on code (buffered_of u) =
    ap buffered_of ev ∙ settled_buffered code a.lens.items w.lens u w.good.procs standing.dones in
    let same : buffered_of v ≡ buffered_step code b event = moved ∙ does in
    let walks = walking_moved code is (buffered_of u) m.state (omega (arith, lt, w.lens.count)) step in (
      whole_with a v m w ec (subst (IsStanding code) (sym ev) (standing_settled code a.lens.items u standing))
          (subst (IsBusy code) (sym same) (busy_step code is b event w.busy))
          (few_after code b (buffered_of v) event is w.busy w.few same)
          (subst (λ (c : Buffered). IsWalking code c.state m.state) (sym moved) walks),
      same,
    )

pub turned : {a : Inside} {q : ℕ} {action : Action} (v : Stand) (m : Machine) → HasLeft a q →
    next_action (code_in a) a.walker.state q ≡ Some action →
    v ≡ settled_stand a.lens.items (acted_stand a.shape.modulus a.shape.lanes q action a.values) →
    m.code ≡ a.walker.code → m.state ≡ skipped (code_in a) a.walker.state q →
    IsWhole (with_values a v m) × (buffered_of v ≡ buffered_turn (code_in a) (buffered_of a.values) q)
turned {a} {q} {action} v m h told ev ec em =
    let code : Code = code_in a in
    let w = h.whole in
    let b : Buffered = buffered_of a.values in
    let e = action_is h told in
    let acted_now : Stand = acted_stand code.modulus code.lanes q action a.values in
    let ev1 : v ≡ settled_stand a.lens.items acted_now = ev ∙ ap₂ (λ m lanes. settled_stand a.lens.items (acted_stand m lanes q action a.values)) w.modulus w.lanes in
    let can = w.good.each a.values.phase q (slice_index a.values.done q) action h.proc e in
    let low : a.values.phase < length code.lists = omega (arith, h.phase, w.lens.count) in
    let step = walking_acted code b.state a.walker.state m.state q action low (open_here h) w.walking
    told em (buffered_of acted_now).state refl refl in
    settled_whole a (Turn q) acted_now v m w
    (standing_acted code a.values q action w.good.modulus w.standing h.proc e can.address) h.phase ev1 ec step
    (ap (buffered_moved_on code) (acted_buffered code a.values q action) ∙ ap (buffered_turn_with code q b) (sym e))

-- A drain

pub drain_within : (a : Inside) (q address : ℕ) (u : Stand) → IsWhole a → IsWritten q a.values u address →
    u.phase < length a.lens.items
drain_within a q address u w wr =
    omega (arith, wr.phase, w.lens.count, waits_within (code_in a) w.good.lists (buffered_of a.values) q wr.drained.oldest wr.queue.waiting w.busy (queue_is a.values.queues q ∙ wr.drained.splits))

pub drained : (a : Inside) (q address : ℕ) (u v : Stand) → IsWhole a → q < (code_in a).procs →
    IsWritten q a.values u address → v ≡ settled_stand a.lens.items u →
    IsWhole (with_values a v a.walker) × (buffered_of v ≡ drain (code_in a) (buffered_of a.values) q)
drained a q address u v w lt wr ev =
    let code : Code = code_in a in
    let b : Buffered = buffered_of a.values in
    let there = queue_is a.values.queues q ∙ wr.drained.splits in
    let same : is_open code a.values.phase a.values.done ≡ is_open code u.phase u.done =
    ap₂ (is_open code) (sym wr.phase) (sym wr.done) in
    let step : IsWalking code (buffered_of u).state a.walker.state = record {
      here = λ o. let at = w.walking.here (same ∙ o) in (at.0 ∙ sym wr.phase, at.1 ∙ sym wr.done);
      ahead = λ low c. let at = w.walking.ahead (omega (arith, low, wr.phase)) (same ∙ c) in
          (at.0 ∙ ap (λ k. first_open code (phases_after code k) (k + 1)) (sym wr.phase), at.1);
    } in
    settled_whole a (Drain q) u v a.walker w
    (standing_written code a.values u q address w.standing lt wr) (drain_within a q address u w wr) ev refl step
    (ap (buffered_moved_on code) (written_buffered code a.values u q address wr) ∙ ap (drain_with code q b) (sym there))

-- A beginning

zero_files : (files : List (List ℕ)) (k : ℕ) → ((q : ℕ) → q < length files → length (slice_index_or files q []) ≡ k) → map (λ (file : List ℕ). replicate {A = ℕ} (length file) 0) files ≡ replicate (length files) (replicate {A = ℕ} k 0)
zero_files [] k h = refl
zero_files (f ∷ files) k h = ap₂ (λ (x : List ℕ) (xs : List (List ℕ)). x ∷ xs) (ap (λ n. replicate {A = ℕ} n 0) (h 0 (omega arith))) (zero_files files k (λ q lt. h (suc q) (omega arith)))

pub empty_queues : (queues : List Backlog) → waits_of (map cleared queues) ≡ replicate (length queues) []
empty_queues [] = refl
empty_queues (l ∷ queues) = ap (λ (xs : List (List Waiting)). [] ∷ xs) (empty_queues queues)

file_of_zeros : (m : ℕ) (files : List (List ℕ)) (q : ℕ) → 0 < m →
    AreBelow m (slice_index_or (map (λ (file : List ℕ). replicate (length file) 0) files) q [])
file_of_zeros m [] q pos = λ j. pos
file_of_zeros m (f ∷ files) zero pos = below-zeros m (length f) pos
file_of_zeros m (f ∷ files) (suc q) pos = file_of_zeros m files q pos

file_size : (files : List (List ℕ)) (q : ℕ) → length {A = ℕ} (slice_index_or (map (λ (file : List ℕ). replicate (length file) 0) files) q []) ≡ length (slice_index_or files q [])
file_size [] q = refl
file_size (f ∷ files) zero = length-replicate {A = ℕ} (length f) 0
file_size (f ∷ files) (suc q) = file_size files q

module _ (p : Code) (lens : List ℕ) (h : HasLens p lens) (g : IsGood p) where
  pub first_standing : (t : Stand) (x : List ℕ) → length x ≤ length t.memory → AreBelow p.modulus x → IsStanding p t →
      IsStanding p (first_stand lens x t)
  first_standing t x le below s =
      let pos : 0 < p.modulus = g.modulus in
      let anew = standing_anew p t (first_busy lens (length lens) 0) s in
      record {
        memory = length-append x (replicate (length t.memory - length x) 0) ∙ omega (arith, s.memory, length-replicate {A = ℕ} (length t.memory - length x) 0);
        memory_below = below-padded p.modulus (length t.memory - length x) x pos below;
        files = length-map t.registers _ ∙ s.files;
        file = λ q lt. file_size t.registers q ∙ s.file q lt;
        files_below = λ q. file_of_zeros p.modulus t.registers q pos;
        dones = anew.dones;
        lines = anew.lines;
        lanes = anew.lanes;
        spans = anew.spans;
        rooms = anew.rooms;
        mosts = anew.mosts;
        waiting = anew.waiting;
      }

  -- the state of the first stand, where so much of memory is given
  first_state : (t : Stand) (x y : List ℕ) → y ++ replicate (length t.memory - length y) 0 ≡ x
      ++ replicate (4 * padded p - p.size) 0 → IsStanding p t → buffered_of (first_stand lens y t) ≡ buffered_start p x
  first_state t x y e s =
      let pos : 0 < p.procs = g.procs in
      let registers : map (λ (file : List ℕ). replicate (length file) 0) t.registers ≡ replicate p.procs (replicate (p.regs * p.lanes) 0) =
      zero_files t.registers (p.regs * p.lanes) (λ q lt. s.file q (omega (arith, s.files))) ∙ ap (λ n. replicate n (replicate (p.regs * p.lanes) 0)) s.files in
      let queues : waits_of (map cleared t.queues) ≡ replicate p.procs [] = empty_queues t.queues ∙ ap (λ n. replicate n []) s.lines in
      let phase : first_busy lens (length lens) 0 ≡ first_open p (length p.lists) 0 =
      ap (λ n. first_busy lens n 0) (sym h.count) ∙ sym (first_is_busy p lens h pos (length p.lists) 0) in
      let done : replicate (length t.done) 0 ≡ replicate p.procs 0 = ap (λ n. replicate n 0) s.dones in
      state_of _ _ _ _ _ _ _ _ _ _ e registers phase done queues
    where
      state_of : (m n : List ℕ) (r s : List (List ℕ)) (i j : ℕ) (d e : List ℕ) (q k : List (List Waiting)) → m ≡ n → r ≡ s → i ≡ j → d ≡ e → q ≡ k → ◌≡◌ {A = Buffered} (record { state = record { memory = m; registers = r; phase = i; done = d }; queues = q }) (record { state = record { memory = n; registers = s; phase = j; done = e }; queues = k })
      state_of m n r s i j d e q k em er ei ed eq = cc

  pub put_state : (t : Stand) (x : List ℕ) → length x ≡ p.size → IsStanding p t →
      buffered_of (first_stand lens x t) ≡ buffered_start p x
  put_state t x size s = first_state t x x (ap₂ (λ n k. x ++ replicate (n - k) 0) s.memory size) s

  pub new_state : (t : Stand) → IsStanding p t → buffered_of (first_stand lens [] t)
      ≡ buffered_start p (replicate p.size 0)
  new_state t s =
      let room : p.size ≤ padded p = g.size in
      let all : p.size + (4 * padded p - p.size) ≡ length t.memory - 0 = omega (arith, s.memory) in
      first_state t (replicate p.size 0) [] (ap (λ n. replicate n 0) (sym all) ∙ sym (replicate-append-replicate p.size (4 * padded p - p.size) 0)) s

pub busy_at_start : (code : Code) → IsCode code → (t : Stand) (x : List ℕ) → buffered_of t ≡ buffered_start code x →
    IsBusy code (buffered_of t)
busy_at_start code is t x e = subst (IsBusy code) (sym e) (starts_busy code is x)

pub walking_at_start : (code : Code) → IsCode code → (t : Stand) (m : State) (x y : List ℕ) →
    buffered_of t ≡ buffered_start code x → m ≡ start code y → IsWalking code (buffered_of t).state m
walking_at_start code is t m x y e em =
    subst (λ (b : Buffered). IsWalking code b.state m) (sym e)
    (record {
      here = λ o. (ap (λ (s : State). s.phase) em, ap (λ (s : State). s.done) em);
      ahead = λ low c. absurd (false≢true (sym c ∙ first_opens code is (length code.lists) 0 (omega (arith, low))));
    })

pub put_whole : (a : Inside) (x : List ℕ) (v : Stand) (m : Machine) → IsWhole a →
    v ≡ first_stand a.lens.items x a.values → length x ≡ (code_in a).size → AreBelow (code_in a).modulus x →
    m.code ≡ a.walker.code → m.state ≡ start (code_in a) x →
    IsWhole (with_values a v m) × (buffered_of v ≡ buffered_start (code_in a) x)
put_whole a x v m w ev size below ec em =
    let p : Code = code_in a in
    let standing : IsStanding p v = subst (IsStanding p) (sym ev) (first_standing p a.lens.items w.lens w.good a.values x (omega (arith, w.standing.memory, w.good.size)) below w.standing) in
    let same : buffered_of v ≡ buffered_start p x = ap buffered_of ev ∙ put_state p a.lens.items w.lens w.good a.values x size w.standing in
    (whole_with a v m w ec standing (busy_at_start p w.good.lists v x same) (few_at_start p w.good (buffered_of v) x same) (walking_at_start p w.good.lists v m.state x x same em), same)

-- A new machine

zero_standing : (p : Program) (most : ℕ) → ((phase q : ℕ) → q < p.procs →
    stores_among (acts (code_of p) phase q) ≤ most) → IsStanding (code_of p)
    (zero_stand (padded (code_of p)) p.procs (p.regs * p.lanes) p.lanes most)
zero_standing p most h =
    let pos : 0 < p.modulus = omega (arith, p.header.of_modulus.0) in
    let l : Backlog = empty_queue p.lanes most (4 * padded (code_of p)) in
    let at : (q : ℕ) → q < p.procs → backlog_at (replicate p.procs l) q ≡ l = λ q lt. get_or-replicate p.procs q l (record { lanes = 0; waiting = []; room = 0; most = 0; span = 0 }) lt in
    record {
      memory = length-replicate {A = ℕ} (4 * padded (code_of p)) 0;
      memory_below = below-zeros p.modulus (4 * padded (code_of p)) pos;
      files = length-replicate p.procs (replicate {A = ℕ} (p.regs * p.lanes) 0);
      file = λ q lt. ap length (get_or-replicate p.procs q (replicate {A = ℕ} (p.regs * p.lanes) 0) [] lt) ∙ length-replicate {A = ℕ} (p.regs * p.lanes) 0;
      files_below = λ q. zeros_below p.modulus p.procs (p.regs * p.lanes) q pos;
      dones = length-replicate {A = ℕ} p.procs 0;
      lines = length-replicate p.procs l;
      lanes = λ q lt. ap (λ (l : Backlog). l.lanes) (at q lt);
      spans = λ q lt. ap (λ (l : Backlog). l.span) (at q lt);
      rooms = λ q lt. subst (λ (b : Backlog). stores_among (drop (slice_index (replicate p.procs 0) q) (acts (code_of p) 0 q)) ≤ b.room) (sym (at q lt))
          (subst (λ k. stores_among (drop k (acts (code_of p) 0 q)) ≤ most) (sym (slice_index-zeros p.procs q)) (h 0 q lt));
      mosts = λ phase q lt. subst (λ (b : Backlog). stores_among (acts (code_of p) phase q) ≤ b.most) (sym (at q lt)) (h phase q lt);
      waiting = λ q. none_sound p.modulus p.lanes (4 * padded (code_of p)) p.procs p.lanes most (4 * padded (code_of p)) q;
    }
  where
    zeros_below : (m n k q : ℕ) → 0 < m → AreBelow m (slice_index_or (replicate n (replicate k 0)) q [])
    zeros_below m zero k q pos = λ j. pos
    zeros_below m (suc n) k zero pos = below-zeros m k pos
    zeros_below m (suc n) k (suc q) pos = zeros_below m n k q pos

    none_sound : (m lanes span n lanes' most s q : ℕ) → AreSound m lanes span
        (backlog_at (replicate n (empty_queue lanes' most s)) q).waiting
    none_sound m lanes span zero lanes' most s q = tt
    none_sound m lanes span (suc n) lanes' most s zero = tt
    none_sound m lanes span (suc n) lanes' most s (suc q) = none_sound m lanes span n lanes' most s q

pub record IsMade (p : Program) (a : Inside) (t : Stand) (most : ℕ) : Type 0 where
  pub fits : Fits p
  pub size : a.shape.size ≡ p.size
  pub modulus : a.shape.modulus ≡ p.modulus
  pub procs : a.shape.procs ≡ p.procs
  pub line : a.shape.line ≡ p.line
  pub lanes : a.shape.lanes ≡ p.lanes
  pub regs : a.shape.regs ≡ p.regs
  pub lens : HasLens (code_of p) a.lens.items
  pub most_is : (phase q : ℕ) → q < p.procs → stores_among (acts (code_of p) phase q) ≤ most
  pub values : t ≡ zero_stand a.shape.room a.shape.procs (a.shape.regs * a.shape.lanes) a.shape.lanes most
  pub put : a.values ≡ first_stand a.lens.items [] t
  pub walker_code : a.walker.code ≡ code_of p
  pub walker_state : a.walker.state ≡ start (code_of p) (replicate p.size 0)

pub made : (p : Program) (a : Inside) (t : Stand) (most : ℕ) → IsMade p a t most →
    IsWhole a × (buffered_of a.values ≡ buffered_start (code_of p) (replicate p.size 0))
made p a t most w =
    let g : IsGood (code_of p) = good p w.fits in
    let room : a.shape.room ≡ padded (code_of p) = a.shape.lines ∙ ap₂ whole_lines w.size w.line in
    let words : a.shape.regs * a.shape.lanes ≡ p.regs * p.lanes = ap₂ (λ r l. r * l) w.regs w.lanes in
    let same : t ≡ zero_stand (padded (code_of p)) p.procs (p.regs * p.lanes) p.lanes most =
    w.values
    ∙ (ap₂ (λ room procs. zero_stand room procs (a.shape.regs * a.shape.lanes) a.shape.lanes most) room w.procs
    ∙ ap₂ (λ words lanes. zero_stand (padded (code_of p)) p.procs words lanes most) words w.lanes) in
    let standing : IsStanding (code_of p) t = subst (IsStanding (code_of p)) (sym same) (zero_standing p most w.most_is) in
    let state : buffered_of a.values ≡ buffered_start (code_of p) (replicate p.size 0) = ap buffered_of w.put ∙ new_state (code_of p) a.lens.items w.lens g t standing in
    let code = w.walker_code in (
      record {
        good = subst IsGood (sym code) g;
        modulus = w.modulus ∙ ap (λ (c : Code). c.modulus) (sym code);
        procs = w.procs ∙ ap (λ (c : Code). c.procs) (sym code);
        lanes = w.lanes ∙ ap (λ (c : Code). c.lanes) (sym code);
        regs = w.regs ∙ ap (λ (c : Code). c.regs) (sym code);
        lens = subst (λ (c : Code). HasLens c a.lens.items) (sym code) w.lens;
        standing = subst (λ (c : Code). IsStanding c a.values) (sym code) (subst (IsStanding (code_of p)) (sym w.put) (first_standing (code_of p) a.lens.items w.lens g t [] (omega arith) (λ k. g.modulus) standing));
        busy = subst (λ (c : Code). IsBusy c (buffered_of a.values)) (sym code) (busy_at_start (code_of p) g.lists a.values (replicate p.size 0) state);
        few = subst (λ (c : Code). length (buffered_completion c (buffered_of a.values)) < 2 ^ 60) (sym code) (few_at_start (code_of p) g (buffered_of a.values) (replicate p.size 0) state);
        walking = subst (λ (c : Code). IsWalking c (buffered_of a.values).state a.walker.state) (sym code) (walking_at_start (code_of p) g.lists a.values a.walker.state (replicate p.size 0) (replicate p.size 0) state w.walker_state);
      },
      state,
    )
