-- What a processor needs to do several of the actions that it has left, and where the machine stands after them.
use Rattle.std.proofs.Common.{◌≡◌, ℕ, zero, suc, ◌+◌, ◌-◌, ◌*◌, ◌<◌, ◌≤◌, ◌^◌, List, [], Bool, true, false, cond}
use Rattle.std.proofs.Common.{length, map, replicate, get_or, Some, All, refl, sym, ap, ap₂, ◌∙◌, subst, arith}
use Rattle.std.proofs.Common.{length-set, mul-le-mul_left}
use Rattle.std.specs.Prelude.{slice_get, slice_index, slice_index_or, slice_set}
use Rattle.std.proofs.lemmas.List.{length-map}
use Rattle.std.proofs.lemmas.Option.{get_or_from_slice_get}
use Rattle.icode.specs.declared.action.Action.{Action}
use Rattle.icode.specs.Machine.{Code, State, acts, is_open, first_open, executed, counts_so_far}
use Rattle.par_machine.specs.declared.machine.Machine.TheInside.{Inside}
use Rattle.par_machine.specs.declared.cursor.Instruction.{Instruction}
use Rattle.par_machine.specs.declared.phase.Routine.{Routine}
use Rattle.par_machine.specs.Context.{Context}
use Rattle.par_machine.specs.Lengths.{HasLengths, IsFirstLeft, OfCode, settled_phase, settled_done}
use Rattle.par_machine.specs.Header.{header_of}
use Rattle.par_machine.specs.Hand.{step_at, Runs}
use Rattle.par_machine.specs.Performed.{HasRoom}
use Rattle.par_machine.specs.Played.{Playing, CanPlay, playing}
use Rattle.par_machine.specs.Position.{Position, next_position, positions, first_position}
use Rattle.par_machine.specs.Processors.{rewound, registers_of, cursors_of, counts_of_all}
use Rattle.par_machine.specs.Frame.{Frame, Stand, code_of_frame, lens_of}
use Rattle.par_machine.specs.Running.{Running}
use Rattle.par_machine.specs.Unfinished.{IsUnfinished}
use Rattle.par_machine.specs.Views.{frame_of, stand_of, stand_with, running_of, IsWhole}
use Rattle.par_machine.proofs.Advances.{IsSet, IsAdvanced, IsRun, advanced_runs, unfinished_is}
use Rattle.par_machine.proofs.Each.{at_map, map_set, map_map, map_all}
use Rattle.par_machine.proofs.Executed.{counts_small, small_has_room, executed_room}
use Rattle.par_machine.proofs.Frames.{some_same, has_lengths, is_code, count_lists, acts_places, places_lens}
use Rattle.par_machine.proofs.Frames.{hand_place, routine_is}
use Rattle.par_machine.proofs.Phases.{len_at}
use Rattle.par_machine.proofs.Playings.{playing_same}
use Rattle.par_machine.proofs.Wholes.{done_is, len_is, here_is, one_len}

-- Of all places of a routine, those from one on

All_more : (P : Position → Type 0) (code : List Instruction) (n : ℕ) (p : Position) → P p →
    All P (positions code n (next_position code p)) → All P (positions code (suc n) p)
All_more P code n p first rest zero d lt = first
All_more P code n p first rest (suc j) d lt = rest j d (omega arith)

All_front : (P : Position → Type 0) (code : List Instruction) (n len : ℕ) (p : Position) → n ≤ len →
    All P (positions code len p) → All P (positions code n p)
All_front P code zero len p le h = λ j d lt. absurd (omega arith)
All_front P code (suc n) zero p le h = absurd (omega arith)
All_front P code (suc n) (suc len) p le h =
    All_more P code n p (h 0 p (omega arith)) (All_front P code n len (next_position code p) (omega arith) (λ j d lt. h (suc j) d (omega (arith, lt))))

All_from : (P : Position → Type 0) (code : List Instruction) (i n len : ℕ) (p c : Position) →
    slice_get (positions code len p) i ≡ Some c → i + n ≤ len → All P (positions code len p) →
    All P (positions code n c)
All_from P code i n zero p c e le h = All_front P code n zero c (omega arith) (λ j d lt. absurd (omega arith))
All_from P code zero n (suc len) p c e le h = subst (λ x. All P (positions code n x)) (some_same p c e) (All_front P code n (suc len) p (omega arith) h)
All_from P code (suc i) n (suc len) p c e le h = All_from P code i n len (next_position code p) c e (omega arith) (λ j d lt. h (suc j) d (omega (arith, lt)))

abbrev pub begin_of : Inside → ℕ → Context → Playing
begin_of a q p = record { memory = a.memory.items; registers = slice_index_or (registers_of a.processors.items) q []; place = p.place; counts = p.counts }

-- a machine whose processor q is p, which has n actions left in a phase of this routine
pub record IsLeft (a : Inside) (q n : ℕ) (r : Routine) (p : Context) : Type 0 where
  pub whole : IsWhole a
  pub proc : q < a.header.shape.procs
  pub some : 0 < n
  pub most : slice_index a.done.items q + n ≤ length (acts (running_of a).code a.phase q)
  pub routine : r ≡ get_or a.phases.items a.phase r
  pub processor : p ≡ get_or a.processors.items q p

pub left_is : (a : Inside) (now : Running) (q n : ℕ) (r : Routine) (p : Context) → running_of a ≡ now → IsWhole a →
    q < now.code.procs → 0 < n → slice_index now.state.done q + n ≤ length (acts now.code now.state.phase q) →
    r ≡ get_or a.phases.items a.phase r → p ≡ get_or a.processors.items q p → IsLeft a q n r p
left_is a now q n r p is whole proc some most routine processor =
    record {
      whole = whole;
      proc = subst (λ (x : Running). q < x.code.procs) (sym is) proc;
      some = some;
      most = subst (λ (x : Running). slice_index x.state.done q + n ≤ length (acts x.code x.state.phase q)) (sym is) most;
      routine = routine;
      processor = processor;
    }

pub processor_there : (a : Inside) (q : ℕ) → IsWhole a → q < a.header.shape.procs → q < length a.processors.items
processor_there a q w lt = omega (arith, lt, w.running.cursors, length-map a.processors.items (λ (p : Context). p.place))

begin_is : (a : Inside) (q : ℕ) (p : Context) (memory : List ℕ) → q < length a.processors.items →
    p ≡ get_or a.processors.items q p → memory ≡ a.memory.items → playing memory p ≡ begin_of a q p
begin_is a q p memory lt e em = playing_same _ _ _ _ _ _ _ _ em (at_map (λ (p : Context). p.registers) a.processors.items q p [] lt e) refl refl

pub set_is : (a : Inside) (q n : ℕ) (r : Routine) (p : Context) → IsLeft a q n r p →
    IsSet (frame_of a) q r (stand_of a) p.place p.counts
set_is a q n r p h =
    let there = processor_there a q h.whole h.proc in
    record {
      here = here_is a q r p.place h.whole h.proc (omega (arith, h.most, h.some)) h.routine (at_map (λ (p : Context). p.place) a.processors.items q p p.place there h.processor);
      count_is = at_map (λ (p : Context). p.counts) a.processors.items q p p.counts there h.processor;
    }

within_routine : (a : Inside) (q n : ℕ) (r : Routine) (p : Context) → IsLeft a q n r p →
    slice_index a.done.items q + n ≤ r.len
within_routine a q n r p h = omega (arith, h.most, len_is a q r h.proc (set_is a q n r p h).here.phase h.routine)

pub done_fits : (a : Inside) (q n d : ℕ) (r : Routine) (p : Context) → IsLeft a q n r p → d ≡ get_or a.done.items q d →
    d + n < 2 ^ 64
done_fits a q n d r p h e =
    omega (arith, within_routine a q n r p h, done_is a q d h.whole h.proc e, len_at a.phases.items a.phase r (set_is a q n r p h).here.phase h.routine, one_len (lens_of a.phases.items) a.phase, h.whole.ready.few)

count_room : (n lanes len whole : ℕ) → lanes ≤ 16 → len + n ≤ whole → whole < 2 ^ 59 → len * lanes + n * lanes < 2 ^ 64
count_room n lanes len whole few room limit = omega (arith, room, limit, mul-le-mul_left (len + n) few)

pub can_begin : (a : Inside) (q n : ℕ) (r : Routine) (p : Context) → IsLeft a q n r p →
    CanPlay (header_of a.header) r.code.items q n (begin_of a q p)
can_begin a q n r p h =
    let f : Frame = frame_of a in
    let t : Stand = stand_of a in
    let run = h.whole.running in
    let ready = h.whole.ready in
    let set = set_is a q n r p h in
    let routine = routine_is f a.phase r ready set.here.phase h.routine in
    let lanes = a.header.shape.lanes in
    let few : lanes ≤ 16 = ready.limits.of_lanes.1 in
    let xs : List Action = executed (code_of_frame f) t.state q in
    let room = executed_room (code_of_frame f) (is_code f) t.state q n (lens_of f.phases) (λ phase. acts_places f phase q h.proc ∙ places_lens f.phases phase) h.some h.most in
    let same : p.counts ≡ counts_so_far (code_of_frame f) t.state q = set.count_is ∙ get_or_from_slice_get t.counts q (counts_so_far (code_of_frame f) t.state q) p.counts (run.counted q h.proc) in
    record {
      closed = routine.closed;
      within = routine.within;
      runs = All_from (λ p. Runs f.header (step_at f.header r.code.items q p)) r.code.items (slice_index a.done.items q) n r.len first_position p.place (hand_place f t q r p.place run set.here) (within_routine a q n r p h) (routine.runs q h.proc);
      memory = run.memory;
      words = run.memory_below;
      file = run.file q h.proc;
      residues = run.files_below q;
      counters = subst (HasRoom (n * lanes)) (sym same) (small_has_room (length xs * lanes) (n * lanes) _ (counts_small lanes xs) (count_room n lanes (length xs) _ few room ready.few));
    }

pub can_play : (a : Inside) (q n : ℕ) (r : Routine) (p : Context) (code : List Instruction) (memory : List ℕ) →
    IsLeft a q n r p → code ≡ r.code.items → memory ≡ a.memory.items →
    CanPlay (header_of a.header) code q n (playing memory p)
can_play a q n r p code memory h ec em =
    subst (λ (s : Playing). CanPlay (header_of a.header) code q n s) (sym (begin_is a q p memory (processor_there a q h.whole h.proc) h.processor em))
    (subst (λ (xs : List Instruction). CanPlay (header_of a.header) xs q n (begin_of a q p)) (sym ec) (can_begin a q n r p h))

-- What the phase's move leaves of the processors

pub kept : {Y : Type 0} (f : Context → Y) (b : Bool) (ps : List Context) → ((p : Context) → f (rewound p) ≡ f p) →
    map f (cond b ps (map rewound ps)) ≡ map f ps
kept f true ps same = refl
kept f false ps same = map_map f rewound ps same

pub cursors_kept : (b : Bool) (ps : List Context) → cursors_of (cond b ps (map rewound ps)) ≡ cond b (cursors_of ps)
    (replicate (length ps) first_position)
cursors_kept true ps = refl
cursors_kept false ps = map_all (λ (p : Context). p.place) rewound ps first_position (λ p. refl)

-- what the processor has left, and how far the phase has moved
pub record IsMoved (a : Inside) (q n : ℕ) (r : Routine) (p : Context) (u : State) (processors : List Context) : Type 0 where
  pub code : List Instruction
  pub code_is : code ≡ r.code.items
  pub before : List ℕ
  pub before_is : before ≡ a.memory.items
  pub after : Context
  pub played : playing u.memory after ≡ Rattle.par_machine.specs.Played.played (header_of a.header) code q n
      (playing before p)
  pub phases : List Routine
  pub phases_are : phases ≡ a.phases.items
  pub done : List ℕ
  pub done_is : done ≡ slice_set a.done.items q (slice_index a.done.items q + n)
  pub moved : List Context
  pub moved_is : moved ≡ slice_set a.processors.items q after
  pub registers : u.registers ≡ registers_of processors
  pub phase_after : OfCode phases done (λ code. u.phase ≡ settled_phase code (length phases) a.phase done)
  pub done_after : OfCode phases done (λ code. u.done ≡ settled_done code a.phase done)
  pub processors_after : OfCode phases done (λ code. processors
      ≡ cond (is_open code a.phase done) moved (map rewound moved))
  pub within : u.phase ≤ length phases

moved_advances : (a : Inside) (q n : ℕ) (r : Routine) (p : Context) (u : State) (processors : List Context) →
    IsLeft a q n r p → IsMoved a q n r p u processors → IsAdvanced (frame_of a) q r (stand_of a) n (begin_of a q p)
    (stand_with u processors)
moved_advances a q n r p u processors h m =
    let f : Frame = frame_of a in
    let code : Code = code_of_frame f in
    let ps : List Context = a.processors.items in
    let there = processor_there a q h.whole h.proc in
    let last : Playing = Rattle.par_machine.specs.Played.played (header_of a.header) r.code.items q n (begin_of a q p) in
    let played : playing u.memory m.after ≡ last = m.played ∙ ap₂ (λ (xs : List Instruction) (s : Playing). Rattle.par_machine.specs.Played.played (header_of a.header) xs q n s) m.code_is (begin_is a q p m.before there h.processor m.before_is) in
    let lens : HasLengths code m.phases = subst (HasLengths code) (sym m.phases_are) (has_lengths f) in
    let pos : 0 < a.header.shape.procs = omega (arith, h.proc) in
    let count : length m.done ≡ a.header.shape.procs = ap length m.done_is ∙ (length-set a.done.items q _ ∙ h.whole.running.dones) in
    let busy : Bool = is_open code a.phase m.done in
    let same_busy : busy ≡ is_open code a.phase (slice_set a.done.items q (slice_index a.done.items q + n)) = ap (is_open code a.phase) m.done_is in
    let after : processors ≡ cond busy m.moved (map rewound m.moved) = m.processors_after code lens pos (sym count) in
    let all : length m.moved ≡ a.header.shape.procs =
    ap length m.moved_is ∙ (length-set ps q m.after ∙ (sym (length-map ps (λ (p : Context). p.place)) ∙ h.whole.running.cursors)) in
    let phases : ℕ → ℕ = λ k. first_open code (k - (a.phase + 1)) (a.phase + 1) in
    record {
      memory = ap (λ (s : Playing). s.memory) played;
      registers = m.registers
          ∙ (ap registers_of after
          ∙ (kept (λ (p : Context). p.registers) busy m.moved (λ p. refl)
          ∙ (ap registers_of m.moved_is
          ∙ (map_set (λ (p : Context). p.registers) ps q m.after
          ∙ ap (λ (s : Playing). slice_set (registers_of ps) q s.registers) played))));
      phase = m.phase_after code lens pos (sym count)
          ∙ ap₂ (λ (b : Bool) (k : ℕ). cond b a.phase (phases k)) same_busy (ap length m.phases_are);
      done = m.done_after code lens pos (sym count)
          ∙ ap₂ (λ (xs : List ℕ) (k : ℕ). cond (is_open code a.phase xs) xs (replicate k 0)) m.done_is count;
      places = ap cursors_of after
          ∙ (cursors_kept busy m.moved
          ∙ (ap₂ (λ (b : Bool) (k : ℕ). cond b (cursors_of m.moved) (replicate k first_position)) same_busy all
          ∙ ap (λ (cs : List Position). cond (is_open code a.phase (slice_set a.done.items q (slice_index a.done.items q + n))) cs (replicate a.header.shape.procs first_position))
          (ap cursors_of m.moved_is
          ∙ (map_set (λ (p : Context). p.place) ps q m.after
          ∙ ap (λ (s : Playing). slice_set (cursors_of ps) q s.place) played))));
      counts = ap counts_of_all after
          ∙ (kept (λ (p : Context). p.counts) busy m.moved (λ p. refl)
          ∙ (ap counts_of_all m.moved_is
          ∙ (map_set (λ (p : Context). p.counts) ps q m.after
          ∙ ap (λ (s : Playing). slice_set (counts_of_all ps) q s.counts) played)));
      within = omega (arith, m.within, ap length m.phases_are);
    }

-- it is a run of n turns
pub moved_runs : (a : Inside) (q n : ℕ) (r : Routine) (p : Context) (u : State) (processors : List Context) →
    IsLeft a q n r p → IsMoved a q n r p u processors → IsRun (frame_of a) q r (stand_of a) n (stand_with u processors)
moved_runs a q n r p u processors h m =
    advanced_runs (frame_of a) q r n (stand_of a) p.place p.counts (stand_with u processors) h.whole.ready h.whole.running (set_is a q n r p h) h.some (within_routine a q n r p h)
    (moved_advances a q n r p u processors h m)

pub unfinished_at : (a : Inside) (q : ℕ) (r : Routine) → IsWhole a → a.phase < length a.phases.items →
    r ≡ get_or a.phases.items a.phase r → IsFirstLeft a.done.items r.len q →
    IsUnfinished (running_of a).code (running_of a).state q
unfinished_at a q r w here e first =
    let inside : q < a.header.shape.procs = omega (arith, first.inside, w.running.dones) in
    unfinished_is (running_of a).code (is_code (frame_of a)) q (running_of a).state w.running.dones inside
    (omega (arith, here, count_lists (frame_of a)))
    (omega (arith, first.left, len_is a q r inside here e))
    (λ k lt. omega (arith, first.none_before k lt, len_is a k r (omega arith) here e))
