-- Several actions of one processor, and the turns that finish its list of the phase.
use Rattle.std.proofs.Common.{◌≡◌, ◌≢◌, ℕ, zero, suc, ◌+◌, ◌-◌, ◌<◌, ◌≤◌, List, [], ◌∷◌, ◌++◌, true, cond, length}
use Rattle.std.proofs.Common.{replicate, get_or, Some, refl, sym, ap, ap₂, ◌∙◌, subst, arith, length-set}
use Rattle.std.proofs.Common.{get_or-set_same, get_or-set_other, set-set, add-one, length-append}
use Rattle.std.specs.Prelude.{slice_index, slice_index_or, slice_set}
use Rattle.std.proofs.lemmas.List.{length-replicate}
use Rattle.std.proofs.lemmas.Option.{slice_get-get_or}
use Rattle.icode.specs.declared.action.Action.{Action}
use Rattle.icode.specs.declared.action.Action.TheVariants.{Zero}
use Rattle.icode.specs.declared.action.Counts.{Counts}
use Rattle.icode.specs.Machine.{Code, IsCode, State, acts, next_action, acted, turn, turn_with, run}
use Rattle.icode.specs.Machine.{completion, is_open, first_open, phases_after, none_done, counted}
use Rattle.icode.proofs.Completion.{completion_step}
use Rattle.icode.proofs.Runs.{open_at}
use Rattle.icode.proofs.Open.{run-append}
use Rattle.par_machine.specs.declared.phase.Routine.{Routine}
use Rattle.par_machine.specs.Hand.{step_at, action_of_step}
use Rattle.par_machine.specs.Played.{Playing, played, played_one}
use Rattle.par_machine.specs.Position.{Position, next_position, first_position}
use Rattle.par_machine.specs.Unfinished.{IsUnfinished, left_of}
use Rattle.par_machine.specs.Frame.{Frame, Stand, code_of_frame, IsReady, IsRunning}
use Rattle.par_machine.proofs.Frames.{IsHere, hand_action, has_lengths}
use Rattle.par_machine.proofs.Phases.{len_at, opens}
use Rattle.par_machine.proofs.Steps.{IsHand, IsStepped, stepped_state, stepped_runs}

-- Several actions

module _ (f : Frame) (q : ℕ) (r : Routine) where
  abbrev code : Code
  code = code_of_frame f

  abbrev begin : Stand → Position → Counts → Playing
  begin t cursor count = record { memory = t.state.memory; registers = slice_index_or t.state.registers q []; place = cursor; counts = count }

  abbrev plays_on : ℕ → Playing → Playing
  plays_on n s = played f.header r.code.items q n s

  abbrev done_more : Stand → ℕ → List ℕ
  done_more t n = slice_set t.state.done q (slice_index t.state.done q + n)

  -- the stand after n actions that a cursor and its counts stand before
  pub record IsAdvanced (t : Stand) (n : ℕ) (s : Playing) (u : Stand) : Type 0 where
    pub memory : u.state.memory ≡ (plays_on n s).memory
    pub registers : u.state.registers ≡ slice_set t.state.registers q (plays_on n s).registers
    pub phase : u.state.phase ≡ cond (is_open code t.state.phase (done_more t n)) t.state.phase
        (first_open code (length f.phases - (t.state.phase + 1)) (t.state.phase + 1))
    pub done : u.state.done ≡ cond (is_open code t.state.phase (done_more t n)) (done_more t n)
        (replicate f.header.procs 0)
    pub places : u.places ≡ cond (is_open code t.state.phase (done_more t n))
        (slice_set t.places q (plays_on n s).place) (replicate f.header.procs first_position)
    pub counts : u.counts ≡ slice_set t.counts q (plays_on n s).counts
    pub within : u.state.phase ≤ length f.phases

  pub record IsSet (t : Stand) (cursor : Position) (count : Counts) : Type 0 where
    pub here : IsHere f t q r cursor
    pub count_is : count ≡ get_or t.counts q count

  hand_of : (t : Stand) (cursor : Position) (count : Counts) → IsRunning f t → IsSet t cursor count →
      IsHand f t q (action_of_step (step_at f.header r.code.items q cursor)) r cursor count
  hand_of t cursor count run set = record { here = set.here; count_is = set.count_is; hand = hand_action f t q r cursor run set.here }

  -- the stand after one action, where another is left
  abbrev next_stand : Stand → Position → Counts → Stand
  next_stand t cursor count =
      let s : Playing = played_one f.header r.code.items q (begin t cursor count) in
      record {
        state = record { memory = s.memory; registers = slice_set t.state.registers q s.registers; phase = t.state.phase; done = slice_set t.state.done q (suc (slice_index t.state.done q)) };
        places = slice_set t.places q s.place;
        counts = slice_set t.counts q s.counts;
      }

  stays_open : (t : Stand) (cursor : Position) → IsRunning f t → IsHere f t q r cursor →
      slice_index t.state.done q + 1 < r.len → is_open code t.state.phase
      (slice_set t.state.done q (suc (slice_index t.state.done q))) ≡ true
  stays_open t cursor run here more =
      let set : slice_index (slice_set t.state.done q (suc (slice_index t.state.done q))) q ≡ suc (slice_index t.state.done q) = get_or-set_same t.state.done q (suc (slice_index t.state.done q)) 0 (omega (arith, run.dones, here.proc)) in
      opens code f.phases t.state.phase q r.len _ (has_lengths f) (len_at f.phases t.state.phase r here.phase here.routine) here.proc (omega (arith, set, more))

  next_stepped : (t : Stand) (cursor : Position) (count : Counts) → IsRunning f t → IsSet t cursor count →
      slice_index t.state.done q + 1 < r.len → IsStepped f t q (action_of_step (step_at f.header r.code.items q cursor))
      r cursor count (next_stand t cursor count)
  next_stepped t cursor count run set more =
      let o = stays_open t cursor run set.here more in
      let phases : ℕ = first_open code (length f.phases - (t.state.phase + 1)) (t.state.phase + 1) in
      record {
        memory = refl;
        registers = refl;
        phase = sym (ap (λ b. cond b t.state.phase phases) o);
        done = sym (ap (λ b. cond b (slice_set t.state.done q (suc (slice_index t.state.done q))) (replicate {A = ℕ} f.header.procs 0)) o);
        places = sym (ap (λ b. cond b (slice_set t.places q (next_position r.code.items cursor)) (replicate f.header.procs first_position)) o);
        counts = refl;
        within = run.phase;
      }

  next_set : (t : Stand) (cursor : Position) (count : Counts) → IsRunning f t → IsSet t cursor count →
      slice_index t.state.done q + 1 < r.len → IsSet (next_stand t cursor count) (next_position r.code.items cursor)
      (counted f.header.lanes (action_of_step (step_at f.header r.code.items q cursor)) count)
  next_set t cursor count run set more =
      let done : slice_index (slice_set t.state.done q (suc (slice_index t.state.done q))) q ≡ suc (slice_index t.state.done q) = get_or-set_same t.state.done q (suc (slice_index t.state.done q)) 0 (omega (arith, run.dones, set.here.proc)) in
      record {
        here = record {
          proc = set.here.proc;
          phase = set.here.phase;
          routine = set.here.routine;
          cursor_is = sym (get_or-set_same t.places q _ _ (omega (arith, run.cursors, set.here.proc)));
          left = omega (arith, done, more);
        };
        count_is = sym (get_or-set_same t.counts q _ _ (omega (arith, run.counters, set.here.proc)));
      }

  -- seen from the stand after the first action, the others are one fewer
  next_advanced : (t : Stand) (cursor : Position) (count : Counts) (n : ℕ) (u : Stand) → IsRunning f t →
      IsSet t cursor count → IsAdvanced t (suc n) (begin t cursor count) u →
      IsAdvanced (next_stand t cursor count) n (begin (next_stand t cursor count) (next_position r.code.items cursor)
      (counted f.header.lanes (action_of_step (step_at f.header r.code.items q cursor)) count)) u
  next_advanced t cursor count n u run set e =
      let v : Stand = next_stand t cursor count in
      let s1 : Playing = played_one f.header r.code.items q (begin t cursor count) in
      let file : slice_index_or v.state.registers q [] ≡ s1.registers = get_or-set_same t.state.registers q s1.registers [] (omega (arith, run.files, set.here.proc)) in
      let same : begin v s1.place s1.counts ≡ s1 = ap (λ (rs : List ℕ). record { memory = s1.memory; registers = rs; place = s1.place; counts = s1.counts }) file in
      let d : ℕ = slice_index t.state.done q in
      let done : slice_index v.state.done q ≡ suc d = get_or-set_same t.state.done q (suc d) 0 (omega (arith, run.dones, set.here.proc)) in
      let sum : suc d + n ≡ d + suc n = omega arith in
      let more : done_more v n ≡ done_more t (suc n) =
      set-set t.state.done q (suc d) (slice_index v.state.done q + n) ∙ ap (slice_set t.state.done q) (ap (λ k. k + n) done ∙ sum) in
      let phases : ℕ = first_open code (length f.phases - (t.state.phase + 1)) (t.state.phase + 1) in
      record {
        memory = e.memory ∙ ap (λ (x : Playing). (plays_on n x).memory) (sym same);
        registers = e.registers ∙ (sym (set-set t.state.registers q s1.registers (plays_on n s1).registers) ∙ ap (λ (x : Playing). slice_set v.state.registers q (plays_on n x).registers) (sym same));
        phase = e.phase ∙ ap (λ (dn : List ℕ). cond (is_open code t.state.phase dn) t.state.phase phases) (sym more);
        done = e.done ∙ ap (λ (dn : List ℕ). cond (is_open code t.state.phase dn) dn (replicate f.header.procs 0)) (sym more);
        places = e.places ∙ ap₂ (λ (dn : List ℕ) (ps : List Position). cond (is_open code t.state.phase dn) ps (replicate f.header.procs first_position)) (sym more) (sym (set-set t.places q s1.place (plays_on n s1).place) ∙ ap (λ (x : Playing). slice_set v.places q (plays_on n x).place) (sym same));
        counts = e.counts ∙ (sym (set-set t.counts q s1.counts (plays_on n s1).counts) ∙ ap (λ (x : Playing). slice_set v.counts q (plays_on n x).counts) (sym same));
        within = e.within;
      }

  -- one action is a step
  last_stepped : (t : Stand) (cursor : Position) (count : Counts) (u : Stand) →
      IsAdvanced t 1 (begin t cursor count) u → IsStepped f t q
      (action_of_step (step_at f.header r.code.items q cursor)) r cursor count u
  last_stepped t cursor count u e =
      let one : done_more t 1 ≡ slice_set t.state.done q (suc (slice_index t.state.done q)) = ap (slice_set t.state.done q) (add-one (slice_index t.state.done q)) in
      let phases : ℕ = first_open code (length f.phases - (t.state.phase + 1)) (t.state.phase + 1) in
      record {
        memory = e.memory;
        registers = e.registers;
        phase = e.phase ∙ ap (λ (dn : List ℕ). cond (is_open code t.state.phase dn) t.state.phase phases) one;
        done = e.done ∙ ap (λ (dn : List ℕ). cond (is_open code t.state.phase dn) dn (replicate f.header.procs 0)) one;
        places = e.places ∙ ap (λ (dn : List ℕ). cond (is_open code t.state.phase dn) (slice_set t.places q (next_position r.code.items cursor)) (replicate f.header.procs first_position)) one;
        counts = e.counts;
        within = e.within;
      }

  pub record IsRun (t : Stand) (n : ℕ) (u : Stand) : Type 0 where
    pub state : u.state ≡ run code t.state (replicate n q)
    pub runs : IsRunning f u

  pub advanced_runs : (n : ℕ) (t : Stand) (cursor : Position) (count : Counts) (u : Stand) → IsReady f → IsRunning f t →
      IsSet t cursor count → 0 < n → slice_index t.state.done q + n ≤ r.len → IsAdvanced t n (begin t cursor count) u →
      IsRun t n u
  advanced_runs zero t cursor count u ready run set some most e = absurd (omega arith)
  advanced_runs (suc zero) t cursor count u ready run set some most e =
      let hand = hand_of t cursor count run set in
      let stepped = last_stepped t cursor count u e in
      record {
        state = stepped_state f t q _ r cursor count u hand stepped;
        runs = stepped_runs f t q _ r cursor count u ready run hand stepped;
      }
  advanced_runs (suc (suc n)) t cursor count u ready run set some most e =
      let more : slice_index t.state.done q + 1 < r.len = omega (arith, most) in
      let v : Stand = next_stand t cursor count in
      let hand = hand_of t cursor count run set in
      let stepped = next_stepped t cursor count run set more in
      let running = stepped_runs f t q _ r cursor count v ready run hand stepped in
      let done : slice_index v.state.done q ≡ suc (slice_index t.state.done q) = get_or-set_same t.state.done q (suc (slice_index t.state.done q)) 0 (omega (arith, run.dones, set.here.proc)) in
      let rest = advanced_runs (suc n) v _ _ u ready running (next_set t cursor count run set more) (omega arith) (omega (arith, done, most)) (next_advanced t cursor count (suc n) u run set e) in
      record {
        state = rest.state ∙ ap (λ (s : State). Rattle.icode.specs.Machine.run code s (replicate (suc n) q)) (stepped_state f t q _ r cursor count v hand stepped);
        runs = rest.runs;
      }

-- The turns that finish a list

module _ (code : Code) (is : IsCode code) where
  -- where no processor before has an action left
  rest_turns : (n q : ℕ) (s : State) → length s.done ≡ code.procs → q < code.procs → s.phase < length code.lists →
      slice_index s.done q + n ≤ length (acts code s.phase q) →
      ((k : ℕ) → k < q → length (acts code s.phase k) ≤ slice_index s.done k) →
      completion code s ≡ replicate n q ++ completion code (run code s (replicate n q))
  rest_turns zero q s dones inside here most before = refl
  rest_turns (suc zero) q s dones inside here most before =
      completion_step code is s q _ dones inside here (slice_get-get_or (acts code s.phase q) (slice_index s.done q) (Zero 0) (omega (arith, most))) before
  rest_turns (suc (suc n)) q s dones inside here most before =
      let action : Action = get_or (acts code s.phase q) (slice_index s.done q) (Zero 0) in
      let hand : next_action code s q ≡ Some action = slice_get-get_or (acts code s.phase q) (slice_index s.done q) (Zero 0) (omega (arith, most)) in
      let s1 : State = acted code q action s in
      let done : slice_index s1.done q ≡ suc (slice_index s.done q) = get_or-set_same s.done q (suc (slice_index s.done q)) 0 (omega (arith, dones, inside)) in
      let opened : is_open code s1.phase s1.done ≡ true = open_at code s1.phase s1.done q inside (omega (arith, done, most)) in
      let over : State = record { memory = s1.memory; registers = s1.registers; phase = first_open code (phases_after code s1.phase) (s1.phase + 1); done = none_done code } in
      let is_turn : turn code s q ≡ s1 = ap (turn_with code q s) hand ∙ ap (λ b. cond b s1 over) opened in
      let rest = rest_turns (suc n) q s1 (length-set s.done q _ ∙ dones) inside here (omega (arith, done, most))
      (λ k lt. omega (arith, before k lt, get_or-set_other s.done q k (suc (slice_index s.done q)) 0 (other k q lt))) in
      completion_step code is s q action dones inside here hand before
      ∙ ap (λ xs. q ∷ xs) (subst (λ (x : State). completion code x ≡ replicate (suc n) q ++ completion code (run code x (replicate (suc n) q))) (sym is_turn) rest)
    where
      other : (k q : ℕ) → k < q → k ≢ q
      other k q lt = omega arith

  pub unfinished_is : (q : ℕ) (s : State) → length s.done ≡ code.procs → q < code.procs → s.phase < length code.lists →
      slice_index s.done q < length (acts code s.phase q) → ((k : ℕ) → k < q →
      length (acts code s.phase k) ≤ slice_index s.done k) → IsUnfinished code s q
  unfinished_is q s dones inside here left before =
      let n : ℕ = left_of code s q in
      let after : State = run code s (replicate n q) in
      let parts = rest_turns n q s dones inside here (omega (arith, left)) before in
      record {
        inside = inside;
        left = left;
        same = sym (ap (run code s) parts ∙ run-append code is (replicate n q) (completion code after) s);
        fewer = omega (arith, left, ap length parts, length-append (replicate n q) (completion code after), length-replicate n q);
      }
