-- What turns and drains keep.
use Rattle.std.proofs.Common.{◌≡◌, ℕ, zero, suc, ◌+◌, ◌-◌, ◌*◌, ◌<◌, ◌≤◌, ◌≢◌, List, [], ◌∷◌, ◌++◌, Bool, true, false}
use Rattle.std.proofs.Common.{cond, ◌||◌, length, map, drop, replicate, get_or, nat_lt, Some, refl, sym, ap, ap₂, ◌∙◌}
use Rattle.std.proofs.Common.{subst, arith, ⊎_elim, get_or-set_same, get_or-set_other, length-set}
use Rattle.std.specs.Prelude.{slice_get, slice_index, slice_index_or, slice_set}
use Rattle.std.specs.List.{list_any}
use Rattle.std.proofs.lemmas.Bool.{cases_eq, cases_lt, cases_Bool, false≢true, le-ltb}
use Rattle.std.proofs.lemmas.List.{map-set, get_or-map, get_or_past, length-map, length-replicate}
use Rattle.std.proofs.lemmas.List.Folds.{list_any_at, list_any_none}
use Rattle.icode.specs.declared.action.Action.{Action}
use Rattle.icode.specs.declared.action.Action.TheVariants.{Store}
use Rattle.icode.specs.Buffers.{Waiting, overlaid, stored, stores_among, some_wait, is_waiting, queue_of}
use Rattle.icode.specs.Buffers.{buffered_acted, buffered_moved_on, written}
use Rattle.icode.specs.Machine.{Code, acts, effect, is_open, none_done, first_open, phases_after, moved_on, padded}
use Rattle.icode.specs.Machine.{with_words, value_put, register_put}
use Rattle.icode.specs.Operation.{AddressFits}
use Rattle.icode.proofs.Below.{effect_registers_below, below-words_at, below-with_words}
use Rattle.icode.proofs.BufferedCompletion.{drop_at}
use Rattle.icode.proofs.End.{slice_index-zeros}
use Rattle.icode.proofs.Residues.{AreBelow}
use Rattle.icode.proofs.Runs.{open_at, not_open}
use Rattle.icode.proofs.StoreCounts.{stores_first}
use Rattle.icode.proofs.Words.{length-words_at}
use Rattle.icode.proofs.SequenceLemmas.Placing.{length-with_words}
use Rattle.buffer_machine.specs.Backlog.{Backlog}
use Rattle.buffer_machine.specs.Drains.{IsWritten}
use Rattle.buffer_machine.specs.Stand.{Stand, backlog_at, waits_of, buffered_of, after_action, acted_stand, cleared}
use Rattle.buffer_machine.specs.Stand.{is_held, first_busy, settled_stand, HasLens, AreSound, IsStanding}

-- Queues

pub queue_is : (queues : List Backlog) (q : ℕ) → queue_of (waits_of queues) q ≡ (backlog_at queues q).waiting
queue_is [] q = get_or_past [] q [] (omega arith) ∙ sym (ap (λ (l : Backlog). l.waiting) (get_or_past [] q (record { lanes = 0; waiting = []; room = 0; most = 0; span = 0 }) (omega arith)))
queue_is (l ∷ queues) zero = refl
queue_is (l ∷ queues) (suc q) = queue_is queues q

sound-append : (m lanes span : ℕ) (xs ys : List Waiting) → AreSound m lanes span xs → AreSound m lanes span ys →
    AreSound m lanes span (xs ++ ys)
sound-append m lanes span [] ys h g = g
sound-append m lanes span (w ∷ xs) ys h g = (h.0, h.1, h.2, sound-append m lanes span xs ys h.3 g)

sound-stored : (m lanes span : ℕ) (a : Action) (registers : List ℕ) → 0 < m → AreBelow m registers →
    AddressFits lanes span a → AreSound m lanes span (stored lanes a registers)
sound-stored m lanes span (Store address r) registers pos below h = (h, length-words_at lanes registers (r * lanes), below-words_at m lanes registers (r * lanes) pos below, tt)
sound-stored m lanes span _ registers pos below h = tt

overlaid_below : (m lanes span : ℕ) (queue : List Waiting) (memory : List ℕ) → AreSound m lanes span queue →
    AreBelow m memory → AreBelow m (overlaid memory queue)
overlaid_below m lanes span [] memory h below = below
overlaid_below m lanes span (w ∷ queue) memory h below = overlaid_below m lanes span queue (with_words memory w.address w.words) h.3 (below-with_words m memory w.address w.words below h.2)

-- the room before an action is that after it and what the action stores
room_step : (xs : List Action) (i : ℕ) (a : Action) → slice_get xs i ≡ Some a →
    stores_among (drop i xs) ≡ stores_among (a ∷ []) + stores_among (drop (suc i) xs)
room_step xs i a e = ap stores_among (drop_at xs i a e) ∙ stores_first a (drop (suc i) xs)

-- At one processor or another

at_one : {X : Type 0} (P : ℕ → X → Type 0) (xs : List X) (q : ℕ) (x d : X) → q < length xs → P q x →
    ((other : ℕ) → other ≢ q → P other (get_or xs other d)) → (other : ℕ) → P other (get_or (slice_set xs q x) other d)
at_one P xs q x d lt here rest other =
    ⊎_elim
    (λ (e : other ≡ q). subst (λ o. P o (get_or (slice_set xs q x) o d)) (sym e) (subst (P q) (sym (get_or-set_same xs q x d lt)) here))
    (λ (ne : other ≡ q → ⊥). subst (P other) (sym (get_or-set_other xs q other x d ne)) (rest other ne))
    (cases_eq other q)

not_waiting : (ws : List Waiting) (b : Bool) → (is_waiting ws || b) ≡ false → (ws ≡ []) × (b ≡ false)
not_waiting [] b e = (refl, e)
not_waiting (w ∷ ws) b e = cc

abbrev next_stand : List ℕ → Stand → Stand
next_stand lens t =
    record {
      memory = t.memory;
      registers = t.registers;
      queues = map cleared t.queues;
      phase = first_busy lens (length lens - (t.phase + 1)) (t.phase + 1);
      done = replicate (length t.done) 0;
    }

module _ (code : Code) where
  -- a turn, before the phase moves on
  pub standing_acted : (t : Stand) (q : ℕ) (a : Action) → 0 < code.modulus → IsStanding code t → q < code.procs →
      slice_get (acts code t.phase q) (slice_index t.done q) ≡ Some a → AddressFits code.lanes (4 * padded code) a →
      IsStanding code (acted_stand code.modulus code.lanes q a t)
  standing_acted t q a pos s lt e address =
      let l : Backlog = backlog_at t.queues q in
      let file : List ℕ = slice_index_or t.registers q [] in
      let n : ℕ = slice_index t.done q in
      let seen : List ℕ = overlaid t.memory l.waiting in
      let seen_below : AreBelow code.modulus seen = overlaid_below code.modulus code.lanes (4 * padded code) l.waiting t.memory (s.waiting q) s.memory_below in
      let after : List ℕ = (effect code.modulus code.lanes a (record { memory = seen; registers = file })).registers in
      let new : Backlog = after_action code.lanes a file l in
      let step = room_step (acts code t.phase q) n a e in
      record {
        memory = s.memory;
        memory_below = s.memory_below;
        files = length-set t.registers q _ ∙ s.files;
        file = at_one (λ o (f : List ℕ). o < code.procs → length f ≡ code.regs * code.lanes) t.registers q after [] (omega (arith, s.files))
            (λ small. length-with_words (value_put code.modulus code.lanes a (record { memory = seen; registers = file })) file (register_put a * code.lanes) ∙ s.file q lt)
            (λ other ne. s.file other);
        files_below = at_one (λ o (f : List ℕ). AreBelow code.modulus f) t.registers q after [] (omega (arith, s.files))
            (effect_registers_below code.modulus code.lanes pos (record { memory = seen; registers = file }) seen_below (s.files_below q) a)
            (λ other ne. s.files_below other);
        dones = length-set t.done q _ ∙ s.dones;
        lines = length-set t.queues q _ ∙ s.lines;
        lanes = at_one (λ o (b : Backlog). o < code.procs → b.lanes ≡ code.lanes) t.queues q new (record { lanes = 0; waiting = []; room = 0; most = 0; span = 0 }) (omega (arith, s.lines))
            (λ small. s.lanes q lt)
            (λ other ne. s.lanes other);
        spans = at_one (λ o (b : Backlog). o < code.procs → b.span ≡ 4 * padded code) t.queues q new (record { lanes = 0; waiting = []; room = 0; most = 0; span = 0 }) (omega (arith, s.lines))
            (λ small. s.spans q lt)
            (λ other ne. s.spans other);
        rooms = at_one (λ o (b : Backlog). o < code.procs → stores_among (drop (slice_index (slice_set t.done q (suc n)) o) (acts code t.phase o)) ≤ b.room) t.queues q new (record { lanes = 0; waiting = []; room = 0; most = 0; span = 0 }) (omega (arith, s.lines))
            (λ small. let done_is = get_or-set_same t.done q (suc n) 0 (omega (arith, s.dones)) in
            subst (λ k. stores_among (drop k (acts code t.phase q)) ≤ new.room) (sym done_is) (omega (arith, step, s.rooms q lt)))
            (λ other ne small. subst (λ k. stores_among (drop k (acts code t.phase other)) ≤ (backlog_at t.queues other).room) (sym (get_or-set_other t.done q other (suc n) 0 ne)) (s.rooms other small));
        mosts = λ phase. at_one (λ o (b : Backlog). o < code.procs → stores_among (acts code phase o) ≤ b.most) t.queues q new (record { lanes = 0; waiting = []; room = 0; most = 0; span = 0 }) (omega (arith, s.lines))
            (λ small. s.mosts phase q lt)
            (λ other ne. s.mosts phase other);
        waiting = at_one (λ o (b : Backlog). AreSound code.modulus code.lanes (4 * padded code) b.waiting) t.queues q new (record { lanes = 0; waiting = []; room = 0; most = 0; span = 0 }) (omega (arith, s.lines))
            (sound-append code.modulus code.lanes (4 * padded code) l.waiting (stored code.lanes a file) (s.waiting q) (sound-stored code.modulus code.lanes (4 * padded code) a file pos (s.files_below q) address))
            (λ other ne. s.waiting other);
      }

  -- what it stands for
  pub acted_buffered : (t : Stand) (q : ℕ) (a : Action) → buffered_of (acted_stand code.modulus code.lanes q a t)
      ≡ buffered_acted code q a (buffered_of t)
  acted_buffered t q a =
      let file : List ℕ = slice_index_or t.registers q [] in
      let l : Backlog = backlog_at t.queues q in
      ap₂ (λ (queues : List (List Waiting)) (seen : List Waiting). record {
        state = record {
          memory = t.memory;
          registers = slice_set t.registers q (effect code.modulus code.lanes a (record { memory = overlaid t.memory seen; registers = file })).registers;
          phase = t.phase;
          done = slice_set t.done q (suc (slice_index t.done q));
        };
        queues = queues;
      })
      (map-set (λ (l : Backlog). l.waiting) t.queues q (after_action code.lanes a file l) ∙ ap (λ (ws : List Waiting). slice_set (waits_of t.queues) q (ws ++ stored code.lanes a file)) (sym (queue_is t.queues q)))
      (sym (queue_is t.queues q))

  -- The phase moves on

  list_any_not : {X : Type 0} (p : X → Bool) (xs : List X) (k : ℕ) (d : X) → list_any p xs ≡ false → k < length xs →
      p (get_or xs k d) ≡ false
  list_any_not p xs k d none lt =
      ⊎_elim
      (λ (yes : p (get_or xs k d) ≡ true). absurd (false≢true (sym none ∙ list_any_at p xs k d lt yes)))
      (λ (no : p (get_or xs k d) ≡ false). no)
      (cases_Bool (p (get_or xs k d)))

  module _ (lens : List ℕ) (h : HasLens code lens) where
    open_is_left : (phase : ℕ) (done : List ℕ) → length done ≡ code.procs →
        is_open code phase done ≡ list_any (λ d. nat_lt d (slice_index lens phase)) done
    open_is_left phase done size =
        let len : ℕ = slice_index lens phase in
        ⊎_elim
        (λ (o : is_open code phase done ≡ true). o ∙ sym (⊎_elim
        (λ (some : list_any (λ d. nat_lt d len) done ≡ true). some)
        (λ (none : list_any (λ d. nat_lt d len) done ≡ false).
        absurd (false≢true (sym (not_open code phase done (λ q lt. ap (nat_lt (slice_index done q)) (h.each phase q lt) ∙ list_any_not (λ d. nat_lt d len) done q 0 none (omega arith))) ∙ o)))
        (cases_Bool (list_any (λ d. nat_lt d len) done))))
        (λ (c : is_open code phase done ≡ false). c ∙ sym (list_any_none (λ d. nat_lt d len) done (λ q d lt. ⊎_elim
        (λ (left : slice_index done q < len). absurd (false≢true (sym c ∙ open_at code phase done q (omega arith) (omega (arith, h.each phase q (omega arith))))))
        (λ (over : len ≤ slice_index done q). le-ltb _ _ (omega (arith, same_default done q d lt)))
        (cases_lt (slice_index done q) len))))
        (cases_Bool (is_open code phase done))
      where
        same_default : (xs : List ℕ) (k d : ℕ) → k < length xs → get_or xs k d ≡ slice_index xs k
        same_default [] k d lt = absurd (omega arith)
        same_default (x ∷ xs) zero d lt = refl
        same_default (x ∷ xs) (suc k) d lt = same_default xs k d (omega arith)

    zeros_left : (n len : ℕ) → 0 < n → list_any (λ d. nat_lt d len) (replicate n 0) ≡ nat_lt 0 len
    zeros_left zero len pos = absurd (omega arith)
    zeros_left (suc zero) len pos = or_none (nat_lt 0 len)
      where
        or_none : (b : Bool) → (b || false) ≡ b
        or_none true = refl
        or_none false = refl
    zeros_left (suc (suc n)) len pos = ap (λ b. nat_lt 0 len || b) (zeros_left (suc n) len (omega arith)) ∙ or_same (nat_lt 0 len)
      where
        or_same : (b : Bool) → (b || b) ≡ b
        or_same true = refl
        or_same false = refl

    pub first_is_busy : 0 < code.procs → (n phase : ℕ) → first_open code n phase ≡ first_busy lens n phase
    first_is_busy pos zero phase = refl
    first_is_busy pos (suc n) phase =
        ap₂ (λ b k. cond b phase k)
        (open_is_left phase (none_done code) (length-replicate code.procs 0) ∙ zeros_left code.procs (slice_index lens phase) pos)
        (first_is_busy pos n (phase + 1))

    none_cleared : (queues : List Backlog) → some_wait (waits_of queues) ≡ false →
        waits_of (map cleared queues) ≡ waits_of queues
    none_cleared [] e = refl
    none_cleared (l ∷ queues) e =
        let empty = not_waiting l.waiting (some_wait (waits_of queues)) e in
        ap₂ (λ (x : List Waiting) (xs : List (List Waiting)). x ∷ xs) (sym empty.0) (none_cleared queues empty.1)

    -- what the phase moves on to is what it stands for
    pub settled_buffered : (t : Stand) → 0 < code.procs → length t.done ≡ code.procs →
        buffered_of (settled_stand lens t) ≡ buffered_moved_on code (buffered_of t)
    settled_buffered t pos size = at (some_wait (waits_of t.queues)) refl (list_any (λ d. nat_lt d (slice_index lens t.phase)) t.done) refl
      where
        at : (w : Bool) → some_wait (waits_of t.queues) ≡ w → (o : Bool) →
            list_any (λ d. nat_lt d (slice_index lens t.phase)) t.done ≡ o →
            buffered_of (settled_stand lens t) ≡ buffered_moved_on code (buffered_of t)
        at true ew o eo =
            ap (λ b. buffered_of (cond (b || list_any (λ d. nat_lt d (slice_index lens t.phase)) t.done) t (next_stand lens t))) ew
            ∙ sym (ap (λ b. record { state = cond b (buffered_of t).state (moved_on code (buffered_of t).state); queues = waits_of t.queues }) ew)
        at false ew true eo =
            ap₂ (λ b c. buffered_of (cond (b || c) t (next_stand lens t))) ew eo
            ∙ sym (ap₂ (λ b c. record { state = cond b (buffered_of t).state (cond c (buffered_of t).state (record { memory = t.memory; registers = t.registers; phase = first_open code (phases_after code t.phase) (t.phase + 1); done = none_done code })); queues = waits_of t.queues }) ew (open_is_left t.phase t.done size ∙ eo))
        at false ew false eo =
            ap₂ (λ b c. buffered_of (cond (b || c) t (next_stand lens t))) ew eo
            ∙ (ap₂ (λ (ws : List (List Waiting)) (k : ℕ). record { state = record { memory = t.memory; registers = t.registers; phase = k; done = replicate (length t.done) 0 }; queues = ws })
            (none_cleared t.queues ew)
            (ap (λ n. first_busy lens (n - (t.phase + 1)) (t.phase + 1)) (sym h.count) ∙ sym (first_is_busy pos (phases_after code t.phase) (t.phase + 1)))
            ∙ (ap (λ n. record { state = record { memory = t.memory; registers = t.registers; phase = first_open code (phases_after code t.phase) (t.phase + 1); done = replicate n 0 }; queues = waits_of t.queues }) size
            ∙ sym (ap₂ (λ b c. record { state = cond b (buffered_of t).state (cond c (buffered_of t).state (record { memory = t.memory; registers = t.registers; phase = first_open code (phases_after code t.phase) (t.phase + 1); done = none_done code })); queues = waits_of t.queues }) ew (open_is_left t.phase t.done size ∙ eo))))

  -- the queues are cleared, and the phase is another
  cleared_at : (queues : List Backlog) (q : ℕ) → q < length queues →
      backlog_at (map cleared queues) q ≡ cleared (backlog_at queues q)
  cleared_at queues q lt = get_or-map cleared queues q (record { lanes = 0; waiting = []; room = 0; most = 0; span = 0 }) (record { lanes = 0; waiting = []; room = 0; most = 0; span = 0 }) lt

  pub standing_anew : (t : Stand) (phase : ℕ) → IsStanding code t → IsStanding code (record { memory = t.memory; registers = t.registers; queues = map cleared t.queues; phase = phase; done = replicate (length t.done) 0 })
  standing_anew t phase s =
      let size : length (map cleared t.queues) ≡ code.procs = length-map t.queues cleared ∙ s.lines in
      record {
        memory = s.memory;
        memory_below = s.memory_below;
        files = s.files;
        file = s.file;
        files_below = s.files_below;
        dones = length-replicate (length t.done) 0 ∙ s.dones;
        lines = size;
        lanes = λ q lt. ap (λ (l : Backlog). l.lanes) (cleared_at t.queues q (omega (arith, s.lines))) ∙ s.lanes q lt;
        spans = λ q lt. ap (λ (l : Backlog). l.span) (cleared_at t.queues q (omega (arith, s.lines))) ∙ s.spans q lt;
        rooms = λ q lt. subst (λ (l : Backlog). stores_among (drop (slice_index (replicate (length t.done) 0) q) (acts code phase q)) ≤ l.room) (sym (cleared_at t.queues q (omega (arith, s.lines))))
            (subst (λ k. stores_among (drop k (acts code phase q)) ≤ (backlog_at t.queues q).most) (sym (slice_index-zeros (length t.done) q)) (s.mosts phase q lt));
        mosts = λ phase q lt. subst (λ (l : Backlog). stores_among (acts code phase q) ≤ l.most) (sym (cleared_at t.queues q (omega (arith, s.lines)))) (s.mosts phase q lt);
        waiting = λ q. cleared_sound code.modulus code.lanes (4 * padded code) t.queues q;
      }
    where
      cleared_sound : (m lanes span : ℕ) (queues : List Backlog) (q : ℕ) →
          AreSound m lanes span (backlog_at (map cleared queues) q).waiting
      cleared_sound m lanes span [] q = subst (λ (l : Backlog). AreSound m lanes span l.waiting) (sym (get_or_past [] q (record { lanes = 0; waiting = []; room = 0; most = 0; span = 0 }) (omega arith))) tt
      cleared_sound m lanes span (l ∷ queues) zero = tt
      cleared_sound m lanes span (l ∷ queues) (suc q) = cleared_sound m lanes span queues q

  pub standing_settled : (lens : List ℕ) (t : Stand) → IsStanding code t → IsStanding code (settled_stand lens t)
  standing_settled lens t s = at (is_held (slice_index lens t.phase) t.done t.queues)
    where
      at : (b : Bool) → IsStanding code (cond b t (next_stand lens t))
      at true = s
      at false = standing_anew t (first_busy lens (length lens - (t.phase + 1)) (t.phase + 1)) s

  pub standing_written : (t u : Stand) (q address : ℕ) → IsStanding code t → q < code.procs → IsWritten q t u address →
      IsStanding code u
  standing_written t u q address s lt w =
      let l : Backlog = backlog_at t.queues q in
      let sound : AreSound code.modulus code.lanes (4 * padded code) (w.drained.oldest ∷ w.queue.waiting) = subst (AreSound code.modulus code.lanes (4 * padded code)) w.drained.splits (s.waiting q) in
      let inside : q < length t.queues = omega (arith, s.lines) in
      record {
        memory = ap length w.drained.written ∙ (length-with_words w.drained.oldest.words t.memory w.drained.oldest.address ∙ s.memory);
        memory_below = subst (AreBelow code.modulus) (sym w.drained.written) (below-with_words code.modulus t.memory w.drained.oldest.address w.drained.oldest.words s.memory_below sound.2);
        files = ap length w.registers ∙ s.files;
        file = subst (λ (rs : List (List ℕ)). (q : ℕ) → q < code.procs → length (slice_index_or rs q []) ≡ code.regs * code.lanes) (sym w.registers) s.file;
        files_below = subst (λ (rs : List (List ℕ)). (q : ℕ) → AreBelow code.modulus (slice_index_or rs q [])) (sym w.registers) s.files_below;
        dones = ap length w.done ∙ s.dones;
        lines = ap length w.queues ∙ (length-set t.queues q _ ∙ s.lines);
        lanes = subst (λ (queues : List Backlog). (q : ℕ) → q < code.procs → (backlog_at queues q).lanes ≡ code.lanes) (sym w.queues)
            (at_one (λ o (b : Backlog). o < code.procs → b.lanes ≡ code.lanes) t.queues q w.queue (record { lanes = 0; waiting = []; room = 0; most = 0; span = 0 }) inside
            (λ small. w.drained.lanes ∙ s.lanes q lt)
            (λ other ne. s.lanes other));
        spans = subst (λ (queues : List Backlog). (q : ℕ) → q < code.procs → (backlog_at queues q).span ≡ 4 * padded code) (sym w.queues)
            (at_one (λ o (b : Backlog). o < code.procs → b.span ≡ 4 * padded code) t.queues q w.queue (record { lanes = 0; waiting = []; room = 0; most = 0; span = 0 }) inside
            (λ small. w.drained.span ∙ s.spans q lt)
            (λ other ne. s.spans other));
        rooms = subst (λ (queues : List Backlog). (q : ℕ) → q < code.procs → stores_among (drop (slice_index u.done q) (acts code u.phase q)) ≤ (backlog_at queues q).room) (sym w.queues)
            (subst (λ (d : List ℕ). (o : ℕ) → o < code.procs → stores_among (drop (slice_index d o) (acts code u.phase o)) ≤ (backlog_at (slice_set t.queues q w.queue) o).room) (sym w.done)
            (subst (λ (p : ℕ). (o : ℕ) → o < code.procs → stores_among (drop (slice_index t.done o) (acts code p o)) ≤ (backlog_at (slice_set t.queues q w.queue) o).room) (sym w.phase)
            (at_one (λ o (b : Backlog). o < code.procs → stores_among (drop (slice_index t.done o) (acts code t.phase o)) ≤ b.room) t.queues q w.queue (record { lanes = 0; waiting = []; room = 0; most = 0; span = 0 }) inside
            (λ small. omega (arith, w.drained.room, s.rooms q lt))
            (λ other ne. s.rooms other))));
        mosts = subst (λ (queues : List Backlog). (phase q : ℕ) → q < code.procs → stores_among (acts code phase q) ≤ (backlog_at queues q).most) (sym w.queues)
            (λ phase. at_one (λ o (b : Backlog). o < code.procs → stores_among (acts code phase o) ≤ b.most) t.queues q w.queue (record { lanes = 0; waiting = []; room = 0; most = 0; span = 0 }) inside
            (λ small. omega (arith, w.drained.most, s.mosts phase q lt))
            (λ other ne. s.mosts phase other));
        waiting = subst (λ (queues : List Backlog). (q : ℕ) → AreSound code.modulus code.lanes (4 * padded code) (backlog_at queues q).waiting) (sym w.queues)
            (at_one (λ o (b : Backlog). AreSound code.modulus code.lanes (4 * padded code) b.waiting) t.queues q w.queue (record { lanes = 0; waiting = []; room = 0; most = 0; span = 0 }) inside
            sound.3
            (λ other ne. s.waiting other));
      }

  pub written_buffered : (t u : Stand) (q address : ℕ) (w : IsWritten q t u address) →
      buffered_of u ≡ written q w.drained.oldest w.queue.waiting (buffered_of t)
  written_buffered t u q address w =
      let queues : waits_of u.queues ≡ slice_set (waits_of t.queues) q w.queue.waiting = ap waits_of w.queues ∙ map-set (λ (l : Backlog). l.waiting) t.queues q w.queue in
      let one : buffered_of u ≡ record { state = record { memory = with_words t.memory w.drained.oldest.address w.drained.oldest.words; registers = t.registers; phase = u.phase; done = u.done }; queues = waits_of u.queues } =
      ap₂ (λ (m : List ℕ) (rs : List (List ℕ)). record { state = record { memory = m; registers = rs; phase = u.phase; done = u.done }; queues = waits_of u.queues }) w.drained.written w.registers in
      let two : record { state = record { memory = with_words t.memory w.drained.oldest.address w.drained.oldest.words; registers = t.registers; phase = u.phase; done = u.done }; queues = waits_of u.queues } ≡ record { state = record { memory = with_words t.memory w.drained.oldest.address w.drained.oldest.words; registers = t.registers; phase = t.phase; done = t.done }; queues = waits_of u.queues } =
      ap₂ (λ (p : ℕ) (d : List ℕ). record { state = record { memory = with_words t.memory w.drained.oldest.address w.drained.oldest.words; registers = t.registers; phase = p; done = d }; queues = waits_of u.queues }) w.phase w.done in
      one ∙ (two ∙ ap (λ (qs : List (List Waiting)). record { state = record { memory = with_words t.memory w.drained.oldest.address w.drained.oldest.words; registers = t.registers; phase = t.phase; done = t.done }; queues = qs }) queues)
