-- Runs on words go with runs on residues, turn by turn.
use Rattle.std.proofs.Common.{◌≡◌, ℕ, zero, suc, ◌+◌, ◌-◌, ◌*◌, ◌%◌, ◌<◌, ◌≤◌, ◌≢◌, List, [], ◌∷◌, ◌++◌, Bool, true}
use Rattle.std.proofs.Common.{false}
use Rattle.std.proofs.Common.{cond, Option, Some, None, length, map, drop, replicate, refl, sym, ap, ap₂, ◌∙◌, subst}
use Rattle.std.proofs.Common.{arith, ⊎_elim, get_or-set_same, get_or-set_other, mul-le-mul_left}
use Rattle.std.specs.Prelude.{slice_get, slice_index, slice_index_or, slice_set, option_map}
use Rattle.std.proofs.Math.ListN.{get_or-map}
use Rattle.std.proofs.Math.Nat.{mod-eq_of_lt}
use Rattle.std.proofs.lemmas.Bool.{cases_eq, cases_lt}
use Rattle.std.proofs.lemmas.List.{length-replicate, length-set, map-set, map-append}
use Rattle.std.proofs.lemmas.Option.{slice_get-map}
use Rattle.std.proofs.lemmas.Nat.{div-add-mod', mod_below}
use Rattle.icode.specs.Machine.{State, Local, acts, effect, is_open, none_done, first_open, phases_after, moved_on}
use Rattle.icode.specs.Machine.{acted, turn_with, turn, run, completion, start, runs, results, padded, words_at}
use Rattle.icode.specs.Machine.{whole_lines}
use Rattle.icode.proofs.BufferedCompletion.{drop_at}
use Rattle.icode.proofs.End.{slice_index-zeros}
use Rattle.word_code.specs.Quicken.{Kept}
use Rattle.word_code.specs.WordMachine.{WordAction, WordCode, under, actions_under, word_acts, word_effect, word_acted}
use Rattle.word_code.specs.WordMachine.{word_turn_with, word_turn, word_run, word_runs, word_results}
use Rattle.word_code.proofs.Residues.{residues, residues-zeros, residues-words_at, AllBelow}
use Rattle.word_code.proofs.Residues.{below-words_at}
use Rattle.word_code.proofs.Bounds.{Bounds, AreRegistersBelow, weaker}
use Rattle.word_code.proofs.Quick.{Scale, at_each, IsMemoryBelow, outer_below, residue_local, IsQuick, AreQuick}

-- the state of residues
abbrev pub residue_state : ℕ → State → State
residue_state m t =
    record { memory = residues m t.memory; registers = map (residues m) t.registers; phase = t.phase; done = t.done }

-- the actions under those on words
pub acts_under : (code : WordCode) (phase q : ℕ) → acts (under code) phase q ≡ actions_under (word_acts code phase q)
acts_under code phase q =
    ap (λ lists. slice_index_or lists q []) (get_or-map (λ (lists : List (List WordAction)). map actions_under lists) code.lists phase [])
    ∙ get_or-map actions_under (slice_index_or code.lists phase []) q []

pub residues-of_residues : (m : ℕ) (xs : List ℕ) → AllBelow m xs → residues m xs ≡ xs
residues-of_residues m [] low = refl
residues-of_residues m (x ∷ xs) low = ap₂ (λ y ys. y ∷ ys) (mod-eq_of_lt low.0) (residues-of_residues m xs low.1)

pub input_below : (m : ℕ) (x : List ℕ) (n k : ℕ) → 0 < m → AllBelow m x → slice_index (x ++ replicate n 0) k < m
input_below m [] n k pos low = subst (λ v. v < m) (sym (slice_index-zeros n k)) pos
input_below m (v ∷ vs) n zero pos low = low.0
input_below m (v ∷ vs) n (suc k) pos low = input_below m vs n k pos low.1

-- the memory at the start is of residues
pub input_is : (m : ℕ) (x : List ℕ) (n : ℕ) → AllBelow m x → residues m (x ++ replicate n 0) ≡ x ++ replicate n 0
input_is m x n low =
    map-append (λ w. w % m) x (replicate n 0) ∙ ap₂ (λ a b. a ++ b) (residues-of_residues m x low) (residues-zeros m n)

pub starts_below : (s : Scale) (x : List ℕ) (n : ℕ) → 0 < s.modulus → 1 ≤ s.kept.of_a → 1 ≤ s.kept.of_b →
    AllBelow s.modulus x → IsMemoryBelow s (x ++ replicate n 0)
starts_below s x n pos of_a of_b low =
    let some = at_each s s.kept (λ a b. 1 ≤ a) (omega arith) of_a of_b in
    record {
      each = λ k.
          let a = input_below s.modulus x n k pos low in
          let b = mul-le-mul_left s.modulus (some k) in
          omega (arith, a, b);
    }

-- so are the registers, of which each is 0
pub empty_files : (m procs n : ℕ) → map (residues m) (replicate procs (replicate n 0)) ≡ replicate procs (replicate n 0)
empty_files m zero n = refl
empty_files m (suc procs) n = ap₂ (λ y ys. y ∷ ys) (residues-zeros m n) (empty_files m procs n)

pub starts_low : (m lanes : ℕ) (b : Bounds) (procs n q : ℕ) → 0 < m → ((r : ℕ) → 1 ≤ b r) →
    AreRegistersBelow m lanes b (slice_index_or (replicate procs (replicate n 0)) q [])
starts_low m lanes b procs n q pos some =
    record {
      each = λ r l small.
          let a = mul-le-mul_left m (some r) in
          let e = empty procs q (r * lanes + l) in
          omega (arith, a, e, pos);
    }
  where
    empty : (procs q k : ℕ) → slice_index (slice_index_or (replicate procs (replicate n 0)) q []) k ≡ 0
    empty zero q k = refl
    empty (suc procs) zero k = slice_index-zeros n k
    empty (suc procs) (suc q) k = empty procs q k

-- an array has room for its words
pub size_within : (size line : ℕ) → 1 ≤ line → size ≤ whole_lines size line
size_within size line some =
    let a = div-add-mod' (size + (line - 1)) line in
    let b = mod_below (size + (line - 1)) line some in
    omega (arith, a, b)

abbrev top : Scale → Bounds
top s = λ r. s.limit

-- every list of the code goes by its bounds, and there is none past the processors
pub record IsQuickCode (s : Scale) (code : WordCode) : Type 0 where
  pub each : (phase q : ℕ) → AreQuick s (top s) (word_acts code phase q) (top s)
  pub past : (phase q : ℕ) → code.procs ≤ q → word_acts code phase q ≡ []

-- a processor's registers, with what it has left of the phase
pub record IsReady (s : Scale) (registers : List ℕ) (left : List WordAction) : Type 0 where
  pub bounds : Bounds
  pub sane : (r : ℕ) → bounds r ≤ s.limit
  pub below : AreRegistersBelow s.modulus s.lanes bounds registers
  pub goes : AreQuick s bounds left (top s)

pub record IsSteady (s : Scale) (code : WordCode) (t : State) : Type 0 where
  pub memory : IsMemoryBelow s t.memory
  pub files : length t.registers ≡ code.procs
  pub counts : length t.done ≡ code.procs
  pub each : (q : ℕ) → q < code.procs → IsReady s (slice_index_or t.registers q [])
      (drop (slice_index t.done q) (word_acts code t.phase q))

-- a state on words goes with the state of its residues
pub record Goes (s : Scale) (code : WordCode) (residue : State) (t : State) : Type 0 where
  pub same : residue ≡ residue_state code.modulus t
  pub steady : IsSteady s code t

abbrev pub scale_of : WordCode → Kept → ℕ → Scale
scale_of code kept limit =
    record {
      width = code.width;
      modulus = code.modulus;
      lanes = code.lanes;
      padded = whole_lines code.size code.line;
      kept = kept;
      limit = limit;
    }

module _ (code : WordCode) (kept : Kept) (limit : ℕ) (quick : IsQuickCode (scale_of code kept limit) code) where
  abbrev s : Scale
  s = scale_of code kept limit

  -- the phase moves on

  abbrev next_phase : State → State
  next_phase t =
      record {
        memory = t.memory;
        registers = t.registers;
        phase = first_open (under code) (phases_after (under code) t.phase) (t.phase + 1);
        done = none_done (under code);
      }

  next_steady : (t : State) → IsSteady s code t → IsSteady s code (next_phase t)
  next_steady t steady =
      record {
        memory = steady.memory;
        files = steady.files;
        counts = length-replicate code.procs 0;
        each = λ q lt.
            let ready = steady.each q lt in
            record {
              bounds = top s;
              sane = λ r. omega arith;
              below = weaker s.modulus s.lanes ready.bounds (top s) (slice_index_or t.registers q []) ready.sane ready.below;
              goes = subst (λ i. AreQuick s (top s) (drop i
                  (word_acts code (first_open (under code) (phases_after (under code) t.phase) (t.phase + 1)) q))
                  (top s)) (sym (slice_index-zeros code.procs q)) (quick.each _ q);
            };
      }

  moves_on : (t : State) → IsSteady s code t → Goes s code (moved_on (under code) (residue_state code.modulus t))
      (moved_on (under code) t)
  moves_on t steady = cases (is_open (under code) t.phase t.done)
    where
      cases : (b : Bool) → Goes s code (cond b (residue_state code.modulus t)
          (residue_state code.modulus (next_phase t))) (cond b t (next_phase t))
      cases true = record { same = refl; steady = steady }
      cases false = record { same = refl; steady = next_steady t steady }

  -- a processor's action

  abbrev local : State → ℕ → Local
  local t q = record { memory = t.memory; registers = slice_index_or t.registers q [] }

  abbrev after : State → ℕ → WordAction → Local
  after t q f = word_effect code.width code.modulus code.lanes f (local t q)

  abbrev made : State → ℕ → Local → State
  made t q l =
      record {
        memory = l.memory;
        registers = slice_set (map (residues code.modulus) t.registers) q l.registers;
        phase = t.phase;
        done = slice_set t.done q (suc (slice_index t.done q));
      }

  actions_go : (t : State) (q : ℕ) (f : WordAction) → q < code.procs →
      slice_get (word_acts code t.phase q) (slice_index t.done q) ≡ Some f → IsSteady s code t →
      Goes s code (acted (under code) q f.action (residue_state code.modulus t)) (word_acted code q f t)
  actions_go t q f lt e steady =
      let ready = steady.each q lt in
      let first = drop_at (word_acts code t.phase q) (slice_index t.done q) f e in
      let goes : AreQuick s ready.bounds (f ∷ drop (suc (slice_index t.done q)) (word_acts code t.phase q)) (top s) = subst (λ fs. AreQuick s ready.bounds fs (top s)) first ready.goes in
      at ready.bounds ready.below goes.0 goes.1 goes.2
    where
      at : (b : Bounds) → AreRegistersBelow code.modulus code.lanes b (slice_index_or t.registers q []) → (c : Bounds) →
          IsQuick s b f c →
          AreQuick s c (drop (suc (slice_index t.done q)) (word_acts code t.phase q)) (top s) →
          Goes s code (acted (under code) q f.action (residue_state code.modulus t)) (word_acted code q f t)
      at b below c is rest =
          record {
            same = same;
            steady = record {
              memory = is.memory (local t q) steady.memory below;
              files = length-set t.registers q ((after t q f).registers) ∙ steady.files;
              counts = length-set t.done q (suc (slice_index t.done q)) ∙ steady.counts;
              each = λ p small. ⊎_elim
                  (λ (here : p ≡ q). subst (λ k. IsReady s (slice_index_or (slice_set t.registers q ((after t q f).registers)) k []) (drop (slice_index (slice_set t.done q (suc (slice_index t.done q))) k) (word_acts code t.phase k))) (sym here) this)
                  (λ (other : p ≢ q). others p small other)
                  (cases_eq p q);
            };
          }
        where
          wide : q < length t.registers
          wide = let x = steady.files in omega arith

          long : q < length t.done
          long = let x = steady.counts in omega arith

          this : IsReady s (slice_index_or (slice_set t.registers q ((after t q f).registers)) q [])
              (drop (slice_index (slice_set t.done q (suc (slice_index t.done q))) q) (word_acts code t.phase q))
          this =
              let words : slice_index_or (slice_set t.registers q ((after t q f).registers)) q [] ≡ ((after t q f).registers) = get_or-set_same t.registers q ((after t q f).registers) [] wide in
              let count : slice_index (slice_set t.done q (suc (slice_index t.done q))) q ≡ suc (slice_index t.done q) = get_or-set_same t.done q (suc (slice_index t.done q)) 0 long in
              record {
                bounds = c;
                sane = is.sane;
                below = subst (AreRegistersBelow code.modulus code.lanes c) (sym words) (is.registers (local t q) steady.memory below);
                goes = subst (λ k. AreQuick s c (drop k (word_acts code t.phase q)) (top s)) (sym count) rest;
              }

          others : (p : ℕ) → p < code.procs → p ≢ q → IsReady s
              (slice_index_or (slice_set t.registers q ((after t q f).registers)) p [])
              (drop (slice_index (slice_set t.done q (suc (slice_index t.done q))) p) (word_acts code t.phase p))
          others p small other =
              let words : slice_index_or (slice_set t.registers q ((after t q f).registers)) p [] ≡ slice_index_or t.registers p [] = get_or-set_other t.registers q p ((after t q f).registers) [] other in
              let count : slice_index (slice_set t.done q (suc (slice_index t.done q))) p ≡ slice_index t.done p = get_or-set_other t.done q p (suc (slice_index t.done q)) 0 other in
              let ready = steady.each p small in
              subst (λ xs. IsReady s xs (drop (slice_index (slice_set t.done q (suc (slice_index t.done q))) p) (word_acts code t.phase p))) (sym words)
              (subst (λ k. IsReady s (slice_index_or t.registers p []) (drop k (word_acts code t.phase p))) (sym count) ready)

          -- the processor's registers are read as residues
          read : slice_index_or (map (residues code.modulus) t.registers) q []
              ≡ residues code.modulus (slice_index_or t.registers q [])
          read = get_or-map (residues code.modulus) t.registers q []

          effects_go : effect code.modulus code.lanes f.action (record { memory = residues code.modulus t.memory; registers = slice_index_or (map (residues code.modulus) t.registers) q [] }) ≡ residue_local code.modulus (after t q f)
          effects_go =
              ap (λ xs. effect code.modulus code.lanes f.action (record { memory = residues code.modulus t.memory; registers = xs })) read
              ∙ is.same (local t q) steady.memory below

          same : acted (under code) q f.action (residue_state code.modulus t)
              ≡ residue_state code.modulus (word_acted code q f t)
          same =
              ap (made t q) effects_go
              ∙ ap (λ files. let s : State = record { memory = residues code.modulus (after t q f).memory; registers = files; phase = t.phase; done = slice_set t.done q (suc (slice_index t.done q)) } in s)
              (sym (map-set (residues code.modulus) t.registers q ((after t q f).registers)))

  -- a turn

  turn_goes : (t : State) (q : ℕ) → IsSteady s code t → Goes s code (turn (under code) (residue_state code.modulus t) q)
      (word_turn code t q)
  turn_goes t q steady =
      let fs = word_acts code t.phase q in
      let i = slice_index t.done q in
      let next : slice_get (acts (under code) t.phase q) i ≡ option_map (λ (f : WordAction). f.action) (slice_get fs i) =
      ap (λ xs. slice_get xs i) (acts_under code t.phase q) ∙ slice_get-map (λ (f : WordAction). f.action) fs i in
      subst (λ o. Goes s code (turn_with (under code) q (residue_state code.modulus t) o) (word_turn code t q)) (sym next)
      (cases (slice_get fs i) refl)
    where
      cases : (o : Option WordAction) → slice_get (word_acts code t.phase q) (slice_index t.done q) ≡ o →
          Goes s code (turn_with (under code) q (residue_state code.modulus t)
          (option_map (λ (f : WordAction). f.action) o)) (word_turn_with code q t o)
      cases None e = record { same = refl; steady = steady }
      cases (Some f) e =
          let lt : q < code.procs =
          ⊎_elim
          (λ (lt : q < code.procs). lt)
          (λ (ge : code.procs ≤ q). let none = quick.past t.phase q ge in let e2 = ap (λ xs. slice_get xs (slice_index t.done q)) none in absurd (cc))
          (cases_lt q code.procs) in
          let act = actions_go t q f lt e steady in
          let on = moves_on (word_acted code q f t) act.steady in
          record { same = ap (moved_on (under code)) act.same ∙ on.same; steady = on.steady }

  run_goes : (turns : List ℕ) (t : State) → IsSteady s code t →
      Goes s code (run (under code) (residue_state code.modulus t) turns) (word_run code t turns)
  run_goes [] t steady = record { same = refl; steady = steady }
  run_goes (q ∷ turns) t steady =
      let one = turn_goes t q steady in
      let rest = run_goes turns (word_turn code t q) one.steady in
      record { same = ap (λ r. run (under code) r turns) one.same ∙ rest.same; steady = rest.steady }

  -- whole runs

  start_goes : (x : List ℕ) → 0 < code.modulus → 1 ≤ kept.of_a → 1 ≤ kept.of_b → 1 ≤ limit → AllBelow code.modulus x →
      Goes s code (start (under code) x) (start (under code) x)
  start_goes x pos of_a of_b some low =
      record {
        same =
            let n = 4 * padded (under code) - code.size in
            ap₂ (λ memory files. let t : State = record { memory = memory; registers = files; phase = first_open (under code) (length (under code).lists) 0; done = none_done (under code) } in t)
            (sym (input_is code.modulus x n low)) (sym (empty_files code.modulus code.procs (code.regs * code.lanes)));
        steady = record {
          memory = starts_below s x (4 * padded (under code) - code.size) pos of_a of_b low;
          files = length-replicate code.procs (replicate (code.regs * code.lanes) 0);
          counts = length-replicate code.procs 0;
          each = λ q lt. record {
            bounds = top s;
            sane = λ r. omega arith;
            below = starts_low code.modulus code.lanes (top s) code.procs (code.regs * code.lanes) q pos (λ r. some);
            goes = subst (λ i. AreQuick s (top s) (drop i
                (word_acts code (first_open (under code) (length (under code).lists) 0) q)) (top s))
                (sym (slice_index-zeros code.procs q)) (quick.each _ q);
          };
        };
      }

  runs_go : (x turns : List ℕ) → 0 < code.modulus → 1 ≤ kept.of_a → 1 ≤ kept.of_b → 1 ≤ limit →
      AllBelow code.modulus x → Goes s code (runs (under code) x turns) (word_runs code x turns)
  runs_go x turns pos of_a of_b some low =
      let begin = start_goes x pos of_a of_b some low in
      let middle = run_goes turns (start (under code) x) begin.steady in
      let between : run (under code) (start (under code) x) turns ≡ residue_state code.modulus (word_run code (start (under code) x) turns) =
      ap (λ r. run (under code) r turns) begin.same ∙ middle.same in
      let t = word_run code (start (under code) x) turns in
      let last = run_goes (completion (under code) t) t middle.steady in
      record { same = ap (λ r. run (under code) r (completion (under code) r)) between ∙ last.same; steady = last.steady }

  -- the words that a run leaves in Y are those of the run on residues
  pub results_are : (x turns : List ℕ) → 0 < code.modulus → 1 ≤ code.line → 1 ≤ kept.of_a → 1 ≤ kept.of_b → 1 ≤ limit →
      AllBelow code.modulus x → word_results code x turns ≡ results (under code) x turns
  results_are x turns pos line of_a of_b some low =
      let go = runs_go x turns pos of_a of_b some low in
      let t = word_runs code x turns in
      let n = padded (under code) in
      let within = size_within code.size code.line line in
      let words : AllBelow code.modulus (words_at code.size t.memory n) = below-words_at code.modulus code.size t.memory
      n (λ l lt. outer_below s t.memory (n + l) go.steady.memory (omega arith)) in
      sym (
      ap (λ (r : State). words_at code.size r.memory n) go.same
      ∙ residues-words_at code.modulus code.size t.memory n
      ∙ residues-of_residues code.modulus (words_at code.size t.memory n) words
      )
