-- Runs on doubles go with runs on residues, turn by turn.
use Rattle.std.proofs.Common.{◌≡◌, ℕ, zero, suc, ◌+◌, ◌-◌, ◌*◌, ◌<◌, ◌≤◌, ◌≢◌, List, [], ◌∷◌, ◌++◌, Bool, true}
use Rattle.std.proofs.Common.{false, cond, Option, Some, None, length, map, drop, replicate, refl, sym, ap, ap₂}
use Rattle.std.proofs.Common.{◌∙◌, subst}
use Rattle.std.proofs.Common.{arith, ⊎_elim, get_or-set_same, get_or-set_other, ℤ, pos, unsigned_abs}
use Rattle.std.specs.Prelude.{slice_get, slice_index, slice_index_or, slice_set, option_map}
use Rattle.std.proofs.Math.ListN.{get_or-map}
use Rattle.std.proofs.Math.Nat.{mod-eq_of_lt}
use Rattle.std.proofs.lemmas.Bool.{cases_eq, cases_lt}
use Rattle.std.proofs.lemmas.List.{length-replicate, length-set, map-set, map-append}
use Rattle.std.proofs.lemmas.Option.{slice_get-map}
use Rattle.std.proofs.lemmas.Nat.{div-add-mod', mod_below}
use Rattle.icode.specs.Machine.{State, Local, acts, effect, is_open, none_done, first_open, phases_after, moved_on}
use Rattle.icode.specs.Machine.{acted, turn_with, turn, run, completion, start, runs, results, padded, words_at}
use Rattle.icode.specs.Machine.{whole_lines}
use Rattle.icode.proofs.BufferedCompletion.{drop_at}
use Rattle.icode.proofs.End.{slice_index-zeros}
use Rattle.double_code.specs.DoubleMachine.{DoubleAction, DoubleCode, DoubleState, DoubleLocal, under, actions_under}
use Rattle.double_code.specs.DoubleMachine.{double_acts, double_effect, double_acted, double_moved, double_turn_with}
use Rattle.double_code.specs.DoubleMachine.{double_turn, double_run, double_completion, double_start, double_runs}
use Rattle.double_code.specs.DoubleMachine.{double_results, numbers_at}
use Rattle.double_code.specs.Products.{residue}
use Rattle.double_code.specs.Reductions.{limit_of}
use Rattle.double_code.proofs.Bounds.{Bounds, Within, AreRegistersWithin, weaker}
use Rattle.double_code.proofs.Exact.{Scale, IsWhole, IsMemoryHeld, residue_local, IsExact, AreExact}
use Rattle.double_code.proofs.Numbers.{number, residues, residues-zeros, residues-numbers_at, Each, each-numbers_at}
use Rattle.double_code.proofs.Puts.{zero_whole}
use Rattle.double_code.proofs.Residues.{residue_low}

-- residues of the input
abbrev pub AllLow : ℕ → List ℕ → Type 0
AllLow m [] = Unit {0}
AllLow m (x ∷ xs) = (x < m) × AllLow m xs

-- the state of residues
abbrev pub residue_state : ℕ → DoubleState → State
residue_state m t =
    record { memory = residues m t.memory; registers = map (residues m) t.registers; phase = t.phase; done = t.done }

-- the actions under those on doubles
pub acts_under : (code : DoubleCode) (phase q : ℕ) →
    acts (under code) phase q ≡ actions_under (double_acts code phase q)
acts_under code phase q =
    ap (λ lists. slice_index_or lists q [])
    (get_or-map (λ (lists : List (List DoubleAction)). map actions_under lists) code.lists phase [])
    ∙ get_or-map actions_under (slice_index_or code.lists phase []) q []

residues-of_input : (m : ℕ) (xs : List ℕ) → AllLow m xs → residues m (map pos xs) ≡ xs
residues-of_input m [] low = refl
residues-of_input m (x ∷ xs) low = ap₂ (λ y ys. y ∷ ys) (mod-eq_of_lt low.0) (residues-of_input m xs low.1)

-- numbers that are their residues
pub numbers-of_residues : (m : ℕ) (zs : List ℤ) → Each (IsWhole m) zs → zs ≡ map pos (residues m zs)
numbers-of_residues m [] are = refl
numbers-of_residues m (z ∷ zs) are = ap₂ (λ y ys. y ∷ ys) are.0 (numbers-of_residues m zs are.1)

zeros_number : (n k : ℕ) → number (replicate n (pos 0)) k ≡ pos 0
zeros_number zero k = refl
zeros_number (suc n) zero = refl
zeros_number (suc n) (suc k) = zeros_number n k

-- the memory at the start is of residues, and 0 past the input
input_whole : (m : ℕ) (x : List ℕ) (n k : ℕ) → AllLow m x → IsWhole m (number (map pos x ++ replicate n (pos 0)) k)
input_whole m [] n k low = subst (IsWhole m) (sym (zeros_number n k)) (zero_whole m)
input_whole m (v ∷ vs) n zero low = ap pos (sym (mod-eq_of_lt low.0))
input_whole m (v ∷ vs) n (suc k) low = input_whole m vs n k low.1

-- a residue is less than what A and B are kept within
whole_within : (m : ℕ) (z : ℤ) → 0 < m → IsWhole m z → Within (m + 1) z
whole_within m z some e = let a = ap unsigned_abs e in let b = residue_low m z some in omega (arith, a, b)

input_is : (m : ℕ) (x : List ℕ) (n : ℕ) → AllLow m x →
    residues m (map pos x ++ replicate n (pos 0)) ≡ x ++ replicate n 0
input_is m x n low =
    map-append (residue m) (map pos x) (replicate n (pos 0))
    ∙ ap₂ (λ a b. a ++ b) (residues-of_input m x low) (residues-zeros m n)

-- so are the registers, of which each is 0
empty_files : (m procs n : ℕ) →
    map (residues m) (replicate procs (replicate n (pos 0))) ≡ replicate procs (replicate n 0)
empty_files m zero n = refl
empty_files m (suc procs) n = ap₂ (λ y ys. y ∷ ys) (residues-zeros m n) (empty_files m procs n)

starts_low : (lanes : ℕ) (b : Bounds) (procs n q : ℕ) →
    AreRegistersWithin lanes b (slice_index_or (replicate procs (replicate n (pos 0))) q [])
starts_low lanes b procs n q =
    record { each = λ r l small. subst (Within (b r)) (sym (empty procs q (r * lanes + l))) (omega arith) }
  where
    empty : (procs q k : ℕ) → number (slice_index_or (replicate procs (replicate n (pos 0))) q []) k ≡ pos 0
    empty zero q k = refl
    empty (suc procs) zero k = zeros_number n k
    empty (suc procs) (suc q) k = empty procs q k

-- an array has room for its words
pub size_within : (size line : ℕ) → 1 ≤ line → size ≤ whole_lines size line
size_within size line some =
    let a = div-add-mod' (size + (line - 1)) line in
    let b = mod_below (size + (line - 1)) line some in
    omega (arith, a, b)

abbrev top : Scale → Bounds
top s = λ r. limit_of s.modulus

-- every list of the code goes by its bounds, and there is none past the processors
pub record IsExactCode (s : Scale) (code : DoubleCode) : Type 0 where
  pub each : (phase q : ℕ) → AreExact s (top s) (double_acts code phase q) (top s)
  pub past : (phase q : ℕ) → code.procs ≤ q → double_acts code phase q ≡ []

-- a processor's registers, with what it has left of the phase
pub record IsReady (s : Scale) (registers : List ℤ) (left : List DoubleAction) : Type 0 where
  pub bounds : Bounds
  pub sane : (r : ℕ) → bounds r ≤ limit_of s.modulus
  pub within : AreRegistersWithin s.lanes bounds registers
  pub goes : AreExact s bounds left (top s)

pub record IsSteady (s : Scale) (code : DoubleCode) (t : DoubleState) : Type 0 where
  pub memory : IsMemoryHeld s t.memory
  pub files : length t.registers ≡ code.procs
  pub counts : length t.done ≡ code.procs
  pub each : (q : ℕ) → q < code.procs → IsReady s (slice_index_or t.registers q [])
      (drop (slice_index t.done q) (double_acts code t.phase q))

-- a state on doubles goes with the state of its residues
pub record Goes (s : Scale) (code : DoubleCode) (residue : State) (t : DoubleState) : Type 0 where
  pub same : residue ≡ residue_state code.modulus t
  pub steady : IsSteady s code t

abbrev pub scale_of : DoubleCode → Scale
scale_of code = record { modulus = code.modulus; lanes = code.lanes; padded = whole_lines code.size code.line }

module _ (code : DoubleCode) (exact : IsExactCode (scale_of code) code) where
  abbrev s : Scale
  s = scale_of code

  -- the phase moves on

  abbrev next_phase : DoubleState → DoubleState
  next_phase t =
      record {
        memory = t.memory;
        registers = t.registers;
        phase = first_open (under code) (phases_after (under code) t.phase) (t.phase + 1);
        done = none_done (under code);
      }

  next_steady : (t : DoubleState) → IsSteady s code t → IsSteady s code (next_phase t)
  next_steady t steady =
      record {
        memory = steady.memory;
        files = steady.files;
        counts = length-replicate code.procs 0;
        each = λ q lt.
            let ready = steady.each q lt in
            record {
              bounds = top s;
              sane = λ r. omega arith;
              within = weaker s.lanes ready.bounds (top s) (slice_index_or t.registers q []) ready.sane ready.within;
              goes = subst (λ i. AreExact s (top s) (drop i
                  (double_acts code (first_open (under code) (phases_after (under code) t.phase) (t.phase + 1)) q))
                  (top s)) (sym (slice_index-zeros code.procs q)) (exact.each _ q);
            };
      }

  moves_on : (t : DoubleState) → IsSteady s code t →
      Goes s code (moved_on (under code) (residue_state code.modulus t)) (double_moved code t)
  moves_on t steady = cases (is_open (under code) t.phase t.done)
    where
      cases : (b : Bool) → Goes s code (cond b (residue_state code.modulus t)
          (residue_state code.modulus (next_phase t))) (cond b t (next_phase t))
      cases true = record { same = refl; steady = steady }
      cases false = record { same = refl; steady = next_steady t steady }

  -- a processor's action

  abbrev local : DoubleState → ℕ → DoubleLocal
  local t q = record { memory = t.memory; registers = slice_index_or t.registers q [] }

  abbrev after : DoubleState → ℕ → DoubleAction → DoubleLocal
  after t q f = double_effect code.modulus code.lanes f (local t q)

  -- a processor has done an action, and memory and registers are these
  abbrev filed : DoubleState → ℕ → List ℕ → List (List ℕ) → State
  filed t q memory files =
      record {
        memory = memory;
        registers = files;
        phase = t.phase;
        done = slice_set t.done q (suc (slice_index t.done q));
      }

  abbrev made : DoubleState → ℕ → Local → State
  made t q l = filed t q l.memory (slice_set (map (residues code.modulus) t.registers) q l.registers)

  actions_go : (t : DoubleState) (q : ℕ) (f : DoubleAction) → q < code.procs →
      slice_get (double_acts code t.phase q) (slice_index t.done q) ≡ Some f → IsSteady s code t →
      Goes s code (acted (under code) q f.action (residue_state code.modulus t)) (double_acted code q f t)
  actions_go t q f lt e steady =
      let ready = steady.each q lt in
      let first = drop_at (double_acts code t.phase q) (slice_index t.done q) f e in
      let goes : AreExact s ready.bounds (f ∷ drop (suc (slice_index t.done q)) (double_acts code t.phase q)) (top s) =
      subst (λ fs. AreExact s ready.bounds fs (top s)) first ready.goes in
      at ready.bounds ready.within goes.0 goes.1 goes.2
    where
      at : (b : Bounds) → AreRegistersWithin code.lanes b (slice_index_or t.registers q []) → (c : Bounds) →
          IsExact s b f c →
          AreExact s c (drop (suc (slice_index t.done q)) (double_acts code t.phase q)) (top s) →
          Goes s code (acted (under code) q f.action (residue_state code.modulus t)) (double_acted code q f t)
      at b within c is rest =
          record {
            same = same;
            steady = record {
              memory = is.memory (local t q) steady.memory within;
              files = length-set t.registers q ((after t q f).registers) ∙ steady.files;
              counts = length-set t.done q (suc (slice_index t.done q)) ∙ steady.counts;
              each = λ p small. ⊎_elim
                  (λ (here : p ≡ q). subst (λ k. IsReady s
                  (slice_index_or (slice_set t.registers q ((after t q f).registers)) k [])
                  (drop (slice_index (slice_set t.done q (suc (slice_index t.done q))) k) (double_acts code t.phase k)))
                  (sym here) this)
                  (λ (other : p ≢ q). others p small other)
                  (cases_eq p q);
            };
          }
        where
          wide : q < length t.registers
          wide = let x = steady.files in omega arith

          long : q < length t.done
          long = let x = steady.counts in omega arith

          this : IsReady s (slice_index_or (slice_set t.registers q ((after t q f).registers)) q [])
              (drop (slice_index (slice_set t.done q (suc (slice_index t.done q))) q) (double_acts code t.phase q))
          this =
              let words : slice_index_or (slice_set t.registers q ((after t q f).registers)) q []
              ≡ ((after t q f).registers) = get_or-set_same t.registers q ((after t q f).registers) [] wide in
              let count : slice_index (slice_set t.done q (suc (slice_index t.done q))) q ≡ suc (slice_index t.done q) =
              get_or-set_same t.done q (suc (slice_index t.done q)) 0 long in
              record {
                bounds = c;
                sane = is.sane;
                within = subst (AreRegistersWithin code.lanes c) (sym words)
                    (is.registers (local t q) steady.memory within);
                goes = subst (λ k. AreExact s c (drop k (double_acts code t.phase q)) (top s)) (sym count) rest;
              }

          others : (p : ℕ) → p < code.procs → p ≢ q → IsReady s
              (slice_index_or (slice_set t.registers q ((after t q f).registers)) p [])
              (drop (slice_index (slice_set t.done q (suc (slice_index t.done q))) p) (double_acts code t.phase p))
          others p small other =
              let words : slice_index_or (slice_set t.registers q ((after t q f).registers)) p []
              ≡ slice_index_or t.registers p [] =
              get_or-set_other t.registers q p ((after t q f).registers) [] other in
              let count : slice_index (slice_set t.done q (suc (slice_index t.done q))) p ≡ slice_index t.done p =
              get_or-set_other t.done q p (suc (slice_index t.done q)) 0 other in
              let ready = steady.each p small in
              subst (λ xs. IsReady s xs
              (drop (slice_index (slice_set t.done q (suc (slice_index t.done q))) p) (double_acts code t.phase p)))
              (sym words)
              (subst (λ k. IsReady s (slice_index_or t.registers p []) (drop k (double_acts code t.phase p)))
              (sym count) ready)

          -- the processor's registers are read as residues
          read : slice_index_or (map (residues code.modulus) t.registers) q []
              ≡ residues code.modulus (slice_index_or t.registers q [])
          read = get_or-map (residues code.modulus) t.registers q []

          effects_go : effect code.modulus code.lanes f.action (record {
            memory = residues code.modulus t.memory;
            registers = slice_index_or (map (residues code.modulus) t.registers) q [];
          }) ≡ residue_local code.modulus (after t q f)
          effects_go =
              ap (λ xs. effect code.modulus code.lanes f.action (record {
                memory = residues code.modulus t.memory;
                registers = xs;
              })) read
              ∙ is.same (local t q) steady.memory within

          same : acted (under code) q f.action (residue_state code.modulus t)
              ≡ residue_state code.modulus (double_acted code q f t)
          same =
              ap (made t q) effects_go
              ∙ ap (filed t q (residues code.modulus (after t q f).memory))
              (sym (map-set (residues code.modulus) t.registers q ((after t q f).registers)))

  -- a turn

  turn_goes : (t : DoubleState) (q : ℕ) → IsSteady s code t →
      Goes s code (turn (under code) (residue_state code.modulus t) q) (double_turn code t q)
  turn_goes t q steady =
      let fs = double_acts code t.phase q in
      let i = slice_index t.done q in
      let next : slice_get (acts (under code) t.phase q) i
      ≡ option_map (λ (f : DoubleAction). f.action) (slice_get fs i) =
      ap (λ xs. slice_get xs i) (acts_under code t.phase q)
      ∙ slice_get-map (λ (f : DoubleAction). f.action) fs i in
      subst (λ o. Goes s code (turn_with (under code) q (residue_state code.modulus t) o) (double_turn code t q))
      (sym next) (cases (slice_get fs i) refl)
    where
      cases : (o : Option DoubleAction) → slice_get (double_acts code t.phase q) (slice_index t.done q) ≡ o →
          Goes s code (turn_with (under code) q (residue_state code.modulus t)
          (option_map (λ (f : DoubleAction). f.action) o)) (double_turn_with code q t o)
      cases None e = record { same = refl; steady = steady }
      cases (Some f) e =
          let lt : q < code.procs =
          ⊎_elim
          (λ (lt : q < code.procs). lt)
          (λ (ge : code.procs ≤ q).
          let none = exact.past t.phase q ge in
          let e2 = ap (λ xs. slice_get xs (slice_index t.done q)) none in absurd (cc))
          (cases_lt q code.procs) in
          let act = actions_go t q f lt e steady in
          let on = moves_on (double_acted code q f t) act.steady in
          record { same = ap (moved_on (under code)) act.same ∙ on.same; steady = on.steady }

  run_goes : (turns : List ℕ) (t : DoubleState) → IsSteady s code t →
      Goes s code (run (under code) (residue_state code.modulus t) turns) (double_run code t turns)
  run_goes [] t steady = record { same = refl; steady = steady }
  run_goes (q ∷ turns) t steady =
      let one = turn_goes t q steady in
      let rest = run_goes turns (double_turn code t q) one.steady in
      record { same = ap (λ r. run (under code) r turns) one.same ∙ rest.same; steady = rest.steady }

  -- whole runs

  -- a run begins with this memory and these registers
  abbrev begun : List ℕ → List (List ℕ) → State
  begun memory files =
      record {
        memory = memory;
        registers = files;
        phase = first_open (under code) (length (under code).lists) 0;
        done = none_done (under code);
      }

  start_goes : (x : List ℕ) → 0 < code.modulus → AllLow code.modulus x →
      Goes s code (start (under code) x) (double_start code x)
  start_goes x some low =
      let n = 4 * padded (under code) - code.size in
      record {
        same =
            ap₂ begun
            (sym (input_is code.modulus x n low))
            (sym (empty_files code.modulus code.procs (code.regs * code.lanes)));
        steady = record {
          memory = record {
            outer = λ k lt. input_whole code.modulus x n k low;
            inner = λ k ge. whole_within code.modulus _ some (input_whole code.modulus x n k low);
          };
          files = length-replicate code.procs (replicate (code.regs * code.lanes) (pos 0));
          counts = length-replicate code.procs 0;
          each = λ q lt. record {
            bounds = top s;
            sane = λ r. omega arith;
            within = starts_low code.lanes (top s) code.procs (code.regs * code.lanes) q;
            goes = subst (λ i. AreExact s (top s) (drop i
                (double_acts code (first_open (under code) (length (under code).lists) 0) q)) (top s))
                (sym (slice_index-zeros code.procs q)) (exact.each _ q);
          };
        };
      }

  runs_go : (x turns : List ℕ) → 0 < code.modulus → AllLow code.modulus x →
      Goes s code (runs (under code) x turns) (double_runs code x turns)
  runs_go x turns some low =
      let begin = start_goes x some low in
      let middle = run_goes turns (double_start code x) begin.steady in
      let between : run (under code) (start (under code) x) turns
      ≡ residue_state code.modulus (double_run code (double_start code x) turns) =
      ap (λ r. run (under code) r turns) begin.same ∙ middle.same in
      let t = double_run code (double_start code x) turns in
      let last = run_goes (double_completion code t) t middle.steady in
      record {
        same = ap (λ r. run (under code) r (completion (under code) r)) between ∙ last.same;
        steady = last.steady;
      }

  -- the numbers that a run leaves in Y are the residues of the run on residues
  pub results_are : (x turns : List ℕ) → 0 < code.modulus → 1 ≤ code.line → AllLow code.modulus x →
      double_results code x turns ≡ map pos (results (under code) x turns)
  results_are x turns some line low =
      let go = runs_go x turns some low in
      let t = double_runs code x turns in
      let n = padded (under code) in
      let within = size_within code.size code.line line in
      let whole : Each (IsWhole code.modulus) (numbers_at code.size t.memory n) =
      each-numbers_at (IsWhole code.modulus) code.size t.memory n
      (λ l lt. go.steady.memory.outer (n + l) (omega arith)) in
      numbers-of_residues code.modulus (numbers_at code.size t.memory n) whole
      ∙ ap (map pos)
      (sym (ap (λ (r : State). words_at code.size r.memory n) go.same
      ∙ residues-numbers_at code.modulus code.size t.memory n))
