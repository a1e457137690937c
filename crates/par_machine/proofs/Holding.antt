-- A machine one of whose processors has other registers.
use Rattle.std.proofs.Common.{◌≡◌, ℕ, ◌*◌, ◌<◌, List, [], length, get_or, sym, ap, ◌∙◌, subst, arith, ⊎_elim}
use Rattle.std.proofs.Common.{length-set, get_or-set_same, get_or-set_other}
use Rattle.std.specs.Prelude.{slice_get, slice_index, slice_index_or, slice_set}
use Rattle.std.proofs.Math.Seq.{map-set_same}
use Rattle.std.proofs.lemmas.Bool.{cases_eq}
use Rattle.icode.specs.declared.action.Counts.{Counts}
use Rattle.icode.specs.Machine.{State}
use Rattle.par_machine.specs.declared.machine.Machine.TheInside.{Inside}
use Rattle.par_machine.specs.Context.{Context}
use Rattle.par_machine.specs.Frame.{IsRunning}
use Rattle.par_machine.specs.Held.{with_file}
use Rattle.par_machine.specs.Position.{Position}
use Rattle.par_machine.specs.Processors.{with_registers, registers_of, cursors_of, counts_of_all}
use Rattle.par_machine.specs.Views.{frame_of, stand_with, running_of, IsWhole}
use Rattle.par_machine.proofs.Each.{at_map, map_set}
use Rattle.par_machine.proofs.Starting.{processor_there}

-- processor q is p, and becomes x
pub record IsHolding (a : Inside) (q : ℕ) (p x : Context) (words : List ℕ) : Type 0 where
  pub whole : IsWhole a
  pub proc : q < a.header.shape.procs
  pub processor : p ≡ get_or a.processors.items q p
  pub after : x ≡ with_registers words p

pub file_size : (a : Inside) (q : ℕ) (p : Context) → IsWhole a → q < a.header.shape.procs →
    p ≡ get_or a.processors.items q p → length p.registers ≡ a.header.shape.regs * a.header.shape.lanes
file_size a q p w lt e =
    ap length (at_map (λ (p : Context). p.registers) a.processors.items q p [] (processor_there a q w lt) e) ∙ w.running.file q lt

module _ (a : Inside) (q : ℕ) (p x : Context) (words : List ℕ) (h : IsHolding a q p x words) where
  abbrev all : List Context
  all = slice_set a.processors.items q x

  abbrev state : State
  state = record { memory = a.memory.items; registers = registers_of all; phase = a.phase; done = a.done.items }

  registers_are : registers_of all ≡ slice_set (registers_of a.processors.items) q words
  registers_are =
      map_set (λ (p : Context). p.registers) a.processors.items q x
      ∙ ap (λ (c : Context). slice_set (registers_of a.processors.items) q c.registers) h.after

  cursors_are : cursors_of all ≡ cursors_of a.processors.items
  cursors_are = map-set_same (λ (p : Context). p.place) a.processors.items q x p (ap (λ (c : Context). c.place) h.after ∙ ap (λ (c : Context). c.place) h.processor)

  counts_are : counts_of_all all ≡ counts_of_all a.processors.items
  counts_are = map-set_same (λ (p : Context). p.counts) a.processors.items q x p (ap (λ (c : Context). c.counts) h.after ∙ ap (λ (c : Context). c.counts) h.processor)

  pub held_state : state ≡ with_file q words (running_of a).state
  held_state = ap (λ (rs : List (List ℕ)). record { memory = a.memory.items; registers = rs; phase = a.phase; done = a.done.items }) registers_are

  at_file : (P : ℕ → List ℕ → Type 0) → P q words → ((k : ℕ) →
      P k (slice_index_or (registers_of a.processors.items) k [])) → (k : ℕ) →
      P k (slice_index_or (slice_set (registers_of a.processors.items) q words) k [])
  at_file P here others k =
      ⊎_elim
      (λ (e : k ≡ q). subst (λ j. P j (slice_index_or (slice_set (registers_of a.processors.items) q words) j [])) (sym e)
      (subst (P q) (sym (get_or-set_same (registers_of a.processors.items) q words [] (omega (arith, h.whole.running.files, h.proc)))) here))
      (λ (ne : k ≡ q → ⊥). subst (P k) (sym (get_or-set_other (registers_of a.processors.items) q k words [] ne)) (others k))
      (cases_eq k q)

  pub held_runs : length words ≡ a.header.shape.regs * a.header.shape.lanes →
      ((k : ℕ) → slice_index words k < a.header.shape.modulus) → IsRunning (frame_of a) (stand_with state all)
  held_runs size below =
      let w = h.whole.running in
      record {
        memory = w.memory;
        memory_below = w.memory_below;
        files = ap length registers_are ∙ (length-set (registers_of a.processors.items) q words ∙ w.files);
        file = subst (λ (rs : List (List ℕ)). (k : ℕ) → k < a.header.shape.procs → length (slice_index_or rs k []) ≡ a.header.shape.regs * a.header.shape.lanes) (sym registers_are)
            (at_file (λ k (ws : List ℕ). k < a.header.shape.procs → length ws ≡ a.header.shape.regs * a.header.shape.lanes) (λ lt. size) w.file);
        files_below = subst (λ (rs : List (List ℕ)). (k j : ℕ) → slice_index (slice_index_or rs k []) j < a.header.shape.modulus) (sym registers_are)
            (at_file (λ k (ws : List ℕ). (j : ℕ) → slice_index ws j < a.header.shape.modulus) below w.files_below);
        phase = w.phase;
        dones = w.dones;
        within = w.within;
        settled = w.settled;
        cursors = ap length cursors_are ∙ w.cursors;
        cursor = λ k lt left. w.cursor k lt left ∙ ap (λ (ps : List Position). slice_get ps k) (sym cursors_are);
        counters = ap length counts_are ∙ w.counters;
        counted = λ k lt. ap (λ (cs : List Counts). slice_get cs k) counts_are ∙ w.counted k lt;
      }
