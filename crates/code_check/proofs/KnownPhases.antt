-- The walk over processors and phases, of which some are left.
use Rattle.std.proofs.Common.{◌≡◌, ℕ, suc, ◌+◌, ◌-◌, ◌<◌, ◌≤◌, ◌&&◌, List, Bool, true, false, length, sym, ap, ap₂}
use Rattle.std.proofs.Common.{◌∙◌}
use Rattle.std.proofs.Common.{arith, replicate, Vec, Global}
use Rattle.std.proofs.Math.Bool.{and_assoc}
use Rattle.std.proofs.lemmas.List.{length-replicate}
use Rattle.icode.specs.Actions.{Step, steps_of_phase}
use Rattle.icode.specs.Machine.{whole_lines}
use Rattle.icode.specs.Plain.{PlainProgram}
use Rattle.code_check.specs.declared.mark_table.MarkTable.{MarkTable}
use Rattle.code_check.specs.MarkTables.{marks_of, IsMarkTable}
use Rattle.code_check.specs.Marks.{Marks, are_marked, is_fresh, marks_at, phases_known, processors_known}
use Rattle.code_check.specs.Marks.{words_after_phases, words_after_processors}
use Rattle.code_check.proofs.Knowing.{know, lead}

-- a processor that begins a phase has put no register
pub begun : (p : PlainProgram) (t u : MarkTable) → u.words ≡ t.words →
    u.registers.items ≡ replicate (length t.registers.items) false → IsMarkTable p t →
    IsMarkTable p u × (marks_of u ≡ marks_at p t.words.items)
begun p t u words registers is =
    let none : u.registers.items ≡ replicate p.regs false =
    registers ∙ ap (λ n. replicate n false) is.registers in (
      record {
        words = ap (λ (w : Vec Bool Global). length w.items) words ∙ is.words;
        registers = ap length none ∙ length-replicate {A = Bool} p.regs false;
      },
      ap₂ (λ words registers. record { words = words; registers = registers })
          (ap (λ (w : Vec Bool Global). w.items) words) none,
    )

-- a walk over a phase, of which the processors from q on are left
pub record IsInPhase (p : PlainProgram) (phase q : ℕ) (words words0 : List Bool) : Type 0 where
  pub known : processors_known p phase p.procs 0 words0 ≡ processors_known p phase (p.procs - q) q words
  pub after : words_after_processors p phase p.procs 0 words0 ≡ words_after_processors p phase (p.procs - q) q words

module _ (p : PlainProgram) (phase q : ℕ) (words words0 : List Bool) (few : q < p.procs)
    (at : IsInPhase p phase q words words0) (steps : List Step) (m : Marks) (same : steps_of_phase p phase q ≡ steps)
    (begun : m ≡ marks_at p words) where
  left : p.procs - q ≡ suc (p.procs - (q + 1))
  left = omega (arith, few)

  knows : know p (steps_of_phase p phase q) (marks_at p words) ≡ know p steps m
  knows = ap₂ (know p) same (sym begun)

  leads : lead p (steps_of_phase p phase q) (marks_at p words) ≡ lead p steps m
  leads = ap₂ (lead p) same (sym begun)

  abbrev rest : Bool
  rest = processors_known p phase (p.procs - (q + 1)) (q + 1)
      (lead p (steps_of_phase p phase q) (marks_at p words)).words

  known-split : processors_known p phase p.procs 0 words0 ≡ (know p steps m && rest)
  known-split =
      at.known ∙ (ap (λ n. processors_known p phase n q words) left ∙ ap (λ (b : Bool). b && rest) knows)

  pub processor_lost : false ≡ know p steps m → false ≡ processors_known p phase p.procs 0 words0
  processor_lost lost = sym (known-split ∙ ap (λ (b : Bool). b && rest) (sym lost))

  pub processor_goes_on : (words1 : List Bool) → true ≡ know p steps m → words1 ≡ (lead p steps m).words →
      IsInPhase p phase (q + 1) words1 words0
  processor_goes_on words1 found after =
      let next : (lead p (steps_of_phase p phase q) (marks_at p words)).words ≡ words1 =
      ap (λ (m : Marks). m.words) leads ∙ sym after in
      record {
        known = known-split
            ∙ (ap (λ (b : Bool). b && rest) (sym found)
            ∙ ap (processors_known p phase (p.procs - (q + 1)) (q + 1)) next);
        after = at.after
            ∙ (ap (λ n. words_after_processors p phase n q words) left
            ∙ ap (words_after_processors p phase (p.procs - (q + 1)) (q + 1)) next);
      }

-- what is left of the program from a phase on is known, and in the end the result
abbrev from_phase : PlainProgram → ℕ → ℕ → List Bool → Bool
from_phase p n phase words =
    phases_known p n phase words && are_marked p.size (words_after_phases p n phase words) (whole_lines p.size p.line)

-- a walk over a program, of which the phases from this one on are left
pub record IsInProgram (p : PlainProgram) (phase : ℕ) (words : List Bool) : Type 0 where
  pub known : is_fresh p ≡ from_phase p (length p.phases - phase) phase words

module _ (p : PlainProgram) (phase : ℕ) (words : List Bool) (lt : phase < length p.phases)
    (at : IsInProgram p phase words) where
  abbrev after : List Bool
  after = words_after_processors p phase p.procs 0 words

  fresh-split : is_fresh p
      ≡ (processors_known p phase p.procs 0 words && from_phase p (length p.phases - (phase + 1)) (phase + 1) after)
  fresh-split =
      let n = length p.phases - (phase + 1) in
      let left : length p.phases - phase ≡ suc n = omega (arith, lt) in
      at.known
      ∙ (ap (λ n. from_phase p n phase words) left
      ∙ and_assoc (processors_known p phase p.procs 0 words) (phases_known p n (phase + 1) after)
      (are_marked p.size (words_after_phases p n (phase + 1) after) (whole_lines p.size p.line)))

  pub phase_lost : false ≡ processors_known p phase p.procs 0 words → false ≡ is_fresh p
  phase_lost lost =
      sym (fresh-split ∙ ap (λ (b : Bool). b && from_phase p (length p.phases - (phase + 1)) (phase + 1) after)
      (sym lost))

  pub phase_goes_on : (words1 : List Bool) → true ≡ processors_known p phase p.procs 0 words → words1 ≡ after →
      IsInProgram p (phase + 1) words1
  phase_goes_on words1 found same =
      record {
        known = fresh-split
            ∙ (ap (λ (b : Bool). b && from_phase p (length p.phases - (phase + 1)) (phase + 1) after) (sym found)
            ∙ ap (from_phase p (length p.phases - (phase + 1)) (phase + 1)) (sym same));
      }
