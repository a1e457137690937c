-- What a processor changes as it does its actions.
use Rattle.std.specs.Prelude.{◌≡◌, ℕ, zero, suc, ◌*◌, ◌<◌, List, Option, length, slice_index, All}
use Rattle.icode.specs.declared.action.Counts.{Counts}
use Rattle.icode.specs.Actions.{Step}
use Rattle.icode.specs.Machine.{Local, effect, counted, whole_lines}
use Rattle.icode.specs.Plain.{PlainProgram}
use Rattle.par_machine.specs.declared.cursor.Instruction.{Instruction}
use Rattle.par_machine.specs.Context.{Context}
use Rattle.par_machine.specs.declared.header.Header.{Header}
use Rattle.par_machine.specs.Header.{header_of}
use Rattle.par_machine.specs.Hand.{step_at, action_of_step, Runs}
use Rattle.par_machine.specs.Instruction.{IsClosed, IsWithin}
use Rattle.par_machine.specs.Performed.{HasRoom}
use Rattle.par_machine.specs.Position.{Position, next_position, positions}

-- the memory, its registers, its place, and what it has executed
pub record Playing : Type 0 where
  pub memory : List ℕ
  pub registers : List ℕ
  pub place : Position
  pub counts : Counts

abbrev pub playing : List ℕ → Context → Playing
playing memory p =
    record { memory = memory; registers = p.registers; place = p.place; counts = p.counts }

-- the action at its place, after which it goes on to the next
abbrev pub played_one : PlainProgram → List Instruction → ℕ → Playing → Playing
played_one p code q s =
    let action = action_of_step (step_at p code q s.place) in
    let after : Local = effect p.modulus p.lanes action (record { memory = s.memory; registers = s.registers }) in
    record {
      memory = after.memory;
      registers = after.registers;
      place = next_position code s.place;
      counts = counted p.lanes action s.counts;
    }

-- n actions, one after another
abbrev pub played : PlainProgram → List Instruction → ℕ → ℕ → Playing → Playing
played p code q zero s = s
played p code q (suc n) s = played p code q n (played_one p code q s)

-- the step at its place
abbrev pub step_here : Header → List Instruction → ℕ → Context → Option Step
step_here header code proc context = step_at (header_of header) code proc context.place

-- what processor q needs to do n actions: they fit, all words are there and below the modulus, and the actions can be
-- counted
pub record CanPlay (p : PlainProgram) (code : List Instruction) (q n : ℕ) (s : Playing) : Type 0 where
  pub closed : All IsClosed code
  pub within : All (IsWithin p.modulus) code
  pub runs : All (λ place. Runs p (step_at p code q place)) (positions code n s.place)
  pub memory : length s.memory ≡ 4 * whole_lines p.size p.line
  pub words : (k : ℕ) → slice_index s.memory k < p.modulus
  pub file : length s.registers ≡ p.regs * p.lanes
  pub residues : (k : ℕ) → slice_index s.registers k < p.modulus
  pub counters : HasRoom (n * p.lanes) s.counts
