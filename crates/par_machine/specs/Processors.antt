-- Processors, and what several of them have.
use Rattle.std.specs.Prelude.{ℕ, List, Option, Some, None, length, map, replicate, slice_get}
use Rattle.icode.specs.declared.action.Counts.{Counts}
use Rattle.icode.specs.Machine.{no_counts}
use Rattle.icode.specs.Plain.{plain_op}
use Rattle.par_machine.specs.Context.{Context}
use Rattle.par_machine.specs.declared.cursor.Instruction.{Instruction}
use Rattle.par_machine.specs.declared.cursor.Instruction.TheVariants.{Act, Again}
use Rattle.par_machine.specs.OnRegisters.{counted_op}
use Rattle.par_machine.specs.Position.{Position, first_position, next_position}

-- at the beginning, with a number of words of registers
abbrev pub fresh : ℕ → Context
fresh words = record { place = first_position; registers = replicate words 0; counts = no_counts }

-- so it is again, however many words it has
abbrev pub as_new : Context → Context
as_new p = fresh (length p.registers)

-- at the beginning of the code
abbrev pub rewound : Context → Context
rewound p = record { place = first_position; registers = p.registers; counts = p.counts }

-- with these words in its registers
abbrev pub with_registers : List ℕ → Context → Context
with_registers words p = record { place = p.place; registers = words; counts = p.counts }

-- an action stands there, not the end of a loop
abbrev pub IsAct : Option Instruction → Type 0
IsAct None = ⊥
IsAct (Some (Act op depth)) = Unit {0}
IsAct (Some (Again start last depth)) = ⊥

abbrev pub counted_at : ℕ → Option Instruction → Counts → Counts
counted_at lanes None c = c
counted_at lanes (Some (Act op depth)) c = counted_op lanes (plain_op op) c
counted_at lanes (Some (Again start last depth)) c = c

-- after the action at its place, which is counted and changes nothing
abbrev pub passed_over : ℕ → List Instruction → Context → Context
passed_over lanes code p =
    record {
      place = next_position code p.place;
      registers = p.registers;
      counts = counted_at lanes (slice_get code p.place.at) p.counts;
    }

abbrev pub registers_of : List Context → List (List ℕ)
registers_of ps = map (λ (p : Context). p.registers) ps

abbrev pub cursors_of : List Context → List Position
cursors_of ps = map (λ (p : Context). p.place) ps

abbrev pub counts_of_all : List Context → List Counts
counts_of_all ps = map (λ (p : Context). p.counts) ps
