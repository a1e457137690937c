-- The statements of the laws.
use Rattle.std.specs.Prelude.{◌≡◌, ◌≢◌, ◌≤◌, ◌⊎◌, ◌↔◌, ℕ, List, [], IsTrue}
use Rattle.icode.specs.declared.program.Program.{Program}
use Rattle.icode.specs.Actions.{PlainFits, plain_code}
use Rattle.icode.specs.Fresh.{IsFresh}
use Rattle.icode.specs.Limits.{IsWithinLimits}
use Rattle.icode.specs.Machine.{IsApart, runs}
use Rattle.icode.specs.Plain.{PlainProgram}
use Rattle.icode.specs.Program.{plain_program, code_of, Fits}
use Rattle.code_check.specs.declared.fault.CheckFault.{CheckFault}
use Rattle.code_check.specs.declared.fault.CheckFault.TheVariants.{NoMemory}
use Rattle.code_check.specs.Marks.{is_fresh}
use Rattle.code_check.specs.Refusals.{PassesCheck, IsCause, action_limit}

-- two causes of a program are one
abbrev pub OneCause : Type 0
OneCause =
    (limit : ℕ) (p : PlainProgram) (f g : CheckFault) → f ≢ NoMemory → g ≢ NoMemory → IsCause limit p f → IsCause limit p g → f ≡ g

-- a program that passes has none
abbrev pub CausesExclude : Type 0
CausesExclude =
    (limit : ℕ) (p : PlainProgram) (f : CheckFault) → f ≢ NoMemory → PassesCheck limit p → IsCause limit p f → ⊥

-- there is a cause to refuse it, other than want of memory
abbrev pub IsRefusedFor : ℕ → PlainProgram → Type 0
IsRefusedFor limit p = (fault : CheckFault) × (fault ≢ NoMemory) × IsCause limit p fault

-- one that does not pass has one
abbrev pub CausesDecide : Type 0
CausesDecide = (limit : ℕ) (p : PlainProgram) → IsWithinLimits p → PassesCheck limit p ⊎ IsRefusedFor limit p

-- what passes a limit below 2^59 fits, and every order of turns leaves the same memory
abbrev pub PassedFits : Type 0
PassedFits =
    (p : Program) → PassesCheck action_limit (plain_program p) → Fits p × ((x turns : List ℕ) → (runs (code_of p) x turns).memory ≡ (runs (code_of p) x []).memory)

-- the walk that marks what is known finds out whether a program is fresh, where no processor touches a line that another
-- writes in the phase
abbrev pub MarksDecide : Type 0
MarksDecide =
    (p : PlainProgram) → 1 ≤ p.line → PlainFits p → ((phase : ℕ) → IsApart (plain_code p) phase) →
    IsTrue (is_fresh p) ↔ IsFresh (plain_code p)
