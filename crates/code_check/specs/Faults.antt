-- Faults of actions.
use Rattle.std.specs.Prelude.{ℕ}
use Rattle.code_check.specs.declared.fault.CheckFault.{CheckFault}
use Rattle.code_check.specs.declared.fault.CheckFault.TheVariants as faults
use Rattle.code_check.specs.declared.walk.Offence.{Offence}
use Rattle.code_check.specs.declared.walk.Offence.TheVariants.{Place, Register}

abbrev pub fault_of : Offence → ℕ → ℕ → ℕ → CheckFault
fault_of Place phase q i = faults.Address phase q i
fault_of Register phase q i = faults.Register phase q i
