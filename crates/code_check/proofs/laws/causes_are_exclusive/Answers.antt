use Rattle.icode.specs.Program.{plain_program, code_of}
use Rattle.icode.proofs.Lists.{code_is}
use Rattle.icode.proofs.Runs.{memory_of_runs}
use Rattle.std.proofs.Common.{[], sym, ◌∙◌}
use Rattle.code_check.proofs.Causes.{one_cause, none_if_passed}
use Rattle.code_check.proofs.Decided.{decided}
use Rattle.code_check.proofs.Phases.{limits_of}
use Rattle.code_check.proofs.Whole.{passed_fits}
use Rattle.code_check.proofs.laws.causes_are_exclusive.Goals as goal

pub returns-clause-one : goal.returns-clause-one
returns-clause-one c = one_cause

pub returns-clause-none : goal.returns-clause-none
returns-clause-none c = none_if_passed

pub returns-clause-some : goal.returns-clause-some
returns-clause-some c = decided

pub returns-clause-fits : goal.returns-clause-fits
returns-clause-fits c p h = (
  passed_fits (plain_program p) (limits_of p) h,
  λ x turns. let is = code_is (plain_program p) in memory_of_runs (code_of p) is h.apart x turns ∙ sym (memory_of_runs (code_of p) is h.apart x []),
)
