use Rattle.code_gen.proofs.PassActions.PassesRun as laws
use Rattle.code_gen.proofs.pass_actions.passes_run.Goals as goal

pub returns : goal.returns
returns _ = laws.passes_run
