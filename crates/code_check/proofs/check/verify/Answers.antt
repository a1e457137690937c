use Rattle.icode.specs.Program.{plain_program}
use Rattle.code_check.proofs.Exact.{refused_for_memory, refused_for_cause, shared_fits}
use Rattle.code_check.proofs.Phases.{limits_of}
use Rattle.code_check.proofs.check.verify.Goals as goal

pub returns-clause-passes : goal.returns-clause-passes
returns-clause-passes c h = refused_for_memory 100000000 (plain_program c.args.program.now) c.judge-answer.result c.judge-answer.ensures.cause h

pub returns-clause-refused : goal.returns-clause-refused
returns-clause-refused c fault ne h =
    refused_for_cause 100000000 (plain_program c.args.program.now) c.judge-answer.result c.judge-answer.ensures.verified c.judge-answer.ensures.cause fault ne h

pub returns-clause-shared : goal.returns-clause-shared
returns-clause-shared c = shared_fits (plain_program c.args.program.now) (limits_of c.args.program.now) c.judge-answer.result c.judge-answer.ensures.cause
