use Rattle.std.proofs.Common.{ap, ◌∙◌, subst}
use Rattle.icode.specs.Program.{plain_program}
use Rattle.code_gen.specs.PassCode.Contract.{Performs}
use Rattle.code_gen.specs.PassCode.Program.{program_of}
use Rattle.sigma_spl.specs.Merged.{PlainMerged}
use Rattle.sigma_spl.specs.Shared.Targets.{target_of}
use Rattle.generate.proofs.program.program_of_tree.Goals as goal

pub emit-requires : goal.emit-requires
emit-requires c = c.in_ok-merged.ensures.tree.ready

pub returns-clause-letters : goal.returns-clause-letters
returns-clause-letters c =
    c.in_ok-program.ensures.code ∙ ap (program_of (target_of c.args.c.now)) c.in_ok-merged.ensures.merged

pub returns-clause-performs : goal.returns-clause-performs
returns-clause-performs c =
    subst (λ (g : PlainMerged). Performs (target_of c.args.c.now) g (plain_program c.in_ok-program.program))
    c.in_ok-merged.ensures.merged c.in_ok-program.ensures.performs
