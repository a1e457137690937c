use Rattle.std.proofs.Common.{◌∙◌}
use Rattle.spiral_words.proofs.Table.{one_command}
use Rattle.spiral_words.proofs.app.with_commands.Goals as goal

pub loop-row-preserved : goal.loop-row-preserved
loop-row-preserved c =
    c.in_ok-app.ensures.shape c.in_ok-command.ensures.local
    ∙ one_command (λ row. (row.0.now, row.1.now)) c.args.rows.now c.loop-row.row-index _ _ _
    c.in_ok-command.ensures.shape c.loop-row.invariant c.loop-row-test.true
