use Rattle.std.proofs.Common.{◌≡◌, drop}
use Rattle.icode.specs.Plain.{plain_body}
use Rattle.code_check.specs.Concatenated.{concatenated}
use Rattle.code_check.specs.Live.{plain_lives, pruned}
use Rattle.code_check.proofs.live.+live.Given as goal

abbrev pub invariant-live_of-loop-stmt : goal.invariant-live_of-loop-stmt
invariant-live_of-loop-stmt l = concatenated (plain_lives l.kept.items) (pruned (plain_body (drop l.stmt-index l.body))) ≡ pruned (plain_body l.body)
