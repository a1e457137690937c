use Rattle.std.proofs.Common.{◌≡◌, drop}
use Rattle.icode.specs.Plain.{plain_body}
use Rattle.word_code.specs.InPlace.Sharing.{are_loops}
use Rattle.word_code.proofs.in_place.share.are_loops.Given as goal

abbrev pub invariant-loop-stmt : goal.invariant-loop-stmt
invariant-loop-stmt l = are_loops (plain_body (drop l.stmt-index l.body)) ≡ are_loops (plain_body l.body)
