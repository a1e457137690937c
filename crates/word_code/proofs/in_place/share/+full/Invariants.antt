use Rattle.std.proofs.Common.{◌≡◌, drop}
use Rattle.icode.specs.Plain.{plain_body}
use Rattle.word_code.specs.InPlace.Sharing.{are_full}
use Rattle.word_code.proofs.in_place.share.+full.Given as goal

abbrev pub invariant-are_full-loop-stmt : goal.invariant-are_full-loop-stmt
invariant-are_full-loop-stmt l = are_full (plain_body (drop l.stmt-index l.body)) ≡ are_full (plain_body l.body)
