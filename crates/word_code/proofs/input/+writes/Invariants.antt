use Rattle.std.proofs.Common.{◌≡◌, drop}
use Rattle.word_code.specs.Input.{body_writes_input}
use Rattle.word_code.specs.Views.{plain_word_body}
use Rattle.word_code.proofs.input.+writes.Given as goal

abbrev pub invariant-body_writes_input-loop-stmt : goal.invariant-body_writes_input-loop-stmt
invariant-body_writes_input-loop-stmt l =
    body_writes_input (plain_word_body (drop l.stmt-index l.body)) ≡ body_writes_input (plain_word_body l.body)
