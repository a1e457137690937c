use Rattle.std.proofs.Common.{◌≡◌, drop}
use Rattle.word_code.specs.Input.{first_writing, input_writer}
use Rattle.word_code.specs.Views.{plain_word_phases, plain_word_program}
use Rattle.word_code.proofs.input.input_writer.Given as goal

abbrev pub invariant-loop-number : goal.invariant-loop-number
invariant-loop-number l =
    first_writing l.number (plain_word_phases (drop l.number l.program.phases.items))
    ≡ input_writer (plain_word_program l.program)
