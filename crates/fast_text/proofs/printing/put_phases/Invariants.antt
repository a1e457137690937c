use Rattle.std.proofs.Common.{◌≡◌, ◌++◌, drop}
use Rattle.std.specs.Prelude.{IsTrue}
use Rattle.word_code.specs.Views.{plain_word_phases, plain_word_program}
use Rattle.fast_text.specs.WordText.{word_phases_text, all_phases_text}
use Rattle.fast_text.specs.WordNests.{are_word_phases_within}
use Rattle.fast_text.proofs.printing.put_phases.Given as goal

abbrev pub invariant-loop-number : goal.invariant-loop-number
invariant-loop-number l = record {
  text : l.out.items ++ word_phases_text l.before l.behind l.program.lanes l.program.regs l.number
      (plain_word_phases (drop l.number l.program.phases.items)) ≡ l.fn.out.items
      ++ all_phases_text l.before l.behind (plain_word_program l.program);
  nests : IsTrue (are_word_phases_within (plain_word_phases (drop l.number l.program.phases.items)));
}
