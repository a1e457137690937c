use Rattle.std.proofs.Common.{◌≡◌, ◌<◌, ◌^◌, drop, map}
use Rattle.icode.specs.Plain.{plain_stmt, plain_body}
use Rattle.renumbered_registers.specs.Renumbered.{no_numbers, numbered_body, most_put}
use Rattle.renumbered_registers.specs.Views.{plain_numbering}
use Rattle.renumbered_registers.proofs.Steps.{front}
use Rattle.renumbered_registers.proofs.programs.+numbered.Given as goal

abbrev pub invariant-numbered_body-loop-stmt : goal.invariant-numbered_body-loop-stmt
invariant-numbered_body-loop-stmt l = record {
  so_far : front (map plain_stmt l.made.items)
      (numbered_body l.lanes (plain_numbering l.numbering) (plain_body (drop l.stmt-index l.body)))
      ≡ numbered_body l.lanes no_numbers (plain_body l.body);
  room : most_put l.lanes l.numbering.next (plain_body (drop l.stmt-index l.body)) < 2 ^ 20;
}
