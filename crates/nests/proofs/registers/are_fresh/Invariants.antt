use Rattle.std.proofs.Common.{◌≡◌, ◌<◌, ◌^◌, drop}
use Rattle.icode.specs.Plain.{plain_body}
use Rattle.nests.specs.Rounds.{are_fresh}
use Rattle.nests.proofs.registers.are_fresh.Given as goal

abbrev pub invariant-loop-stmt : goal.invariant-loop-stmt
invariant-loop-stmt l = record {
  rest : are_fresh l.lanes l.next (plain_body (drop l.stmt-index l.body)) ≡ are_fresh l.lanes 0 (plain_body l.body);
  small : l.next < 2 ^ 65;
}
