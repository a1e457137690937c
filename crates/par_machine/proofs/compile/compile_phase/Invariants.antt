use Rattle.std.proofs.Common.{take, []}
use Rattle.par_machine.proofs.Compiles.{DoesBody}
use Rattle.par_machine.proofs.compile.compile_phase.Given as goal

abbrev pub invariant-loop-stmt : goal.invariant-loop-stmt
invariant-loop-stmt l = DoesBody l.modulus 0 (take l.stmt-index l.body) [] l.code.items
