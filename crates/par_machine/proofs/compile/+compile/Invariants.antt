use Rattle.std.proofs.Common.{take, ◌+◌}
use Rattle.par_machine.proofs.Compiles.{DoesBody}
use Rattle.par_machine.proofs.compile.+compile.Given as goal

abbrev pub invariant-loop-inner : goal.invariant-loop-inner
invariant-loop-inner l = DoesBody l.modulus (l.depth + 1) (take l.inner-index l.inner-items) l.fn.code.items l.code.items
