use Rattle.std.proofs.Common.{arith, subst, List, []}
use Rattle.icode.specs.declared.program.Stmt.{Stmt}
use Rattle.par_machine.proofs.Compiles.{DoesBody, compiled_more, item_within, take_whole}
use Rattle.par_machine.proofs.compile.compile_phase.Goals as goal

pub compile-requires-clause-within : goal.compile-requires-clause-within
compile-requires-clause-within c = item_within c.args.modulus 0 c.loop-stmt.stmt-index c.args.body.now c.stmt-item.result c.requires.within (omega arith) c.stmt-item.is

pub loop-stmt-preserved : goal.loop-stmt-preserved
loop-stmt-preserved c = compiled_more c.args.modulus 0 c.loop-stmt.stmt-index c.args.body.now c.stmt-item.result [] c.loop-stmt.code.items c.compile.new.code.items (omega arith) c.stmt-item.is c.loop-stmt.invariant c.in_ok-compile.ensures

pub returns : goal.returns
returns c = subst (λ (xs : List Stmt). DoesBody c.args.modulus 0 xs [] c.loop-stmt.code.items) (take_whole c.loop-stmt.stmt-index c.args.body.now (omega arith)) c.loop-stmt.invariant
