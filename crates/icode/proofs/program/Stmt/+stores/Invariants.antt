use Rattle.std.proofs.Common.{◌≡◌, ◌+◌, ◌*◌, ◌<◌, ◌^◌, drop}
use Rattle.icode.specs.Lengths.{stmt_stores, body_stores}
use Rattle.icode.proofs.program.Stmt.+stores.Given as goal

abbrev pub invariant-loop-stmt : goal.invariant-loop-stmt
invariant-loop-stmt l = record {
  product : l.count * (l.sum + body_stores (drop l.stmt-index l.stmt-items)) ≡ stmt_stores l.self;
  fits : l.sum + body_stores (drop l.stmt-index l.stmt-items) < 2 ^ 64;
}
