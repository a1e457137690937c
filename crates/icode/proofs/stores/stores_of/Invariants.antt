use Rattle.std.proofs.Common.{◌≡◌, ◌+◌, drop}
use Rattle.icode.specs.Lengths.{body_stores}
use Rattle.icode.proofs.stores.stores_of.Given as goal

abbrev pub invariant-loop-stmt : goal.invariant-loop-stmt
invariant-loop-stmt l = l.sum + body_stores (drop l.stmt-index l.body) ≡ body_stores l.fn.body
