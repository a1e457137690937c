use Rattle.std.proofs.Common.{◌+◌, ◌*◌}
use Rattle.spl_ast.specs.Formula.{parts_of}
use Rattle.spl_ast.proofs.halves.+balance.Given as goal

-- a formula comes before its summands, and these before their parts
abbrev pub decreases-balance : goal.decreases-balance
decreases-balance l = 2 * parts_of l.formula + 1

abbrev pub decreases-add_summands : goal.decreases-add_summands
decreases-add_summands l = 2 * parts_of l.formula
