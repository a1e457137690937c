use Rattle.std.proofs.Common.{◌+◌, ◌*◌}
use Rattle.spl_text.proofs.reading.+reading.Given as goal

-- a formula comes before its part, a part before its formulas
abbrev pub decreases-read_formula : goal.decreases-read_formula
decreases-read_formula l = 3 * l.depth

abbrev pub decreases-read_part : goal.decreases-read_part
decreases-read_part l = 3 * l.depth + 2

abbrev pub decreases-product : goal.decreases-product
decreases-product l = 3 * l.depth + 1

abbrev pub decreases-direct_sum : goal.decreases-direct_sum
decreases-direct_sum l = 3 * l.depth + 1

abbrev pub decreases-tensor_left : goal.decreases-tensor_left
decreases-tensor_left l = 3 * l.depth + 1

abbrev pub decreases-tensor_right : goal.decreases-tensor_right
decreases-tensor_right l = 3 * l.depth + 1
