use Rattle.std.proofs.Common.{◌+◌, ◌*◌}
use Rattle.spl_ast.proofs.rewriting.+rewrite.Given as goal

-- a boxed formula comes before the formula in it, a formula before its parts, and its parts before a smaller formula
abbrev pub decreases-rewrite_boxed : goal.decreases-rewrite_boxed
decreases-rewrite_boxed g l = 3 * g.R.Rule.measure l.rule.now l.part.value + 2

abbrev pub decreases-rewrite : goal.decreases-rewrite
decreases-rewrite g l = 3 * g.R.Rule.measure l.rule.now l.f + 1

abbrev pub decreases-rewrite_parts : goal.decreases-rewrite_parts
decreases-rewrite_parts g l = 3 * g.R.Rule.measure l.rule.now l.f
