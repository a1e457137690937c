use Rattle.std.specs.Prelude.{◌≡◌, ◌-◌}
use Rattle.perm_algebra.specs.Views.{plain_sum}
use Rattle.code_gen.specs.PassCode.Expressions.{variables_of}
use Rattle.code_gen.specs.Views.{parts_in, plain_frame}
use Rattle.code_gen.proofs.places.with_variables.Given as goal

-- the variables of the loops from this depth on, before the other parts
abbrev pub invariant-loop-depth : goal.invariant-loop-depth
invariant-loop-depth l =
    parts_in l.parts
    ≡ variables_of (plain_frame l.frame) (l.open_loops - l.depth) l.depth (plain_sum l.sum) (parts_in l.fn.others)
