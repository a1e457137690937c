-- What the code's formulas stand for.
use Rattle.std.specs.Prelude.{map}
use Rattle.smp_rewrite.specs.Layout.Views.{plain_step}
use Rattle.vec_rewrite.specs.Vectors.{PlainFactor, lanes, diagonals, move_before, move_after, tiles, PlainVec}
use Rattle.vec_rewrite.specs.declared.VecFactor.{VecFactor}
use Rattle.vec_rewrite.specs.declared.VecFactor.TheVariants.{Lanes, Diagonals, MoveBefore, MoveAfter, Tiles}
use Rattle.vec_rewrite.specs.declared.VecSpl.{VecSpl}

abbrev pub plain_vec_factor : VecFactor → PlainFactor
plain_vec_factor (Lanes s) = lanes (plain_step s)
plain_vec_factor (Diagonals s) = diagonals (plain_step s)
plain_vec_factor (MoveBefore s) = move_before (plain_step s)
plain_vec_factor (MoveAfter s) = move_after (plain_step s)
plain_vec_factor (Tiles path) = tiles path.items

abbrev pub plain_vec : VecSpl → PlainVec
plain_vec g = record {
  target = g.target;
  first = map plain_vec_factor g.first.items;
  second = map plain_vec_factor g.second.items;
  closing = g.closing;
}
