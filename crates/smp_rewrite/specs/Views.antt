-- What the code's formulas stand for.
use Rattle.std.specs.Prelude.{map}
use Rattle.smp_rewrite.specs.Layout.Views.{plain_step}
use Rattle.smp_rewrite.specs.Smp.{PlainFactor, blocks, diagonals, move_before, move_after, PlainSmp}
use Rattle.smp_rewrite.specs.declared.Factor.{Factor}
use Rattle.smp_rewrite.specs.declared.Factor.TheVariants.{Blocks, Diagonals, MoveBefore, MoveAfter}
use Rattle.smp_rewrite.specs.declared.SmpSpl.{SmpSpl}

abbrev pub plain_factor : Factor → PlainFactor
plain_factor (Blocks s) = blocks (plain_step s)
plain_factor (Diagonals s) = diagonals (plain_step s)
plain_factor (MoveBefore s) = move_before (plain_step s)
plain_factor (MoveAfter s) = move_after (plain_step s)

abbrev pub plain_smp : SmpSpl → PlainSmp
plain_smp f = record {
  target = f.target;
  first = map plain_factor f.first.items;
  second = map plain_factor f.second.items;
  closing = f.closing;
}
