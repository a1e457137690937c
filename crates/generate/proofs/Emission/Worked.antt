-- The programs that are written out are emissions, by computation.
use Rattle.std.proofs.Common.{refl}
use Rattle.ring_mod.specs.Inverse.{inverse_below, inverse_mod}
use Rattle.ring_mod.specs.Residue.{power_mod}
use Rattle.generate.specs.Emission.Worked.{AreWorked}

pub worked_emissions : AreWorked
unfolding power_mod inverse_below inverse_mod lib.Count.ones
worked_emissions = record {
  two_is = refl;
  four_is = refl;
  four_on_processors_is = refl;
  four_in_lanes_is = refl;
  six_by_coprime_is = refl;
  three_by_rows_is = refl;
  two_by_two_is = refl;
}
