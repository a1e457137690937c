use Rattle.sigma_spl.proofs.PlainLemmas.Rooms.{twiddle_residue}
use Rattle.sigma_spl.proofs.plain.parts.+factor.Goals as goal

pub returns-in-Twiddles-clause-value : goal.returns-in-Twiddles-clause-value
returns-in-Twiddles-clause-value t c =
    rw c.in-Twiddles.is
    (twiddle_residue c.args.m.now c.in-Twiddles.cols c.in-Twiddles.root c.reduce-in-Twiddles.result c.args.i c.twiddle_factor.result c.reduce-in-Twiddles.ensures.value c.twiddle_factor.ensures.value c.twiddle_factor.ensures.residue)
