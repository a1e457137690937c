use Rattle.std.proofs.Common.{◌≤◌, arith, ap}
use Rattle.std.specs.Prelude.{slice_index}
use Rattle.perm_algebra.specs.Views.{plain_sum}
use Rattle.perm_algebra.proofs.PartLaws.{in_range_at, most_part, most_quotient}
use Rattle.perm_algebra.proofs.parts.+greatest.Goals as goal

pub returns-in-Variable-clause-bound : goal.returns-in-Variable-clause-bound
returns-in-Variable-clause-bound t c = λ vs range.
    let is = ap plain_sum c.in-Variable.is in
    let below : vs c.in-Variable.variable ≤ c.saturating_sub-most.result = omega (arith, in_range_at (slice_index c.args.counts.now) vs c.in-Variable.variable range, c.saturating_sub-most.ensures) in
    rw is
    (most_part _ _ _ _ _ _ _ below
    (rw c.deref.ensures at (c.greatest.ensures.bound vs range))
    c.saturating_mul.ensures
    c.saturating_add.ensures
    (rw is at (c.requires.fits vs range)))

pub returns-in-Quotient-clause-bound : goal.returns-in-Quotient-clause-bound
returns-in-Quotient-clause-bound t c = λ vs range.
    let is = ap plain_sum c.in-Quotient.is in
    rw is
    (most_quotient _ _ _ _ _ _ _ _ (rw is at c.requires.affine).0
    (rw c.deref-in-Quotient.ensures at (c.greatest-in-Quotient.ensures.bound vs range))
    (rw c.deref-in-Quotient-2.ensures at (c.greatest-in-Quotient-2.ensures.bound vs range))
    c.saturating_mul-in-Quotient.ensures
    c.saturating_add-in-Quotient.ensures
    (rw is at (c.requires.fits vs range)))
