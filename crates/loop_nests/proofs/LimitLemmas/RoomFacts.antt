-- What the tests of room tell of sums that code has made.
use Rattle.std.proofs.Common.{◌≡◌, ℕ, ◌<◌, true, subst, arith}
use Rattle.std.specs.Prelude.{◌&&◌, nat_le, nat_lt}
use Rattle.sigma_spl.specs.Merge.{are_small, is_limited}
use Rattle.sigma_spl.proofs.Walk.{and-left, and-right}
use Rattle.sigma_spl.proofs.Limited.{top-below}
use Rattle.perm_algebra.specs.Affine.{Sum, constant, variable, remainder, quotient, levels, parts, peak, top, value}
use Rattle.perm_algebra.specs.Affine.{IsSound}
use Rattle.perm_algebra.specs.Fits.{InRange, IsAffine}
use Rattle.perm_algebra.specs.Room.{HasTop, has_top}
use Rattle.perm_algebra.proofs.AffineLaws.{value-le-top}
use Rattle.perm_algebra.proofs.PartLaws.{in_range_at}
use Rattle.perm_algebra.proofs.RoomTests.{top_tested}

pub top_there : (cs : ℕ → ℕ) (e r : Sum) → r ≡ e → has_top cs r ≡ true → HasTop cs e
top_there cs e r is h = (top_tested cs e).0 (subst (λ z. has_top cs z ≡ true) is h)

-- ---- values of a place within the limits

sound : (m : ℕ) (cs : ℕ → ℕ) (e : Sum) → IsAffine m cs e → IsSound e
sound m cs (constant c) h = tt
sound m cs (variable f d rest) h = sound m cs rest h.1
sound m cs (remainder f of k rest) h = (h.0, sound m cs of h.1, sound m cs rest h.3)
sound m cs (quotient f of k rest) h = (h.0, sound m cs of h.1, sound m cs rest h.3)

pub value_inside : (m room n : ℕ) (cs : ℕ → ℕ) (e : Sum) → IsAffine m cs e → is_limited room n cs e ≡ true →
    (vs : ℕ → ℕ) → InRange cs vs → value e vs < n
value_inside m room n cs e affine h vs range =
    let low = top-below room n cs e h in
    omega (arith, low, value-le-top e vs cs (sound m cs e affine) (λ d. in_range_at cs vs d range))
