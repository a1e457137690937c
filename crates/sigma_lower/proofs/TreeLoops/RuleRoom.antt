-- The permutations of a rule have room at the places under its tensor.
use Rattle.sigma_lower.proofs.Words.{◌≡◌, ℕ, ◌+◌, ◌*◌, ◌^◌, ◌<◌, ◌≤◌, arith, sym, subst, mul-le-mul_left}
use Rattle.sigma_lower.proofs.Words.{le-mul_of_pos_right, mul-le, Strided, ThomasIn, ThomasBack, IsProper, Sum}
use Rattle.sigma_lower.proofs.Words.{constant, variable, top, scaled, added, Divided, mods, CanAdd, HasRoomFor}
use Rattle.sigma_lower.proofs.Words.{top-scaled, top-added, divided-added, proper-added, proper-scaled, le-times}
use Rattle.sigma_lower.proofs.Words.{Fits, Blocks, Columns, mods-proper}
use Rattle.perm_algebra.specs.Room.{CanScale, CanMix}
use Rattle.sigma_lower.proofs.TreeLoops.PlaceRoom.{has_top, top-mods, can_scale, can_add, can_divide}
use Rattle.sigma_lower.proofs.TreeLoops.PlaceSums.{tensor_sum, variable-fits}

-- two multiples whose greatest values sum below 2^64
can_mix : (n a b : ℕ) (e g : Sum) (cs : ℕ → ℕ) → 0 < a → 0 < b → IsProper e cs → IsProper g cs →
    a * top e cs + b * top g cs < 2 ^ 64 → CanMix cs n a b e g
can_mix n a b e g cs p q h k below =
    let both = added (scaled a e) (scaled b g) in
    let proper : IsProper both cs = proper-added (scaled a e) (scaled b g) cs (proper-scaled a e cs p h) (proper-scaled b g cs q k) in (
      can_scale a e cs h (omega arith),
      can_scale b g cs k (omega arith),
      can_add (scaled a e) (scaled b g) cs (omega (arith, top-scaled a e cs, top-scaled b g cs)),
      has_top (mods n both) cs (mods-proper n both cs proper) (omega (arith, top-mods n both cs, top-added (scaled a e) (scaled b g) cs, top-scaled a e cs, top-scaled b g cs)),
    )

below-product : (a b t : ℕ) → t < b → a * t ≤ a * b
below-product a b t h = mul-le-mul_left a (omega arith)

pub thomas_in-room : (r s d : ℕ) (e : Sum) (cs : ℕ → ℕ) → cs d ≡ r → 2 ≤ r → 2 ≤ s → r * s ≤ 1048576 → Fits s e cs →
    HasRoomFor cs (ThomasIn r s) (tensor_sum (Blocks r) s d e)
thomas_in-room r s d e cs count two_r two_s small f =
    let v = variable 1 d (constant 0) in
    let fit = variable-fits r d cs count two_r in
    let apart = divided-added s v e cs (omega arith) f.proper f.small in
    let one : s * top v cs ≤ s * r = below-product s r (top v cs) fit.small in
    let other : r * top e cs ≤ r * s = below-product r s (top e cs) f.small in
    let size : s ≤ r * s = le-times r s (omega arith) in (
      can_divide s v e cs (omega arith) (omega arith) f.proper f.small,
      subst (λ (z : Divided). CanMix cs (r * s) s r z.quot z.rem) (sym apart) (can_mix (r * s) s r v e cs (omega arith) (omega arith) fit.proper f.proper (omega arith)),
    )

pub strided-room : (r s : ℕ) (u e : Sum) (cs : ℕ → ℕ) → r * s ≤ 1048576 → Fits r u cs → Fits s e cs →
    HasRoomFor cs (Strided r s) (added (scaled s u) e)
strided-room r s u e cs small fit f =
    let some : 0 < s = omega (arith, f.small) in
    let apart = divided-added s u e cs some f.proper f.small in
    let other : r * top e cs ≤ r * s = below-product r s (top e cs) f.small in
    let size : s ≤ r * s = le-times r s (omega (arith, fit.small)) in
    let rows : r ≤ r * s = le-mul_of_pos_right {m = s} r some in (
      can_divide s u e cs some (omega arith) f.proper f.small,
      subst (λ (z : Divided). CanScale r z.rem) (sym apart) (can_scale r e cs f.proper (omega arith)),
      subst (λ (z : Divided). CanAdd (scaled r z.rem) z.quot) (sym apart) (can_add (scaled r e) u cs (omega (arith, top-scaled r e cs, fit.small))),
    )

pub turns-room : (r s d : ℕ) (e : Sum) (cs : ℕ → ℕ) → cs d ≡ r → 2 ≤ r → 2 ≤ s → r * s ≤ 1048576 → Fits s e cs →
    HasRoomFor cs (Strided r s) (tensor_sum (Blocks r) s d e)
turns-room r s d e cs count two_r two_s small f = strided-room r s (variable 1 d (constant 0)) e cs small (variable-fits r d cs count two_r) f

pub thomas_back-room : (r s u w d : ℕ) (e : Sum) (cs : ℕ → ℕ) → cs d ≡ s → 2 ≤ r → 2 ≤ s → r * s ≤ 1048576 → 0 < u →
    u < r * s → 0 < w → w < r * s → Fits r e cs →
    HasRoomFor cs (ThomasBack r s u w) (tensor_sum (Columns s) r d e)
thomas_back-room r s u w d e cs count two_r two_s small pu bu pw bw f =
    let v = variable 1 d (constant 0) in
    let fit = variable-fits s d cs count two_s in
    let apart = divided-added s e v cs (omega arith) fit.proper fit.small in
    let size : s ≤ r * s = le-times r s (omega arith) in
    let rows : r ≤ r * s = le-mul_of_pos_right {m = s} r (omega arith) in
    let one : u * top e cs ≤ 1048576 * 1048576 = mul-le u (top e cs) 1048576 1048576 (omega arith) (omega (arith, f.small)) in
    let other : w * top v cs ≤ 1048576 * 1048576 = mul-le w (top v cs) 1048576 1048576 (omega arith) (omega (arith, fit.small)) in (
      can_divide s e v cs (omega arith) (omega arith) fit.proper fit.small,
      subst (λ (z : Divided). CanMix cs (r * s) u w z.quot z.rem) (sym apart) (can_mix (r * s) u w e v cs pu pw f.proper fit.proper (omega arith)),
    )
