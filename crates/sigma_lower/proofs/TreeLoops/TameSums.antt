-- Sums whose remainders are of small numbers, in few parts.
use Rattle.sigma_lower.proofs.Words.{chosen, ◌==◌, ◌≡◌, ℕ, suc, ◌+◌, ◌-◌, ◌*◌, ◌%◌, ◌^◌, ◌<◌, ◌≤◌, true, inl, inr}
use Rattle.sigma_lower.proofs.Words.{arith, sym, subst, le-mul_of_pos_right, pow-succ', mul-le-mul, pow_mono, cases_lt}
use Rattle.sigma_lower.proofs.Words.{and_from, nat_tests, IsProper, Sum, constant, variable, remainder, quotient, top}
use Rattle.sigma_lower.proofs.Words.{scaled, added, mods, Fits, pow-add, is_limited, parts, reduced, mods-proper}
use Rattle.sigma_lower.proofs.Words.{parts-scaled, parts-added, IsTame}
use Rattle.sigma_spl.specs.Merge.{total, are_small}
use Rattle.sigma_spl.proofs.Small.{divided-true}
use Rattle.sigma_spl.proofs.Within.{limited, small-true}
use Rattle.perm_algebra.specs.Affine.{AreBelow, HasNoQuotient, levels}
use Rattle.perm_algebra.proofs.Reduced.{mods-below}
use Rattle.perm_algebra.proofs.Sizes.{is_reduced}
use Rattle.sigma_lower.specs.TreeLoops.Placed.{IsSmallPart}
use Rattle.sigma_lower.proofs.TreeLoops.PlaceRoom.{peak-le-top, top-mods}

-- ---- remainders of small numbers

pub tame-plain : (cs : ℕ → ℕ) (e : Sum) → IsTame cs e → HasNoQuotient e
tame-plain cs (constant c) h = tt
tame-plain cs (variable f d rest) h = tame-plain cs rest h
tame-plain cs (remainder f of m rest) h = (h.0.plain, tame-plain cs rest h.1)
tame-plain cs (quotient f of m rest) h = absurd h

pub tame-scaled : (cs : ℕ → ℕ) (k : ℕ) (e : Sum) → IsTame cs e → IsTame cs (scaled k e)
tame-scaled cs k (constant c) h = tt
tame-scaled cs k (variable f d rest) h = tame-scaled cs k rest h
tame-scaled cs k (remainder f of m rest) h = (h.0, tame-scaled cs k rest h.1)
tame-scaled cs k (quotient f of m rest) h = absurd h

pub tame-added : (cs : ℕ → ℕ) (a e : Sum) → IsTame cs a → IsTame cs e → IsTame cs (added a e)
tame-added cs (constant c) (constant d) h g = tt
tame-added cs (constant c) (variable f d rest) h g = tame-added cs (constant c) rest tt g
tame-added cs (constant c) (remainder f of m rest) h g = (g.0, tame-added cs (constant c) rest tt g.1)
tame-added cs (constant c) (quotient f of m rest) h g = absurd g
tame-added cs (variable f d rest) e h g = tame-added cs rest e h g
tame-added cs (remainder f of m rest) e h g = (h.0, tame-added cs rest e h.1 g)
tame-added cs (quotient f of m rest) e h g = absurd h

tame-mods : (cs : ℕ → ℕ) (n : ℕ) (e : Sum) → IsTame cs e → IsTame cs (mods n e)
tame-mods cs n (constant c) h = tt
tame-mods cs n (variable f d rest) h =
    let more = tame-mods cs n rest h in
    chosen (IsTame cs) (f % n == 0) (mods n rest) (variable (f % n) d (mods n rest)) (λ gone. more) more
tame-mods cs n (remainder f of m rest) h =
    let more = tame-mods cs n rest h.1 in
    chosen (IsTame cs) (f % n == 0) (mods n rest) (remainder (f % n) of m (mods n rest)) (λ gone. more) (h.0, more)
tame-mods cs n (quotient f of m rest) h = absurd h

-- ---- small numbers

below-top : (n : ℕ) (e : Sum) (cs : ℕ → ℕ) → IsProper e cs → top e cs < n → AreBelow n e
below-top n (constant c) cs h low = low
below-top n (variable f d rest) cs h low = let more : f ≤ f * (cs d - 1) = le-mul_of_pos_right {m = cs d - 1} f (omega (arith, h.1)) in (omega arith, below-top n rest cs h.2 (omega arith))
below-top n (remainder f of m rest) cs h low = let more : f ≤ f * (m - 1) = le-mul_of_pos_right {m = m - 1} f (omega (arith, h.1)) in (omega arith, below-top n rest cs h.2 (omega arith))
below-top n (quotient f of m rest) cs h low = absurd h

total-le : (n : ℕ) (e : Sum) → n ≤ 1048576 → AreBelow n e → total e ≤ (1 + parts e) * 1048576
total-le n (constant c) high h = omega arith
total-le n (variable f d rest) high h = omega (arith, h.0, total-le n rest high h.1)
total-le n (remainder f of m rest) high h = omega (arith, h.0, total-le n rest high h.1)
total-le n (quotient f of m rest) high h = omega (arith, h.0, total-le n rest high h.1)

tame-small : (n : ℕ) (e : Sum) (cs : ℕ → ℕ) → n ≤ 1048576 → IsProper e cs → IsTame cs e → AreBelow n e →
    are_small cs e ≡ true
tame-small n (constant c) cs high h tame low = small-true c (omega (arith, low))
tame-small n (variable f d rest) cs high h tame low = and_from _ _ (small-true f (omega (arith, low.0))) (tame-small n rest cs high h.2 tame low.1)
tame-small n (remainder f of m rest) cs high h tame low =
    let part = tame.0 in
    and_from _ _ (divided-true cs f of m h.0 (omega (arith, low.0)) (omega (arith, h.1)) part.divisor part.sum part.word)
    (and_from _ _ part.small (tame-small n rest cs high h.2 tame.1 low.1))
tame-small n (quotient f of m rest) cs high h tame low = absurd h

-- ---- few parts

levels-le-parts : (e : Sum) → levels e ≤ parts e
levels-le-parts (constant c) = omega arith
levels-le-parts (variable f d rest) = omega (arith, levels-le-parts rest)
levels-le-parts (remainder f of m rest) = omega (arith, levels-le-parts of, levels-le-parts rest)
levels-le-parts (quotient f of m rest) = omega (arith, levels-le-parts of, levels-le-parts rest)

few-small : (k n : ℕ) → n ≤ 1048576 → 2 ^ k ≤ n * n → k ≤ 40
few-small k n high few =
    elim (cases_lt 40 k) [
      | inl large ↦
          let least : 2 ^ 41 ≤ 2 ^ k = pow_mono {i = 41} {j = k} (omega arith) in
          let most : n * n ≤ 1048576 * 1048576 = mul-le-mul high high in absurd (omega arith)
      | inr small ↦ small
    ]

few-both : (r s j k : ℕ) → 2 ^ j ≤ r * r → 2 ^ k ≤ s * s → 2 ^ (j + k) ≤ r * s * (r * s)
few-both r s j k h g =
    let both : 2 ^ j * 2 ^ k ≤ r * r * (s * s) = mul-le-mul h g in
    let turned : r * r * (s * s) ≡ r * s * (r * s) = omega arith in
    subst (λ x. x ≤ r * s * (r * s)) (sym (pow-add 2 j k)) (subst (λ y. 2 ^ j * 2 ^ k ≤ y) turned both)

-- a multiple and a rest
pub few-added : (r s : ℕ) (a e : Sum) → 2 ^ parts a ≤ r * r → 2 ^ parts e ≤ s * s →
    2 ^ parts (added (scaled s a) e) ≤ r * s * (r * s)
few-added r s a e h g =
    let is : parts a + parts e ≡ parts (added (scaled s a) e) = omega (arith, parts-added (scaled s a) e, parts-scaled s a) in
    subst (λ k. 2 ^ k ≤ r * s * (r * s)) is (few-both r s (parts a) (parts e) h g)

-- two parts more, in an array at least twice as long
few-more : (k j s n : ℕ) → k ≤ 2 + j → 2 * s ≤ n → 2 ^ j ≤ s * s → 2 ^ k ≤ n * n
few-more k j s n more twice few =
    let step : 2 ^ k ≤ 2 ^ suc (suc j) = pow_mono {i = k} {j = suc (suc j)} (omega arith) in
    let one : 2 ^ suc (suc j) ≡ 2 * 2 ^ suc j = pow-succ' 2 (suc j) in
    let two : 2 ^ suc j ≡ 2 * 2 ^ j = pow-succ' 2 j in
    let whole : 2 * s * (2 * s) ≤ n * n = mul-le-mul twice twice in
    let turned : 2 * s * (2 * s) ≡ 4 * (s * s) = omega arith in omega arith

-- ---- modulo n

tame-part : (cs : ℕ → ℕ) (n : ℕ) (e : Sum) → 2 ≤ n → n ≤ 1048576 → IsProper e cs → IsTame cs e → parts e ≤ 64 →
    top e cs < 2 ^ 64 → HasNoQuotient (mods n e) → parts (mods n e) ≤ 64 → IsSmallPart cs (mods n e) n
tame-part cs n e two high proper tame few word plain less =
    let low = mods-below n e (omega arith) in
    record {
      divisor = omega arith;
      sum = omega (arith, total-le n (mods n e) high low, less);
      word = omega (arith, top-mods n e cs, word);
      small = tame-small n (mods n e) cs high (mods-proper n e cs proper) (tame-mods cs n e tame) low;
      plain = plain;
    }

-- what is taken modulo n stands in few small numbers, where all that is before fits a word
pub reduced-fits : (cs : ℕ → ℕ) (n s j : ℕ) (e : Sum) → 2 * s ≤ n → 0 < s → n ≤ 1048576 → IsProper e cs → IsTame cs e →
    parts e ≤ 1 + j → 2 ^ j ≤ s * s → top e cs < 2 ^ 64 → Fits n (reduced cs n e) cs
reduced-fits cs n s j e twice some high proper tame more few word =
    let two : 2 ≤ n = omega arith in
    let made = is_reduced cs n e two proper (tame-plain cs e tame) in
    let long : parts (reduced cs n e) ≤ 2 + j = omega (arith, made.parts, more) in
    record {
      proper = made.fits.proper;
      small = made.fits.small;
      tame =
          elim (cases_lt (top (mods n e) cs) n) [
            | inl low ↦
                let is : reduced cs n e ≡ mods n e = grind (arith, nat_tests) in
                rw is (tame-mods cs n e tame)
            | inr over ↦
                let is : reduced cs n e ≡ remainder 1 (mods n e) n (constant 0) = grind (arith, nat_tests) in
                let plain = (subst HasNoQuotient is made.fits.plain).0 in
                let less : parts (mods n e) ≤ 64 = omega (arith, few-small j s (omega arith) few, subst (λ z. parts z ≤ 2 + j) is long) in
                rw is (tame-part cs n e two high proper tame (omega (arith, few-small j s (omega arith) few, more)) word plain less, tt)
          ];
      few = few-more (parts (reduced cs n e)) j s n long twice few;
    }

-- ---- within the limits

pub few-parts : (n : ℕ) (e : Sum) (cs : ℕ → ℕ) → n ≤ 1048576 → Fits n e cs → (parts e ≤ 40) × (levels e ≤ 40)
few-parts n e cs high h = let few = few-small (parts e) n high h.few in (few, omega (arith, few, levels-le-parts e))

pub fits-limited : (room n : ℕ) (e : Sum) (cs : ℕ → ℕ) → 40 ≤ room → n ≤ 1048576 → Fits n e cs →
    is_limited room n cs e ≡ true
fits-limited room n e cs enough high h =
    let few = few-parts n e cs high h in
    limited room n cs e
    (record {
      parts = omega (arith, few.0, enough);
      levels = omega (arith, few.1);
      top = h.small;
      peak = omega (arith, peak-le-top e cs h.proper, h.small);
      small = tame-small n e cs high h.proper h.tame (below-top n e cs h.proper h.small);
    })
