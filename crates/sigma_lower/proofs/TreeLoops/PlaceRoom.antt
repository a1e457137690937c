-- Where scaled, added and divided sums fit 64 bits.
use Rattle.sigma_lower.proofs.Words.{chosen, ◌==◌, ℕ, ◌+◌, ◌-◌, ◌*◌, ◌/◌, ◌%◌, ◌^◌, ◌<◌, ◌≤◌, arith, sym, ◌∙◌, subst}
use Rattle.sigma_lower.proofs.Words.{le-mul_of_pos_right, mul-le-mul_right, IsProper, Sum, constant, variable}
use Rattle.sigma_lower.proofs.Words.{remainder, quotient, top, scaled, added, mods, ◌≡◌, CanAdd, HasRoomFor, Mapping}
use Rattle.sigma_lower.proofs.Words.{simplified, Divided, divided-added, top-scaled, Paired}
use Rattle.perm_algebra.specs.Room.{CanScale, constant_of, HasTop, CanDivide}
use Rattle.std.proofs.Math.Nat.{mul-le-mul_left, mod-le}
use Rattle.perm_algebra.specs.Affine.{peak}
use Rattle.perm_algebra.proofs.Shape.{rest-added, rest-small}

pub has_top : (e : Sum) (cs : ℕ → ℕ) → IsProper e cs → top e cs < 2 ^ 64 → HasTop cs e
has_top (constant c) cs h below = tt
has_top (variable f d rest) cs h below = (below, has_top rest cs h.2 (omega arith))
has_top (remainder f of m rest) cs h below = (below, has_top rest cs h.2 (omega arith))
has_top (quotient f of m rest) cs h below = absurd h

pub peak-le-top : (e : Sum) (cs : ℕ → ℕ) → IsProper e cs → peak e ≤ top e cs
peak-le-top (constant c) cs h = omega arith
peak-le-top (variable f d rest) cs h = let more : f ≤ f * (cs d - 1) = le-mul_of_pos_right {m = cs d - 1} f (omega (arith, h.1)) in omega (arith, peak-le-top rest cs h.2)
peak-le-top (remainder f of m rest) cs h = let more : f ≤ f * (m - 1) = le-mul_of_pos_right {m = m - 1} f (omega (arith, h.1)) in omega (arith, peak-le-top rest cs h.2)
peak-le-top (quotient f of m rest) cs h = absurd h

pub constant-le-top : (e : Sum) (cs : ℕ → ℕ) → constant_of e ≤ top e cs
constant-le-top (constant c) cs = omega arith
constant-le-top (variable f d rest) cs = omega (arith, constant-le-top rest cs)
constant-le-top (remainder f of m rest) cs = omega (arith, constant-le-top rest cs)
constant-le-top (quotient f of m rest) cs = omega (arith, constant-le-top rest cs)

pub can_scale : (k : ℕ) (e : Sum) (cs : ℕ → ℕ) → IsProper e cs → k * top e cs < 2 ^ 64 → CanScale k e
can_scale k e cs h below = omega (arith, mul-le-mul_left k (peak-le-top e cs h))

pub can_add : (a e : Sum) (cs : ℕ → ℕ) → top a cs + top e cs < 2 ^ 64 → CanAdd a e
can_add a e cs below = omega (arith, constant-le-top a cs, constant-le-top e cs)

-- what is divided at a multiple of s and a small rest is the rest
pub can_divide : (s : ℕ) (a e : Sum) (cs : ℕ → ℕ) → 0 < s → s ≤ 2 ^ 64 → IsProper e cs → top e cs < s →
    CanDivide cs s (added (scaled s a) e)
can_divide s a e cs positive high h small = subst (HasTop cs) (sym (rest-added s a e positive ∙ rest-small s e cs h small)) (has_top e cs h (omega arith))

-- a pair of functions at a multiple of s and a small rest, which they lead to these sums
pub room-paired : (f g : Mapping) (s k : ℕ) (a e x y : Sum) (cs : ℕ → ℕ) → 0 < s → s ≤ 2 ^ 64 → IsProper e cs →
    top e cs < s → HasRoomFor cs f a → HasRoomFor cs g e → simplified cs f a ≡ x → simplified cs g e ≡ y →
    IsProper x cs → k * top x cs + top y cs < 2 ^ 64 → HasRoomFor cs (Paired f k g s) (added (scaled s a) e)
room-paired f g s k a e x y cs some high proper small on_left on_right left right count below =
    let scale : CanScale k x = can_scale k x cs count (omega arith) in
    let join : CanAdd (scaled k x) y = can_add (scaled k x) y cs (omega (arith, top-scaled k x cs)) in
    subst
    (λ (z : Divided).
    CanDivide cs s (added (scaled s a) e) × HasRoomFor cs f z.quot × HasRoomFor cs g z.rem
    × CanScale k (simplified cs f z.quot) × CanAdd (scaled k (simplified cs f z.quot)) (simplified cs g z.rem))
    (sym (divided-added s a e cs some proper small)) (
      can_divide s a e cs some high proper small,
      on_left,
      on_right,
      subst (CanScale k) (sym left) scale,
      subst (λ w. CanAdd (scaled k w) (simplified cs g e)) (sym left) (subst (CanAdd (scaled k x)) (sym right) join),
    )

pub scaled-top : (a t b : ℕ) → t < b → a * t ≤ b * a
scaled-top a t b h = let more : a * t ≤ a * b = mul-le-mul_left a (omega arith) in omega arith

factor-le : (f n x : ℕ) → f % n * x ≤ f * x
factor-le f n x = mul-le-mul_right x (mod-le f n)

pub top-mods : (n : ℕ) (e : Sum) (cs : ℕ → ℕ) → top (mods n e) cs ≤ top e cs
top-mods n (constant c) cs = mod-le c n
top-mods n (variable f d rest) cs =
    chosen (λ e. top e cs ≤ top (variable f d rest) cs) (f % n == 0) (mods n rest) (variable (f % n) d (mods n rest))
    (λ gone. omega (arith, top-mods n rest cs)) (omega (arith, factor-le f n (cs d - 1), top-mods n rest cs))
top-mods n (remainder f of m rest) cs =
    chosen (λ e. top e cs ≤ top (remainder f of m rest) cs) (f % n == 0) (mods n rest)
    (remainder (f % n) of m (mods n rest)) (λ gone. omega (arith, top-mods n rest cs))
    (omega (arith, factor-le f n (m - 1), top-mods n rest cs))
top-mods n (quotient f of m rest) cs =
    chosen (λ e. top e cs ≤ top (quotient f of m rest) cs) (f % n == 0) (mods n rest)
    (quotient (f % n) of m (mods n rest)) (λ gone. omega (arith, top-mods n rest cs))
    (omega (arith, factor-le f n (top of cs / m), top-mods n rest cs))
