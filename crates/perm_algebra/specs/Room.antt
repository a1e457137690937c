-- Where every number on the way to a simplified sum fits 64 bits.
use Rattle.std.specs.Prelude.{◌≡◌, ℕ, ◌+◌, ◌*◌, ◌^◌, ◌<◌, ◌↔◌, Bool, true, false, nat_lt, ◌&&◌}
use Rattle.index_fn.specs.Mapping.{Mapping, Same, Always, Line, Strided, ThomasIn, ThomasOut, ThomasBack, Listed}
use Rattle.index_fn.specs.Mapping.{Paired, After}
use Rattle.perm_algebra.specs.Affine.{Sum, constant, variable, remainder, quotient, IsSound, top, peak, scaled, added}
use Rattle.perm_algebra.specs.Affine.{rest_of, divided, mods, simplified}

abbrev pub constant_of : Sum → ℕ
constant_of (constant c) = c
constant_of (variable f d rest) = constant_of rest
constant_of (remainder f of m rest) = constant_of rest
constant_of (quotient f of m rest) = constant_of rest

-- each variable has a count
abbrev pub HasCounts : ℕ → Sum → Type 0
HasCounts n (constant c) = Unit {0}
HasCounts n (variable f d rest) = (d < n) × HasCounts n rest
HasCounts n (remainder f of m rest) = HasCounts n of × HasCounts n rest
HasCounts n (quotient f of m rest) = HasCounts n of × HasCounts n rest

-- a sum whose variables have counts, and whose divisors are at least 1
pub record IsReady (n : ℕ) (e : Sum) : Type 0 where
  pub counts : HasCounts n e
  pub sound : IsSound e

-- the greatest values of the sum and of what is divided fit
abbrev pub HasTop : (ℕ → ℕ) → Sum → Type 0
HasTop cs (constant c) = Unit {0}
HasTop cs (variable f d rest) = (top (variable f d rest) cs < 2 ^ 64) × HasTop cs rest
HasTop cs (remainder f of m rest) = (top (remainder f of m rest) cs < 2 ^ 64) × HasTop cs rest
HasTop cs (quotient f of m rest) = (top (quotient f of m rest) cs < 2 ^ 64) × HasTop cs of × HasTop cs rest

-- k times the sum fits
abbrev pub CanScale : ℕ → Sum → Type 0
CanScale k e = k * peak e < 2 ^ 64

-- the sum of the two fits
abbrev pub CanAdd : Sum → Sum → Type 0
CanAdd a e = constant_of a + constant_of e < 2 ^ 64

abbrev pub CanDivide : (ℕ → ℕ) → ℕ → Sum → Type 0
CanDivide cs s e = HasTop cs (rest_of s e)

-- two multiples and their sum, modulo n
abbrev pub CanMix : (ℕ → ℕ) → ℕ → ℕ → ℕ → Sum → Sum → Type 0
CanMix cs n a b e g =
    CanScale a e × CanScale b g × CanAdd (scaled a e) (scaled b g)
    × HasTop cs (mods n (added (scaled a e) (scaled b g)))

abbrev pub HasRoomFor : (ℕ → ℕ) → Mapping → Sum → Type 0
HasRoomFor cs Same e = Unit {0}
HasRoomFor cs (Always v) e = Unit {0}
HasRoomFor cs (Line base by) e = CanScale by e × CanAdd (constant base) (scaled by e)
HasRoomFor cs (Strided r s) e =
    CanDivide cs s e × CanScale r (divided cs s e).rem × CanAdd (scaled r (divided cs s e).rem) (divided cs s e).quot
HasRoomFor cs (ThomasIn r s) e = CanDivide cs s e × CanMix cs (r * s) s r (divided cs s e).quot (divided cs s e).rem
HasRoomFor cs (ThomasOut r s) e =
    CanDivide cs r e × CanDivide cs s e × CanScale s (divided cs r e).rem
    × CanAdd (scaled s (divided cs r e).rem) (divided cs s e).rem
HasRoomFor cs (ThomasBack r s u v) e =
    CanDivide cs s e × CanMix cs (r * s) u v (divided cs s e).quot (divided cs s e).rem
HasRoomFor cs (Listed ks) e = ⊥
HasRoomFor cs (Paired f c g d) e =
    CanDivide cs d e × HasRoomFor cs f (divided cs d e).quot × HasRoomFor cs g (divided cs d e).rem
    × CanScale c (simplified cs f (divided cs d e).quot)
    × CanAdd (scaled c (simplified cs f (divided cs d e).quot)) (simplified cs g (divided cs d e).rem)
HasRoomFor cs (After f g) e = HasRoomFor cs g e × HasRoomFor cs f (simplified cs g e)

-- ---- the same as tests

abbrev pub has_top : (ℕ → ℕ) → Sum → Bool
has_top cs (constant c) = true
has_top cs (variable f d rest) = nat_lt (top (variable f d rest) cs) (2 ^ 64) && has_top cs rest
has_top cs (remainder f of m rest) = nat_lt (top (remainder f of m rest) cs) (2 ^ 64) && has_top cs rest
has_top cs (quotient f of m rest) =
    nat_lt (top (quotient f of m rest) cs) (2 ^ 64) && (has_top cs of && has_top cs rest)

abbrev pub can_scale : ℕ → Sum → Bool
can_scale k e = nat_lt (k * peak e) (2 ^ 64)

abbrev pub can_add : Sum → Sum → Bool
can_add a e = nat_lt (constant_of a + constant_of e) (2 ^ 64)

abbrev pub can_divide : (ℕ → ℕ) → ℕ → Sum → Bool
can_divide cs s e = has_top cs (rest_of s e)

abbrev pub can_mix : (ℕ → ℕ) → ℕ → ℕ → ℕ → Sum → Sum → Bool
can_mix cs n a b e g =
    can_scale a e && (can_scale b g
    && (can_add (scaled a e) (scaled b g) && has_top cs (mods n (added (scaled a e) (scaled b g)))))

abbrev pub has_room : (ℕ → ℕ) → Mapping → Sum → Bool
has_room cs Same e = true
has_room cs (Always v) e = true
has_room cs (Line base by) e = can_scale by e && can_add (constant base) (scaled by e)
has_room cs (Strided r s) e =
    can_divide cs s e
    && (can_scale r (divided cs s e).rem && can_add (scaled r (divided cs s e).rem) (divided cs s e).quot)
has_room cs (ThomasIn r s) e = can_divide cs s e && can_mix cs (r * s) s r (divided cs s e).quot (divided cs s e).rem
has_room cs (ThomasOut r s) e =
    can_divide cs r e
    && (can_divide cs s e
    && (can_scale s (divided cs r e).rem && can_add (scaled s (divided cs r e).rem) (divided cs s e).rem))
has_room cs (ThomasBack r s u v) e =
    can_divide cs s e && can_mix cs (r * s) u v (divided cs s e).quot (divided cs s e).rem
has_room cs (Listed ks) e = false
has_room cs (Paired f c g d) e =
    can_divide cs d e
    && (has_room cs f (divided cs d e).quot
    && (has_room cs g (divided cs d e).rem
    && (can_scale c (simplified cs f (divided cs d e).quot)
    && can_add (scaled c (simplified cs f (divided cs d e).quot)) (simplified cs g (divided cs d e).rem))))
has_room cs (After f g) e = has_room cs g e && has_room cs f (simplified cs g e)

abbrev pub RoomDecided : Type 0
RoomDecided = (cs : ℕ → ℕ) (f : Mapping) (e : Sum) → (has_room cs f e ≡ true) ↔ HasRoomFor cs f e
