-- Index functions at places that are plain numbers.
use Rattle.std.proofs.Common.{◌≡◌, ℕ, ◌+◌, ◌*◌, ◌/◌, ◌%◌, ◌<◌, ◌≤◌, refl, ap, ap₂, ◌∙◌, arith, true, Option, Some, None}
use Rattle.std.proofs.Common.{subst}
use Rattle.std.proofs.lemmas.Bool.Decides.{nat_tests}
use Rattle.std.proofs.lemmas.Nat.{mod_below, mul-add-lt, mul-lt}
use Rattle.index_fn.specs.Mapping.{Mapping, Same, Always, Line, Strided, ThomasIn, ThomasOut, ThomasBack, Listed}
use Rattle.index_fn.specs.Mapping.{Paired, After, at, IsDefinedAt, IsWellFormed}
use Rattle.perm_algebra.specs.Affine.{constant, Divided, divided, added, reduced, scaled, simplified, HasNoList}
use Rattle.perm_algebra.specs.Fits.{InRange}
use Rattle.perm_algebra.specs.Room.{HasRoomFor, has_room}
use Rattle.perm_algebra.proofs.PartLaws.{in_range_from, turned_below}
use Rattle.perm_algebra.proofs.RoomTests.{room_decided}

-- quotient and remainder of a number, and a number modulo another

divided-number : (cs : ℕ → ℕ) (s c : ℕ) → 1 ≤ s → divided cs s (constant c) ≡ record { quot = constant (c / s); rem = constant (c % s) }
divided-number cs s c positive = let below : c % s < s = mod_below c s positive in grind (arith, nat_tests)

reduced-number : (cs : ℕ → ℕ) (n c : ℕ) → 1 ≤ n → reduced cs n (constant c) ≡ constant (c % n)
reduced-number cs n c positive = let below : c % n < n = mod_below c n positive in grind (arith, nat_tests)

-- the function at a number is a number, and all on the way fit
pub record IsNumber (cs : ℕ → ℕ) (f : Mapping) (c : ℕ) : Type 0 where
  pub form : simplified cs f (constant c) ≡ constant (at f c)
  pub room : HasRoomFor cs f (constant c)

pub is_number : (cs : ℕ → ℕ) (f : Mapping) (c : ℕ) → IsWellFormed f → HasNoList f → IsDefinedAt f c → IsNumber cs f c
is_number cs Same c h none d = record { form = refl; room = tt }
is_number cs (Always v) c h none d = record { form = refl; room = tt }
is_number cs (Line base by) c h none d = record { form = refl; room = (omega (arith, d), d) }
is_number cs (Strided r s) c h none d =
    let is = divided-number cs s c h.1 in
    let low = turned_below r s c h.0 h.1 d in
    record {
      form = ap (λ (p : Divided). added (scaled r p.rem) p.quot) is ∙ ap constant (omega arith);
      room = rw is (tt, omega (arith, low, h.2), omega (arith, low, h.2));
    }
is_number cs (ThomasIn r s) c h none d =
    let is = divided-number cs s c h.1 in
    record {
      form =
          ap (λ (p : Divided). reduced cs (r * s) (added (scaled s p.quot) (scaled r p.rem))) is
          ∙ reduced-number cs (r * s) (s * (c / s) + r * (c % s)) (mul-lt 0 0 r s (omega (arith, h.0)) (omega (arith, h.1)));
      room = rw is (tt, (omega (arith, d.1), omega (arith, d.1), d.1, tt));
    }
is_number cs (ThomasOut r s) c h none d =
    let first = divided-number cs r c h.0 in
    let last = divided-number cs s c h.1 in
    let low : s * (c % r) + c % s < s * r = omega (arith, mul-add-lt (c % r) s (c % s) r (mod_below c r h.0) (mod_below c s h.1)) in
    record {
      form = ap₂ (λ (p q : Divided). added (scaled s p.rem) q.rem) first last ∙ ap constant (omega arith);
      room = rw (first, last) (tt, tt, omega (arith, low, h.2), omega (arith, low, h.2));
    }
is_number cs (ThomasBack r s u v) c h none d =
    let is = divided-number cs s c h.1 in
    let turned : u * (c / s) + v * (c % s) ≡ (c / s) * u + (c % s) * v = omega arith in
    record {
      form =
          ap (λ (p : Divided). reduced cs (r * s) (added (scaled u p.quot) (scaled v p.rem))) is
          ∙ reduced-number cs (r * s) (u * (c / s) + v * (c % s)) (mul-lt 0 0 r s (omega (arith, h.0)) (omega (arith, h.1)))
          ∙ ap (λ x. constant (x % (r * s))) turned;
      room = rw is (tt, (omega (arith, d.1, turned), omega (arith, d.1, turned), omega (arith, d.1, turned), tt));
    }
is_number cs (Listed ks) c h none d = absurd none
is_number cs (Paired f k g w) c h none d =
    let is = divided-number cs w c h.0 in
    let a = is_number cs f (c / w) h.1 none.0 d.0 in
    let b = is_number cs g (c % w) h.2 none.1 d.1 in
    let turned : k * at f (c / w) + at g (c % w) ≡ at f (c / w) * k + at g (c % w) = omega arith in
    record {
      form =
          ap (λ (p : Divided). added (scaled k (simplified cs f p.quot)) (simplified cs g p.rem)) is
          ∙ ap₂ (λ x y. added (scaled k x) y) a.form b.form
          ∙ ap constant turned;
      room = rw (is, a.form, b.form) (tt, a.room, b.room, omega (arith, d.2, turned), omega (arith, d.2, turned));
    }
is_number cs (After f g) c h none d =
    let b = is_number cs g c h.1 none.1 d.0 in
    let a = is_number cs f (at g c) h.0 none.0 d.1 in
    record { form = ap (simplified cs f) b.form ∙ a.form; room = (b.room, rw b.form a.room) }

-- what holds wherever the variables are in range holds of a number
pub number_defined : (cs : ℕ → ℕ) (f : Mapping) (c : ℕ) → ((vs : ℕ → ℕ) → InRange cs vs → IsDefinedAt f c) →
    IsDefinedAt f c
number_defined cs f c h = h (λ d. 0) (in_range_from cs (λ d. 0) (λ d. omega arith))

pub number_form : (cs : ℕ → ℕ) (f : Mapping) (c : ℕ) → IsWellFormed f → HasNoList f → IsDefinedAt f c →
    simplified cs f (constant c) ≡ constant (at f c)
number_form cs f c h none d = (is_number cs f c h none d).form

pub number_room : (cs : ℕ → ℕ) (f : Mapping) (c : ℕ) → IsWellFormed f → HasNoList f → IsDefinedAt f c →
    has_room cs f (constant c) ≡ true
number_room cs f c h none d = (room_decided cs f (constant c)).1 (is_number cs f c h none d).room

abbrev holds : {A : Type 0} → (A → Type 0) → Option A → Type 0
holds P (Some x) = P x
holds P None = Unit {0}

-- what is known of what was made
pub made_is : {A : Type 0} (P : A → Type 0) (a x : A) → Some a ≡ Some x → P a → P x
made_is P a x e h = subst (holds P) e h
