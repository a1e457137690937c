-- Strides of the generator, one after another.
use Rattle.std.proofs.Common.{◌≡◌, ℕ, zero, suc, ◌+◌, ◌*◌, ◌%◌, refl, sym, ap, ◌∙◌, arith, mod-lt}
use Rattle.std.proofs.Math.Nat.{mod-mod}
use Rattle.ring_mod.proofs.Congruence.{same-add, same-mul}
use Rattle.schedules.specs.declared.random.Stride.{Stride}
use Rattle.schedules.specs.Stride.{moved, Makes}
use Rattle.schedules.specs.Turns.{next_state, state_after}

-- a map v * a + c and then a map v * b + d, all modulo m, is again such a map
pub composed_maps : (m a c b d v : ℕ) → (v * (a * b % m) + (c * b % m + d) % m) % m ≡ ((v * a + c) % m * b + d) % m
composed_maps m a c b d v =
    same-add m (v * (a * b % m)) (v * (a * b)) ((c * b % m + d) % m) (c * b + d)
    (same-mul m v v (a * b % m) (a * b) refl (mod-mod (a * b) m))
    (mod-mod (c * b % m + d) m ∙ same-add m (c * b % m) (c * b) d d (mod-mod (c * b) m) refl)
    ∙ ap (λ n. n % m) plain
    ∙ sym (same-add m ((v * a + c) % m * b) ((v * a + c) * b) d d (same-mul m ((v * a + c) % m) (v * a + c) b b (mod-mod (v * a + c) m) refl) refl)
  where
    plain : v * (a * b) + (c * b + d) ≡ (v * a + c) * b + d
    plain = omega arith

pub state_after-add : (m n v : ℕ) → state_after (m + n) v ≡ state_after n (state_after m v)
state_after-add zero n v = let e : 0 + n ≡ n = omega arith in ap (λ k. state_after k v) e
state_after-add (suc m) n v = let e : suc m + n ≡ suc (m + n) = omega arith in ap (λ k. state_after k v) e ∙ state_after-add m n (next_state v)

-- one step
abbrev pub one_step : Stride
one_step = record { multiplier = 6364136223846793005; increment = 1442695040888963407 }

pub makes_one : Makes one_step 1
makes_one = record { each = λ v lt. refl }

-- a stride and then another
pub makes_both : (s t both : Stride) (m n : ℕ) → Makes s m → Makes t n →
    ((v : ℕ) → moved both v ≡ moved t (moved s v)) → Makes both (m + n)
makes_both s t both m n first second e = record {
  each = λ v lt.
      e v ∙ second.each (moved s v) (mod-lt (v * s.multiplier + s.increment) (omega arith)) ∙ ap (state_after n) (first.each v lt)
      ∙ sym (state_after-add m n v);
}
