-- The turns at a place.
use Rattle.std.proofs.Common.{◌≡◌, ℕ, zero, suc, ◌+◌, ◌-◌, ◌*◌, ◌/◌, ◌%◌, ◌^◌, ◌<◌, ◌≤◌, length, get_or, refl, sym, ap}
use Rattle.std.proofs.Common.{◌∙◌, arith, inl, inr, subst, Vec, Global}
use Rattle.std.proofs.lemmas.Bool.{cases_lt}
use Rattle.std.proofs.lemmas.List.{length-append, get_or_append_left, get_or-append_right}
use Rattle.std.proofs.Math.Nat.{add-mod_right, mod-eq_of_lt, mul-le-mul}
use Rattle.schedules.specs.declared.schedule.Turns.{Turns}
use Rattle.schedules.specs.declared.schedule.Turns.TheVariants as variants
use Rattle.schedules.specs.Schedule.{Plan, Rounds, Seeded, as_plan, IsPlan}
use Rattle.schedules.specs.Turns.{from_on, rounds, next_state, state_after, seeded, turns_of}

pub length-from_on : (n count : ℕ) → length (from_on n count) ≡ count
length-from_on n zero = refl
length-from_on n (suc count) = ap suc (length-from_on (n + 1) count)

get_or-from_on : (n count i : ℕ) → i < count → get_or (from_on n count) i 0 ≡ n + i
get_or-from_on n zero i lt = absurd (omega arith)
get_or-from_on n (suc count) zero lt = omega arith
get_or-from_on n (suc count) (suc i) lt = get_or-from_on (n + 1) count i (omega arith) ∙ omega arith

pub length-rounds : (count p : ℕ) → length (rounds count p) ≡ count * p
length-rounds zero p = omega arith
length-rounds (suc count) p = omega (arith, length-append (from_on 0 p) (rounds count p), length-from_on 0 p, length-rounds count p)

pub get_or-rounds : (count p i : ℕ) → 0 < p → i < count * p → get_or (rounds count p) i 0 ≡ i % p
get_or-rounds zero p i pos lt = absurd (omega arith)
get_or-rounds (suc count) p i pos lt =
    elim (cases_lt i p) [
      | inl below ↦
          get_or_append_left (from_on 0 p) (rounds count p) 0 i (omega (arith, length-from_on 0 p)) ∙ get_or-from_on 0 p i below ∙ (let z : 0 + i ≡ i = omega arith in z) ∙ sym (mod-eq_of_lt below)
      | inr above ↦
          let k : i - p + p ≡ i = omega arith in
          get_or-append_right (from_on 0 p) (rounds count p) p i 0 (length-from_on 0 p) above ∙ get_or-rounds count p (i - p) pos (omega arith) ∙ sym (add-mod_right (i - p) p) ∙ ap (λ j. j % p) k
    ]

pub length-seeded : (count v p : ℕ) → length (seeded count v p) ≡ count
length-seeded zero v p = refl
length-seeded (suc count) v p = ap suc (length-seeded count (next_state v) p)

pub get_or-seeded : (count v p i : ℕ) → i < count → get_or (seeded count v p) i 0 ≡ (state_after (i + 1) v / 2 ^ 33) % p
get_or-seeded zero v p i lt = absurd (omega arith)
get_or-seeded (suc count) v p zero lt = refl
get_or-seeded (suc count) v p (suc i) lt = get_or-seeded count (next_state v) p i (omega arith) ∙ (let k : suc i + 1 ≡ suc (i + 1) = omega arith in ap (λ j. (state_after j v / 2 ^ 33) % p) (sym k))

-- ---- of a plan

pub length_rounds : (now : Plan) (count p : ℕ) → Rounds count ≡ now → count * p ≡ length (turns_of now p)
length_rounds now count p e = sym (length-rounds count p) ∙ ap (λ s. length (turns_of s p)) e

pub length_seeded : (now : Plan) (seed count p : ℕ) → Seeded seed count ≡ now → count ≡ length (turns_of now p)
length_seeded now seed count p e = sym (length-seeded count seed p) ∙ ap (λ s. length (turns_of s p)) e

pub turn_of_rounds : (now : Plan) (count p i : ℕ) → Rounds count ≡ now → 0 < p → i < length (turns_of now p) →
    i % p ≡ get_or (turns_of now p) i 0
turn_of_rounds now count p i e pos lt = sym (get_or-rounds count p i pos (omega (arith, lt, length_rounds now count p e))) ∙ ap (λ s. get_or (turns_of s p) i 0) e

pub turn_of_seeded : (now : Plan) (seed count p i drawn : ℕ) → Seeded seed count ≡ now →
    drawn ≡ state_after (i + 1) seed / 2 ^ 33 → i < length (turns_of now p) → drawn % p ≡ get_or (turns_of now p) i 0
turn_of_seeded now seed count p i drawn e d lt = ap (λ j. j % p) d ∙ sym (get_or-seeded count seed p i (omega (arith, lt, length_seeded now seed count p e))) ∙ ap (λ s. get_or (turns_of s p) i 0) e

-- ---- within a plan's limits

pub few_rounds : (turns : Turns) (count p : ℕ) → IsPlan (as_plan turns) → turns ≡ variants.Rounds count → p ≤ 16 →
    count * p ≤ 16000000
few_rounds turns count p within e le =
    let few : count ≤ 1000000 = subst (λ t. IsPlan (as_plan t)) e within in
    mul-le-mul few le

pub few_seeded : (turns : Turns) (seed count : ℕ) → IsPlan (as_plan turns) → turns ≡ variants.Seeded seed count →
    count ≤ 1000000
few_seeded turns seed count within e = subst (λ t. IsPlan (as_plan t)) e within

pub few_named : (turns : Turns) (named : Vec ℕ Global) → IsPlan (as_plan turns) → turns ≡ variants.Named named →
    length named.items ≤ 65536
few_named turns named within e = subst (λ t. IsPlan (as_plan t)) e within
