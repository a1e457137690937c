-- Words of different arrays.
use Rattle.std.proofs.Common.{◌≡◌, ◌⊎◌, ℕ, ◌+◌, ◌*◌, ◌<◌, ◌≤◌, true, false, refl, sym, ◌∙◌, arith, inl, inr, eq-eqb}
use Rattle.std.proofs.Common.{true≢false, mul-le-mul_left}
use Rattle.std.proofs.lemmas.Bool.{cases_order}
use Rattle.icode.specs.declared.program.Array.{Array}
use Rattle.icode.specs.declared.program.Array.TheVariants.{X, Y, A, B}
use Rattle.icode.specs.Actions.{array_start}
use Rattle.nests.specs.Rounds.{same_array}
use Rattle.nests.proofs.Linear.{wrong}

-- a step of this width does not go past a later one
pub step_before : (width i j : ℕ) → i < j → width * i + width ≤ width * j
step_before width i j less =
    let next : i + 1 ≤ j = omega (arith, less) in
    let far : width * (i + 1) ≤ width * j = mul-le-mul_left width next in
    let out : width * (i + 1) ≡ width * i + width = omega arith in
    omega (arith, far, out)

start_is : (words : ℕ) (a : Array) → array_start words a ≡ words * array_start 1 a
start_is words X = omega arith
start_is words Y = omega arith
start_is words A = omega arith
start_is words B = omega arith

pub array_same : (a c : Array) → same_array a c ≡ true → a ≡ c
array_same X X h = refl
array_same Y Y h = refl
array_same A A h = refl
array_same B B h = refl
array_same _ _ h = wrong h

-- before the array or after it
abbrev pub IsOutside : ℕ → Array → ℕ → Type 0
IsOutside words array k = (k < array_start words array) ⊎ (array_start words array + words ≤ k)

-- a word of another array
pub other_outside : (words : ℕ) (a c : Array) (k : ℕ) → same_array a c ≡ false →
    array_start words a ≤ k → k < array_start words a + words → IsOutside words c k
other_outside words a c k h from inside =
    elim (cases_order first second) [
      | inl same ↦ absurd (true≢false (sym (eq-eqb first second same) ∙ h))
      | inr (inl less) ↦
          let step = step_before words first second less in
          inl (omega (arith, start_is words a, start_is words c, step, inside))
      | inr (inr more) ↦
          let step = step_before words second first more in
          inr (omega (arith, start_is words a, start_is words c, step, from))
    ]
  where
    first : ℕ
    first = array_start 1 a

    second : ℕ
    second = array_start 1 c
