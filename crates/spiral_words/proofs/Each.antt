-- What holds of each item of a list that is written out, and of some item.
use Rattle.std.proofs.Common.{◌⊎◌, List, [], ◌∷◌, zero, suc, refl, sym, subst, inl, inr, arith}
use Rattle.std.specs.List.{Any}

abbrev pub Each : {A : Type 0} → (A → Type 0) → List A → Type 0
Each P [] = Unit {0}
Each P (x ∷ xs) = P x × Each P xs

pub any_here : {A : Type 0} (P : A → Type 0) (x : A) (xs : List A) → P x → Any P (x ∷ xs)
any_here P x xs h = (0, x, omega arith, refl, h)

pub any_later : {A : Type 0} (P : A → Type 0) (x : A) (xs : List A) → Any P xs → Any P (x ∷ xs)
any_later P x xs h = (suc h.0, h.1, omega (arith, h.2), h.3, h.4)

pub any_split : {A : Type 0} (P : A → Type 0) (x : A) (xs : List A) → Any P (x ∷ xs) → P x ⊎ Any P xs
any_split P x xs (zero, y, inside, is, h) = inl (subst P (sym is) h)
any_split P x xs (suc k, y, inside, is, h) = inr (k, y, omega (arith, inside), is, h)

pub any_none : {A : Type 0} (P : A → Type 0) → Any P [] → ⊥
any_none P h = absurd (omega (arith, h.2))

pub both : {A : Type 0} (P Q : A → Type 0) (xs : List A) → Each P xs → Any Q xs → Any (λ x. P x × Q x) xs
both P Q [] each some = absurd (any_none Q some)
both P Q (x ∷ xs) each some = elim (any_split Q x xs some) [
  | inl here ↦ any_here (λ x. P x × Q x) x xs (each.0, here)
  | inr later ↦ any_later (λ x. P x × Q x) x xs (both P Q xs each.1 later)
]
