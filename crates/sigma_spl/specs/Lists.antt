-- The last item of a list.
use Rattle.std.specs.Prelude.{List, [], ◌∷◌}

-- exchanged for what f makes of it
abbrev pub on_last : {A : Type 0} → (A → A) → List A → List A
on_last f [] = []
on_last f (x ∷ []) = f x ∷ []
on_last f (x ∷ y ∷ xs) = x ∷ on_last f (y ∷ xs)

-- there is one, and this holds of it
abbrev pub LastIs : {A : Type 0} → (A → Type 0) → List A → Type 0
LastIs P [] = ⊥
LastIs P (x ∷ []) = P x
LastIs P (x ∷ y ∷ xs) = LastIs P (y ∷ xs)
