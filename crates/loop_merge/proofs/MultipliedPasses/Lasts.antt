-- The last item of a list, changed.
use Rattle.std.proofs.Common.{◌≡◌, suc, List, [], ◌∷◌, ◌++◌, length, map, refl, sym, ap, ◌∙◌}
use Rattle.std.proofs.lemmas.List.{map-append}
use Rattle.sigma_spl.specs.Lists.{on_last}

pub length-last : {A : Type 0} (f : A → A) (xs : List A) → length (on_last f xs) ≡ length xs
length-last f [] = refl
length-last f (x ∷ []) = refl
length-last f (x ∷ y ∷ xs) = ap suc (length-last f (y ∷ xs))

last-append : {A : Type 0} (f : A → A) (xs : List A) (z : A) → on_last f (xs ++ z ∷ []) ≡ xs ++ f z ∷ []
last-append f [] z = refl
last-append f (x ∷ []) z = refl
last-append f (x ∷ y ∷ xs) z = ap (λ rest. x ∷ rest) (last-append f (y ∷ xs) z)

-- the last one exchanged, seen through a view
pub changed_last : {A B : Type 0} (view : A → B) (f : B → B) (xs old new : List A) (z changed : A) →
    old ≡ xs ++ z ∷ [] → new ≡ xs ++ changed ∷ [] → view changed ≡ f (view z) → map view new ≡ on_last f (map view old)
changed_last view f xs old new z changed before after is =
    ap (map view) after ∙ map-append view xs (changed ∷ []) ∙ ap (λ last. map view xs ++ last ∷ []) is
    ∙ sym (ap (λ all. on_last f (map view all)) before ∙ ap (on_last f) (map-append view xs (z ∷ [])) ∙ last-append f (map view xs) (view z))
