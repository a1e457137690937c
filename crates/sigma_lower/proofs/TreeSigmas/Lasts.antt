-- The last item of lists, exchanged; and lists one after another.
use Rattle.sigma_lower.proofs.Words.{◌≡◌, suc, ◌<◌, List, [], ◌∷◌, ◌++◌, length, refl, sym, ap, ◌∙◌, arith, subst}
use Rattle.sigma_lower.proofs.Words.{append-nil, All, map, map-append, All-nil, All-cons, All-head, All-tail, LastIs}
use Rattle.sigma_lower.proofs.Words.{on_last, in_order}

pub length-last : {A : Type 0} (f : A → A) (xs : List A) → length (on_last f xs) ≡ length xs
length-last f (x ∷ y ∷ xs) = ap suc (length-last f (y ∷ xs))
length-last f _ = refl

pub last-append : {A : Type 0} (f : A → A) (xs : List A) (z : A) → on_last f (xs ++ z ∷ []) ≡ xs ++ f z ∷ []
last-append f (x ∷ y ∷ xs) z = ap (λ rest. x ∷ rest) (last-append f (y ∷ xs) z)
last-append f _ z = refl

-- what holds of all still holds where the last is exchanged
pub all-last : {A : Type 0} (P Q : A → Type 0) (f : A → A) → ((x : A) → P x → Q x → P (f x)) → (xs : List A) →
    All P xs → LastIs Q xs → All P (on_last f xs)
all-last P Q f step [] all last = absurd last
all-last P Q f step (x ∷ []) all last = All-cons P (f x) [] (step x (All-head P x [] all) last) (All-nil P)
all-last P Q f step (x ∷ y ∷ xs) all last =
    All-cons P x (on_last f (y ∷ xs)) (All-head P x (y ∷ xs) all)
    (all-last P Q f step (y ∷ xs) (All-tail P x (y ∷ xs) all) last)

-- ---- lists one after another

abbrev pub HasItem : {A : Type 0} → List A → Type 0
HasItem xs = 0 < length xs

-- the last of two lists is that of the second, where it has one
is-behind : {A : Type 0} (Q : A → Type 0) (xs ys : List A) → HasItem ys → LastIs Q (xs ++ ys) → LastIs Q ys
is-behind Q (x ∷ []) [] some last = absurd (omega (arith, some))
is-behind Q (x ∷ z ∷ xs) ys some last = is-behind Q (z ∷ xs) ys some last
is-behind Q _ _ some last = last

behind : {A : Type 0} (f : A → A) (xs ys : List A) → HasItem ys → on_last f (xs ++ ys) ≡ xs ++ on_last f ys
behind f xs [] some = absurd (omega (arith, some))
behind f (x ∷ z ∷ xs) (y ∷ ys) some = ap (λ rest. x ∷ rest) (behind f (z ∷ xs) (y ∷ ys) some)
behind f _ (y ∷ ys) some = refl

some-front : {A : Type 0} (xs ys : List A) → HasItem xs → HasItem (xs ++ ys)
some-front [] ys some = absurd (omega (arith, some))
some-front (x ∷ xs) ys some = omega arith

some-order : {A : Type 0} (xs : List A) (more : List (List A)) → All HasItem (xs ∷ more) →
    HasItem (in_order (xs ∷ more))
some-order xs more each = some-front xs (in_order more) (All-head HasItem xs more each)

pub last-order : {A : Type 0} (Q : A → Type 0) (xss : List (List A)) → All HasItem xss → LastIs Q (in_order xss) →
    LastIs (LastIs Q) xss
last-order Q [] each last = absurd last
last-order Q (xs ∷ []) each last = subst (LastIs Q) (append-nil xs) last
last-order Q (xs ∷ ys ∷ more) each last =
    let rest = All-tail HasItem xs (ys ∷ more) each in
    last-order Q (ys ∷ more) rest (is-behind Q xs (in_order (ys ∷ more)) (some-order ys more rest) last)

pub order-last : {A : Type 0} (f : A → A) (xss : List (List A)) → All HasItem xss →
    in_order (on_last (on_last f) xss) ≡ on_last f (in_order xss)
order-last f [] each = refl
order-last f (xs ∷ []) each = append-nil (on_last f xs) ∙ ap (on_last f) (sym (append-nil xs))
order-last f (xs ∷ ys ∷ more) each =
    let rest = All-tail HasItem xs (ys ∷ more) each in
    ap (λ zs. xs ++ zs) (order-last f (ys ∷ more) rest)
    ∙ sym (behind f xs (in_order (ys ∷ more)) (some-order ys more rest))

pub order-map : {A B : Type 0} (f : A → B) (xss : List (List A)) → in_order (map (map f) xss) ≡ map f (in_order xss)
order-map f [] = refl
order-map f (xs ∷ more) = ap (λ rest. map f xs ++ rest) (order-map f more) ∙ sym (map-append f xs (in_order more))
