-- Lists that are copied one item after another.
use Rattle.std.proofs.Common.{◌≡◌, ℕ, zero, suc, ◌+◌, ◌<◌, ◌≤◌, List, [], ◌∷◌, ◌++◌, length, take, drop, get_or, refl}
use Rattle.std.proofs.Common.{sym, ap, ap₂, ◌∙◌, arith, add-one, append-nil}
use Rattle.std.specs.Prelude.{slice_set}
use Rattle.icode.proofs.BufferedCompletion.{drop_over}

copied_ : {X : Type 0} (new old : List X) (i : ℕ) (x : X) → i < length new → length old ≡ length new →
    x ≡ get_or new i x → slice_set (take i new ++ drop i old) i x ≡ take (suc i) new ++ drop (suc i) old
copied_ [] old i x lt size e = absurd (omega arith)
copied_ (y ∷ new) [] i x lt size e = absurd (omega arith)
copied_ (y ∷ new) (z ∷ old) zero x lt size e = ap (λ w. w ∷ old) e
copied_ (y ∷ new) (z ∷ old) (suc i) x lt size e = ap (λ ys. y ∷ ys) (copied_ new old i x (omega arith) (omega arith) e)

-- one more item is copied
pub copied : {X : Type 0} (new old now : List X) (i : ℕ) (x : X) → i < length new → length old ≡ length new →
    now ≡ take i new ++ drop i old → x ≡ get_or new i x → slice_set now i x ≡ take (i + 1) new ++ drop (i + 1) old
copied new old now i x lt size same e =
    ap (λ ys. slice_set ys i x) same
    ∙ (copied_ new old i x lt size e
    ∙ ap (λ k. take k new ++ drop k old) (sym (add-one i)))

-- it was not copied before
pub not_yet : {X : Type 0} (new old : List X) (i : ℕ) (d : X) → i < length new → length old ≡ length new →
    get_or (take i new ++ drop i old) i d ≡ get_or old i d
not_yet [] old i d lt size = absurd (omega arith)
not_yet (y ∷ new) [] i d lt size = absurd (omega arith)
not_yet (y ∷ new) (z ∷ old) zero d lt size = refl
not_yet (y ∷ new) (z ∷ old) (suc i) d lt size = not_yet new old i d (omega arith) (omega arith)

take_over : {X : Type 0} (xs : List X) (n : ℕ) → length xs ≤ n → take n xs ≡ xs
take_over [] zero le = refl
take_over [] (suc n) le = refl
take_over (x ∷ xs) zero le = absurd (omega arith)
take_over (x ∷ xs) (suc n) le = ap (λ ys. x ∷ ys) (take_over xs n (omega arith))

pub all_copied : {X : Type 0} (new old : List X) (i : ℕ) → length new ≤ i → length old ≡ length new →
    take i new ++ drop i old ≡ new
all_copied new old i le size = ap₂ (λ xs ys. xs ++ ys) (take_over new i le) (drop_over old i (omega arith)) ∙ append-nil new
