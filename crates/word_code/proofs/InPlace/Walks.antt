-- Accesses one after another.
use Rattle.std.proofs.Common.{◌≡◌, ℕ, List, [], ◌∷◌, ◌++◌, Bool, ◌&&◌, refl, sym, ap, ◌∙◌}
use Rattle.std.proofs.Math.Bool.{and_assoc}
use Rattle.word_code.specs.InPlace.Homes.{Homes}
use Rattle.word_code.specs.InPlace.Accesses.{Access, is_right, homes_after, are_right, homes_after_all}

pub right-append : (lanes : ℕ) (xs ys : List Access) (h : Homes) →
    are_right lanes (xs ++ ys) h ≡ (are_right lanes xs h && are_right lanes ys (homes_after_all lanes xs h))
right-append lanes [] ys h = refl
right-append lanes (a ∷ xs) ys h =
    ap (λ (rest : Bool). is_right lanes a h && rest) (right-append lanes xs ys (homes_after lanes a h))
    ∙ sym (and_assoc (is_right lanes a h) (are_right lanes xs (homes_after lanes a h))
    (are_right lanes ys (homes_after_all lanes xs (homes_after lanes a h))))

pub after-append : (lanes : ℕ) (xs ys : List Access) (h : Homes) →
    homes_after_all lanes (xs ++ ys) h ≡ homes_after_all lanes ys (homes_after_all lanes xs h)
after-append lanes [] ys h = refl
after-append lanes (a ∷ xs) ys h = after-append lanes xs ys (homes_after lanes a h)
