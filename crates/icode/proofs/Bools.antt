-- Tests of several things at once.
use Rattle.std.proofs.Common.{◌≡◌, ℕ, zero, suc, ◌<◌, List, [], ◌∷◌, Bool, true, false, ◌&&◌, map, length, get_or, refl}
use Rattle.std.proofs.Common.{arith}
use Rattle.std.specs.List.{list_all}

pub both_true : (a b : Bool) → (a && b) ≡ true → (a ≡ true) × (b ≡ true)
both_true true b e = (refl, e)
both_true false b e = cc

-- what all items pass, each does
pub item_passes : {X Y : Type 0} (f : Y → Bool) (g : X → Y) (xs : List X) (i : ℕ) (d : X) →
    list_all f (map g xs) ≡ true → i < length xs → f (g (get_or xs i d)) ≡ true
item_passes f g [] i d all lt = absurd (omega arith)
item_passes f g (x ∷ xs) zero d all lt = (both_true (f (g x)) _ all).0
item_passes f g (x ∷ xs) (suc i) d all lt = item_passes f g xs i d (both_true (f (g x)) _ all).1 (omega arith)
