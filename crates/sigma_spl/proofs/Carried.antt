-- Places that functions lead to within the limits, one function after the other.
use Rattle.std.proofs.Common.{◌≡◌, ℕ, Bool, true, refl, List, [], ◌∷◌, ◌++◌, length, Option, Some, None}
use Rattle.std.proofs.lemmas.Bool.{and_from}
use Rattle.std.specs.Prelude.{map, ◌&&◌}
use Rattle.std.specs.List.{list_all}
use Rattle.index_fn.specs.Mapping.{Mapping}
use Rattle.sigma_spl.specs.Loops.{PlainTaken, PlainLoop, limits_in, multiplier_of, AreCarried}
use Rattle.sigma_spl.specs.Merge.{limits_of, all_simplified, is_limited, is_multiplier_within, carries_sum, place_sum}
use Rattle.sigma_spl.specs.Merge.{items_out}
use Rattle.sigma_spl.specs.Nest.{factor_count, PlainNest}
use Rattle.sigma_spl.specs.Work.{work_size}
use Rattle.perm_algebra.specs.Affine.{Sum, simplified}
use Rattle.perm_algebra.specs.Room.{has_room}
use Rattle.sigma_spl.proofs.Walk.{and-left, and-right}
use Rattle.sigma_spl.proofs.Within.{carries-all}

-- ---- tests of lists

pub all-mapped : {X Y : Type 0} (p : X → Bool) (q : Y → Bool) (g : X → Y) → ((x : X) → p x ≡ true → q (g x) ≡ true) →
    (xs : List X) → list_all p xs ≡ true → list_all q (map g xs) ≡ true
all-mapped p q g leads [] h = refl
all-mapped p q g leads (x ∷ xs) h = and_from _ _ (leads x (and-left (p x) _ h)) (all-mapped p q g leads xs (and-right (p x) _ h))

pub all-same : {X : Type 0} (p q : X → Bool) → ((x : X) → p x ≡ true → q x ≡ true) → (xs : List X) →
    list_all p xs ≡ true → list_all q xs ≡ true
all-same p q leads [] h = refl
all-same p q leads (x ∷ xs) h = and_from _ _ (leads x (and-left (p x) _ h)) (all-same p q leads xs (and-right (p x) _ h))

pub taken-true : (r g s m : Bool) → r ≡ true → g ≡ true → s ≡ true → m ≡ true →
    ((r && true) && (((g && s) && m) && true)) ≡ true
taken-true r g s m a b c d = and_from _ _ (and_from _ _ a refl) (and_from _ _ (and_from _ _ (and_from _ _ b c) d) refl)

-- ---- one sum

module _ (room n count : ℕ) (cs : ℕ → ℕ) where
  pub carried-room : (f : Mapping) (fs : List Mapping) (e : Sum) → carries_sum room n count cs (f ∷ fs) e ≡ true →
      has_room cs f e ≡ true
  carried-room f fs e h = and-left (has_room cs f e) _ (and-right (is_limited room n cs e) _ h)

  pub carried-next : (f : Mapping) (fs : List Mapping) (e : Sum) → carries_sum room n count cs (f ∷ fs) e ≡ true →
      carries_sum room n count cs fs (simplified cs f e) ≡ true
  carried-next f fs e h = and-right (has_room cs f e) _ (and-right (is_limited room n cs e) _ h)

  -- by some functions and more, then from where the first lead
  pub carried-from : (fs gs : List Mapping) (e : Sum) → carries_sum room n count cs (fs ++ gs) e ≡ true →
      carries_sum room n count cs gs (all_simplified cs fs e) ≡ true
  carried-from [] gs e h = h
  carried-from (f ∷ fs) gs e h = carried-from fs gs (simplified cs f e) (carried-next f (fs ++ gs) e h)

  -- and by the first alone
  pub carried-front : (fs : List Mapping) (f : Mapping) (e : Sum) →
      carries_sum room n count cs (fs ++ f ∷ []) e ≡ true → carries_sum room n n cs fs e ≡ true
  carried-front [] f e h = and-left (is_limited room n cs e) _ h
  carried-front (g ∷ fs) f e h = and_from _ _ (and-left (is_limited room n cs e) _ h) (and_from _ _ (carried-room g (fs ++ f ∷ []) e h) (carried-front fs f (simplified cs g e) (carried-next g (fs ++ f ∷ []) e h)))

pub carried-here : (room n : ℕ) (cs : ℕ → ℕ) (fs : List Mapping) (e : Sum) → carries_sum room n n cs fs e ≡ true →
    is_limited room n cs e ≡ true
carried-here room n cs [] e h = h
carried-here room n cs (f ∷ fs) e h = and-left (is_limited room n cs e) _ h

-- ---- nests

-- all but the loads is within the limits
pub record IsWithinElse (room n : ℕ) (z : PlainNest) : Type 0 where
  pub scatters : list_all (is_limited room n (limits_of z)) z.scatters ≡ true
  pub multiplier : is_multiplier_within room (limits_of z) z.multiplier ≡ true

pub multiplier-within : (room n : ℕ) (p : PlainLoop) (o : Option PlainTaken) →
    ((d : PlainTaken) → o ≡ Some d → AreCarried room n (factor_count d.factors) p d.places
    (items_out p.work (length p.path))) → is_multiplier_within room (limits_in p) (multiplier_of p o) ≡ true
multiplier-within room n p None h = refl
multiplier-within room n p (Some d) h = carries-all room n (factor_count d.factors) (limits_in p) d.places (map (place_sum p.path (work_size p.work) 0) (items_out p.work (length p.path))) (h d refl)
