-- Lists whose items are items of others.
use Rattle.std.proofs.Common.{◌≡◌, ℕ, zero, suc, ◌+◌, ◌<◌, ◌≤◌, List, [], ◌∷◌, ◌++◌, All, map, flat_map, sym, ◌∙◌}
use Rattle.std.proofs.Common.{arith, subst, ⊎_elim, Contains}
use Rattle.std.specs.List.{range_with_len}
use Rattle.std.proofs.lemmas.List.Elements.{Contains-get_or, Contains-append_left, Contains-append_right}
use Rattle.std.proofs.lemmas.List.Elements.{Contains-append_cases}
use Rattle.std.proofs.lemmas.List.FromFn.{length-range_with_len, get_or-range_with_len}
use Rattle.icode.proofs.Lines.{Contains-head, Contains-tail, Contains-nil, Contains-map}

module _ {X : Type 0} where
  -- all items of the first list are items of the second
  abbrev pub IsWithin : List X → List X → Type 0
  IsWithin xs zs = (x : X) → Contains xs x → Contains zs x

  pub all_of_members : (P : X → Type 0) (xs : List X) → ((x : X) → Contains xs x → P x) → All P xs
  all_of_members P xs each k d lt = each _ (Contains-get_or xs k d lt)

  pub append_within : (xs zs ys ws : List X) → IsWithin xs zs → IsWithin ys ws → IsWithin (xs ++ ys) (zs ++ ws)
  append_within xs zs ys ws first second x h =
      ⊎_elim
      (λ (early : Contains xs x). Contains-append_left zs ws x (first x early))
      (λ (late : Contains ys x). Contains-append_right zs ws x (second x late))
      (Contains-append_cases xs ys x h)

  pub map_within : {Y : Type 0} (f : X → Y) (xs zs : List X) → IsWithin xs zs → (y : Y) → Contains (map f xs) y →
      Contains (map f zs) y
  map_within f [] zs within y h = absurd (Contains-nil y h)
  map_within f (x ∷ xs) zs within y (zero, lt, e) =
      subst (λ w. Contains (map f zs) w) e (Contains-map f zs x (within x (Contains-head x xs)))
  map_within f (x ∷ xs) zs within y (suc k, lt, e) =
      map_within f xs zs (λ z h. within z (Contains-tail x xs z h)) y (k, omega arith, e)

  pub into_flat_map : {Y : Type 0} (f : X → List Y) (zs : List X) (x : X) (y : Y) → Contains zs x → Contains (f x) y →
      Contains (flat_map f zs) y
  into_flat_map f [] x y h in_x = absurd (Contains-nil x h)
  into_flat_map f (z ∷ zs) x y (zero, lt, e) in_x =
      subst (λ w. Contains (f w) y → Contains (flat_map f (z ∷ zs)) y) e (λ in_z. Contains-append_left (f z) (flat_map f zs) y in_z) in_x
  into_flat_map f (z ∷ zs) x y (suc k, lt, e) in_x =
      Contains-append_right (f z) (flat_map f zs) y (into_flat_map f zs x y (k, omega arith, e) in_x)

  -- an item of a list of lists is one of the list that an item gives
  pub from_flat_map : {Y : Type 0} (f : X → List Y) (xs : List X) (y : Y) → Contains (flat_map f xs) y →
      (x : X) × Contains xs x × Contains (f x) y
  from_flat_map f [] y h = absurd (Contains-nil y h)
  from_flat_map f (x ∷ xs) y h =
      ⊎_elim
      (λ (here : Contains (f x) y). (x, Contains-head x xs, here))
      (λ (later : Contains (flat_map f xs) y).
      let more = from_flat_map f xs y later in (more.0, Contains-tail x xs more.0 more.1, more.2))
      (Contains-append_cases (f x) (flat_map f xs) y h)

  pub flat_map_within : {Y : Type 0} (f : X → List Y) (xs zs : List X) → IsWithin xs zs → (y : Y) →
      Contains (flat_map f xs) y → Contains (flat_map f zs) y
  flat_map_within f xs zs within y h =
      let at = from_flat_map f xs y h in into_flat_map f zs at.0 y (within at.0 at.1) at.2

-- a number of a range
pub range_item : (a n k : ℕ) → Contains (range_with_len a n) k → (a ≤ k) × (k < a + n)
range_item a n k h =
    let low : h.0 < n = omega (arith, h.1, length-range_with_len a n) in
    let is : k ≡ a + h.0 = sym h.2 ∙ get_or-range_with_len a n h.0 k low in
    (omega (arith, is), omega (arith, is, low))
