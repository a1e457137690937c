-- Columns that are written tile by tile are those that are written round by round, in another order.
use Rattle.std.proofs.Common.{◌≡◌, ℕ, zero, suc, ◌+◌, ◌*◌, ◌/◌, ◌%◌, ◌<◌, ◌≤◌, List, map, flat_map, refl, ap, ◌∙◌}
use Rattle.std.proofs.Common.{arith, subst, ⊎_elim, Contains, mul-le-mul_left, mul_comm}
use Rattle.std.specs.List.{range_with_len}
use Rattle.std.proofs.lemmas.Bool.{cases_lt}
use Rattle.icode.proofs.Lines.{Contains-map, Contains-nil, Contains-range}
use Rattle.loop_lanes.specs.Layers.{Write, IsAfter, written}
use Rattle.nests.proofs.Rows.{in-loop, of-loop}
use Rattle.loop_lanes.proofs.Made.{tile_within}

-- ---- items of loops

map_has : {X : Type 0} (f : ℕ → X) (j n i : ℕ) → j ≤ i → i < j + n → Contains (map f (range_with_len j n)) (f i)
map_has f j n i from to = Contains-map f (range_with_len j n) i (Contains-range n j i from to)

map_item : {X : Type 0} (f : ℕ → X) (j n : ℕ) (x : X) → Contains (map f (range_with_len j n)) x →
    (i : ℕ) × (j ≤ i) × (i < j + n) × (f i ≡ x)
map_item f j zero x h = absurd (Contains-nil x h)
map_item f j (suc n) x (zero, lt, e) = (j, omega arith, omega arith, e)
map_item f j (suc n) x (suc k, lt, e) =
    let more =
    map_item f (j + 1) n x (k, omega arith, e) in (more.0, omega (arith, more.1), omega (arith, more.2), more.3)

-- ---- m columns of v rounds

module _ (v m : ℕ) (w : ℕ → ℕ → Write) where
  -- round by round
  abbrev pub by_rounds : List Write
  by_rounds = flat_map (λ l. map (w l) (range_with_len 0 m)) (range_with_len 0 v)

  -- v columns of a round from one on, and of each round
  abbrev columns : ℕ → ℕ → List Write
  columns g l = map (λ i. w l (g * v + i)) (range_with_len 0 v)

  abbrev tile : ℕ → List Write
  tile g = flat_map (columns g) (range_with_len 0 v)

  -- v columns of each round, and then the next v of each
  abbrev pub by_tiles : List Write
  by_tiles = flat_map tile (range_with_len 0 (m / v))

  round_has : (l c : ℕ) → l < v → c < m → Contains by_rounds (w l c)
  round_has l c low below =
      in-loop (λ l. map (w l) (range_with_len 0 m)) 0 v l (w l c) (omega arith) (omega arith)
      (map_has (w l) 0 m c (omega arith) (omega arith))

  tile_has : (g l i : ℕ) → g < m / v → l < v → i < v → Contains by_tiles (w l (g * v + i))
  tile_has g l i few low below =
      in-loop tile 0 (m / v) g (w l (g * v + i)) (omega arith) (omega arith)
      (in-loop (columns g) 0 v l (w l (g * v + i)) (omega arith) (omega arith)
      (map_has (λ i. w l (g * v + i)) 0 v i (omega arith) (omega arith)))

  pub turned_after : (memory : List ℕ) → 0 < v → m % v ≡ 0 → IsAfter memory (written memory by_tiles) by_rounds
  turned_after memory some whole =
      record {
        done = by_tiles;
        is = refl;
        within = λ x h.
            let at = of-loop tile 0 (m / v) x h in
            let row = of-loop (columns at.round) 0 v x at.inside in
            let one = map_item (λ i. w row.round (at.round * v + i)) 0 v x row.inside in
            let few = at.high in
            let low = row.high in
            subst (Contains by_rounds) one.3
            (round_has row.round (at.round * v + one.0) (omega (arith, low))
            (inside at.round one.0 (omega (arith, few)) (omega (arith, one.2))));
        whole = λ x h.
            let at = of-loop (λ l. map (w l) (range_with_len 0 m)) 0 v x h in
            let high = at.high in
            let one = map_item (w at.round) 0 m x at.inside in
            let c : ℕ = one.0 in
            let low : c < m = omega (arith, one.2) in
            let place : c / v * v + c % v ≡ c = split c in
            subst (Contains by_tiles) (ap (w at.round) place ∙ one.3)
            (tile_has (c / v) at.round (c % v) (first c low) (omega (arith, high)) (omega (arith, some)));
      }
    where
      all : v * (m / v) ≡ m
      all = omega (arith, some, whole)

      split : (c : ℕ) → c / v * v + c % v ≡ c
      split c =
          let turn : c / v * v ≡ v * (c / v) = mul_comm (c / v) v in
          omega (arith, some, turn)

      inside : (g i : ℕ) → g < m / v → i < v → g * v + i < m
      inside g i few below =
          let within = tile_within g v m few in omega (arith, within, below)

      first : (c : ℕ) → c < m → c / v < m / v
      first c low =
          ⊎_elim (λ (less : c / v < m / v). less) (λ (more : m / v ≤ c / v). absurd (too_far more))
          (cases_lt (c / v) (m / v))
        where
          too_far : m / v ≤ c / v → ⊥
          too_far more =
              let far : v * (m / v) ≤ v * (c / v) = mul-le-mul_left v more in
              let turn : c / v * v ≡ v * (c / v) = mul_comm (c / v) v in
              omega (arith, far, all, split c, low, turn)
