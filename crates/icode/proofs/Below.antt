-- What an action leaves is below the modulus.
use Rattle.std.proofs.Common.{ℕ, zero, suc, ◌+◌, ◌-◌, ◌*◌, ◌<◌, List, [], ◌∷◌, ◌++◌, flat_map, map, replicate, All}
use Rattle.std.proofs.Common.{arith, mod-lt}
use Rattle.std.specs.Prelude.{slice_index, slice_set}
use Rattle.std.specs.List.{range_with_len}
use Rattle.ring_mod.specs.Residue.{sum_mod, difference_mod, negation_mod, product_mod}
use Rattle.icode.specs.declared.action.Action.{Action}
use Rattle.icode.specs.declared.action.Action.TheVariants.{Load, Store, Zero, Add, Sub, Neg, Mul, Tile}
use Rattle.icode.specs.Machine.{Local, effect, value_put, register_put, register_of, memory_after, words_at, with_words}
use Rattle.icode.specs.Machine.{lane_by_lane}
use Rattle.icode.proofs.Residues.{AreBelow, below-zeros, below-set}

below-cons : (m v : ℕ) (vs : List ℕ) → v < m → AreBelow m vs → AreBelow m (v ∷ vs)
below-cons m v vs lt h zero = lt
below-cons m v vs lt h (suc k) = h k

below-nil : (m : ℕ) → 0 < m → AreBelow m []
below-nil m pos k = pos

pub below-words_at : (m n : ℕ) (xs : List ℕ) (i : ℕ) → 0 < m → AreBelow m xs → AreBelow m (words_at n xs i)
below-words_at m zero xs i pos h = below-nil m pos
below-words_at m (suc n) xs i pos h = below-cons m (slice_index xs i) (words_at n xs (i + 1)) (h i) (below-words_at m n xs (i + 1) pos h)

pub below-with_words : (m : ℕ) (xs : List ℕ) (i : ℕ) (vs : List ℕ) → AreBelow m xs → AreBelow m vs →
    AreBelow m (with_words xs i vs)
below-with_words m xs i [] h hv = h
below-with_words m xs i (v ∷ vs) h hv = below-with_words m (slice_set xs i v) (i + 1) vs (below-set m xs i v h (hv 0)) (λ k. hv (suc k))

below-lanes : (m : ℕ) (f : ℕ → ℕ → ℕ) (xs ys : List ℕ) → 0 < m → ((a b : ℕ) → f a b < m) →
    AreBelow m (lane_by_lane f xs ys)
below-lanes m f [] ys pos h = below-nil m pos
below-lanes m f (x ∷ xs) [] pos h = below-nil m pos
below-lanes m f (x ∷ xs) (y ∷ ys) pos h = below-cons m (f x y) (lane_by_lane f xs ys) (h x y) (below-lanes m f xs ys pos h)

below-map : (m : ℕ) (f : ℕ → ℕ) (xs : List ℕ) → 0 < m → ((a : ℕ) → f a < m) → AreBelow m (map f xs)
below-map m f [] pos h = below-nil m pos
below-map m f (x ∷ xs) pos h = below-cons m (f x) (map f xs) (h x) (below-map m f xs pos h)

below-append : (m : ℕ) (xs ys : List ℕ) → AreBelow m xs → AreBelow m ys → AreBelow m (xs ++ ys)
below-append m [] ys hx hy = hy
below-append m (x ∷ xs) ys hx hy = below-cons m x (xs ++ ys) (hx 0) (below-append m xs ys (λ k. hx (suc k)) hy)

below-flat_map : (m : ℕ) (f : ℕ → List ℕ) (xs : List ℕ) → 0 < m → ((a : ℕ) → AreBelow m (f a)) →
    AreBelow m (flat_map f xs)
below-flat_map m f [] pos h = below-nil m pos
below-flat_map m f (x ∷ xs) pos h = below-append m (f x) (flat_map f xs) (h x) (below-flat_map m f xs pos h)

module _ (m lanes : ℕ) (pos : 0 < m) (s : Local) (memory : AreBelow m s.memory)
    (registers : AreBelow m s.registers) where
  value_below : (action : Action) → AreBelow m (value_put m lanes action s)
  value_below (Load r address) = below-words_at m lanes s.memory address pos memory
  value_below (Store address r) = below-nil m pos
  value_below (Zero r) = below-zeros m lanes pos
  value_below (Add r x y) = below-lanes m (sum_mod m) (register_of lanes s.registers x) (register_of lanes s.registers y) pos (λ a b. mod-lt (a + b) pos)
  value_below (Sub r x y) = below-lanes m (difference_mod m) (register_of lanes s.registers x) (register_of lanes s.registers y) pos (λ a b. mod-lt (a + (m - b)) pos)
  value_below (Neg r x) = below-map m (negation_mod m) (register_of lanes s.registers x) pos (λ a. mod-lt (m - a) pos)
  value_below (Mul r x factors) = below-lanes m (product_mod m) (register_of lanes s.registers x) factors pos (λ a b. mod-lt (a * b) pos)
  value_below (Tile r x) =
      below-flat_map m (λ k. map (λ l. slice_index s.registers ((x + l) * lanes + k)) (range_with_len 0 lanes)) (range_with_len 0 lanes) pos
      (λ k. below-map m (λ l. slice_index s.registers ((x + l) * lanes + k)) (range_with_len 0 lanes) pos (λ l. registers ((x + l) * lanes + k)))

  memory_below : (action : Action) → AreBelow m (memory_after lanes action s)
  memory_below (Load r address) = memory
  memory_below (Store address r) = below-with_words m s.memory address (register_of lanes s.registers r) memory (below-words_at m lanes s.registers (r * lanes) pos registers)
  memory_below (Zero r) = memory
  memory_below (Add r x y) = memory
  memory_below (Sub r x y) = memory
  memory_below (Neg r x) = memory
  memory_below (Mul r x factors) = memory
  memory_below (Tile r x) = memory

  pub effect_memory_below : (action : Action) → AreBelow m (effect m lanes action s).memory
  effect_memory_below action = memory_below action

  pub effect_registers_below : (action : Action) → AreBelow m (effect m lanes action s).registers
  effect_registers_below action = below-with_words m s.registers (register_put action * lanes) (value_put m lanes action s) registers (value_below action)

pub below_from_all : (m : ℕ) (xs : List ℕ) → 0 < m → All (λ v. v < m) xs → AreBelow m xs
below_from_all m xs pos all k = at k xs pos all
  where
    at : (k : ℕ) (xs : List ℕ) → 0 < m → All (λ v. v < m) xs → slice_index xs k < m
    at k [] pos all = pos
    at zero (x ∷ xs) pos all = all 0 0 (omega arith)
    at (suc k) (x ∷ xs) pos all = at k xs pos (λ j d lt. all (suc j) d (omega arith))

pub below-padded : (m n : ℕ) (xs : List ℕ) → 0 < m → AreBelow m xs → AreBelow m (xs ++ replicate n 0)
below-padded m n xs pos h = below-append m xs (replicate n 0) h (below-zeros m n pos)
