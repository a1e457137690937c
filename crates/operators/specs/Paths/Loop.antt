-- Loops that gather, compute and scatter, over the copies of a path.
use Rattle.std.specs.Prelude.{◌≡◌, ℕ, ◌<◌, ◌==◌, if◌then◌else◌, List, [], ◌∷◌, slice_index}
use Rattle.operators.specs.Operator.{Operator}
use Rattle.operators.specs.Sum.{sum_below, list_below}
use Rattle.operators.specs.Paths.Tensors.{Path, count_of, size_under, under, place, AreInRange, Reads}

-- the sum over all values of the loops
abbrev pub nest_sum : Path → (List ℕ → ℕ) → ℕ
nest_sum [] f = f []
nest_sum (t ∷ path) f = sum_below (count_of t) (λ v. nest_sum path (λ vs. f (v ∷ vs)))

-- what the copies put at the place w, added up, where the item k of the copy that vs names goes to `to vs k`
abbrev pub loop_at : Path → ℕ → (List ℕ → ℕ → ℕ) → (List ℕ → ℕ → ℕ) → ℕ → ℕ
loop_at path n to value w = nest_sum path (λ vs. sum_below n (λ k. if to vs k == w then value vs k else 0))

-- a loop over copies of size d, on lists of n items: each gathers by `from`, computes, and scatters by `to`
abbrev pub loop_on : ℕ → Path → ℕ → (List ℕ → ℕ → ℕ) → (List ℕ → Operator) → (List ℕ → ℕ → ℕ) → Operator
loop_on n path d from body to x =
    list_below n (loop_at path d to (λ vs k. slice_index (body vs (list_below d (λ j. slice_index x (from vs j)))) k))

-- the scatters meet no place twice
pub record IsOneToOne (path : Path) (n : ℕ) (to : List ℕ → ℕ → ℕ) : Type 0 where
  pub values : (vs ws : List ℕ) (k j : ℕ) → AreInRange path vs → AreInRange path ws → k < n → j < n → to vs k ≡ to ws j → vs ≡ ws
  pub places : (vs : List ℕ) (k j : ℕ) → AreInRange path vs → k < n → j < n → to vs k ≡ to vs j → k ≡ j

-- a matrix under tensors is the loop over its copies
abbrev pub LoopIsUnder : Type 0
LoopIsUnder =
    (path : Path) (n : ℕ) (a : Operator) (x : List ℕ) → Reads n a → (w : ℕ) → w < size_under path n →
    slice_index (loop_on (size_under path n) path n (place path n) (λ vs. a) (place path n) x) w ≡ slice_index (under path n a x) w
