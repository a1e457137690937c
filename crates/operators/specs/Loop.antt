-- Loops that gather, compute and scatter.
use Rattle.std.specs.Prelude.{◌≡◌, ℕ, ◌+◌, ◌*◌, ◌<◌, ◌==◌, if◌then◌else◌, List, slice_index}
use Rattle.operators.specs.Sum.{sum_below, list_below}
use Rattle.operators.specs.Operator.{Operator, gather, scale, on_columns, on_blocks}

-- each of the d items i of x at the place f i, and 0 elsewhere
abbrev pub scatter : ℕ → ℕ → (ℕ → ℕ) → Operator
scatter n d f x = list_below n (λ p. sum_below d (λ i. if f i == p then slice_index x i else 0))

-- the sum of the lists that the turns of a loop give
abbrev pub loop : ℕ → ℕ → (ℕ → List ℕ) → List ℕ
loop n count turn = list_below n (λ p. sum_below count (λ v. slice_index (turn v) p))

-- `I_k tensor A` is a loop over the blocks, and `A tensor I_k` one over the columns
abbrev pub TensorsAsLoops : Type 0
TensorsAsLoops =
    (n k : ℕ) (a : Operator) (x : List ℕ) →
    (on_blocks k n a x ≡ loop (k * n) k (λ v. scatter (k * n) n (λ j. v * n + j) (a (gather n (λ j. v * n + j) x))))
    × (on_columns n k a x ≡ loop (n * k) k (λ v. scatter (n * k) n (λ i. i * k + v) (a (gather n (λ i. i * k + v) x))))

-- `G(f) G(g)` is `G(g after f)`
abbrev pub GatherOfGather : Type 0
GatherOfGather =
    (n d : ℕ) (f g : ℕ → ℕ) (x : List ℕ) → ((i : ℕ) → i < d → f i < n) →
    gather d f (gather n g x) ≡ gather d (λ i. g (f i)) x

-- `S(f) S(g)` is `S(f after g)`
abbrev pub ScatterOfScatter : Type 0
ScatterOfScatter =
    (n k d : ℕ) (f g : ℕ → ℕ) (x : List ℕ) → ((i : ℕ) → i < d → g i < k) →
    scatter n k f (scatter k d g x) ≡ scatter n d (λ i. f (g i)) x

-- `G(f) diag(c)` is `diag(c after f) G(f)`
abbrev pub GatherOfScale : Type 0
GatherOfScale =
    (m n d : ℕ) (f c : ℕ → ℕ) (x : List ℕ) → ((i : ℕ) → i < d → f i < n) →
    gather d f (scale m n c x) ≡ scale m d (λ i. c (f i)) (gather d f x)

-- different places of the first d are sent to different places
abbrev pub IsOneToOneBelow : ℕ → (ℕ → ℕ) → Type 0
IsOneToOneBelow d f = (i j : ℕ) → i < d → j < d → f i ≡ f j → i ≡ j

-- `diag(c) S(f)` is `S(f) diag(c after f)`, for an f that is one to one
abbrev pub ScaleOfScatter : Type 0
ScaleOfScatter =
    (m n d : ℕ) (f c : ℕ → ℕ) (x : List ℕ) → IsOneToOneBelow d f →
    scale m n c (scatter n d f x) ≡ scatter n d f (scale m d (λ i. c (f i)) x)

-- `there` permutes the numbers below n, and `back` undoes it
pub record IsPermutationBelow (n : ℕ) (there back : ℕ → ℕ) : Type 0 where
  pub there_below : (i : ℕ) → i < n → there i < n
  pub back_below : (i : ℕ) → i < n → back i < n
  pub back-there : (i : ℕ) → i < n → back (there i) ≡ i
  pub there-back : (i : ℕ) → i < n → there (back i) ≡ i

-- a permutation as a gather, and as the scatter of its inverse
abbrev pub GatherAsScatter : Type 0
GatherAsScatter =
    (n : ℕ) (there back : ℕ → ℕ) (x : List ℕ) → IsPermutationBelow n there back → gather n there x ≡ scatter n n back x
