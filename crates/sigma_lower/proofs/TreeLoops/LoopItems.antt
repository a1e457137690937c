-- The items of a layout's loops: what their variables run below, and the sums that name an item.
use Rattle.sigma_lower.proofs.Words.{◌≡◌, ℕ, zero, suc, ◌+◌, ◌*◌, ◌<◌, ◌≤◌, arith, refl, sym, ap, ◌∙◌, List, [], ◌∷◌}
use Rattle.sigma_lower.proofs.Words.{◌++◌, length, Some, map, slice_index, PlainDiagonal, PlainPass, Fits, AreCounts}
use Rattle.sigma_lower.proofs.Words.{right_positive, place_below, AreSeveral, limits_in, loop_of, items_out, PlainWork}
use Rattle.sigma_lower.proofs.Words.{kernel, rows, tile, work_size, trees_of, Sum, constant, trees_size, Blocks}
use Rattle.sigma_lower.proofs.Words.{Columns, Path, copies_of, count_of, size_under-copies, items_in}
use Rattle.std.specs.List.{range_with_len}
use Rattle.sigma_lower.specs.TreeLoops.Placed.{IsName}
use Rattle.sigma_lower.proofs.TreeLoops.LineMoves.{number-fits}
use Rattle.sigma_lower.proofs.TreeLoops.PlaceSums.{variable-fits}
use Rattle.sigma_lower.proofs.TreeLoops.Shaped.{IsShaped, IsShapedWork}
use Rattle.sigma_spl.specs.Work.{PlainKernel}
use Rattle.sigma_lower.proofs.TreeTerms.Lowering.{part-le}
use Rattle.sigma_spl.proofs.Limited.{at-row, at-column}

-- ---- diagonals

-- a diagonal has a number of words of the whole
pub diagonal-size : (P : PlainWork → Type 0) (size : ℕ) (p : PlainPass) → 1 ≤ size → IsShaped P size p →
    (d : PlainDiagonal) → p.diagonal ≡ Some d → (0 < d.rows * d.cols) × (d.rows * d.cols ≤ size)
diagonal-size P size p low shape d is =
    let whole : copies_of d.path * (d.rows * d.cols) ≡ size = sym (size_under-copies d.path (d.rows * d.cols)) ∙ shape.multiplies d is in
    (right_positive (copies_of d.path) (d.rows * d.cols) (omega (arith, whole, low)), part-le (copies_of d.path) (d.rows * d.cols) size whole low)

-- ---- the counts of all variables

pub counts-from : (path : Path) (n d : ℕ) (cs : ℕ → ℕ) (back : List ℕ) → AreSeveral path → 0 < n →
    ((i : ℕ) → cs (d + i) ≡ slice_index (map count_of path ++ back) i) → AreCounts path n d cs
counts-from [] n d cs back wide positive is = positive
counts-from (Blocks c ∷ path) n d cs back wide positive is = (
  ap cs (omega arith) ∙ is 0,
  wide.0,
  counts-from path n (d + 1) cs back wide.1 positive (λ i. ap cs (omega arith) ∙ is (suc i)),
)
counts-from (Columns c ∷ path) n d cs back wide positive is = (
  ap cs (omega arith) ∙ is 0,
  wide.0,
  counts-from path n (d + 1) cs back wide.1 positive (λ i. ap cs (omega arith) ∙ is (suc i)),
)

-- those of a pass
pub pass-counts : (P : PlainWork → Type 0) (size : ℕ) (p : PlainPass) → 1 ≤ size → IsShaped P size p →
    AreCounts p.path (work_size p.work) 0 (limits_in (loop_of p))
pass-counts P size p low shape =
    let n = work_size p.work in
    let cs = limits_in (loop_of p) in
    let whole : copies_of p.path * n ≡ size = sym (size_under-copies p.path n) ∙ shape.fills in
    let some : 0 < n = right_positive (copies_of p.path) n (omega (arith, whole, low)) in
    counts-from p.path n 0 cs (n ∷ n ∷ []) shape.wide some (λ i. ap cs (omega arith))

-- ---- sums that name an item of a copy of n

abbrev pub Names : PlainWork → (ℕ → ℕ) → ℕ → Sum → Type 0
Names w cs n e = Fits n e cs × IsName w e

abbrev pub AllName : PlainWork → (ℕ → ℕ) → ℕ → List Sum → Type 0
AllName w cs n [] = Unit {0}
AllName w cs n (e ∷ es) = Names w cs n e × AllName w cs n es

-- a tile names numbers, and other work anything
pub name-constant : (w : PlainWork) (k : ℕ) → IsName w (constant k)
name-constant (tile v) k = (k, refl)
name-constant _ k = tt

constants-name : (w : PlainWork) (cs : ℕ → ℕ) (n : ℕ) (g : ℕ → ℕ) (a len : ℕ) → ((i : ℕ) → i < a + len → g i < n) →
    AllName w cs n (map (λ i. constant (g i)) (range_with_len a len))
constants-name w cs n g a zero h = tt
constants-name w cs n g a (suc len) h = ((number-fits n (g a) cs (h a (omega arith)), name-constant w (g a)), constants-name w cs n g (a + 1) len (λ i low. h i (omega (arith, low))))

-- the items of the loads, and those of the stores
pub record HaveNames (path : Path) (w : PlainWork) : Type 0 where
  pub loads : AllName w (slice_index (map count_of path ++ work_size w ∷ work_size w ∷ [])) (work_size w)
      (items_in w (length path))
  pub stores : AllName w (slice_index (map count_of path ++ work_size w ∷ work_size w ∷ [])) (work_size w)
      (items_out w (length path))

kernel-names : (path : Path) (k : PlainKernel) → HaveNames path (kernel k)
kernel-names path k =
    let n : ℕ = trees_size (trees_of k) in
    let all = constants-name (kernel k) (slice_index (map count_of path ++ n ∷ n ∷ [])) n (λ i. i) 0 n (λ i low. omega (arith, low)) in
    record { loads = all; stores = all }

rows-names : (path : Path) (root n : ℕ) → 2 ≤ n → HaveNames path (rows root n)
rows-names path root n two =
    let cs : ℕ → ℕ = slice_index (map count_of path ++ n ∷ n ∷ []) in
    record {
      loads = ((variable-fits n (length path + 1) cs (ap cs (omega arith) ∙ at-column path n) two, tt), tt);
      stores = ((variable-fits n (length path) cs (at-row path n) two, tt), tt);
    }

pub names-of : (m : ℕ) (path : Path) (w : PlainWork) → IsShapedWork m w → HaveNames path w
names-of m path (kernel trees) h = kernel-names path trees
names-of m path (rows root size) h = rows-names path root size h.0
names-of m path (tile v) h =
    let cs : ℕ → ℕ = slice_index (map count_of path ++ v * v ∷ v * v ∷ []) in
    let all = constants-name (tile v) cs (v * v) (λ k. k * v) 0 v (λ k low. let below = place_below k 0 v v (omega (arith, low)) (omega (arith, low)) in omega (arith, below)) in
    record { loads = all; stores = all }
names-of m path _ h = absurd h
