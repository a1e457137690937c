-- A permutation before a pass goes into its loads, one after it into its stores, and a diagonal after it into its
-- loops; passes stand side by side and under tensors.
use Rattle.std.specs.Prelude.{◌≡◌, ℕ, ◌+◌, ◌<◌, List, ◌++◌, map}
use Rattle.operators.specs.Loop.{IsPermutationBelow}
use Rattle.operators.specs.Operator.{gather, scale}
use Rattle.sigma_spl.specs.Copies.{Copies, pass_on, AreInside, StoreOnce, loaded_by, stored_by, multiplied_by, behind}
use Rattle.sigma_spl.specs.Copies.{under_one, both}
use Rattle.operators.specs.declared.paths.Tensor.{Tensor}
use Rattle.operators.specs.Paths.Tensors.{grown, one_under}

abbrev pub LoadsGather : Type 0
LoadsGather =
    (m n : ℕ) (cs : List Copies) (f : ℕ → ℕ) (x : List ℕ) → AreInside n cs →
    pass_on m n cs (gather n f x) ≡ pass_on m n (map (loaded_by f) cs) x

abbrev pub StoresScatter : Type 0
StoresScatter =
    (m n : ℕ) (cs : List Copies) (there back : ℕ → ℕ) (x : List ℕ) → IsPermutationBelow n there back → AreInside n cs →
    gather n there (pass_on m n cs x) ≡ pass_on m n (map (stored_by back) cs) x

abbrev pub LoopsScale : Type 0
LoopsScale =
    (m n : ℕ) (cs : List Copies) (factor : ℕ → ℕ) (x : List ℕ) → 0 < m →
    scale m n factor (pass_on m n cs x) ≡ pass_on m n (map (multiplied_by m factor) cs) x

abbrev pub StandSideBySide : Type 0
StandSideBySide =
    (m n k : ℕ) (cs ds : List Copies) (x : List ℕ) → AreInside n cs → AreInside k ds →
    both n k (pass_on m n cs) (pass_on m k ds) x ≡ pass_on m (n + k) (cs ++ map (behind n) ds) x

abbrev pub StandUnder : Type 0
StandUnder =
    (m n : ℕ) (t : Tensor) (cs : List Copies) (x : List ℕ) → AreInside n cs →
    one_under t n (pass_on m n cs) x ≡ pass_on m (grown t n) (map (under_one t n) cs) x

-- and what stores each place once still does
pub record KeepsOnce : Type 0 where
  pub scattered : (n : ℕ) (cs : List Copies) (there back : ℕ → ℕ) → IsPermutationBelow n there back → AreInside n cs →
      StoreOnce n cs → StoreOnce n (map (stored_by back) cs)
  pub side_by_side : (n k : ℕ) (cs ds : List Copies) → AreInside n cs → AreInside k ds → StoreOnce n cs →
      StoreOnce k ds → StoreOnce (n + k) (cs ++ map (behind n) ds)
  pub under : (n : ℕ) (t : Tensor) (cs : List Copies) → AreInside n cs → StoreOnce n cs →
      StoreOnce (grown t n) (map (under_one t n) cs)
