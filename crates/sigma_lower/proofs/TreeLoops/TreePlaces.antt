-- The places of all passes of a layout.
use Rattle.sigma_lower.proofs.Words.{◌≡◌, Bool, true, false, refl, sym, subst, in_order, merged_of, PlainWork, tile}
use Rattle.sigma_lower.proofs.Words.{CanShareLayout, Layout, IsGoodLayout, is_alone, Target, []}
use Rattle.sigma_lower.proofs.TreeLoops.PartRules.{IsSize}
use Rattle.sigma_lower.proofs.TreeLoops.PlaceLimits.{ArePlaced, size_in, whole_placed}
use Rattle.sigma_lower.proofs.TreeLoops.RootMerging.{root_merged}
use Rattle.sigma_lower.proofs.TreeLoops.RootPlaces.{HaveGoodPlaces, good-both, root_good}
use Rattle.sigma_lower.proofs.TreeLoops.Shaped.{HasWorks, IsShapedWork, shaped_passes, shaped_works}
use Rattle.sigma_lower.proofs.TreeLoops.TreePasses.{layout_passes}
use Rattle.sigma_lower.proofs.TreeLoops.Wholes.{plain_passes}

-- on one processor and one lane
tree_good : (c : Target) (P : PlainWork → Type 0) (l : Layout) → CanShareLayout c l → IsGoodLayout c.modulus l →
    HasWorks P l → HaveGoodPlaces c P (layout_passes [] [] l)
tree_good c P l shares good all =
    good-both c P (layout_passes [] [] l)
    (subst (λ n. ArePlaced n [] n (layout_passes [] [] l)) shares.size
    (whole_placed c.modulus l (subst IsSize (sym shares.size) (size_in c l shares)) good))
    (shaped_passes P c.modulus c.size [] [] l tt good all shares.size)

good_either : (c : Target) (P : PlainWork → Type 0) (l : Layout) → CanShareLayout c l → IsGoodLayout c.modulus l →
    HasWorks P l → P (tile c.lanes) → (b : Bool) → is_alone c ≡ b →
    HaveGoodPlaces c P (merged_of c l)
good_either c P l shares good all over true plain =
    subst (HaveGoodPlaces c P) (sym (plain_passes c l plain)) (tree_good c P l shares good all)
good_either c P l shares good all over false shared =
    subst (λ phases. HaveGoodPlaces c P (in_order phases)) (sym (root_merged c l shares good shared)) (root_good c P l shares good all over shared)

-- where P holds of the works of the layout, and of tiles
pub good_places : (c : Target) (P : PlainWork → Type 0) (l : Layout) → CanShareLayout c l → IsGoodLayout c.modulus l →
    HasWorks P l → P (tile c.lanes) → HaveGoodPlaces c P (merged_of c l)
good_places c P l shares good all over = good_either c P l shares good all over (is_alone c) refl

pub tree_good_places : (c : Target) (l : Layout) → CanShareLayout c l → IsGoodLayout c.modulus l →
    HaveGoodPlaces c (IsShapedWork c.modulus) (merged_of c l)
tree_good_places c l shares good = good_places c (IsShapedWork c.modulus) l shares good (shaped_works c.modulus l good) tt
