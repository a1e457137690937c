-- The layout of a request's tree can be hosted by the request's machine.
use Rattle.sigma_lower.proofs.Words.{◌≡◌, ℕ, ◌*◌, ◌≤◌, Bool, true, false, arith, refl, subst, sym, if◌then◌else◌}
use Rattle.sigma_lower.proofs.Words.{nat_le, nat_tests, CanLower, forward_of, IsValid, Kind, Dft, Wht, Idft, Request}
use Rattle.sigma_lower.proofs.Words.{IsHost, kernel, Layout, work, by, layout_of, IsNodeTree, target_of, left_tree}
use Rattle.sigma_lower.proofs.Words.{right_tree, Breakdown, leaf, node, AllowsLeaf, IsWholeTree, is_kernel, node_root}
use Rattle.sigma_lower.proofs.Words.{trees_size, IsSmallWork, kernel-short, node_of, long_work, whole_of}
use Rattle.sigma_lower.proofs.TreeLayouts.{trees_can_lower}
use Rattle.sigma_lower.proofs.TreeLoops.Shaped.{HasWorks}
use Rattle.tree_model.proofs.RootedTrees.{rooted_size}
use Rattle.smp_rewrite.proofs.LayoutLemmas.Wholes.{forward_tree}
use Rattle.tree_model.specs.Breakdown.{size_of}
use Rattle.tree_model.specs.Whole.{left_of, right_of, rooted_of}
use Rattle.sigma_lower.proofs.TreeSigmas.Hosted.{IsHosted}

-- ---- its works are small

short-size : (d unroll : ℕ) → nat_le d unroll ≡ true → unroll ≤ 64 → d ≤ 64
short-size d unroll short low = grind (arith, nat_tests)

small-long : (p : Request) (kind : Kind) (d : ℕ) → AllowsLeaf kind d → IsSmallWork (long_work p kind (leaf d))
small-long p Dft d h = tt
small-long p Wht d h = omega (arith, h.1)
small-long p Idft d h = absurd h

small-kernel : (p : Request) (t : Breakdown) → IsValid p → is_kernel p (size_of t) ≡ true →
    trees_size (rooted_of p t) ≤ 64
small-kernel p t valid short =
    subst (λ n. n ≤ 64) (sym (rooted_size p t))
    (short-size (size_of t) p.unroll (kernel-short p (size_of t) short) valid.in_range.unroll.1)

small-leaf : (p : Request) (d : ℕ) (b : Bool) → IsValid p → AllowsLeaf p.kind d → is_kernel p d ≡ b →
    IsSmallWork (if b then kernel (node_of p (leaf d)) else long_work p p.kind (leaf d))
small-leaf p d true valid h short = small-kernel p (leaf d) valid short
small-leaf p d false valid h long = small-long p p.kind d h

small-node : (p : Request) (t : Breakdown) (b : Bool) (l : Layout) → IsValid p → is_kernel p (size_of t) ≡ b →
    HasWorks IsSmallWork l →
    HasWorks IsSmallWork
    (if b then work (if b then kernel (node_of p t) else long_work p p.kind t) else l)
small-node p t true l valid short h = small-kernel p t valid short
small-node p t false l valid long h = h

small-works : (p : Request) (t : Breakdown) → IsNodeTree p t → HasWorks IsSmallWork (layout_of p t)
small-works p (leaf d) h = small-leaf p d (is_kernel p d) h.valid h.tree.1 refl
small-works p (node rule a b) h =
    let d = size_of a * size_of b in
    small-node p (node rule a b) (is_kernel p d)
    (by rule (node_root p d) (layout_of (left_of rule p) a) (layout_of (right_of rule p) b)) h.valid refl (
      small-works (left_of rule p) a (left_tree p rule a b h),
      small-works (right_of rule p) b (right_tree p rule a b h),
    )

-- ---- on the request's machine

pub is-host : (c : Request) → IsValid c → IsHost (target_of c)
is-host c valid =
    let range = valid.in_range in
    let large = range.modulus in
    record {
      size = range.size;
      modulus = (omega (arith, large), omega (arith, large));
      procs = range.procs;
      line = range.line;
      lanes = range.lanes;
    }

pub tree_hosted : (c : Request) (t : Breakdown) → IsValid c → IsWholeTree c t →
    IsHosted (target_of c) (layout_of (forward_of c) t)
tree_hosted c t valid h =
    let can : CanLower (target_of c) (whole_of c t) = trees_can_lower c t valid h in
    record {
      machine = can.machine;
      host = is-host c valid;
      shares = can.shares;
      good = can.good.layout;
      small = small-works (forward_of c) t (forward_tree c t valid h);
    }
