-- The passes of a tree are those of its layout.
use Rattle.std.proofs.Common.{◌≡◌, ◌*◌, Bool, true, false, refl, sym, ap, ap₂, ◌∙◌, List, [], ◌∷◌, ◌++◌, if◌then◌else◌}
use Rattle.matrix_meaning.specs.declared.Kind.{Kind}
use Rattle.matrix_meaning.specs.declared.Kind.TheVariants.{Dft}
use Rattle.matrix_meaning.specs.declared.Request.{Request}
use Rattle.sigma_spl.specs.Work as works
use Rattle.sigma_spl.specs.Work.{PlainWork}
use Rattle.smp_rewrite.specs.Layout.Tree as layouts
use Rattle.smp_rewrite.specs.Layout.Tree.{Layout, work, by, layout_of, layout_size}
use Rattle.smp_rewrite.proofs.LayoutLemmas.Layouts.{layouts_have_size}
use Rattle.tree_model.specs.Breakdown.{Breakdown, leaf, node, size_of}
use Rattle.tree_model.specs.Cost.{is_kernel, node_root}
use Rattle.tree_model.specs.Whole.{left_of, right_of}
use Rattle.generate.specs.Emission.Passes.{Pass, Site, Work, kernel, left_site, long_work, node_work, passes}
use Rattle.generate.specs.Emission.Passes.{right_site, rows, tile}
use Rattle.generate.proofs.Emission.Nested.{pass_at, plain_work}
use Rattle.generate.proofs.Emission.Matches.{IsNodeWork}
use Rattle.sigma_lower.proofs.TreeLoops.Shaped.{HasWorks}

-- ---- works

-- the work of a pass that a layout's work is. A tree's layout has no other works than kernels and rows
abbrev pub named : PlainWork → Work
named (works.kernel (works.node_of c t)) = kernel c t
named (works.kernel (works.short kind root size)) = rows root size
named (works.rows root size) = rows root size
named (works.horner root size) = rows root size
named (works.tile v) = tile v
named (works.copy size) = tile size

pub named-plain : (w : PlainWork) → IsNodeWork w → plain_work (named w) ≡ w
named-plain (works.kernel (works.node_of c t)) h = refl
named-plain (works.rows root size) h = refl
named-plain _ h = absurd h

node-work : (c : Request) (t : Breakdown) →
    (node_work c t ≡ named (layouts.node_work c t)) × IsNodeWork (layouts.node_work c t)
node-work c t = kinds (is_kernel c (size_of t)) c.kind
  where
    kinds : (k : Bool) (kind : Kind) →
        ((if k then kernel c t else long_work c kind t)
        ≡ named (if k then works.kernel (works.node_of c t) else layouts.long_work c kind t))
        × IsNodeWork (if k then works.kernel (works.node_of c t) else layouts.long_work c kind t)
    kinds true kind = (refl, tt)
    kinds false Dft = (refl, tt)
    kinds false _ = (refl, tt)

-- the works of a tree's layout are those of its nodes
pub tree_works : (c : Request) (t : Breakdown) → HasWorks IsNodeWork (layout_of c t)
tree_works c (leaf d) = (node-work c (leaf d)).1
tree_works c (node rule a b) =
    parts (is_kernel c (size_of a * size_of b)) (tree_works (left_of rule c) a) (tree_works (right_of rule c) b)
  where
    parts : (k : Bool) → HasWorks IsNodeWork (layout_of (left_of rule c) a) →
        HasWorks IsNodeWork (layout_of (right_of rule c) b) →
        HasWorks IsNodeWork (if k then work (layouts.node_work c (node rule a b)) else
        layouts.by rule (node_root c (size_of a * size_of b)) (layout_of (left_of rule c) a)
        (layout_of (right_of rule c) b))
    parts true left right = (node-work c (node rule a b)).1
    parts false left right = (left, right)

-- ---- passes

-- the passes of a layout by the same rules
abbrev pub layout_emitted : Site → Layout → List Pass
layout_emitted o (work w) = pass_at o (named w) ∷ []
layout_emitted o (by rule root a b) =
    layout_emitted (right_site rule (layout_size a) (layout_size b) root o) b
    ++ layout_emitted (left_site rule (layout_size a) (layout_size b) o) a

either : (k : Bool) (o : Site) (v : Work) (w : PlainWork) (l : Layout) (ps : List Pass) → v ≡ named w →
    ps ≡ layout_emitted o l →
    (if k then pass_at o v ∷ [] else ps) ≡ layout_emitted o (if k then work w else l)
either true o v w l ps same is = ap (λ x. pass_at o x ∷ []) same
either false o v w l ps same is = is

pub passes_of_layout : (c : Request) (o : Site) (t : Breakdown) → passes c o t ≡ layout_emitted o (layout_of c t)
passes_of_layout c o (leaf d) = ap (λ w. pass_at o w ∷ []) (node-work c (leaf d)).0
passes_of_layout c o (node rule a b) =
    let root = node_root c (size_of a * size_of b) in
    let r : size_of a ≡ layout_size (layout_of (left_of rule c) a) = sym (layouts_have_size (left_of rule c) a) in
    let s : size_of b ≡ layout_size (layout_of (right_of rule c) b) = sym (layouts_have_size (right_of rule c) b) in
    either (is_kernel c (size_of a * size_of b)) o (node_work c (node rule a b)) (layouts.node_work c (node rule a b))
    (by rule root (layout_of (left_of rule c) a) (layout_of (right_of rule c) b)) _ (node-work c (node rule a b)).0
    (ap₂ (λ x y. passes (right_of rule c) (right_site rule x y root o) b ++ passes (left_of rule c)
    (left_site rule x y o) a) r s
    ∙ ap₂ (λ ps qs. ps ++ qs) (passes_of_layout (right_of rule c) _ b) (passes_of_layout (left_of rule c) _ a))
