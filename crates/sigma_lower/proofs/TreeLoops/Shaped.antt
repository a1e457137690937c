-- The passes of a layout: their paths have factors of at least 2, round works of the layout.
use Rattle.sigma_lower.proofs.Words.{◌≡◌, ℕ, ◌*◌, ◌≤◌, ◌∙◌, List, [], ◌∷◌, ◌++◌, subst, Some, Mapping, none-some}
use Rattle.sigma_lower.proofs.Words.{same_Some, PlainDiagonal, PlainPass, new_pass, scattered, multiplied, AreSeveral}
use Rattle.sigma_lower.proofs.Words.{PlainWork, kernel, rows, horner, tile, copy, work_size, trees_of, trees_size}
use Rattle.sigma_lower.proofs.Words.{Layout, work, by, layout_size, IsGoodWork, IsGoodLayout, Blocks, Columns, Path}
use Rattle.sigma_lower.proofs.Words.{size_under, size_under-push, Rule, Gt, Ct, several-push}
use Rattle.sigma_lower.proofs.TreeLoops.PassLists.{AllPasses, all-append, all-last}
use Rattle.sigma_lower.proofs.TreeLoops.TreePasses.{back, rule_waiting, rule_passes, layout_passes}
use Rattle.sigma_spl.specs.Shared.Kernels.{IsMadeKernel}

-- each work of the layout is such
abbrev pub HasWorks : (PlainWork → Type 0) → Layout → Type 0
HasWorks P (work w) = P w
HasWorks P (by rule root a b) = HasWorks P a × HasWorks P b

-- a work of a good layout, or a tile
abbrev pub IsShapedWork : ℕ → PlainWork → Type 0
IsShapedWork m (kernel k) = (1 ≤ trees_size (trees_of k)) × IsMadeKernel m k
IsShapedWork m (rows root size) = IsGoodWork m (rows root size)
IsShapedWork m (horner root size) = ⊥
IsShapedWork m (tile v) = Unit {0}
IsShapedWork m (copy size) = ⊥

shaped-work : (m : ℕ) (w : PlainWork) → 1 ≤ work_size w → IsGoodWork m w → IsShapedWork m w
shaped-work m (kernel trees) some h = (some, h)
shaped-work m (rows root size) some h = h
shaped-work m _ some h = absurd h

pub shaped_works : (m : ℕ) (l : Layout) → IsGoodLayout m l → HasWorks (IsShapedWork m) l
shaped_works m (work w) h = shaped-work m w h.0 h.1
shaped_works m (by rule root a b) h = (shaped_works m a h.1, shaped_works m b h.2)

-- the copies fill `size` words, and so do those of a diagonal; and the work is such
pub record IsShaped (P : PlainWork → Type 0) (size : ℕ) (p : PlainPass) : Type 0 where
  pub wide : AreSeveral p.path
  pub fills : size_under p.path (work_size p.work) ≡ size
  pub work : P p.work
  pub multiplies : (d : PlainDiagonal) → p.diagonal ≡ Some d → size_under d.path (d.rows * d.cols) ≡ size

abbrev pub AreShaped : (PlainWork → Type 0) → ℕ → List PlainPass → Type 0
AreShaped P size ps = AllPasses (IsShaped P size) ps

pub new-shaped : (P : PlainWork → Type 0) (size : ℕ) (path : Path) (waiting : List Mapping) (w : PlainWork) →
    AreSeveral path → size_under path (work_size w) ≡ size → P w → IsShaped P size (new_pass path w waiting)
new-shaped P size path waiting w wide fills does = record { wide = wide; fills = fills; work = does; multiplies = λ d e. absurd (none-some d e) }

pub scattered-shaped : (P : PlainWork → Type 0) (size : ℕ) (f : Mapping) (p : PlainPass) → IsShaped P size p →
    IsShaped P size (scattered f p)
scattered-shaped P size f p h = record { wide = h.wide; fills = h.fills; work = h.work; multiplies = h.multiplies }

pub multiplied-shaped : (P : PlainWork → Type 0) (size : ℕ) (path : Path) (r s w : ℕ) (p : PlainPass) →
    size_under path (r * s) ≡ size → IsShaped P size p → IsShaped P size (multiplied path r s w p)
multiplied-shaped P size path r s w p fills h =
    record {
      wide = h.wide;
      fills = h.fills;
      work = h.work;
      multiplies = λ d e. subst (λ (z : PlainDiagonal). size_under z.path (z.rows * z.cols) ≡ size) (same_Some _ d e) fills;
    }

shaped_rule : (P : PlainWork → Type 0) (size : ℕ) (rule : Rule) (path : Path) (r s w : ℕ)
    (left right : List PlainPass) → size_under path (r * s) ≡ size → AreShaped P size left → AreShaped P size right →
    AreShaped P size (rule_passes rule path r s w left right)
shaped_rule P size Gt path r s w left right fills l k =
    all-append (IsShaped P size) right _ k
    (all-last (IsShaped P size) (scattered (back path r s)) (λ p h. scattered-shaped P size (back path r s) p h) left l)
shaped_rule P size Ct path r s w left right fills l k =
    all-append (IsShaped P size) _ left
    (all-last (IsShaped P size) (multiplied path r s w) (λ p h. multiplied-shaped P size path r s w p fills h) right k) l
shaped_rule P size _ path r s w left right fills l k = all-append (IsShaped P size) right left k l

pub shaped_passes : (P : PlainWork → Type 0) (m size : ℕ) (path : Path) (waiting : List Mapping) (l : Layout) →
    AreSeveral path → IsGoodLayout m l →
    HasWorks P l → size_under path (layout_size l) ≡ size → AreShaped P size (layout_passes path waiting l)
shaped_passes P m size path waiting (work w) wide h all e = (new-shaped P size path waiting w wide e all, tt)
shaped_passes P m size path waiting (by rule root a b) wide h all e =
    let r = layout_size a in
    let s = layout_size b in
    shaped_rule P size rule path r s root _ _ e
    (shaped_passes P m size (path ++ Columns s ∷ []) [] a (several-push path (Columns s) wide h.0.right) h.1 all.0 (size_under-push path (Columns s) r ∙ e))
    (shaped_passes P m size (path ++ Blocks r ∷ []) (rule_waiting rule path r s waiting) b (several-push path (Blocks r) wide h.0.left) h.2 all.1
    (size_under-push path (Blocks r) s ∙ e))
