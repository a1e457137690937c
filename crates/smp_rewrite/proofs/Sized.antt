-- Each step of a layout is on all words.
use Rattle.std.proofs.Common.{◌≡◌, ℕ, ◌*◌, ◌∙◌, List, [], ◌∷◌, ◌++◌}
use Rattle.std.proofs.lemmas.List.Elements.{All-nil, All-cons}
use Rattle.std.specs.Prelude.{All, map}
use Rattle.operators.specs.declared.paths.Tensor.TheVariants.{Blocks, Columns}
use Rattle.operators.specs.Paths.Tensors.{Path, size_under}
use Rattle.operators.proofs.PathLemmas.Under.{size_under-push}
use Rattle.tree_model.specs.declared.tree.Rule.{Rule}
use Rattle.tree_model.specs.declared.tree.Rule.TheVariants.{Gt, Ct, Split, Dim}
use Rattle.smp_rewrite.specs.Layout.Tree.{Layout, work, by, layout_size}
use Rattle.operators.specs.declared.target.Target.{Target}
use Rattle.smp_rewrite.specs.Layout.Step.{PlainStep, rule_steps, steps_of}
use Rattle.smp_rewrite.specs.declared.layout.Step.{Step}
use Rattle.smp_rewrite.specs.Layout.Views.{plain_step}
use Rattle.smp_rewrite.specs.Laws.{step_size}

abbrev pub AreOfSize : ℕ → List PlainStep → Type 0
AreOfSize n [] = Unit {0}
AreOfSize n (s ∷ ss) = (step_size s ≡ n) × AreOfSize n ss

of_size-append : (n : ℕ) (ss ts : List PlainStep) → AreOfSize n ss → AreOfSize n ts → AreOfSize n (ss ++ ts)
of_size-append n [] ts h k = k
of_size-append n (s ∷ ss) ts h k = (h.0, of_size-append n ss ts h.1 k)

of_size-rule : (n : ℕ) (rule : Rule) (path : Path) (r s w : ℕ) (left right : List PlainStep) →
    size_under path (r * s) ≡ n → AreOfSize n left → AreOfSize n right →
    AreOfSize n (rule_steps rule path r s w left right)
of_size-rule n Gt path r s w left right e h k = (e, of_size-append n right _ k (of_size-append n left _ h (e, tt)))
of_size-rule n Ct path r s w left right e h k = (e, of_size-append n right _ k (e, h))
of_size-rule n Split path r s w left right e h k = of_size-append n right left k h
of_size-rule n Dim path r s w left right e h k = of_size-append n right left k h

pub of_size : (n : ℕ) (path : Path) (l : Layout) → size_under path (layout_size l) ≡ n → AreOfSize n (steps_of path l)
of_size n path (work w) e = (e, tt)
of_size n path (by rule root a b) e =
    let r = layout_size a in
    let s = layout_size b in
    of_size-rule n rule path r s root _ _ e
    (of_size n (path ++ Columns s ∷ []) a (size_under-push path (Columns s) r ∙ e))
    (of_size n (path ++ Blocks r ∷ []) b (size_under-push path (Blocks r) s ∙ e))

all-of_size : (n : ℕ) (ss : List Step) → AreOfSize n (map plain_step ss) → All (λ s. step_size (plain_step s) ≡ n) ss
all-of_size n [] h = All-nil (λ s. step_size (plain_step s) ≡ n)
all-of_size n (s ∷ ss) h = All-cons (λ s. step_size (plain_step s) ≡ n) s ss h.0 (all-of_size n ss h.1)

pub sized_steps : (h : Target) (l : Layout) (ss : List Step) → layout_size l ≡ h.size →
    map plain_step ss ≡ steps_of [] l → All (λ s. step_size (plain_step s) ≡ h.size) ss
sized_steps h l ss e same = all-of_size h.size ss (rw same (of_size h.size [] l e))
