-- The steps of a layout do what the layout does.
use Rattle.std.proofs.Common.{◌≡◌, ℕ, ◌*◌, List, [], ◌∷◌, ◌++◌, refl, sym, ap, ◌∙◌}
use Rattle.matrix_meaning.specs.Laws.{twiddle}
use Rattle.operators.specs.Identities.{turn}
use Rattle.operators.specs.Operator.{Operator, gather, scale, on_columns, on_blocks, good_thomas_in, good_thomas_out}
use Rattle.operators.proofs.Lists.{length-list_below}
use Rattle.smp_rewrite.specs.Layout.Tree.{work, by, layout_size, layout_on, rule_on}
use Rattle.smp_rewrite.specs.Layout.Meaning.{step_on, all_on, StepsDo}
use Rattle.smp_rewrite.specs.Layout.Step.{PlainStep, step, rule_steps, steps_of, twiddles, thomas_out}
use Rattle.operators.specs.Paths.Tensors.{Path, under}
use Rattle.operators.specs.declared.paths.Tensor.TheVariants.{Blocks, Columns}
use Rattle.operators.proofs.PathLemmas.Under.{under-push, under-product}
use Rattle.tree_model.specs.declared.tree.Rule.{Rule}
use Rattle.tree_model.specs.declared.tree.Rule.TheVariants.{Gt, Ct, Split, Dim}

pub all_on-append : (m : ℕ) (ss ts : List PlainStep) (x : List ℕ) → all_on m (ss ++ ts) x ≡ all_on m ts (all_on m ss x)
all_on-append m [] ts x = refl
all_on-append m (s ∷ ss) ts x = all_on-append m ss ts (step_on m s x)

-- ---- the steps of a rule

rule_steps_on : (m : ℕ) (rule : Rule) (path : Path) (r s w : ℕ) (a b : Operator) (left right : List PlainStep)
    (x : List ℕ) →
    ((y : List ℕ) → all_on m left y ≡ under path (r * s) (on_columns r s a) y) →
    ((y : List ℕ) → all_on m right y ≡ under path (r * s) (on_blocks r s b) y) →
    all_on m (rule_steps rule path r s w left right) x ≡ under path (r * s) (rule_on rule m r s w a b) x
rule_steps_on m Gt path r s w a b left right x on_left on_right =
    let n = r * s in
    let l = gather (r * s) (good_thomas_in r s) in
    let g = gather (r * s) (good_thomas_out r s) in
    all_on-append m right (left ++ step path (thomas_out r s) ∷ []) (under path n l x)
    ∙ all_on-append m left (step path (thomas_out r s) ∷ []) (all_on m right (under path n l x))
    ∙ ap (under path n g) (on_left (all_on m right (under path n l x)) ∙ ap (under path n (on_columns r s a)) (on_right (under path n l x)))
    ∙ sym (under-product path n g (λ y. on_columns r s a (on_blocks r s b (l y))) x (λ y. length-list_below _ _)
    ∙ ap (under path n g)
    (under-product path n (on_columns r s a) (λ y. on_blocks r s b (l y)) x (λ y. length-list_below _ _)
    ∙ ap (under path n (on_columns r s a)) (under-product path n (on_blocks r s b) l x (λ y. length-list_below _ _))))
rule_steps_on m Ct path r s w a b left right x on_left on_right =
    let n = r * s in
    let l = turn r s in
    let d = scale m (r * s) (twiddle m s w) in
    all_on-append m right (step path (twiddles r s w) ∷ left) (under path n l x)
    ∙ on_left (under path n d (all_on m right (under path n l x)))
    ∙ ap (λ y. under path n (on_columns r s a) (under path n d y)) (on_right (under path n l x))
    ∙ sym (under-product path n (on_columns r s a) (λ y. d (on_blocks r s b (l y))) x (λ y. length-list_below _ _)
    ∙ ap (under path n (on_columns r s a))
    (under-product path n d (λ y. on_blocks r s b (l y)) x (λ y. length-list_below _ _)
    ∙ ap (under path n d) (under-product path n (on_blocks r s b) l x (λ y. length-list_below _ _))))
rule_steps_on m Split path r s w a b left right x on_left on_right =
    all_on-append m right left x
    ∙ on_left (all_on m right x)
    ∙ ap (under path (r * s) (on_columns r s a)) (on_right x)
    ∙ sym (under-product path (r * s) (on_columns r s a) (on_blocks r s b) x (λ y. length-list_below _ _))
rule_steps_on m Dim path r s w a b left right x on_left on_right =
    all_on-append m right left x
    ∙ on_left (all_on m right x)
    ∙ ap (under path (r * s) (on_columns r s a)) (on_right x)
    ∙ sym (under-product path (r * s) (on_columns r s a) (on_blocks r s b) x (λ y. length-list_below _ _))

pub steps_do : StepsDo
steps_do m path (work w) x = refl
steps_do m path (by rule root a b) x =
    let r = layout_size a in
    let s = layout_size b in
    rule_steps_on m rule path r s root (layout_on m a) (layout_on m b) (steps_of (path ++ Columns s ∷ []) a) (steps_of (path ++ Blocks r ∷ []) b) x
    (λ y. steps_do m (path ++ Columns s ∷ []) a y ∙ under-push path (Columns s) r (layout_on m a) y)
    (λ y. steps_do m (path ++ Blocks r ∷ []) b y ∙ under-push path (Blocks r) s (layout_on m b) y)
