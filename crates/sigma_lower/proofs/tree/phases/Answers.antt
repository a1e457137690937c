use Rattle.std.proofs.Common.{◌∷◌, ◌++◌, [], ap, ◌∙◌}
use Rattle.std.specs.Prelude.{map}
use Rattle.sigma_lower.proofs.Sigmas.{one-phase, two-phases}
use Rattle.sigma_spl.specs.Views.{plain_term}
use Rattle.vec_rewrite.specs.Views.{plain_vec}
use Rattle.sigma_lower.proofs.tree.phases.Goals as goal

pub returns-then-procs-eq1 : goal.returns-then-procs-eq1
returns-then-procs-eq1 c =
    let all = c.in_ok-all.all in
    ap (map plain_term) (c.in_ok-push.ensures.items ∙ ap (λ ts. ts ++ all ∷ []) c.new-phases.ensures.items)
    ∙ one-phase (plain_vec c.args.vectors) (plain_term c.in_ok-left.left) (plain_term all) c.if-procs-eq1.true c.in_ok-left.ensures c.in_ok-all.ensures

pub returns : goal.returns
returns c =
    let left = c.in_ok-left.left in
    let right = c.in_ok-right.right in
    ap (map plain_term) (c.in_ok-push-3.ensures.items ∙ ap (λ ts. ts ++ left ∷ []) (c.in_ok-push-2.ensures.items ∙ ap (λ ts. ts ++ right ∷ []) c.new-phases.ensures.items))
    ∙ two-phases (plain_vec c.args.vectors) (plain_term left) (plain_term right) c.if-procs-eq1.false c.in_ok-left.ensures c.in_ok-right.ensures
