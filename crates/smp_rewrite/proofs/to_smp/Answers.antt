use Rattle.std.proofs.Common.{◌*◌, ap, arith, ap₂, sym, subst, ◌∙◌, []}
use Rattle.std.specs.List.{sum}
use Rattle.matrix_meaning.specs.Parts.{forward_of}
use Rattle.matrix_meaning.specs.declared.Request.{Request}
use Rattle.smp_rewrite.specs.Cut.{closed_cut, smp_of}
use Rattle.smp_rewrite.specs.Laws.{IsShaped, MovesWhole}
use Rattle.smp_rewrite.specs.Smp.{smp_on, smp_shares}
use Rattle.smp_rewrite.specs.Walk.{closing_in, tree_steps}
use Rattle.smp_rewrite.proofs.Moves.{moves_whole}
use Rattle.smp_rewrite.proofs.Sized.{sized_steps}
use Rattle.smp_rewrite.proofs.TreeLaws.{smp_transforms, smp_costs, smp_shaped, layouts_fit}
use Rattle.smp_rewrite.proofs.Walks.{whole_factor, whole_formula, whole_steps}
use Rattle.smp_rewrite.specs.Layout.Tree.{layout_of}
use Rattle.kernel_gen.specs.Nodes.{IsNodeTree}
use Rattle.sigma_spl.specs.Shared.Targets.{target_of}
use Rattle.smp_rewrite.specs.Layout.Whole.{whole_of}
use Rattle.smp_rewrite.proofs.LayoutLemmas.Wholes.{forward_tree, wholes_are_good, wholes_do, wholes_cost}
use Rattle.tree_model.specs.Breakdown.{breakdown_of}
use Rattle.smp_rewrite.proofs.to_smp.Goals as goal

pub steps_by-requires : goal.steps_by-requires
steps_by-requires c =
    let t = breakdown_of c.args.tree.now in
    subst (λ (p : Request). IsNodeTree p t) (sym c.forward.ensures.value)
    (forward_tree c.args.c.now t c.request-request.ensures.valid c.requires.tree)

pub cut_steps-requires : goal.cut_steps-requires
cut_steps-requires c =
    let request = c.args.c.now in
    let t = breakdown_of c.args.tree.now in
    let same =
    whole_steps request c.forward.result t c.args.formula c.requires.tree c.forward.ensures.value c.requires.formula in
    let size = (layouts_fit request t c.request-request.ensures.valid c.requires.tree).size in
    sized_steps (target_of request) (layout_of (forward_of request) t) c.in_ok-steps.steps.items size
    (c.in_ok-steps.ensures ∙ ap (λ f. tree_steps c.forward.result [] t f) c.body_of.ensures ∙ same)

pub returns-clause-form : goal.returns-clause-form
returns-clause-form c =
    let request = c.args.c.now in
    let t = breakdown_of c.args.tree.now in
    let same =
    whole_steps request c.forward.result t c.args.formula c.requires.tree c.forward.ensures.value c.requires.formula in
    c.in_ok-smp.ensures
    ∙ ap₂ (closed_cut (target_of request))
    (c.in_ok-steps.ensures ∙ ap (λ f. tree_steps c.forward.result [] t f) c.body_of.ensures ∙ same)
    (c.closing_in-closing.ensures ∙ ap closing_in c.requires.formula ∙ whole_factor request t c.requires.tree.size)

pub returns-clause-meaning : goal.returns-clause-meaning
returns-clause-meaning c x =
    let request = c.args.c.now in
    let t = breakdown_of c.args.tree.now in
    let valid = c.request-request.ensures.valid in
    ap (λ f. smp_on request.modulus f x) (returns-clause-form c)
    ∙ smp_transforms (target_of request) (whole_of request t) x (layouts_fit request t valid c.requires.tree)
    ∙ wholes_do request t x valid c.requires.tree

pub returns-clause-formula : goal.returns-clause-formula
returns-clause-formula c x =
    returns-clause-meaning c x
    ∙ sym (whole_formula c.args.c.now (breakdown_of c.args.tree.now) c.args.formula c.request-request.ensures.valid
    c.requires.tree c.requires.formula x)

pub returns-clause-operations : goal.returns-clause-operations
returns-clause-operations c =
    let request = c.args.c.now in
    let t = breakdown_of c.args.tree.now in
    let valid = c.request-request.ensures.valid in
    ap (λ f. request.procs * sum (smp_shares request.weight request.modulus f)) (returns-clause-form c)
    ∙ smp_costs request.weight (target_of request) (whole_of request t) (layouts_fit request t valid c.requires.tree)
    ∙ wholes_cost request t valid c.requires.tree

pub returns-clause-shape : goal.returns-clause-shape
returns-clause-shape c =
    let request = c.args.c.now in
    let t = breakdown_of c.args.tree.now in
    let valid = c.request-request.ensures.valid in
    subst IsShaped (sym (returns-clause-form c))
    (smp_shaped (target_of request) (whole_of request t) (layouts_fit request t valid c.requires.tree))

pub returns-clause-lines : goal.returns-clause-lines
returns-clause-lines c =
    let request = c.args.c.now in
    let t = breakdown_of c.args.tree.now in
    let valid = c.request-request.ensures.valid in
    let line = valid.in_range.line.0 in
    subst MovesWhole (sym (returns-clause-form c))
    (moves_whole (smp_of (target_of request) (whole_of request t)) (omega (arith, line))
    (smp_shaped (target_of request) (whole_of request t) (layouts_fit request t valid c.requires.tree)))

pub returns-clause-fits : goal.returns-clause-fits
returns-clause-fits c =
    let request = c.args.c.now in
    let t = breakdown_of c.args.tree.now in
    let valid = c.request-request.ensures.valid in
    record {
      smp = record {
        whole = whole_of request t;
        shares = layouts_fit request t valid c.requires.tree;
        form = returns-clause-form c;
      };
      good = wholes_are_good request t valid c.requires.tree;
    }

pub returns-clause-tree : goal.returns-clause-tree
returns-clause-tree c =
    record { valid = c.request-request.ensures.valid; tree = c.requires.tree; form = returns-clause-form c }
