use Rattle.std.proofs.Common.{subst, sym, ap, ◌∙◌}
use Rattle.matrix_meaning.specs.Parts.{forward_of}
use Rattle.matrix_meaning.specs.Valid.{IsValid}
use Rattle.tree_model.specs.Breakdown.{breakdown_of, size_of}
use Rattle.spl_ast.specs.Formula.{size_of as rows_of}
use Rattle.spl_ast.specs.Nesting.{IsPrintable}
use Rattle.breakdown.specs.Law.{IsAskedFormula}
use Rattle.breakdown.proofs.Asked.{made_formula, rows_of_formula, formula_asked, formula_does_node, forward_divides}
use Rattle.breakdown.proofs.Nesting.{formula_printable}
use Rattle.breakdown.proofs.Sizes.{node_size}
use Rattle.breakdown.proofs.expand.Goals as goal

pub returns-clause-value : goal.returns-clause-value
returns-clause-value c =
    made_formula c.args.c.now c.forward-forward.result (breakdown_of c.args.t.now) c.in_ok-by_tree.by_tree c.in_ok-f.f
    c.forward-forward.ensures.value c.in_ok-by_tree.ensures c.in_ok-f.ensures

pub returns-clause-size : goal.returns-clause-size
returns-clause-size c =
    ap rows_of (returns-clause-value c) ∙ rows_of_formula c.args.c.now (breakdown_of c.args.t.now)

pub returns-clause-node : goal.returns-clause-node
returns-clause-node c other =
    formula_does_node c.expansion_is_transform.ensures c.args.c.now (breakdown_of c.args.t.now) c.in_ok-f.f
    (subst IsValid c.forward-forward.ensures.value c.request-2.ensures.valid) c.requires.0 c.requires.1
    (returns-clause-value c) other

pub returns-clause-whole : goal.returns-clause-whole
returns-clause-whole c size =
    subst (IsAskedFormula c.args.c.now) (sym (returns-clause-value c))
    (formula_asked c.expansion_is_transform.ensures c.nodes_do_what_is_asked.ensures c.asked_of_requests.ensures.forward
    c.args.c.now (breakdown_of c.args.t.now) c.request.ensures.valid
    (subst IsValid c.forward-forward.ensures.value c.request-2.ensures.valid) c.requires.0 size)

pub returns-clause-printable : goal.returns-clause-printable
returns-clause-printable c =
    let t = breakdown_of c.args.t.now in
    let valid : IsValid (forward_of c.args.c.now) =
    subst IsValid c.forward-forward.ensures.value c.request-2.ensures.valid in
    let divides = forward_divides c.args.c.now (size_of t) c.requires.1 in
    subst IsPrintable (sym (returns-clause-value c))
    (formula_printable c.args.c.now t c.requires.0 (node_size (forward_of c.args.c.now) t valid c.requires.0 divides).1)
