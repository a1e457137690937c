use Rattle.std.proofs.Common.{rules, ap, subst, sym, ◌∙◌, ◌%◌}
use Rattle.matrix_meaning.specs.declared.Request.{Request}
use Rattle.tree_model.specs.Breakdown.{breakdown_of, size_of}
use Rattle.tree_model.specs.Whole.{IsTreeOf}
use Rattle.breakdown.proofs.Sizes.{left_divides, right_divides, product_size, rule_factors, node_expansion, dim_parts}
use Rattle.breakdown.proofs.+formula.Goals as goal

pub node_formula-parts_by-first-requires : goal.node_formula-parts_by-first-requires
node_formula-parts_by-first-requires t c =
    dim_parts c.args.p.now c.args.rule (size_of (breakdown_of c.args.a.now)) (size_of (breakdown_of c.args.b.now))
    c.requires.tree.2

pub node_formula-formula-requires : goal.node_formula-formula-requires
node_formula-formula-requires t c = (
  search rules,
  (
    subst (λ (p : Request). IsTreeOf p (breakdown_of c.args.a.now)) (sym c.parts_by-first.ensures.left)
        c.requires.tree.3,
    ap (λ (p : Request). p.size % size_of (breakdown_of c.args.a.now)) c.parts_by-first.ensures.left
        ∙ left_divides c.args.p.now c.args.rule _ (size_of (breakdown_of c.args.b.now)) c.requires.tree.2
        c.requires.divides,
  ),
)

pub node_formula-formula-requires-2 : goal.node_formula-formula-requires-2
node_formula-formula-requires-2 t c = (
  search rules,
  (
    subst (λ (p : Request). IsTreeOf p (breakdown_of c.args.b.now)) (sym c.parts_by-first.ensures.right)
        c.requires.tree.4,
    ap (λ (p : Request). p.size % size_of (breakdown_of c.args.b.now)) c.parts_by-first.ensures.right
        ∙ right_divides c.args.p.now c.args.rule (size_of (breakdown_of c.args.a.now)) _ c.requires.tree.2
        c.requires.divides,
  ),
)

pub node_formula-by_rule-requires-clause-size : goal.node_formula-by_rule-requires-clause-size
node_formula-by_rule-requires-clause-size t c =
    product_size c.args.p.now c.args.rule (breakdown_of c.args.a.now) (breakdown_of c.args.b.now) _ _
    (rw c.parts_by-first.ensures.left at c.in_ok-left.ensures)
    (rw c.parts_by-first.ensures.right at c.in_ok-right.ensures)
    c.request.ensures.valid c.requires.tree c.requires.divides

pub node_formula-by_rule-requires-clause-factors : goal.node_formula-by_rule-requires-clause-factors
node_formula-by_rule-requires-clause-factors t c =
    rule_factors c.args.p.now c.args.rule (breakdown_of c.args.a.now) (breakdown_of c.args.b.now) _ _
    (rw c.parts_by-first.ensures.left at c.in_ok-left.ensures)
    (rw c.parts_by-first.ensures.right at c.in_ok-right.ensures)
    c.requires.tree

pub node_formula-returns : goal.node_formula-returns
node_formula-returns t c =
    node_expansion c.args.p.now c.args.rule (breakdown_of c.args.a.now) (breakdown_of c.args.b.now) _ _
    (rw c.parts_by-first.ensures.left at c.in_ok-left.ensures)
    (rw c.parts_by-first.ensures.right at c.in_ok-right.ensures)
    _ c.in_ok-f.ensures
