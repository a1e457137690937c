use Rattle.std.proofs.Common.{ap, subst, sym, ◌∙◌}
use Rattle.matrix_meaning.specs.declared.Request.{Request}
use Rattle.matrix_meaning.specs.Parts.{forward_of}
use Rattle.tree_model.specs.Admissible.{CanDivide}
use Rattle.plan_cert.specs.Table.{table_data, IsTable}
use Rattle.tree_model.proofs.Sharing.{divide_of_whole}
use Rattle.plan_search.proofs.WholeChosen.{forward_divides}
use Rattle.plan_cert.proofs.writing.table_value.Goals as goal

pub table_rows-requires-clause-divides : goal.table_rows-requires-clause-divides
table_rows-requires-clause-divides c =
    subst CanDivide (sym c.forward.ensures.value)
    (forward_divides c.args.c.now (divide_of_whole c.args.c.now c.requires.one c.requires.trees))

pub returns : goal.returns
returns c = (
  c.in_ok-rows.rows.items,
  subst (λ n. IsTable (forward_of c.args.c.now) n c.in_ok-rows.rows.items) c.closing_cost.ensures.value
      (subst (λ (r : Request). IsTable r c.closing_cost.result c.in_ok-rows.rows.items) c.forward.ensures.value
      (record { wanted = c.in_ok-rows.ensures.rows; chosen = c.in_ok-rows.ensures.chosen })),
  c.in_ok-value.ensures
      ∙ ap (λ (r : Request). table_data r.size r.weight c.deref.result.now) c.request-request.ensures.value
      ∙ ap (table_data c.args.c.now.size c.args.c.now.weight) c.deref.ensures.value,
)
