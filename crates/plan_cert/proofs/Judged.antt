-- What is judged of a value by the rows over the forward request.
use Rattle.std.proofs.Common.{◌≡◌, ℕ, List, Some, All, ap, subst, ◌∙◌}
use Rattle.matrix_meaning.specs.declared.Dimensions.TheVariants.{One}
use Rattle.matrix_meaning.specs.declared.Request.{Request}
use Rattle.matrix_meaning.specs.Parts.{forward_of}
use Rattle.serde_json.specs.Data.{Data}
use Rattle.tree_model.specs.Chosen.{IsWholeLeast, closing_cost}
use Rattle.tree_model.proofs.WholeTrees.{forward_size}
use Rattle.plan_cert.specs.declared.certificate.Row.{Row}
use Rattle.plan_cert.specs.declared.verdict.Verdict.TheVariants.{Least}
use Rattle.plan_cert.specs.Certificate.{cost_at, HasRows, IsClosedLeast, IsRightRow}
use Rattle.plan_cert.specs.Document.{document_rows}
use Rattle.plan_cert.specs.Verdict.{IsValueVerdict}
use Rattle.plan_cert.proofs.Certified.{least_of_closed}

module _ (c f : Request) (d : Data) (closing : ℕ) (rows : List Row) (f_is : f ≡ forward_of c)
    (closing_is : closing ≡ closing_cost c)
    (reads : document_rows c.size c.weight d ≡ Some rows) where
  f_size : f.size ≡ c.size
  f_size = ap (λ (r : Request). r.size) f_is ∙ forward_size c

  pub least_verdict : (cost : ℕ) → HasRows f rows → All (IsRightRow f closing (cost_at rows)) rows
      → cost ≡ cost_at rows f.size → IsValueVerdict c d (Least cost)
  least_verdict cost wanted right is = (
    rows,
    record {
      certificate = record { reads = reads; wanted = subst (λ (r : Request). HasRows r rows) f_is wanted };
      right =
          subst (λ (n : ℕ). All (IsRightRow (forward_of c) n (cost_at rows)) rows) closing_is
          (subst (λ (r : Request). All (IsRightRow r closing (cost_at rows)) rows) f_is right);
      whole = is ∙ ap (cost_at rows) f_size;
    },
  )

module _ (c f : Request) (closing : ℕ) (f_is : f ≡ forward_of c) (closing_is : closing ≡ closing_cost c) where
  pub least_whole : (cost : ℕ) → c.dimensions ≡ One → IsClosedLeast f closing cost → IsWholeLeast c cost
  least_whole cost one h =
      least_of_closed c cost one
      (subst (λ (n : ℕ). IsClosedLeast (forward_of c) n cost) closing_is
      (subst (λ (r : Request). IsClosedLeast r closing cost) f_is h))
