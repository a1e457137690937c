-- The code of a formula is that of every formula with the same summands.
use Rattle.std.proofs.Common.{◌≡◌, ℕ, ◌+◌, ◌*◌, ◌≤◌, ◌∙◌, refl, sym, subst, arith, ap, ap₂, add_assoc}
use Rattle.spl_ast.specs.Halves.Summands.{summands}
use Rattle.spl_ast.proofs.HalvesLemmas.Grouping.{KnowsSums}
use Rattle.spl_ast.proofs.HalvesLemmas.Sums.{alike, parts_alike}
use Rattle.generate.specs.FormulaCode.Code.{IsCodeOf}
use Rattle.sigma_lower.specs.Operations.{operations}
use Rattle.icode.specs.Plain.{PlainProgram}
use Rattle.spl_ast.specs.Meaning.{IsVector}
use Rattle.spl_ast.specs.Formula.{Formula, size_of, parts_of}
use Rattle.spl_ast.specs.Meaning.{IsSameMatrix}

operations-know : (weight m : ℕ) → KnowsSums (λ f g. operations weight m g ≡ operations weight m f)
operations-know weight m = record {
  same = λ f. refl;
  chain = λ f g h r q. q ∙ r;
  grouped = λ a b c. sym (add_assoc (operations weight m a) (operations weight m b) (operations weight m c));
  sum = λ a b c d r q. ap₂ (λ n k. n + k) r q;
  product = λ a b c d r q. ap₂ (λ n k. n + k) r q;
  left = λ a c k r. ap (λ n. k * n) r;
  right = λ k a c r. ap (λ n. k * n) r;
  pending = λ a c r. r;
}

pub few_parts : (f g : Formula) → summands g ≡ summands f → parts_of f ≤ 65536 → parts_of g ≤ 65536
few_parts f g same few = omega (arith, parts_alike f g same, few)

pub same_code : (m : ℕ) (f g : Formula) (p : PlainProgram) → summands g ≡ summands f → IsSameMatrix m f g →
    IsCodeOf m g p → IsCodeOf m f p
same_code m f g p regrouped same code = record {
  header = record {
    size = code.header.size ∙ same.size;
    modulus = code.header.modulus;
    procs = code.header.procs;
    line = code.header.line;
    lanes = code.header.lanes;
  };
  limits = code.limits;
  tables = code.tables;
  fits = code.fits;
  phases = code.phases;
  apart = code.apart;
  product = λ x turns v mine.
      code.product x turns (subst (λ (n : ℕ). IsVector m n x) (sym same.size) v) mine
      ∙ same.meaning x v;
  again = λ left x turns are v.
      code.again left x turns are (subst (λ (n : ℕ). IsVector m n x) (sym same.size) v)
      ∙ same.meaning x v;
  fresh = code.fresh;
  operations = code.operations ∙ alike (operations 1 m) (operations-know 1 m) f g regrouped;
}
