-- No condition on a tree names the root.
use Rattle.std.proofs.Common.{◌≡◌, ℕ, sym, subst}
use Rattle.matrix_meaning.specs.declared.Kind.{Kind}
use Rattle.matrix_meaning.specs.declared.Kind.TheVariants.{Dft}
use Rattle.matrix_meaning.specs.declared.Request.{Request}
use Rattle.matrix_meaning.specs.Parts.{inverted}
use Rattle.tree_model.specs.declared.tree.Rule.{Rule}
use Rattle.tree_model.specs.declared.tree.Rule.TheVariants.{Gt, Ct, Split, Dim}
use Rattle.tree_model.specs.Admissible.{Fits, RootFits, RuleFits, IsAdmissible}
use Rattle.tree_model.specs.Breakdown.{Breakdown, leaf, node, size_of, IsWellFormed}
use Rattle.tree_model.specs.Inverses.{InverseAdmits}

module _ (c : Request) (k : Kind) (v : ℕ) where
  abbrev other : Request
  other = record c { kind = k; root = v }

  fits : (r s : ℕ) → Fits c r s → Fits other r s
  fits r s f = record { left = f.left; right = f.right; product = f.product; procs = f.procs; lanes = f.lanes }

  rule-fits : (rule : Rule) (r s : ℕ) → RuleFits c rule r s → RuleFits other rule r s
  rule-fits Gt r s f = f
  rule-fits Ct r s f = fits r s f
  rule-fits Split r s f = fits r s f
  rule-fits Dim r s f = fits r s f

  root-fits : (t : Breakdown) → RootFits c t → RootFits other t
  root-fits (leaf d) f = f
  root-fits (node rule a b) f = rule-fits rule (size_of a) (size_of b) f

  pub admits : (t : Breakdown) → c.kind ≡ k → IsAdmissible c t → IsAdmissible other t
  admits t e h = record {
    well_formed = subst (λ (kind : Kind). IsWellFormed kind t) e h.well_formed;
    size = h.size;
    root = λ same shared. root-fits t (h.root same shared);
  }

pub inverse_admits : InverseAdmits
inverse_admits c t dft = (admits (inverted c) c.kind c.root t (sym dft), admits c Dft (inverted c).root t dft)
