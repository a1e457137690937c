-- What a rule finds under the tensors of a path, in a part of a layout that stands for a number of words.
use Rattle.sigma_lower.proofs.Words.{◌≡◌, ℕ, ◌*◌, ◌≤◌, arith, sym, ◌∙◌, AreCoprime, Layout, by, layout_size}
use Rattle.sigma_lower.proofs.Words.{IsGoodLayout, Path, size_under, copies_of, size_under-copies, Rule, Gt}
use Rattle.sigma_lower.proofs.TreeTerms.Sizes.{part-le}
use Rattle.smp_rewrite.specs.Layout.Tree.{CanPart}

-- the words, at least one, that a request may have
pub record IsSize (size : ℕ) : Type 0 where
  pub low : 1 ≤ size
  pub high : size ≤ 1048576

-- r * s of them under the path, in parts of r and s
pub record IsRuleIn (size : ℕ) (rule : Rule) (path : Path) (r s : ℕ) : Type 0 where
  pub fills : size_under path (r * s) ≡ size
  pub left : 2 ≤ r
  pub right : 2 ≤ s
  pub parts : CanPart rule r s
  pub small : r * s ≤ 1048576
  pub within : r * s ≤ size
  pub whole : IsSize size

pub rule_in : (m size : ℕ) (rule : Rule) (root : ℕ) (path : Path) (a b : Layout) → IsSize size →
    IsGoodLayout m (by rule root a b) →
    size_under path (layout_size (by rule root a b)) ≡ size → IsRuleIn size rule path (layout_size a) (layout_size b)
rule_in m size rule root path a b whole h e =
    let n = layout_size a * layout_size b in
    let within : n ≤ size = part-le (copies_of path) n size (sym (size_under-copies path n) ∙ e) whole.low in
    record { fills = e; left = h.0.left; right = h.0.right; parts = h.0.parts; small = omega (arith, whole.high); within = within; whole = whole }

pub coprime_in : (size : ℕ) (path : Path) (r s : ℕ) → IsRuleIn size Gt path r s → AreCoprime r s
coprime_in size path r s h = record { left = omega (arith, h.left); right = omega (arith, h.right); gcd = h.parts; small = h.small }
