-- Which formulas have a text.
use Rattle.std.specs.Prelude.{ℕ, ◌+◌, ◌≤◌, max}
use Rattle.spl_ast.specs.Formula.{Formula, Product, TensorLeft, TensorRight, DirectSum, Pending}

-- the most parentheses that are open at once in the formula's text
abbrev pub nesting_of : Formula → ℕ
nesting_of (Product a b) = max (nesting_of a) (nesting_of b) + 1
nesting_of (TensorLeft a k) = nesting_of a + 1
nesting_of (TensorRight k a) = nesting_of a + 1
nesting_of (DirectSum a b) = max (nesting_of a) (nesting_of b) + 1
nesting_of (Pending a) = nesting_of a + 1
nesting_of f = 1

-- no part is still to be rewritten
abbrev pub IsComplete : Formula → Type 0
IsComplete (Product a b) = IsComplete a × IsComplete b
IsComplete (TensorLeft a k) = IsComplete a
IsComplete (TensorRight k a) = IsComplete a
IsComplete (DirectSum a b) = IsComplete a × IsComplete b
IsComplete (Pending a) = ⊥
IsComplete f = Unit {0}

-- a formula that can be written as a text
pub record IsPrintable (f : Formula) : Type 0 where
  pub complete : IsComplete f
  pub shallow : nesting_of f ≤ 128
