-- What a rule of rewriting promises.
use Rattle.std.specs.Prelude.{◌≡◌, ℕ, ◌<◌, Bool, false, ◌⊎◌}
use Rattle.spl_ast.specs.Formula.{Formula, Product, TensorLeft, TensorRight, DirectSum, Pending}
use Rattle.spl_ast.specs.Meaning.{IsSameMatrix}
use Rattle.spl_ast.specs.Shape.{IsShaped}

-- what the rule makes of a formula that it matches: the same matrix, with a smaller measure
pub record Fires (m : ℕ) (measure : Formula → ℕ) (f g : Formula) : Type 0 where
  pub shaped : IsShaped g
  pub same : IsSameMatrix m f g
  pub falls : measure g < measure f

-- a formula's measure is greater than each of its parts', and falls where one part's falls
pub record MeasuresParts (measure : Formula → ℕ) : Type 0 where
  pub product_above_first : (a b : Formula) → measure a < measure (Product a b)
  pub product_above_second : (a b : Formula) → measure b < measure (Product a b)
  pub left_above : (a : Formula) (k : ℕ) → measure a < measure (TensorLeft a k)
  pub right_above : (k : ℕ) (a : Formula) → measure a < measure (TensorRight k a)
  pub sum_above_first : (a b : Formula) → measure a < measure (DirectSum a b)
  pub sum_above_second : (a b : Formula) → measure b < measure (DirectSum a b)
  pub pending_above : (a : Formula) → measure a < measure (Pending a)
  pub product_first_falls : (a b c : Formula) → measure c < measure a → measure (Product c b) < measure (Product a b)
  pub product_second_falls : (a b c : Formula) → measure c < measure b → measure (Product a c) < measure (Product a b)
  pub left_falls : (a c : Formula) (k : ℕ) → measure c < measure a → measure (TensorLeft c k) < measure (TensorLeft a k)
  pub right_falls : (k : ℕ) (a c : Formula) → measure c < measure a → measure (TensorRight k c) < measure (TensorRight k a)
  pub sum_first_falls : (a b c : Formula) → measure c < measure a → measure (DirectSum c b) < measure (DirectSum a b)
  pub sum_second_falls : (a b c : Formula) → measure c < measure b → measure (DirectSum a c) < measure (DirectSum a b)
  pub pending_falls : (a c : Formula) → measure c < measure a → measure (Pending c) < measure (Pending a)

-- neither the formula nor any part of it, at any depth, passes the test
abbrev pub HasNoMatch : (Formula → Bool) → Formula → Type 0
HasNoMatch test (Product a b) = (test (Product a b) ≡ false) × HasNoMatch test a × HasNoMatch test b
HasNoMatch test (TensorLeft a k) = (test (TensorLeft a k) ≡ false) × HasNoMatch test a
HasNoMatch test (TensorRight k a) = (test (TensorRight k a) ≡ false) × HasNoMatch test a
HasNoMatch test (DirectSum a b) = (test (DirectSum a b) ≡ false) × HasNoMatch test a × HasNoMatch test b
HasNoMatch test (Pending a) = (test (Pending a) ≡ false) × HasNoMatch test a
HasNoMatch test f = test f ≡ false

-- no part of the formula, at any depth, passes the test
abbrev pub HasNoPartMatch : (Formula → Bool) → Formula → Type 0
HasNoPartMatch test (Product a b) = HasNoMatch test a × HasNoMatch test b
HasNoPartMatch test (TensorLeft a k) = HasNoMatch test a
HasNoPartMatch test (TensorRight k a) = HasNoMatch test a
HasNoPartMatch test (DirectSum a b) = HasNoMatch test a × HasNoMatch test b
HasNoPartMatch test (Pending a) = HasNoMatch test a
HasNoPartMatch test f = Unit {0}

-- what rewriting gives: the same matrix, as a formula that is the old one or has a smaller measure
pub record Rewrites (m : ℕ) (measure : Formula → ℕ) (f g : Formula) : Type 0 where
  pub shaped : IsShaped g
  pub same : IsSameMatrix m f g
  pub not_above : (g ≡ f) ⊎ (measure g < measure f)
