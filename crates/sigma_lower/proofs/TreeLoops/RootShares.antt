-- The numbers of a root of r * s that p processors and v lanes share.
use Rattle.sigma_lower.proofs.Words.{◌≡◌, ℕ, ◌*◌, ◌/◌, ◌<◌, ◌≤◌, arith, sym, ap, ◌∙◌, mul_comm, le-mul_of_pos_right}
use Rattle.sigma_lower.proofs.Words.{mul-le-mul_right, Target, CanShareLayout, HasParts, Layout, positive-product}
use Rattle.sigma_lower.proofs.Words.{right_positive}
use Rattle.std.proofs.Math.Nat.{mul-div_cancel_left, mul-le-mul_left}
use Rattle.sigma_lower.proofs.TreeLoops.PartRules.{IsSize}
use Rattle.sigma_lower.proofs.TreeLoops.RootDealt.{dealt_parts}

-- each processor and each lane has as many rows, and as many columns
pub record AreShares (size p v r s : ℕ) : Type 0 where
  pub procs : 0 < p
  pub lanes : 0 < v
  pub rows : r ≡ p * (v * (r / p / v))
  pub columns : s ≡ p * (v * (s / p / v))
  pub left : 2 ≤ r
  pub right : 2 ≤ s
  pub product : r * s ≡ size
  pub whole : IsSize size

-- ---- from a layout that can be shared

pub shares_of : (c : Target) (l : Layout) (r s : ℕ) → CanShareLayout c l → HasParts c r s → 2 ≤ r → 2 ≤ s →
    r * s ≡ c.size → AreShares c.size c.procs c.lanes r s
shares_of c l r s h parts two_r two_s product =
    let dealt = dealt_parts c l r s h parts in
    record {
      procs = h.procs;
      lanes = h.lanes;
      rows = sym dealt.0;
      columns = sym dealt.1;
      left = two_r;
      right = two_s;
      product = product;
      whole = record { low = h.some; high = h.small };
    }

-- ---- what follows

module _ (size p v r s : ℕ) (h : AreShares size p v r s) where
  pub rows_some : 0 < r / p / v
  rows_some = right_positive v (r / p / v) (right_positive p (v * (r / p / v)) (omega (arith, h.rows, h.left)))

  pub columns_some : 0 < s / p / v
  columns_some = right_positive v (s / p / v) (right_positive p (v * (s / p / v)) (omega (arith, h.columns, h.right)))

  -- the vectors of a row
  pub tiles_are : s / v ≡ s / p / v * p
  tiles_are =
      let e : s ≡ v * (s / p / v * p) = h.columns ∙ omega arith in
      ap (λ n. n / v) e ∙ mul-div_cancel_left (s / p / v * p) h.lanes

  pub tiles_fill : v * (s / v) ≡ s
  tiles_fill = ap (λ n. v * n) tiles_are ∙ omega arith ∙ sym h.columns

  pub tiles_some : 0 < s / v
  tiles_some = right_positive v (s / v) (omega (arith, tiles_fill, h.right))

  procs_rows : p ≤ r
  procs_rows = let more : p ≤ p * (v * (r / p / v)) = le-mul_of_pos_right {m = v * (r / p / v)} p (right_positive p (v * (r / p / v)) (omega (arith, h.rows, h.left))) in omega (arith, h.rows, more)

  procs_columns : p ≤ s
  procs_columns = let more : p ≤ p * (v * (s / p / v)) = le-mul_of_pos_right {m = v * (s / p / v)} p (right_positive p (v * (s / p / v)) (omega (arith, h.columns, h.right))) in omega (arith, h.columns, more)

  rows_part : r / p / v ≤ r
  rows_part =
      let more : r / p / v ≤ r / p / v * (p * v) = le-mul_of_pos_right {m = p * v} (r / p / v) (positive-product p v h.procs h.lanes) in
      let is : r ≡ r / p / v * (p * v) = h.rows ∙ omega arith in omega (arith, is, more)

  pub lines_small : p * s ≤ 1048576
  lines_small = let more : p * s ≤ r * s = mul-le-mul_right s procs_rows in omega (arith, h.product, h.whole.high, more)

  pub dealt_small : p * r ≤ 1048576
  dealt_small = let more : p * r ≤ s * r = mul-le-mul_right r procs_columns in let turned : s * r ≡ r * s = mul_comm s r in omega (arith, h.product, h.whole.high, more, turned)

  pub vectors_small : r / p / v * s ≤ 1048576
  vectors_small = let more : r / p / v * s ≤ r * s = mul-le-mul_right s rows_part in omega (arith, h.product, h.whole.high, more)

  pub columns_high : s ≤ 1048576
  columns_high = let more : 1 * s ≤ r * s = mul-le-mul_right s (omega (arith, h.left)) in omega (arith, more, h.product, h.whole.high)

  pub tiles_small : s / v * v ≤ 1048576
  tiles_small = omega (arith, mul_comm (s / v) v ∙ tiles_fill, columns_high)

  pub rows_high : r ≤ 1048576
  rows_high = let more : r * 1 ≤ r * s = mul-le-mul_left r (omega (arith, h.right)) in omega (arith, more, h.product, h.whole.high)

  pub rows_product : p * (v * (r / p / v)) * s ≡ size
  rows_product = ap (λ k. k * s) (sym h.rows) ∙ h.product

  pub tiles_product : p * (v * (r / p / v)) * (v * (s / v)) ≡ size
  tiles_product = ap (λ k. p * (v * (r / p / v)) * k) tiles_fill ∙ rows_product

  pub rows_size : IsSize r
  rows_size = record { low = omega (arith, h.left); high = rows_high }
