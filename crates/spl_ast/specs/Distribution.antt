-- Tensors of products.
use Rattle.std.specs.Prelude.{Bool, true, false, ℕ, ◌+◌, ◌*◌}
use Rattle.std.proofs.Common.{arith}
use Rattle.spl_ast.specs.Formula.{Formula, Product, TensorLeft, TensorRight, DirectSum, Pending}
use Rattle.spl_ast.specs.Rewriting.{MeasuresParts}

abbrev pub is_product : Formula → Bool
is_product (Product a b) = true
is_product f = false

-- a tensor product, of a product of matrices with an identity
abbrev pub is_tensor_of_product : Formula → Bool
is_tensor_of_product (TensorLeft a k) = is_product a
is_tensor_of_product (TensorRight k a) = is_product a
is_tensor_of_product f = false

-- A weight that falls where a tensor goes to the factors of its product
abbrev pub tensor_weight : Formula → ℕ
tensor_weight (Product a b) = tensor_weight a + tensor_weight b + 1
tensor_weight (TensorLeft a k) = 3 * tensor_weight a + 1
tensor_weight (TensorRight k a) = 3 * tensor_weight a + 1
tensor_weight (DirectSum a b) = tensor_weight a + tensor_weight b + 1
tensor_weight (Pending a) = tensor_weight a + 1
tensor_weight f = 0

pub tensor_weight_measures : MeasuresParts tensor_weight
tensor_weight_measures = record {
  product_above_first = λ a b. omega arith;
  product_above_second = λ a b. omega arith;
  left_above = λ a k. omega arith;
  right_above = λ k a. omega arith;
  sum_above_first = λ a b. omega arith;
  sum_above_second = λ a b. omega arith;
  pending_above = λ a. omega arith;
  product_first_falls = λ a b c h. omega arith;
  product_second_falls = λ a b c h. omega arith;
  left_falls = λ a c k h. omega arith;
  right_falls = λ k a c h. omega arith;
  sum_first_falls = λ a b c h. omega arith;
  sum_second_falls = λ a b c h. omega arith;
  pending_falls = λ a c h. omega arith;
}
