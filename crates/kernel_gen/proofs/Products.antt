-- The code of trees, one for each dimension, on the machine.
use Rattle.std.proofs.Common.{ℕ, ◌+◌, ◌*◌, ◌^◌, ◌<◌, ◌≤◌, arith, refl, add-zero, mul-le-mul_left}
use Rattle.std.proofs.Math.Nat.{mul-le-mul_right}
use Rattle.matrix_meaning.specs.Kind.{transform}
use Rattle.operators.proofs.Lists.{length-list_below}
use Rattle.tree_model.specs.Trees.{PlainTrees, single, tensor, trees_size, trees_on, AreWords}
use Rattle.tree_model.specs.Breakdown.{size_of}
use Rattle.tree_model.proofs.Sizes.{one_le_size_of, word_sizes}
use Rattle.tree_model.specs.declared.tree.Rule.TheVariants.{Split}
use Rattle.kernel_gen.specs.Kernel.{node_make, tree_make, trees_kernel, trees_make}
use Rattle.tree_model.specs.KernelCosts.{CanMake, kernel_cost, trees_cost}
use Rattle.kernel_gen.proofs.KernelSizes.{trees-positive}
use Rattle.kernel_gen.proofs.KernelLemmas.{does-any, firsts, firsts-below}
use Rattle.kernel_gen.proofs.Pieces.{Does, DoesAt, does-same}
use Rattle.kernel_gen.proofs.Trees.{does-split}

does-trees : (m weight : ℕ) (trees : PlainTrees) → 2 ≤ m → CanMake m trees →
    Does m weight (trees_size trees) (trees_size trees) (trees_cost weight m trees) (trees_make m trees)
    (trees_on m trees)
does-trees m weight (single kind root tree) modulus can = does-any m weight kind tree root modulus can.0 can.1
does-trees m weight (tensor kind root tree others) modulus can =
    let r = size_of tree in
    let s = trees_size others in
    let a = tree_make m kind tree root in
    let b = trees_make m others in
    let cost = kernel_cost weight m kind tree root in
    let price = trees_cost weight m others in
    let f = trees_on m (tensor kind root tree others) in
    does-same m weight (r * s) (r * s) _ (s * cost + r * price) (node_make m Split r s 1 a b) f f (add-zero _) (λ x size small. refl) (λ x size. length-list_below (r * s) _)
    (does-split m weight modulus r s 1 cost price a b f (transform kind m r root) (trees_on m others) (λ x. refl)
    (λ x. length-list_below (r * s) _)
    (does-any m weight kind tree root modulus can.0.0 can.0.1)
    (does-trees m weight others modulus can.1))

-- what the kernel of trees does in a lane
pub trees-does : (m weight : ℕ) (trees : PlainTrees) → 2 ≤ m → CanMake m trees →
    DoesAt m weight (trees_size trees) (trees_cost weight m trees) (firsts (trees_size trees)) (trees_size trees)
    (trees_kernel m trees) (trees_on m trees)
trees-does m weight trees modulus can =
    let n = trees_size trees in
    let done : Does m weight n n (trees_cost weight m trees) (trees_make m trees) (trees_on m trees) = does-trees m weight trees modulus can in
    done.at (firsts n) n (length-list_below n _) (firsts-below n)

-- the sizes of the parts, and of their products, are words where the whole is
words-below : (m n : ℕ) (trees : PlainTrees) → CanMake m trees → trees_size trees ≤ n → n < 2 ^ 32 → AreWords trees
words-below m n (single kind root tree) can low fits = word_sizes kind tree can.0 (omega arith)
words-below m n (tensor kind root tree others) can low fits =
    let first : 1 ≤ size_of tree = one_le_size_of kind tree can.0.0 in
    let left : size_of tree * 1 ≤ size_of tree * trees_size others = mul-le-mul_left (size_of tree) (trees-positive m others can.1) in
    let right : 1 * trees_size others ≤ size_of tree * trees_size others = mul-le-mul_right (trees_size others) first in
    (word_sizes kind tree can.0.0 (omega arith), words-below m n others can.1 (omega arith) fits, omega arith)
