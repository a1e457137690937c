-- Each part of a node has fewer parts than the node.
use Rattle.std.specs.Prelude.{◌≤◌, max}
use Rattle.std.proofs.Common.{arith}
use Rattle.spl_ast.specs.declared.Node.{Node}
use Rattle.spl_ast.specs.declared.Node.TheVariants.{I, Dft, Wht, Twiddle, Diag, L, Perm, GtIn, GtOut, Compose, TensorLeft, TensorRight, DirectSum, Todo}
use Rattle.spl_ast.specs.declared.Spl.TheDeep.{deep-Node}
use Rattle.spl_ast.specs.Formula.{parts_of}
use Rattle.spl_ast.specs.Views.{formula_of}

pub deep_le-parts_of : (n : Node) → max (deep-Node n) 0 ≤ parts_of (formula_of n)
deep_le-parts_of (I n) = omega arith
deep_le-parts_of (Dft n w) = omega arith
deep_le-parts_of (Wht n) = omega arith
deep_le-parts_of (Twiddle n s w) = omega arith
deep_le-parts_of (Diag c) = omega arith
deep_le-parts_of (L n r) = omega arith
deep_le-parts_of (Perm k) = omega arith
deep_le-parts_of (GtIn r s) = omega arith
deep_le-parts_of (GtOut r s) = omega arith
deep_le-parts_of (Compose a b) = omega arith
deep_le-parts_of (TensorLeft a k) = omega arith
deep_le-parts_of (TensorRight k a) = omega arith
deep_le-parts_of (DirectSum a b) = omega arith
deep_le-parts_of (Todo a) = omega arith
