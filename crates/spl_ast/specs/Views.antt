-- What a node is seen as.
use Rattle.spl_ast.specs.declared.Node.{Node}
use Rattle.spl_ast.specs.declared.Node.TheVariants as node
use Rattle.spl_ast.specs.Formula.{Formula, Identity, Fourier, Hadamard, Twiddles, Diagonal, Stride, Permutation, GoodThomasIn, GoodThomasOut, Product, TensorLeft, TensorRight, DirectSum, Pending}

abbrev pub formula_of : Node → Formula
formula_of (node.I n) = Identity n
formula_of (node.Dft n w) = Fourier n w
formula_of (node.Wht n) = Hadamard n
formula_of (node.Twiddle n s w) = Twiddles n s w
formula_of (node.Diag c) = Diagonal c.items
formula_of (node.L n r) = Stride n r
formula_of (node.Perm k) = Permutation k.items
formula_of (node.GtIn r s) = GoodThomasIn r s
formula_of (node.GtOut r s) = GoodThomasOut r s
formula_of (node.Compose a b) = Product a.value b.value
formula_of (node.TensorLeft a k) = TensorLeft a.value k
formula_of (node.TensorRight k a) = TensorRight k a.value
formula_of (node.DirectSum a b) = DirectSum a.value b.value
formula_of (node.Todo a) = Pending a.value
