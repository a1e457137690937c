-- A matrix under tensors: its size, one tensor more, products, and equal matrices.
use Rattle.std.proofs.Common.{◌≡◌, ℕ, ◌*◌, refl, ap, ◌∙◌, List, [], ◌∷◌, ◌++◌, arith}
use Rattle.operators.specs.Identities.{HasSize}
use Rattle.operators.specs.Operator.{Operator, on_blocks, on_columns}
use Rattle.operators.proofs.Blocks.{tensor_of_product}
use Rattle.operators.proofs.Lists.{length-list_below, on_columns-same, on_blocks-same}
use Rattle.operators.specs.declared.paths.Tensor.{Tensor}
use Rattle.operators.specs.declared.paths.Tensor.TheVariants.{Blocks, Columns}
use Rattle.operators.specs.Paths.Tensors.{Path, count_of, grown, size_under, copies_of, one_under, under}

pub size_under-push : (path : Path) (t : Tensor) (n : ℕ) → size_under (path ++ t ∷ []) n ≡ size_under path (grown t n)
size_under-push [] t n = refl
size_under-push (u ∷ path) t n = ap (grown u) (size_under-push path t n)

pub copies_of-push : (path : Path) (t : Tensor) → copies_of (path ++ t ∷ []) ≡ copies_of path * count_of t
copies_of-push [] t = omega arith
copies_of-push (u ∷ path) t = ap (λ n. count_of u * n) (copies_of-push path t) ∙ omega arith

-- the copies fill the whole
pub size_under-copies : (path : Path) (n : ℕ) → size_under path n ≡ copies_of path * n
size_under-copies [] n = omega arith
size_under-copies (Blocks c ∷ path) n = ap (λ s. c * s) (size_under-copies path n) ∙ omega arith
size_under-copies (Columns c ∷ path) n = ap (λ s. s * c) (size_under-copies path n) ∙ omega arith

pub under-push : (path : Path) (t : Tensor) (n : ℕ) (a : Operator) (x : List ℕ) →
    under (path ++ t ∷ []) n a x ≡ under path (grown t n) (one_under t n a) x
under-push [] t n a x = refl
under-push (Blocks c ∷ path) t n a x =
    ap (λ k. on_blocks c k (under (path ++ t ∷ []) n a) x) (size_under-push path t n)
    ∙ on_blocks-same c (size_under path (grown t n)) _ _ x (λ y. under-push path t n a y)
under-push (Columns c ∷ path) t n a x =
    ap (λ k. on_columns k c (under (path ++ t ∷ []) n a) x) (size_under-push path t n)
    ∙ on_columns-same (size_under path (grown t n)) c _ _ x (λ y. under-push path t n a y)

pub one_under-size : (t : Tensor) (n : ℕ) (a : Operator) → HasSize (grown t n) (one_under t n a)
one_under-size (Blocks k) n a x = length-list_below _ _
one_under-size (Columns k) n a x = length-list_below _ _

pub under-size : (path : Path) (n : ℕ) (a : Operator) → HasSize n a → HasSize (size_under path n) (under path n a)
under-size [] n a h = h
under-size (t ∷ path) n a h = one_under-size t (size_under path n) (under path n a)

one_under-product : (t : Tensor) (n : ℕ) (a b : Operator) (x : List ℕ) → HasSize n b →
    one_under t n (λ y. a (b y)) x ≡ one_under t n a (one_under t n b x)
one_under-product (Blocks k) n a b x h = (tensor_of_product n k a b x h).1
one_under-product (Columns k) n a b x h = (tensor_of_product n k a b x h).0

pub one_under-same : (t : Tensor) (n : ℕ) (a b : Operator) (x : List ℕ) → ((y : List ℕ) → a y ≡ b y) →
    one_under t n a x ≡ one_under t n b x
one_under-same (Blocks k) n a b x h = on_blocks-same k n a b x h
one_under-same (Columns k) n a b x h = on_columns-same n k a b x h

pub under-product : (path : Path) (n : ℕ) (a b : Operator) (x : List ℕ) → HasSize n b →
    under path n (λ y. a (b y)) x ≡ under path n a (under path n b x)
under-product [] n a b x h = refl
under-product (t ∷ path) n a b x h =
    one_under-same t (size_under path n) _ (λ y. under path n a (under path n b y)) x (λ y. under-product path n a b y h)
    ∙ one_under-product t (size_under path n) (under path n a) (under path n b) x (under-size path n b h)
