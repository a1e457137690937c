-- Formulas on blocks and on columns of a list.
use Rattle.std.proofs.Common.{◌≡◌, ℕ, ◌+◌, ◌*◌, ◌/◌, ◌≤◌, ◌<◌, List, ◌++◌, take, drop, ◌∙◌, sym, subst, arith, length}
use Rattle.std.proofs.Common.{ap, ap₂, length-append, length-drop, mul_comm}
use Rattle.std.specs.List.{between}
use Rattle.std.proofs.lemmas.List.{length-take-le}
use Rattle.std.proofs.lemmas.Nat.{row_fits}
use Rattle.operators.specs.Identities.{turn}
use Rattle.operators.specs.Operator.{Operator, gather, on_blocks, on_columns, stride}
use Rattle.operators.proofs.Lists.{length-list_below}
use Rattle.operators.proofs.Places.{on_blocks_more, between-block, on_columns-turned, stride_below}
use Rattle.spl_ast.specs.Formula.{Formula, Identity, Fourier, Hadamard, Twiddles, Diagonal, Stride, Permutation}
use Rattle.spl_ast.specs.Formula.{GoodThomasIn, GoodThomasOut, Product, TensorLeft, TensorRight, DirectSum, Pending}
use Rattle.spl_ast.specs.Formula.{size_of}
use Rattle.spl_ast.specs.Meaning.{apply, IsVector}
use Rattle.spl_ast.specs.Shape.{IsShaped, IsMultiple}
use Rattle.spl_ast.proofs.Vectors.{list_vector, residue_at}

-- the length of a result depends on the length alone
pub length-apply : (m : ℕ) (f : Formula) (x : List ℕ) → IsShaped f → length x ≡ size_of f →
    length (apply m f x) ≡ size_of f
length-apply m (Identity n) x s e = e
length-apply m (Fourier n w) x s e = length-list_below n _
length-apply m (Hadamard n) x s e = length-list_below n _
length-apply m (Twiddles n r w) x s e = length-list_below n _
length-apply m (Diagonal c) x s e = length-list_below (length c) _
length-apply m (Stride n r) x s e = length-list_below n _
length-apply m (Permutation k) x s e = length-list_below (length k) _
length-apply m (GoodThomasIn r c) x s e = length-list_below (r * c) _
length-apply m (GoodThomasOut r c) x s e = length-list_below (r * c) _
length-apply m (Product a b) x s e = length-apply m a (apply m b x) s.0 (length-apply m b x s.1 (e ∙ s.2) ∙ sym s.2)
length-apply m (TensorLeft a k) x s e = length-list_below (size_of a * k) _
length-apply m (TensorRight k a) x s e = length-list_below (k * size_of a) _
length-apply m (DirectSum a b) x s e =
    let first : size_of a ≤ length x = omega (arith, e) in
    length-append (apply m a (take (size_of a) x)) (apply m b (drop (size_of a) x))
    ∙ ap₂ (λ p q. p + q)
    (length-apply m a (take (size_of a) x) s.0 (length-take-le (size_of a) x first))
    (length-apply m b (drop (size_of a) x) s.1 (omega (arith, length-drop (size_of a) x, e)))
length-apply m (Pending a) x s e = length-apply m a x s e

-- a formula on one block more
pub blocks_more : (m i size from end : ℕ) (a : Formula) (x before part : List ℕ) → IsShaped a → size ≡ size_of a →
    from ≡ i * size → end ≡ from + size → end ≤ length x →
    before ≡ on_blocks i size (apply m a) x → part ≡ apply m a (between from end x) →
    before ++ part ≡ on_blocks (i + 1) size (apply m a) x
blocks_more m i size from end a x before part shaped sized start stop inside old new =
    ap₂ (λ u v. u ++ v) old (new ∙ ap (apply m a) (between-block size i x from end start (stop ∙ ap (λ n. n + size) start) inside))
    ∙ sym (on_blocks_more i size (apply m a) x (λ y e. length-apply m a y shaped (e ∙ sized) ∙ sym sized))

pub turn_of_stride : (n r : ℕ) (x : List ℕ) → IsMultiple n r → turn r (n / r) x ≡ gather n (stride r (n / r)) x
turn_of_stride n r x multiple = ap (λ k. gather k (stride r (n / r)) x) (mul_comm r (n / r) ∙ multiple)

-- a list, turned so that its columns become blocks
pub turned_vector : (m r k : ℕ) (x turned : List ℕ) → IsVector m (r * k) x → turned ≡ turn k r x →
    IsVector m (k * r) turned
turned_vector m r k x turned v e =
    let P : List ℕ → Type 0 = λ y. IsVector m (k * r) y in
    subst P (sym e)
    (list_vector m (k * r) _ (λ p h. residue_at m (r * k) x (stride k r p) v (subst (λ n. stride k r p < n) (mul_comm k r) (stride_below k r p h).1)))

pub columns_from_turns : (r k : ℕ) (f : Operator) (x turned parts out : List ℕ) → turned ≡ turn k r x →
    parts ≡ on_blocks k r f turned → out ≡ turn r k parts → out ≡ on_columns r k f x
columns_from_turns r k f x turned parts out first second third =
    third ∙ ap (turn r k) (second ∙ ap (on_blocks k r f) first) ∙ sym (on_columns-turned r k f x)

-- a block ends within the list
pub block_inside : (count a size i : ℕ) (x : List ℕ) → i < count → size ≡ a → length x ≡ count * a →
    i * size + size ≤ length x
block_inside count a size i x below sized long =
    subst (λ n. i * size + size ≤ n) (sym (long ∙ ap (λ n. count * n) (sym sized))) (row_fits i size count size below (omega arith))
