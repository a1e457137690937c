-- A formula as a term, with no boxes: what clauses say of an `Spl`. Each formula is a square matrix.
use base.Stored.{Gv, gnil, gnum, gcons, num}
use Rattle.std.proofs.Common.{refl, sym, ap, ◌∙◌}
use Rattle.std.specs.Coded.{Coded}
use Rattle.std.specs.Prelude.{◌≡◌, zero, suc, [], ◌∷◌, ℕ, ◌+◌, ◌*◌, List, length}

pub data Formula : Type 0 where
  -- the identity
  Identity : (n : ℕ) → Formula
  -- DFT(n, w)
  Fourier : (n w : ℕ) → Formula
  -- WHT(n)
  Hadamard : (n : ℕ) → Formula
  -- T(n, s, w): w to the power i * k at the place i * s + k
  Twiddles : (n s w : ℕ) → Formula
  Diagonal : (c : List ℕ) → Formula
  -- L(n, r)
  Stride : (n r : ℕ) → Formula
  -- the item k_i at the place i
  Permutation : (k : List ℕ) → Formula
  GoodThomasIn : (r s : ℕ) → Formula
  GoodThomasOut : (r s : ℕ) → Formula
  -- A times B: B is applied first
  Product : (a b : Formula) → Formula
  -- A tensor I_k
  TensorLeft : (a : Formula) (k : ℕ) → Formula
  -- I_k tensor A
  TensorRight : (k : ℕ) (a : Formula) → Formula
  -- A on the first part, B on the rest
  DirectSum : (a b : Formula) → Formula
  -- a part still to be rewritten
  Pending : (a : Formula) → Formula

-- the number of rows, which is that of columns
abbrev pub size_of : Formula → ℕ
size_of (Identity n) = n
size_of (Fourier n w) = n
size_of (Hadamard n) = n
size_of (Twiddles n s w) = n
size_of (Diagonal c) = length c
size_of (Stride n r) = n
size_of (Permutation k) = length k
size_of (GoodThomasIn r s) = r * s
size_of (GoodThomasOut r s) = r * s
size_of (Product a b) = size_of a
size_of (TensorLeft a k) = size_of a * k
size_of (TensorRight k a) = k * size_of a
size_of (DirectSum a b) = size_of a + size_of b
size_of (Pending a) = size_of a

-- the number of formulas that are made of others
abbrev pub parts_of : Formula → ℕ
parts_of (Product a b) = parts_of a + parts_of b + 1
parts_of (TensorLeft a k) = parts_of a + 1
parts_of (TensorRight k a) = parts_of a + 1
parts_of (DirectSum a b) = parts_of a + parts_of b + 1
parts_of (Pending a) = parts_of a + 1
parts_of f = 0

-- a formula is stored as a tree of numbers, which gives it back
abbrev pub list_tree : List ℕ → Gv
list_tree [] = gnil
list_tree (n ∷ ns) = gcons (gnum n) (list_tree ns)

abbrev pub tree_list : Gv → List ℕ
tree_list gnil = []
tree_list (gnum n) = []
tree_list (gcons a b) = num a ∷ tree_list b

pub tree_list-list_tree : (ns : List ℕ) → tree_list (list_tree ns) ≡ ns
tree_list-list_tree [] = refl
tree_list-list_tree (n ∷ ns) = ap (λ t. n ∷ t) (tree_list-list_tree ns)

abbrev pub tree_of : Formula → Gv
tree_of (Identity n) = gcons (gnum 0) (gnum n)
tree_of (Fourier n w) = gcons (gnum 1) (gcons (gnum n) (gnum w))
tree_of (Hadamard n) = gcons (gnum 2) (gnum n)
tree_of (Twiddles n s w) = gcons (gnum 3) (gcons (gnum n) (gcons (gnum s) (gnum w)))
tree_of (Diagonal c) = gcons (gnum 4) (list_tree c)
tree_of (Stride n r) = gcons (gnum 5) (gcons (gnum n) (gnum r))
tree_of (Permutation k) = gcons (gnum 6) (list_tree k)
tree_of (GoodThomasIn r s) = gcons (gnum 7) (gcons (gnum r) (gnum s))
tree_of (GoodThomasOut r s) = gcons (gnum 8) (gcons (gnum r) (gnum s))
tree_of (Product a b) = gcons (gnum 9) (gcons (tree_of a) (tree_of b))
tree_of (TensorLeft a k) = gcons (gnum 10) (gcons (tree_of a) (gnum k))
tree_of (TensorRight k a) = gcons (gnum 11) (gcons (gnum k) (tree_of a))
tree_of (DirectSum a b) = gcons (gnum 12) (gcons (tree_of a) (tree_of b))
tree_of (Pending a) = gcons (gnum 13) (tree_of a)

abbrev pub formula_in : Gv → Formula
formula_in (gcons (gnum zero) (gnum n)) = Identity n
formula_in (gcons (gnum (suc zero)) (gcons (gnum n) (gnum w))) = Fourier n w
formula_in (gcons (gnum (suc (suc zero))) (gnum n)) = Hadamard n
formula_in (gcons (gnum (suc (suc (suc zero)))) (gcons (gnum n) (gcons (gnum s) (gnum w)))) = Twiddles n s w
formula_in (gcons (gnum (suc (suc (suc (suc zero))))) c) = Diagonal (tree_list c)
formula_in (gcons (gnum (suc (suc (suc (suc (suc zero)))))) (gcons (gnum n) (gnum r))) = Stride n r
formula_in (gcons (gnum (suc (suc (suc (suc (suc (suc zero))))))) k) = Permutation (tree_list k)
formula_in (gcons (gnum (suc (suc (suc (suc (suc (suc (suc zero)))))))) (gcons (gnum r) (gnum s))) = GoodThomasIn r s
formula_in (gcons (gnum (suc (suc (suc (suc (suc (suc (suc (suc zero))))))))) (gcons (gnum r) (gnum s))) = GoodThomasOut r s
formula_in (gcons (gnum (suc (suc (suc (suc (suc (suc (suc (suc (suc zero)))))))))) (gcons a b)) = Product (formula_in a) (formula_in b)
formula_in (gcons (gnum (suc (suc (suc (suc (suc (suc (suc (suc (suc (suc zero))))))))))) (gcons a (gnum k))) = TensorLeft (formula_in a) k
formula_in (gcons (gnum (suc (suc (suc (suc (suc (suc (suc (suc (suc (suc (suc zero)))))))))))) (gcons (gnum k) a)) = TensorRight k (formula_in a)
formula_in (gcons (gnum (suc (suc (suc (suc (suc (suc (suc (suc (suc (suc (suc (suc zero))))))))))))) (gcons a b)) = DirectSum (formula_in a) (formula_in b)
formula_in (gcons (gnum (suc (suc (suc (suc (suc (suc (suc (suc (suc (suc (suc (suc (suc zero)))))))))))))) a) = Pending (formula_in a)
formula_in t = Identity 0

pub formula_in-tree_of : (f : Formula) → formula_in (tree_of f) ≡ f
formula_in-tree_of (Identity n) = refl
formula_in-tree_of (Fourier n w) = refl
formula_in-tree_of (Hadamard n) = refl
formula_in-tree_of (Twiddles n s w) = refl
formula_in-tree_of (Diagonal c) = λ i. Diagonal (tree_list-list_tree c i)
formula_in-tree_of (Stride n r) = refl
formula_in-tree_of (Permutation k) = λ i. Permutation (tree_list-list_tree k i)
formula_in-tree_of (GoodThomasIn r s) = refl
formula_in-tree_of (GoodThomasOut r s) = refl
formula_in-tree_of (Product a b) = λ i. Product (formula_in-tree_of a i) (formula_in-tree_of b i)
formula_in-tree_of (TensorLeft a k) = λ i. TensorLeft (formula_in-tree_of a i) k
formula_in-tree_of (TensorRight k a) = λ i. TensorRight k (formula_in-tree_of a i)
formula_in-tree_of (DirectSum a b) = λ i. DirectSum (formula_in-tree_of a i) (formula_in-tree_of b i)
formula_in-tree_of (Pending a) = λ i. Pending (formula_in-tree_of a i)

abbrev pub formula_code : Coded Formula
formula_code = record { code = tree_of; inj = λ x y e. sym (formula_in-tree_of x) ∙ ap formula_in e ∙ formula_in-tree_of y }
