-- The code of a tree computes the tree's transform, at the tree's cost.
use Rattle.std.proofs.Common.{◌≡◌, ℕ, ◌+◌, ◌*◌, ◌%◌, ◌<◌, ◌≤◌, arith, sym, ap, ap₂, ◌∙◌, List, length, mod-lt}
use Rattle.std.proofs.Common.{mul_comm, mul-zero}
use Rattle.std.specs.Prelude.{slice_index, count_ones}
use lib.Count.{ones}
use Rattle.std.specs.Int.Bits.{and_zero_r}
use Rattle.std.proofs.Math.Nat.{mod-eq_of_lt}
use Rattle.matrix_meaning.specs.declared.Kind.{Kind}
use Rattle.matrix_meaning.specs.declared.Kind.TheVariants.{Dft, Wht, Idft}
use Rattle.operators.specs.Identities.{turn}
use Rattle.matrix_meaning.specs.Kind.{entry_of, sign, transform}
use Rattle.matrix_meaning.specs.Laws.{twiddle}
use Rattle.operators.specs.Operator.{good_thomas_in, good_thomas_out}
use Rattle.operators.specs.Operator.{Operator, gather, scale, stride, block, on_blocks, on_columns, on_each_block}
use Rattle.operators.specs.Sum.{sum_below}
use Rattle.matrix_meaning.proofs.CooleyTukey.{cooley_tukey}
use Rattle.matrix_meaning.proofs.GoodThomas.{good_thomas}
use Rattle.matrix_meaning.proofs.WalshHadamard.{split}
use Rattle.matrix_meaning.proofs.Requests.{power_below}
use Rattle.operators.proofs.Lists.{length-list_below, at-list_below, list_below-same_rows, at-on_blocks, row-of}
use Rattle.operators.proofs.Lists.{column-of, place_below, factor_positive}
use Rattle.operators.proofs.Places.{stride_below}
use Rattle.operators.proofs.Sums.{sum_below-add}
use Rattle.ring_mod.specs.Residue.{power_mod}
use Rattle.ring_mod.proofs.Powers.{power_mod-zero, power_mod-part}
use Rattle.tree_model.specs.declared.tree.Rule.TheVariants.{Gt, Ct, Split, Dim}
use Rattle.tree_model.specs.Breakdown.{Breakdown, leaf, node, size_of, AllowsLeaf, IsWellFormed}
use Rattle.kernel_gen.specs.Making.{Maker}
use Rattle.kernel_gen.specs.Kernel.{node_make, tree_make}
use Rattle.tree_model.specs.KernelCosts.{IsRoot, product_cost, rule_cost, kernel_cost}
use Rattle.kernel_gen.proofs.Pieces.{Does, Piece, piece, picked, joined, does-as}
use Rattle.kernel_gen.proofs.Residues.{entry_below}
use Rattle.kernel_gen.proofs.Rows.{sum_below-constant, in_rows, in_columns}
use Rattle.kernel_gen.proofs.Factors.{does-diagonal}
use Rattle.kernel_gen.proofs.Matrices.{does-matrix}
use Rattle.tree_model.proofs.PowerOfTwo.{walsh_size}

-- the first column of a transform
first_column : (kind : Kind) (m d w k : ℕ) → AllowsLeaf kind d → 2 ≤ m → entry_of kind m d w k 0 ≡ 1
unfolding ones
first_column Dft m d w k allowed modulus = ap (power_mod m w) (mul-zero k) ∙ power_mod-zero m w ∙ mod-eq_of_lt (omega arith)
first_column Wht m d w k allowed modulus = ap (λ c. sign m (count_ones c)) (and_zero_r k)
first_column Idft m d w k allowed modulus = absurd allowed

-- the places of the permutations
pub good_thomas_in_below : (r s p : ℕ) → p < r * s → good_thomas_in r s p < r * s
good_thomas_in_below r s p below = mod-lt _ (omega arith)

pub good_thomas_out_below : (r s p : ℕ) → p < r * s → good_thomas_out r s p < r * s
good_thomas_out_below r s p below =
    let some_columns : 0 < s = factor_positive r s p below in
    let some_rows : 0 < r = factor_positive s r p (rw (mul_comm s r) below) in
    place_below (p % r) (p % s) r s (mod-lt p some_rows) (mod-lt p some_columns)

-- the twiddles of each row stand in one diagonal
rows-twiddled : (m r s w : ℕ) (f : Operator) (x : List ℕ) →
    on_each_block r s (λ i y. scale m s (λ k. power_mod m w (i * k)) (f y)) x ≡ scale m (r * s) (twiddle m s w)
    (on_blocks r s f x)
rows-twiddled m r s w f x =
    list_below-same_rows r s _ _ (λ a b row below.
    ap₂ (λ i j. slice_index (scale m s (λ k. power_mod m w (i * k)) (f (block s i x))) j) (row-of a b s below) (column-of a b s below)
    ∙ at-list_below s (λ k. (power_mod m w (a * k) * slice_index (f (block s a x)) k) % m) b below
    ∙ ap₂ (λ e y. (power_mod m w e * y) % m)
    (sym (ap₂ (λ i j. i * j) (row-of a b s below) (column-of a b s below)))
    (sym (at-on_blocks r s f x a b row below)))

module _ (m weight : ℕ) (modulus : 2 ≤ m) where
  -- a stride permutation
  abbrev strided : (r s : ℕ) → Piece m weight (r * s) (r * s)
  strided r s = picked m weight (r * s) (r * s) (stride r s) (λ i below. (stride_below r s i below).1)

  does-ct : (r s w cost price : ℕ) (a b : Maker) → power_mod m w (r * s) ≡ 1 % m →
      Does m weight r r cost a (transform Dft m r (power_mod m w s)) →
      Does m weight s s price b (transform Dft m s (power_mod m w r)) →
      Does m weight (r * s) (r * s) (s * cost + r * price + rule_cost weight m Ct r s w) (node_make m Ct r s w a b)
      (transform Dft m (r * s) w)
  does-ct r s w cost price a b root p q =
      let factors = λ (i k : ℕ). power_mod m w (i * k) in
      let row : ℕ → Piece m weight s s = λ i. joined m weight (piece m weight q) (piece m weight (does-diagonal m weight (omega arith) s (factors i) (λ k. power_below m w (i * k) (omega arith)))) in
      let left : Operator = transform Dft m r (power_mod m w s) in
      let right : Operator = transform Dft m s (power_mod m w r) in
      does-as m weight (joined m weight (strided r s) (joined m weight (in_rows m weight r s row) (in_columns m weight r s (piece m weight p))))
      (s * cost + r * price + rule_cost weight m Ct r s w) (transform Dft m (r * s) w)
      (let charge = λ (i : ℕ). sum_below s (λ k. product_cost weight m 1 (factors i k)) in
      let total = sum_below-add r (λ _. price) charge in
      let each = sum_below-constant r price in
      let all : 0 + (sum_below r (λ i. price + charge i) + s * cost) ≡ s * cost + r * price + rule_cost weight m Ct r s w = omega arith in all)
      (λ x size small. ap (on_columns r s left) (rows-twiddled m r s w right (turn r s x)) ∙ sym (cooley_tukey m r s w x root))
      (λ x size. length-list_below (r * s) _)

  does-gt : (r s w cost price : ℕ) (a b : Maker) (f left right : Operator) →
      ((x : List ℕ) → f x ≡ gather (r * s) (good_thomas_out r s)
      (on_columns r s left (on_blocks r s right (gather (r * s) (good_thomas_in r s) x)))) →
      ((x : List ℕ) → length (f x) ≡ r * s) →
      Does m weight r r cost a left → Does m weight s s price b right →
      Does m weight (r * s) (r * s) (s * cost + r * price + rule_cost weight m Gt r s w) (node_make m Gt r s w a b) f
  does-gt r s w cost price a b f left right law width p q =
      does-as m weight (joined m weight (picked m weight (r * s) (r * s) (good_thomas_in r s) (λ i below. good_thomas_in_below r s i below))
      (joined m weight (in_rows m weight r s (λ _. piece m weight q))
      (joined m weight (in_columns m weight r s (piece m weight p)) (picked m weight (r * s) (r * s) (good_thomas_out r s) (λ i below. good_thomas_out_below r s i below)))))
      (s * cost + r * price + rule_cost weight m Gt r s w) f
      (let each = sum_below-constant r price in let all : 0 + (sum_below r (λ _. price) + (s * cost + 0)) ≡ s * cost + r * price + rule_cost weight m Gt r s w = omega arith in all)
      (λ x size small. sym (law x)) (λ x size. width x)

  pub does-split : (r s w cost price : ℕ) (a b : Maker) (f left right : Operator) →
      ((x : List ℕ) → f x ≡ on_columns r s left (on_blocks r s right x)) → ((x : List ℕ) → length (f x) ≡ r * s) →
      Does m weight r r cost a left → Does m weight s s price b right →
      Does m weight (r * s) (r * s) (s * cost + r * price + rule_cost weight m Split r s w)
      (node_make m Split r s w a b) f
  does-split r s w cost price a b f left right law width p q =
      does-as m weight (joined m weight (in_rows m weight r s (λ _. piece m weight q)) (in_columns m weight r s (piece m weight p)))
      (s * cost + r * price + rule_cost weight m Split r s w) f
      (let each = sum_below-constant r price in let all : sum_below r (λ _. price) + s * cost ≡ s * cost + r * price + rule_cost weight m Split r s w = omega arith in all)
      (λ x size small. sym (law x)) (λ x size. width x)

  some_items : (kind : Kind) (d : ℕ) → IsWellFormed kind (leaf d) → 0 < d
  some_items Dft d formed = formed
  some_items Wht d formed = formed.0
  some_items Idft d formed = absurd formed

  pub does-leaf : (kind : Kind) (d w : ℕ) → IsWellFormed kind (leaf d) →
      Does m weight d d (kernel_cost weight m kind (leaf d) w) (tree_make m kind (leaf d) w) (transform kind m d w)
  does-leaf kind d w formed =
      does-matrix m weight (omega arith) d (entry_of kind m d w) (some_items kind d formed) (λ i. first_column kind m d w i formed modulus) (λ k l. entry_below kind m d w k l modulus)

  pub does-tree : (kind : Kind) (t : Breakdown) (w : ℕ) → IsWellFormed kind t → IsRoot kind m (size_of t) w →
      Does m weight (size_of t) (size_of t) (kernel_cost weight m kind t w) (tree_make m kind t w)
      (transform kind m (size_of t) w)
  does-tree kind (leaf d) w formed root = does-leaf kind d w formed
  does-tree Dft (node Ct a b) w formed root =
      does-ct (size_of a) (size_of b) w _ _ _ _ root
      (does-tree Dft a (power_mod m w (size_of b)) formed.1 (power_mod-part m w (size_of a) (size_of b) root))
      (does-tree Dft b (power_mod m w (size_of a)) formed.2 (power_mod-part m w (size_of b) (size_of a) (ap (power_mod m w) (mul_comm (size_of b) (size_of a)) ∙ root)))
  does-tree Dft (node Gt a b) w formed root =
      does-gt (size_of a) (size_of b) w _ _ _ _ (transform Dft m (size_of a * size_of b) w) (transform Dft m (size_of a) (power_mod m w (size_of b))) (transform Dft m (size_of b) (power_mod m w (size_of a)))
      (λ x. good_thomas m (size_of a) (size_of b) w x root formed.0.allowed)
      (λ x. length-list_below (size_of a * size_of b) _)
      (does-tree Dft a (power_mod m w (size_of b)) formed.1 (power_mod-part m w (size_of a) (size_of b) root))
      (does-tree Dft b (power_mod m w (size_of a)) formed.2 (power_mod-part m w (size_of b) (size_of a) (ap (power_mod m w) (mul_comm (size_of b) (size_of a)) ∙ root)))
  does-tree Wht (node Split a b) w formed root =
      does-split (size_of a) (size_of b) w _ _ _ _ (transform Wht m (size_of a * size_of b) w) (transform Wht m (size_of a) w) (transform Wht m (size_of b) w)
      (λ x. split m (size_of a) (size_of b) w x (omega arith) (walsh_size b formed.2))
      (λ x. length-list_below (size_of a * size_of b) _)
      (does-tree Wht a (power_mod m w (size_of b)) formed.1 tt)
      (does-tree Wht b (power_mod m w (size_of a)) formed.2 tt)
  does-tree Dft (node Split a b) w formed root = absurd formed.0.allowed
  does-tree Wht (node Gt a b) w formed root = absurd formed.0.allowed
  does-tree Wht (node Ct a b) w formed root = absurd formed.0.allowed
  does-tree Dft (node Dim a b) w formed root = absurd formed.0.allowed
  does-tree Wht (node Dim a b) w formed root = absurd formed.0.allowed
  does-tree Idft (node rule a b) w formed root = absurd formed.0.allowed
