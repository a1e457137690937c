-- Terms take residues to residues.
use Rattle.std.proofs.Common.{◌≡◌, ℕ, ◌+◌, ◌-◌, ◌*◌, ◌/◌, ◌%◌, ◌<◌, List, [], ◌∷◌, arith, refl, sym, ap, ap₂, ◌∙◌}
use Rattle.std.proofs.Common.{subst, inl, inr}
use Rattle.std.specs.Prelude.{slice_index}
use Rattle.std.proofs.lemmas.Bool.{cases_lt}
use Rattle.std.proofs.lemmas.Nat.{mod_below, div_below}
use Rattle.matrix_meaning.specs.declared.Kind.{Kind}
use Rattle.matrix_meaning.specs.Kind.{transform}
use Rattle.operators.specs.Operator.{Operator, column, block, on_columns, on_blocks}
use Rattle.operators.specs.Sum.{list_below}
use Rattle.operators.proofs.Lists.{factor_positive}
use Rattle.sigma_spl.specs.Copies.{both}
use Rattle.sigma_spl.specs.Sigma.{terms_on}
use Rattle.sigma_spl.specs.Term.{PlainTerm, same, gath, scat, diag, nest, move, product, beside, term_on}
use Rattle.sigma_spl.proofs.CopiesMerge.{low, high}
use Rattle.sigma_spl.specs.Plain.Shape.{AllFit, Fits}
use Rattle.tree_model.specs.Trees.{PlainTrees, single, tensor, trees_size, trees_on}
use Rattle.spl_ast.specs.Meaning.{IsVector}
use Rattle.spl_ast.proofs.Vectors.{residue_at, list_vector, column_vector, block_vector}
use Rattle.operators.specs.declared.paths.Tensor.TheVariants.{Blocks, Columns}
use Rattle.operators.specs.Paths.Tensors.{Path, size_under, under}
use Rattle.matrix_meaning.specs.Parts.{first_of, rest_of}
use Rattle.matrix_meaning.specs.declared.Kind.TheVariants.{Dft}
use Rattle.matrix_meaning.specs.declared.Request.{Request}
use Rattle.tree_model.specs.Breakdown.{Breakdown, node, size_of}
use Rattle.tree_model.specs.Whole.{rooted_of}
use Rattle.tree_model.specs.declared.tree.Rule.TheVariants.{Dim}
use Rattle.tree_model.proofs.RootedTrees.{rooted_size}

-- the operator takes n residues to n residues
abbrev pub Keeps : ℕ → ℕ → Operator → Type 0
Keeps m n a = (x : List ℕ) → IsVector m n x → IsVector m n (a x)

-- a residue is below a modulus that is not 0
pub reduced : (m n : ℕ) (x : List ℕ) (f : ℕ → ℕ) → IsVector m n x → IsVector m n (list_below n (λ i. f i % m))
reduced m n x f v = list_vector m n _ (λ i below. mod_below (f i) m (omega (arith, residue_at m n x i v below)))

pub blocks_keep : (m r s : ℕ) (a : Operator) → Keeps m s a → Keeps m (r * s) (on_blocks r s a)
blocks_keep m r s a keep x v =
    list_vector m (r * s) _ (λ p below.
    let some : 0 < s = factor_positive r s p below in
    residue_at m s (a (block s (p / s) x)) (p % s) (keep (block s (p / s) x) (block_vector m r s (p / s) x (div_below p s r some below) v)) (mod_below p s some))

pub columns_keep : (m r s : ℕ) (a : Operator) → Keeps m r a → Keeps m (r * s) (on_columns r s a)
columns_keep m r s a keep x v =
    list_vector m (r * s) _ (λ p below.
    let some : 0 < s = factor_positive r s p below in
    residue_at m r (a (column r s (p % s) x)) (p / s) (keep (column r s (p % s) x) (column_vector m r s (p % s) x (mod_below p s some) v)) (div_below p s r some below))

pub under_keeps : (m : ℕ) (path : Path) (n : ℕ) (a : Operator) → Keeps m n a →
    Keeps m (size_under path n) (under path n a)
under_keeps m [] n a keep x v = keep x v
under_keeps m (Blocks c ∷ path) n a keep x v = blocks_keep m c (size_under path n) (under path n a) (under_keeps m path n a keep) x v
under_keeps m (Columns c ∷ path) n a keep x v = columns_keep m (size_under path n) c (under path n a) (under_keeps m path n a keep) x v

tree_keeps : (m : ℕ) (kind : Kind) (root n : ℕ) → Keeps m n (transform kind m n root)
tree_keeps m kind root n x v = reduced m n x _ v

pub trees_keep : (m : ℕ) (trees : PlainTrees) → Keeps m (trees_size trees) (trees_on m trees)
trees_keep m (single kind root tree) x v = tree_keeps m kind root (size_of tree) x v
trees_keep m (tensor kind root tree others) x v =
    columns_keep m (size_of tree) (trees_size others) (transform kind m (size_of tree) root) (tree_keeps m kind root (size_of tree)) _
    (blocks_keep m (size_of tree) (trees_size others) (trees_on m others) (trees_keep m others) x v)

-- the two parts of a list
front_vector : (m k l : ℕ) (x : List ℕ) → IsVector m (k + l) x → IsVector m k (list_below k (slice_index x))
front_vector m k l x v = list_vector m k _ (λ i below. residue_at m (k + l) x i v (omega arith))

back_vector : (m k l : ℕ) (x : List ℕ) → IsVector m (k + l) x → IsVector m l (list_below l (λ j. slice_index x (k + j)))
back_vector m k l x v = list_vector m l _ (λ i below. residue_at m (k + l) x (k + i) v (omega arith))

both_keep : (m k l : ℕ) (a b : Operator) → Keeps m k a → Keeps m l b → Keeps m (k + l) (both k l a b)
both_keep m k l a b first second x v =
    list_vector m (k + l) _ (λ w below.
    elim (cases_lt w k) [
      | inl here ↦ subst (λ u. u < m) (sym (low w k _ _ here)) (residue_at m k _ w (first _ (front_vector m k l x v)) here)
      | inr there ↦ subst (λ u. u < m) (sym (high w k _ _ (omega arith))) (residue_at m l _ (w - k) (second _ (back_vector m k l x v)) (omega arith))
    ])

pub term_vector : (m n : ℕ) (t : PlainTerm) (x : List ℕ) → Fits n t → IsVector m n x → IsVector m n (term_on m n t x)
term_vector m n same x h v = v
term_vector m n (gath f) x h v = list_vector m n _ (λ i below. residue_at m n x _ v (h.below i below))
term_vector m n (scat f) x h v = reduced m n x _ v
term_vector m n (diag path factors) x h v = reduced m n x _ v
term_vector m n (nest path w) x h v = reduced m n x _ v
term_vector m n (move path ks) x h v = reduced m n x _ v
term_vector m n (product a b) x h v = term_vector m n b (term_on m n a x) h.1 (term_vector m n a x h.0 v)
term_vector m n (beside path k a l b) x h v =
    let inner = both_keep m k l (term_on m k a) (term_on m l b) (λ y. term_vector m k a y h.0.2) (λ y. term_vector m l b y h.0.3) in
    let whole : IsVector m (size_under path (k + l)) x = subst (λ z. IsVector m z x) (sym h.1) v in
    subst (λ z. IsVector m z (under path (k + l) (both k l (term_on m k a) (term_on m l b)) x)) h.1 (under_keeps m path (k + l) _ inner x whole)

-- what a term leaves, as the next one gets it
pub next_vector : (m n : ℕ) (t : PlainTerm) (x y z : List ℕ) → Fits n t → IsVector m n x → y ≡ term_on m n t x → z ≡ y →
    IsVector m n z
next_vector m n t x y z h v made lent = subst (λ (u : List ℕ). IsVector m n u) (sym (lent ∙ made)) (term_vector m n t x h v)

pub terms_vector : (m n : ℕ) (ts : List PlainTerm) (x : List ℕ) → AllFit n ts → IsVector m n x →
    IsVector m n (terms_on m n ts x)
terms_vector m n [] x h v = v
terms_vector m n (t ∷ ts) x h v = terms_vector m n ts (term_on m n t x) h.1 (term_vector m n t x h.0 v)

-- rows of trees, as columns are made of them
rows_vector : (m r s k : ℕ) (others : PlainTrees) (x rows y : List ℕ) → IsVector m (r * trees_size others) x → k ≡ r →
    rows ≡ on_blocks k (trees_size others) (trees_on m others) x → y ≡ rows → s ≡ trees_size others →
    IsVector m (r * s) y
rows_vector m r s k others x rows y v count is taken size =
    let P : ℕ → List ℕ → Type 0 = λ n z. IsVector m (r * n) z in
    let made : P (trees_size others) (on_blocks r (trees_size others) (trees_on m others) x) = blocks_keep m r (trees_size others) (trees_on m others) (trees_keep m others) x v in
    rw (taken, is, count, size) made

-- ---- of a node of several dimensions: the others on each row, and then the first on each column

module _ (m : ℕ) (p q : Request) (t a b : Breakdown) (t_is : t ≡ node Dim a b) (r s : ℕ) (r_is : r ≡ size_of a) (s_is : s ≡ size_of b)
    (x rows z : List ℕ) (rows_are : rows ≡ on_blocks r (trees_size (rooted_of q b)) (trees_on m (rooted_of q b)) x) (z_is : z ≡ rows) where
  pub node_rows : IsVector m (size_of t) x → IsVector m (r * s) z
  node_rows v =
      let trees = rooted_of q b in
      let size = rooted_size q b in
      let whole : size_of t ≡ r * trees_size trees = ap size_of t_is ∙ sym (ap₂ (λ i j. i * j) r_is size) in
      rows_vector m r s r trees x rows z (subst (λ n. IsVector m n x) whole v) refl rows_are z_is (s_is ∙ sym size)

  pub node_columns : (w : ℕ) (y : List ℕ) → w ≡ (first_of p).root → q ≡ rest_of p →
      y ≡ on_columns r s (transform Dft m r w) z →
      y ≡ trees_on m (rooted_of p t) x
  node_columns w y w_is q_is y_is =
      let trees = rooted_of q b in
      y_is
      ∙ ap₂ (λ k j. on_columns k j (transform Dft m k w) z) r_is (s_is ∙ sym (rooted_size q b))
      ∙ ap (on_columns (size_of a) (trees_size trees) (transform Dft m (size_of a) w))
      (z_is ∙ rows_are ∙ ap (λ k. on_blocks k (trees_size trees) (trees_on m trees) x) r_is)
      ∙ ap₂ (λ (v : ℕ) (u : Request). trees_on m (tensor Dft v a (rooted_of u b)) x) w_is q_is
      ∙ ap (λ u. trees_on m (rooted_of p u) x) (sym t_is)
