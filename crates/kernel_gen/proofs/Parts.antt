-- The code of a node is written by that of its parts.
use Rattle.std.proofs.Common.{◌≡◌, ℕ, ◌+◌, ◌*◌, ◌%◌, ◌++◌, List, [], length, sym, ap, ap₂, subst, ◌∙◌, add-zero}
use Rattle.matrix_meaning.specs.declared.Kind.{Kind}
use Rattle.operators.specs.Identities.{turn}
use Rattle.operators.specs.Operator.{good_thomas_in, good_thomas_out}
use Rattle.operators.specs.Operator.{gather}
use Rattle.operators.specs.Sum.{list_below}
use Rattle.tree_model.specs.declared.tree.Rule.{Rule}
use Rattle.tree_model.specs.declared.tree.Rule.TheVariants.{Gt, Ct, Split, Dim}
use Rattle.tree_model.specs.Breakdown.{Breakdown, node, size_of}
use Rattle.tree_model.specs.Trees.{PlainTrees, single, tensor, trees_size}
use Rattle.kernel_gen.specs.declared.straight.Kernel.{Kernel as KernelRecord}
use Rattle.kernel_gen.specs.declared.straight.KernelOp.{KernelOp}
use Rattle.kernel_gen.specs.declared.transform.Transform.{Transform}
use Rattle.kernel_gen.specs.declared.writer.Writer.{Writer}
use Rattle.kernel_gen.specs.Making.{Made, Maker, pick_make, then_make, rows_make}
use Rattle.kernel_gen.specs.Kernel.{columns_make, twiddled_make, node_make, tree_make, trees_make}
use Rattle.kernel_gen.specs.Kernels.{made_of}
use Rattle.kernel_gen.specs.Writing.{make_of, next_of, part_of, Wrote}
use Rattle.kernel_gen.proofs.Reduced.{tree-reduced}
use Rattle.kernel_gen.proofs.Writes.{wrote-pick, wrote-then}

-- the parts of a tree, as the code has them: the trees, their sizes, and their transforms
pub record ArePartsOf (transform left right : Transform) (rule : Rule) (tree a b : Breakdown) (r s : ℕ) : Type 0 where
  pub tree_is : tree ≡ node rule a b
  pub r_is : r ≡ size_of a
  pub s_is : s ≡ size_of b
  pub left_is : left ≡ part_of transform s
  pub right_is : right ≡ part_of transform r

module _ (transform left right : Transform) (tree a b : Breakdown) (r s : ℕ) where
  wrote-node : (rule : Rule) (old new : Writer) (ins outs : List ℕ) →
      ArePartsOf transform left right rule tree a b r s →
      Wrote old new (node_make transform.modulus.now rule r s transform.root (make_of left a) (make_of right b)) ins
      outs → Wrote old new (make_of transform tree) ins outs
  wrote-node rule old new ins outs parts whole =
      let P = λ (p q : ℕ) (u v : Transform). Wrote old new (node_make transform.modulus.now rule p q transform.root (make_of u a) (make_of v b)) ins outs in
      let left_end : left ≡ part_of transform (size_of b) = parts.left_is ∙ ap (part_of transform) parts.s_is in
      let right_end : right ≡ part_of transform (size_of a) = parts.right_is ∙ ap (part_of transform) parts.r_is in
      subst (λ (z : Breakdown). Wrote old new (make_of transform z) ins outs) (sym parts.tree_is)
      (subst (λ v. P (size_of a) (size_of b) (part_of transform (size_of b)) v) right_end
      (subst (λ u. P (size_of a) (size_of b) u right) left_end
      (subst (λ q. P (size_of a) q left right) parts.s_is
      (subst (λ p. P p s left right) parts.r_is whole))))

  pub wrote_ct : (old mid new : Writer) (ins x y z : List ℕ) → ArePartsOf transform left right Ct tree a b r s →
      x ≡ turn r s ins →
      Wrote old mid (rows_make r s (twiddled_make right.modulus.now s transform.root (make_of right b))) x y →
      Wrote mid new (columns_make r s (make_of left a)) y z → Wrote old new (make_of transform tree) ins z
  wrote_ct old mid new ins x y z parts x_is p q =
      let rows : Maker = rows_make r s (twiddled_make transform.modulus.now s transform.root (make_of right b)) in
      let columns : Maker = columns_make r s (make_of left a) in
      let same : right.modulus.now ≡ transform.modulus.now = ap (λ (z : Transform). z.modulus.now) parts.right_is in
      wrote-node Ct old new ins z parts
      (wrote-then old old new (pick_make (turn r s)) (then_make rows columns) ins x z (wrote-pick old (turn r s) ins x x_is)
      (wrote-then old mid new rows columns x y z
      (subst (λ m. Wrote old mid (rows_make r s (twiddled_make m s transform.root (make_of right b))) x y) same p) q))

  pub wrote_split : (old mid new : Writer) (ins y z : List ℕ) → ArePartsOf transform left right Split tree a b r s →
      Wrote old mid (rows_make r s (λ _. make_of right b)) ins y →
      Wrote mid new (columns_make r s (make_of left a)) y z → Wrote old new (make_of transform tree) ins z
  wrote_split old mid new ins y z parts p q =
      wrote-node Split old new ins z parts (wrote-then old mid new (rows_make r s (λ _. make_of right b)) (columns_make r s (make_of left a)) ins y z p q)

  pub wrote_dim : (old mid new : Writer) (ins y z : List ℕ) → ArePartsOf transform left right Dim tree a b r s →
      Wrote old mid (rows_make r s (λ _. make_of right b)) ins y →
      Wrote mid new (columns_make r s (make_of left a)) y z → Wrote old new (make_of transform tree) ins z
  wrote_dim old mid new ins y z parts p q =
      wrote-node Dim old new ins z parts
      (wrote-then old mid new (rows_make r s (λ _. make_of right b)) (columns_make r s (make_of left a)) ins y z p q)

  pub wrote_gt : (old mid new : Writer) (ins x y z outs : List ℕ) → ArePartsOf transform left right Gt tree a b r s →
      x ≡ gather (r * s) (good_thomas_in r s) ins →
      Wrote old mid (rows_make r s (λ _. make_of right b)) x y →
      Wrote mid new (columns_make r s (make_of left a)) y z →
      outs ≡ gather (r * s) (good_thomas_out r s) z → Wrote old new (make_of transform tree) ins outs
  wrote_gt old mid new ins x y z outs parts x_is p q outs_are =
      let rows : Maker = rows_make r s (λ _. make_of right b) in
      let columns : Maker = columns_make r s (make_of left a) in
      let back : Maker = pick_make (gather (r * s) (good_thomas_out r s)) in
      wrote-node Gt old new ins outs parts
      (wrote-then old old new (pick_make (gather (r * s) (good_thomas_in r s))) (then_make rows (then_make columns back)) ins x outs (wrote-pick old (gather (r * s) (good_thomas_in r s)) ins x x_is)
      (wrote-then old mid new rows (then_make columns back) x y outs p
      (wrote-then mid new new columns back y z outs q (wrote-pick new (gather (r * s) (good_thomas_out r s)) z outs outs_are))))

-- ---- several dimensions

pub wrote_single : (m : ℕ) (trees : PlainTrees) (kind : Kind) (root reduced : ℕ) (tree : Breakdown) (old new : Writer)
    (ins outs : List ℕ) →
    trees ≡ single kind root tree → reduced ≡ root % m → Wrote old new (tree_make m kind tree reduced) ins outs →
    Wrote old new (trees_make m trees) ins outs
wrote_single m trees kind root reduced tree old new ins outs trees_are reduced_is p =
    subst (λ (make : Maker). Wrote old new make ins outs)
    (ap (tree_make m kind tree) reduced_is ∙ tree-reduced m kind tree root ∙ sym (ap (trees_make m) trees_are)) p

pub wrote_tensor : (m : ℕ) (trees others : PlainTrees) (kind : Kind) (root reduced r s : ℕ) (tree : Breakdown)
    (old mid new : Writer) (ins y z : List ℕ) →
    trees ≡ tensor kind root tree others → reduced ≡ root % m → r ≡ size_of tree → s ≡ trees_size others →
    Wrote old mid (rows_make r s (λ _. trees_make m others)) ins y →
    Wrote mid new (columns_make r s (tree_make m kind tree reduced)) y z → Wrote old new (trees_make m trees) ins z
wrote_tensor m trees others kind root reduced r s tree old mid new ins y z trees_are reduced_is r_is s_is p q =
    subst (λ (make : Maker). Wrote old new make ins z)
    (ap (λ (a : Maker). node_make m Split r s 1 a (trees_make m others)) (ap (tree_make m kind tree) reduced_is ∙ tree-reduced m kind tree root)
    ∙ ap₂ (λ i j. node_make m Split i j 1 (tree_make m kind tree root) (trees_make m others)) r_is s_is
    ∙ sym (ap (trees_make m) trees_are))
    (wrote-then old mid new (rows_make r s (λ _. trees_make m others)) (columns_make r s (tree_make m kind tree reduced)) ins y z p q)

abbrev made_with : List KernelOp → List ℕ → ℕ → Made
made_with code outs next = record { code = code; outs = outs; next = next }

-- a whole kernel
pub kernel_written : (make : Maker) (n : ℕ) (old new : Writer) (ins outs : List ℕ) (k : KernelRecord) →
    old.code.items ≡ [] → old.inputs ≡ n → ins ≡ list_below n (λ k. k) → Wrote old new make ins outs →
    k.code.items ≡ new.code.items → k.outputs.items ≡ outs → k.regs ≡ next_of new →
    made_of k ≡ make (list_below n (λ k. k)) n
kernel_written make n old new ins outs k none inputs ins_are p code_is outs_are regs_are =
    let first : next_of old ≡ n = ap₂ (λ n xs. n + length {A = KernelOp} xs) inputs none ∙ add-zero n in
    let made = make ins (next_of old) in
    ap₂ (λ xs ys. made_with xs ys k.regs) (code_is ∙ p.code.code_is ∙ ap (λ xs. xs ++ made.code) none) (outs_are ∙ p.outs_are)
    ∙ ap (made_with made.code made.outs) (regs_are ∙ p.code.next_is)
    ∙ ap₂ make ins_are first
