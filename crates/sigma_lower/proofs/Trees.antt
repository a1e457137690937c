-- The terms of the steps of a tree do what the steps do.
use Rattle.sigma_lower.proofs.Words.{◌≡◌, ℕ, ◌*◌, ◌<◌, ◌≤◌, arith, sym, ap, ◌∙◌, List, subst, Strided, ThomasIn}
use Rattle.sigma_lower.proofs.Words.{ThomasOut, ThomasBack, at, Dft, Target, transform, IsMachine, IsPermutationBelow}
use Rattle.sigma_lower.proofs.Words.{gather, on_columns, on_blocks, column, CanNest, IsMove, IsVector, unit_below}
use Rattle.sigma_lower.proofs.Words.{back_of, PlainWork, kernel, rows, horner, tile, copy, work_size, work_on, trees_of}
use Rattle.sigma_lower.proofs.Words.{moves-no-words, list_vector, trees_size, vector_of, core_term, AreCoprime, IsGoodPiece}
use Rattle.sigma_lower.proofs.Words.{IsGoodCore, IsGood, wrapped, core_size, step_on, PlainCore, piece, turns}
use Rattle.sigma_lower.proofs.Words.{thomas_in, thomas_out, PlainStep, Path, copies_of, size_under, under}
use Rattle.sigma_lower.proofs.Words.{size_under-copies, mod-lt, div-lt_iff_lt-mul, ◌/◌, ◌%◌, slice_index, at-list_below}
use Rattle.sigma_lower.proofs.Words.{factor_positive, Blocks, scatter-same, PlainTrees, single, tensor, core_on}
use Rattle.sigma_lower.proofs.Words.{length-list_below}
use Rattle.sigma_spl.specs.Term.{scat}
use Rattle.sigma_spl.proofs.Walk.{gather-vector}
use Rattle.tree_model.specs.Trees.{trees_on}
use Rattle.sigma_lower.proofs.Lowers.{gath-lowers}
use Rattle.sigma_lower.proofs.Moves.{back-wrapped, move-wrapped, strided-move, in-move, out-move}
use Rattle.sigma_lower.proofs.Parts.{IsWork, transform-work, nest-lowers, diag-lowers, under-keeps, Lowers}
use Rattle.sigma_lower.proofs.TreeTerms.Lowering.{part-le}
use Rattle.tree_model.specs.Breakdown.{size_of}
use Rattle.smp_rewrite.proofs.Tensors.{reads-one_under}
use Rattle.sigma_lower.proofs.TreeTerms.Permuted.{gather-under}
use Rattle.sigma_spl.specs.Nest as nests
use Rattle.smp_rewrite.specs.Layout.Step as steps

-- ---- works

trees-work : (m : ℕ) (trees : PlainTrees) → IsWork m (trees_size trees) (trees_on m trees)
trees-work m (single kind root t) = transform-work kind m (size_of t) root
trees-work m (tensor kind root t others) =
    let r = size_of t in
    let s = trees_size others in
    let a = transform kind m r root in
    let inner = λ (y : List ℕ). on_blocks r s (trees_on m others) y in
    record {
      reads = λ x. ap (on_columns r s a) (reads-one_under (Blocks r) s (trees_on m others) x);
      residue = λ y k below.
          let positive : 0 < s = factor_positive r s k below in
          let row : k / s < r = (div-lt_iff_lt-mul positive).1 below in
          let item = at-list_below (r * s) (λ p. slice_index (a (column r s (p % s) (inner y))) (p / s)) k below in
          ap (λ v. v % m) item ∙ (transform-work kind m r root).residue (column r s (k % s) (inner y)) (k / s) row ∙ sym item;
      size = λ y. length-list_below _ _;
    }

pub piece-work : (m : ℕ) (w : PlainWork) → IsGoodPiece w → IsWork m (work_size w) (work_on m w)
piece-work m (kernel k) h = trees-work m (trees_of k)
piece-work m (rows root size) h = transform-work Dft m size root
piece-work m (horner root size) h = transform-work Dft m size root
piece-work m _ h = absurd h

pub piece-nests : (v : ℕ) (path : Path) (w : PlainWork) → IsGoodPiece w → CanNest v path w
piece-nests v path (tile n) h = absurd h
piece-nests v path (copy size) h = absurd h
piece-nests v path _ h = tt

piece-vector : (m : ℕ) (w : PlainWork) (y : List ℕ) → 0 < m → IsGoodPiece w → IsVector m (work_size w) (work_on m w y)
piece-vector m w y positive h =
    let work = piece-work m w h in
    vector_of m (work_size w) (work_on m w y) (work.size y)
    (λ i below. subst (λ v. v < m) (work.residue y i below) (mod-lt _ positive))

-- ---- back from a Good-Thomas step

pub flip : (n : ℕ) (there back : ℕ → ℕ) → IsPermutationBelow n there back → IsPermutationBelow n back there
flip n there back h = record { there_below = h.back_below; back_below = h.there_below; back-there = h.there-back; there-back = h.back-there }

back-lowers : (m : ℕ) (path : Path) (r s : ℕ) → 0 < size_under path (r * s) → AreCoprime r s →
    Lowers m (size_under path (r * s))
    (scat (wrapped path (r * s) (ThomasBack r s (unit_below r s r) (unit_below s r s))))
    (under path (r * s) (gather (r * s) (at (ThomasOut r s))))
back-lowers m path r s some h =
    let n = r * s in
    let out = out-move r s h in
    let back : IsMove 0 n (ThomasBack r s (unit_below r s r) (unit_below s r s)) = record { vectors = moves-no-words _; back_vectors = moves-no-words _; there = out.back; back = out.there; permutes = flip n (at (ThomasOut r s)) _ out.permutes } in
    let f = wrapped path n (ThomasBack r s (unit_below r s r) (unit_below s r s)) in
    let g = wrapped path n (ThomasOut r s) in
    let there = move-wrapped path n (ThomasBack r s (unit_below r s r) (unit_below s r s)) some back in
    let other = move-wrapped path n (ThomasOut r s) some out in
    let e : back_of f ≡ g = back-is path n r s (unit_below r s r) (unit_below s r s) in
    let turned : IsPermutationBelow (size_under path n) (at (back_of f)) (at f) = flip (size_under path n) (at f) (at (back_of f)) there.permutes in
    record {
      good = (there, subst (IsMove 0 (size_under path n)) (sym e) other, turned);
      on = λ x v.
          sym (scatter-same m (size_under path n) f x turned v)
          ∙ ap (λ z. gather (size_under path n) (at z) x) e
          ∙ sym (gather-under path n (ThomasOut r s) x out.permutes.there_below);
    } where
      back-is : (path : Path) (n r s u v : ℕ) → back_of (wrapped path n (ThomasBack r s u v))
          ≡ wrapped path n (ThomasOut r s)
      back-is path n r s u v = back-wrapped path n (ThomasBack r s u v)

-- ---- steps

pub core-lowers : (c : Target) (path : Path) (k : PlainCore) → 0 < size_under path (core_size k) → IsGoodCore k →
    size_under path (core_size k) ≤ 1048576 → core_size k ≤ 1048576 →
    Lowers c.modulus (size_under path (core_size k)) (core_term path k) (under path (core_size k) (core_on c.modulus k))
core-lowers c path (piece w) some h high low = nest-lowers c.modulus path w (piece-nests 0 path w h) (piece-work c.modulus w h)
core-lowers c path (turns r s) some h high low = gath-lowers c.modulus path (r * s) (Strided r s) some (strided-move r s (omega (arith, h.0)) (omega (arith, h.1)) low)
core-lowers c path (steps.twiddles r s w) some h high low = diag-lowers c.modulus path (nests.twiddles r s w)
core-lowers c path (thomas_in r s) some h high low = gath-lowers c.modulus path (r * s) (ThomasIn r s) some (in-move r s h)
core-lowers c path (thomas_out r s) some h high low = back-lowers c.modulus path r s some h

core-keeps : (c : Target) (k : PlainCore) (y : List ℕ) → 0 < c.modulus → IsGoodCore k → core_size k ≤ 1048576 →
    IsVector c.modulus (core_size k) y → IsVector c.modulus (core_size k) (core_on c.modulus k y)
core-keeps c (piece w) y positive h low v = piece-vector c.modulus w y positive h
core-keeps c (turns r s) y positive h low v = gather-vector c.modulus (r * s) _ y (strided-move r s (omega (arith, h.0)) (omega (arith, h.1)) low).permutes.there_below v
core-keeps c (steps.twiddles r s w) y positive h low v = list_vector c.modulus (r * s) _ (λ i below. mod-lt _ positive)
core-keeps c (thomas_in r s) y positive h low v = gather-vector c.modulus (r * s) _ y (in-move r s h).permutes.there_below v
core-keeps c (thomas_out r s) y positive h low v = gather-vector c.modulus (r * s) _ y (out-move r s h).permutes.there_below v

pub step-keeps : (c : Target) (s : PlainStep) (x : List ℕ) → IsMachine c → IsGood c.size s →
    IsVector c.modulus c.size x → IsVector c.modulus c.size (step_on c.modulus s x)
step-keeps c s x valid h v =
    let size = h.size in
    let d = core_size s.core in
    let low : d ≤ c.size = part-le (copies_of s.path) d c.size (sym (size_under-copies s.path d) ∙ size) valid.size.0 in
    subst (λ n. IsVector c.modulus n (step_on c.modulus s x)) size
    (under-keeps c.modulus s.path d (core_on c.modulus s.core) x (λ y w. core-keeps c s.core y (omega (arith, valid.modulus)) h.core (omega (arith, low, valid.size.1)) w) (subst (λ n. IsVector c.modulus n x) (sym size) v))
