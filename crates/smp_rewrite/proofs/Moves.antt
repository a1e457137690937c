-- Permutations whose width is a number of lines move whole lines.
use Rattle.std.proofs.Common.{◌≡◌, ℕ, zero, suc, ◌+◌, ◌*◌, ◌/◌, ◌%◌, ◌<◌, arith, refl, sym, ap, ap₂, subst, ◌∙◌, List}
use Rattle.std.proofs.Common.{◌++◌, All}
use Rattle.std.proofs.Common.{[], ◌∷◌, mod-lt, div-lt_iff_lt-mul}
use Rattle.std.specs.Prelude.{slice_index}
use Rattle.std.proofs.Math.Nat.{div-add-mod', mod-eq_of_lt}
use Rattle.std.proofs.lemmas.List.Elements.{All-cons, All-head, All-nil, All-tail}
use Rattle.operators.specs.Identities.{widened, MovesWholeLines}
use Rattle.operators.specs.Operator.{Operator, gather, on_columns, column, block}
use Rattle.operators.proofs.Lists.{at-list_below, list_below-same_rows, row-of, column-of, place_below, factor_positive}
use Rattle.operators.proofs.Lists.{on_columns-same, on_blocks-same}
use Rattle.operators.proofs.Places.{column_at, block_at}
use Rattle.operators.proofs.WholeLines.{whole_lines}
use Rattle.smp_rewrite.specs.Layout.Meaning.{core_size, core_on, step_on}
use Rattle.smp_rewrite.specs.Layout.Step.{PlainCore, PlainStep, step}
use Rattle.operators.specs.declared.paths.Tensor.{Tensor}
use Rattle.operators.specs.declared.paths.Tensor.TheVariants.{Blocks, Columns}
use Rattle.operators.specs.Paths.Tensors.{Path, grown, size_under, one_under, under}
use Rattle.smp_rewrite.specs.Laws.{step_size, HasShape, IsMove, IsPermutation, IsShaped, MovesByLines, MovesLines, MovesWhole}
use Rattle.smp_rewrite.specs.Smp.{PlainFactor, blocks, diagonals, move_before, move_after, PlainSmp}
use Rattle.smp_rewrite.proofs.Cores.{IsGather, core-gathers}

-- ---- a gather under tensors is a gather

one_gathers : (t : Tensor) (n : ℕ) (a : Operator) → IsGather n a → IsGather (grown t n) (one_under t n a)
one_gathers (Blocks k) n a h = record {
  from = λ w. w / n * n + h.from (w % n);
  below = λ w below.
      (let positive : 0 < n = factor_positive k n w below in
      place_below (w / n) (h.from (w % n)) k n ((div-lt_iff_lt-mul positive).1 below) (h.below (w % n) (mod-lt w positive)));
  gathers = λ x.
      on_blocks-same k n a (gather n h.from) x h.gathers
      ∙ list_below-same_rows k n _ _ (λ i j row below.
      ap₂ (λ u v. slice_index (gather n h.from (block n u x)) v) (row-of i j n below) (column-of i j n below)
      ∙ at-list_below n _ j below
      ∙ block_at n i x (h.from j) (h.below j below)
      ∙ sym (ap₂ (λ u v. slice_index x (u * n + h.from v)) (row-of i j n below) (column-of i j n below)));
}
one_gathers (Columns k) n a h = record {
  from = widened k h.from;
  below = λ w below.
      (let positive : 0 < k = factor_positive n k w below in
      place_below (h.from (w / k)) (w % k) n k (h.below (w / k) ((div-lt_iff_lt-mul positive).1 below)) (mod-lt w positive));
  gathers = λ x.
      on_columns-same n k a (gather n h.from) x h.gathers
      ∙ list_below-same_rows n k _ _ (λ i j row below.
      ap₂ (λ u v. slice_index (gather n h.from (column n k v x)) u) (row-of i j k below) (column-of i j k below)
      ∙ at-list_below n _ i row
      ∙ column_at n k j x (h.from i) (h.below i row)
      ∙ sym (ap₂ (λ u v. slice_index x (h.from u * k + v)) (row-of i j k below) (column-of i j k below)));
}

under_gathers : (path : Path) (n : ℕ) (a : Operator) → IsGather n a → IsGather (size_under path n) (under path n a)
under_gathers [] n a h = h
under_gathers (t ∷ path) n a h = one_gathers t (size_under path n) (under path n a) (under_gathers path n a h)

-- ---- lines

-- a move of n words, as the law has it
abbrev Moved : ℕ → ℕ → ℕ → PlainStep → Type 0
Moved m line n s = (f : ℕ → ℕ) × ((x : List ℕ) → step_on m s x ≡ gather n f x) × MovesWholeLines line n f

pub one_line : (line : ℕ) → 0 < line → 1 % line ≡ 0 → line ≡ 1
one_line zero h e = absurd (omega arith)
one_line (suc zero) h e = refl
one_line (suc (suc k)) h e = absurd (let one : 1 % suc (suc k) ≡ 1 = mod-eq_of_lt (omega arith) in omega (arith, one, e))

mod-one : (n : ℕ) → n % 1 ≡ 0
mod-one n = let below : n % 1 < 1 = mod-lt n (omega arith) in omega (arith, below)

-- lines of one word are moved by every gather
single_lines : (n : ℕ) (f : ℕ → ℕ) → MovesWholeLines 1 n f
single_lines n f t l within below =
    let first : l ≡ 0 = omega (arith, within) in
    let place : t * 1 + l ≡ t * 1 = omega (arith, first) in
    let item : f (t * 1 + l) ≡ f (t * 1) = ap f place in (mod-one (f (t * 1)), omega (arith, first, item))

single_moved : (m line n : ℕ) (s : PlainStep) → line ≡ 1 → step_size s ≡ n → IsPermutation s.core → Moved m line n s
single_moved m line n s one size h =
    let g = under_gathers s.path (core_size s.core) (core_on m s.core) (core-gathers m s.core h) in (
      g.from,
      λ x. g.gathers x ∙ ap (λ k. gather k g.from x) size,
      subst (λ v. MovesWholeLines v n g.from) (sym one) (single_lines n g.from),
    )

columns_moved : (m line k : ℕ) (path : Path) (core : PlainCore) → k % line ≡ 0 → IsPermutation core →
    Moved m line (size_under path (core_size core) * k) (step (Columns k ∷ path) core)
columns_moved m line k path core e h =
    let rows = size_under path (core_size core) in
    let g = under_gathers path (core_size core) (core_on m core) (core-gathers m core h) in
    let whole : k ≡ k / line * line = sym (div-add-mod' k line) ∙ omega (arith, e) in
    let lines = λ (x : List ℕ). whole_lines rows (k / line) line g.from x g.below in (
      widened (k / line * line) g.from,
      λ x. on_columns-same rows k (under path (core_size core) (core_on m core)) (gather rows g.from) x g.gathers
          ∙ ap (λ n. on_columns rows n (gather rows g.from) x) whole
          ∙ (lines x).0
          ∙ ap (λ n. gather (rows * n) (widened (k / line * line) g.from) x) (sym whole),
      subst (λ n. MovesWholeLines line (rows * n) (widened (k / line * line) g.from)) (sym whole) (lines []).1,
    )

moved : (m n line : ℕ) (path : Path) (core : PlainCore) → 0 < line → IsMove n line (step path core) →
    Moved m line n (step path core)
moved m n line [] core positive h = single_moved m line n (step [] core) (one_line line positive h.2) h.0 h.1
moved m n line (Blocks k ∷ path) core positive h = single_moved m line n (step (Blocks k ∷ path) core) (one_line line positive h.2) h.0 h.1
moved m n line (Columns k ∷ path) core positive h = subst (λ n. Moved m line n (step (Columns k ∷ path) core)) h.0 (columns_moved m line k path core h.2 h.1)

pub moves_lines : MovesLines
moves_lines m n line s positive h = moved m n line s.path s.core positive h

-- ---- so do those of a formula whose factors have their shape

factor_moves : (m n p line : ℕ) → 0 < line → (f : PlainFactor) → HasShape n p line f → MovesByLines m n line f
factor_moves m n p line positive (blocks s) h = tt
factor_moves m n p line positive (diagonals s) h = tt
factor_moves m n p line positive (move_before s) h = moves_lines m n line s positive h
factor_moves m n p line positive (move_after s) h = moves_lines m n line s positive h

factors_move : (m n p line : ℕ) → 0 < line → (fs : List PlainFactor) → All (HasShape n p line) fs →
    All (MovesByLines m n line) fs
factors_move m n p line positive [] h = All-nil (MovesByLines m n line)
factors_move m n p line positive (f ∷ fs) h =
    All-cons (MovesByLines m n line) f fs
    (factor_moves m n p line positive f (All-head (HasShape n p line) f fs h))
    (factors_move m n p line positive fs (All-tail (HasShape n p line) f fs h))

pub moves_whole : (f : PlainSmp) → 0 < f.target.line → IsShaped f → MovesWhole f
moves_whole f positive h =
    factors_move f.target.modulus f.target.size f.target.procs f.target.line positive (f.first ++ f.second) h.0
