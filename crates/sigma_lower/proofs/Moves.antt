-- The permutations of formulas can be undone, under tensors too.
use Rattle.sigma_lower.proofs.Words.{◌≡◌, ℕ, ◌*◌, ◌<◌, ◌≤◌, arith, refl, sym, ap, [], ◌∷◌, subst, mod-lt, mul_comm}
use Rattle.sigma_lower.proofs.Words.{mul-lt, Mapping, Same, Strided, ThomasIn, ThomasOut, ThomasBack, at}
use Rattle.sigma_lower.proofs.Words.{IsPermutationBelow, IsMove, moves-no-words, back_of, wrapped, unit_of, Blocks}
use Rattle.sigma_lower.proofs.Words.{Columns, Path, size_under, Paired, AreInverses, inverse_of_s, inverse_of_r}
use Rattle.sigma_lower.proofs.Words.{inverses_of}
use Rattle.index_fn.specs.Inverse.{Undoes}
use Rattle.index_fn.proofs.StepsBefore.{in_undoes, inverse_is}
use Rattle.sigma_spl.specs.Good.{IsFormed}
use Rattle.sigma_lower.proofs.TreeTerms.Lowering.{AreCoprime, turns-permute, thomas_permutes, both_units}
use Rattle.sigma_lower.proofs.TreeTerms.Permuted.{wrapped-permutes}
pub use Rattle.sigma_spl.proofs.Keeps.{left_positive, right_positive}

-- ---- under tensors

formed-wrapped : (path : Path) (n : ℕ) (f : Mapping) → 0 < size_under path n → IsFormed f → IsFormed (wrapped path n f)
formed-wrapped [] n f positive h = h
formed-wrapped (Blocks c ∷ path) n f positive h =
    let size : 0 < size_under path n = right_positive c (size_under path n) positive in
    let inner = formed-wrapped path n f size h in record { formed = (omega (arith, size), tt, inner.formed); no_list = (tt, inner.no_list) }
formed-wrapped (Columns c ∷ path) n f positive h =
    let count : 0 < c = right_positive (size_under path n) c positive in
    let inner = formed-wrapped path n f (left_positive (size_under path n) c positive) h in record { formed = (omega (arith, count), inner.formed, tt); no_list = (inner.no_list, tt) }

pub back-wrapped : (path : Path) (n : ℕ) (f : Mapping) → back_of (wrapped path n f) ≡ wrapped path n (back_of f)
back-wrapped [] n f = refl
back-wrapped (Blocks c ∷ path) n f = ap (λ g. Paired Same (size_under path n) g (size_under path n)) (back-wrapped path n f)
back-wrapped (Columns c ∷ path) n f = ap (λ g. Paired g c Same c) (back-wrapped path n f)

pub move-wrapped : (path : Path) (n : ℕ) (f : Mapping) → 0 < size_under path n → IsMove 0 n f →
    IsMove 0 (size_under path n) (wrapped path n f)
move-wrapped path n f positive h =
    record {
      vectors = moves-no-words _;
      back_vectors = moves-no-words _;
      there = formed-wrapped path n f positive h.there;
      back = subst IsFormed (sym (back-wrapped path n f)) (formed-wrapped path n (back_of f) positive h.back);
      permutes = subst (λ g. IsPermutationBelow (size_under path n) (at (wrapped path n f)) (at g)) (sym (back-wrapped path n f)) (wrapped-permutes path n f (back_of f) h.permutes);
    }

-- ---- the permutations themselves

pub strided-move : (r s : ℕ) → 1 ≤ r → 1 ≤ s → r * s ≤ 1048576 → IsMove 0 (r * s) (Strided r s)
strided-move r s h g small =
    let turned : s * r ≡ r * s = mul_comm s r in
    record { vectors = moves-no-words _; back_vectors = moves-no-words _; there = record { formed = (h, g, omega arith); no_list = tt }; back = record { formed = (g, h, omega arith); no_list = tt }; permutes = turns-permute r s }

pub out-move : (r s : ℕ) → AreCoprime r s → IsMove 0 (r * s) (ThomasOut r s)
out-move r s h =
    let small = h.small in
    let units = both_units r s h in
    let formed : IsFormed (ThomasBack r s (unit_of r s) (unit_of s r)) = record { formed = (omega (arith, h.left), omega (arith, h.right), omega (arith, small), units.0, units.1); no_list = tt } in
    record {
      vectors = moves-no-words _;
      back_vectors = moves-no-words _;
      there = record { formed = (omega (arith, h.left), omega (arith, h.right), omega (arith, small)); no_list = tt };
      back = formed;
      permutes = thomas_permutes r s h;
    }

-- ---- the permutation before a Good-Thomas step

pub in-undoes : (r s : ℕ) → AreCoprime r s → Undoes (ThomasIn r s) (back_of (ThomasIn r s)) (r * s)
in-undoes r s h = from_inverses (inverses_of r s h.left h.gcd)
  where
    from_inverses : (a : ℕ) × (b : ℕ) × AreInverses r s a b → Undoes (ThomasIn r s) (back_of (ThomasIn r s)) (r * s)
    from_inverses (a, b, both) =
        let some : 0 < r * s = mul-lt 0 0 r s h.left h.right in
        let left : 1 ≤ r = omega (arith, h.left) in
        let right : 1 ≤ s = omega (arith, h.right) in
        in_undoes r s left right (omega (arith, h.small)) some
        (inverse_is r s a b h.left h.right some (inverse_of_s r s a b both) (inverse_of_r r s a b both))

pub in-move : (r s : ℕ) → AreCoprime r s → IsMove 0 (r * s) (ThomasIn r s)
in-move r s h =
    let undoes = in-undoes r s h in
    let some : 0 < r * s = mul-lt 0 0 r s h.left h.right in
    record {
      vectors = moves-no-words _;
      back_vectors = moves-no-words _;
      there = record { formed = (omega (arith, h.left), omega (arith, h.right), omega (arith, h.small)); no_list = tt };
      back = record { formed = undoes.well_formed; no_list = (tt, ((tt, tt), (tt, tt))) };
      permutes = record {
        there_below = λ i below. mod-lt _ some;
        back_below = undoes.permutes.below;
        back-there = undoes.undoes;
        there-back = undoes.undone;
      };
    }
