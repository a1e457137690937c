-- The numbers of permutations are words, under tensors too.
use Rattle.sigma_lower.proofs.Words.{◌≡◌, ℕ, ◌*◌, ◌≤◌, true, not, ◌&&◌, arith, refl, sym, [], ◌∷◌, subst, mul_comm}
use Rattle.sigma_lower.proofs.Words.{and_from, Mapping, Strided, ThomasIn, ThomasOut, back_of, HasNumbers, wrapped}
use Rattle.sigma_lower.proofs.Words.{unit_of, Blocks, Columns, Path, size_under}
use Rattle.std.proofs.Common.{eqb, ◌||◌}
use Rattle.std.proofs.lemmas.Bool.{eq-eqb, or_right}
use Rattle.index_fn.specs.Back.{HasBack, has_back, has_size}
use Rattle.sigma_spl.specs.Words.{IsDefinedBelow}
use Rattle.sigma_lower.proofs.Moves.{back-wrapped, strided-move, in-undoes, out-move}
use Rattle.sigma_lower.proofs.TreeTerms.Closed.{IsClosed, wrapped-defined, thomas_in-closed, thomas_back-closed}
use Rattle.sigma_lower.proofs.TreeTerms.Lowering.{AreCoprime, both_units}

-- ---- under tensors

back-wrapped-has : (path : Path) (n : ℕ) (f : Mapping) → HasBack f → HasBack (wrapped path n f)
back-wrapped-has [] n f h = h
back-wrapped-has (Blocks c ∷ path) n f h = and_from (has_back (wrapped path n f)) true (back-wrapped-has path n f h) refl
back-wrapped-has (Columns c ∷ path) n f h =
    let g = wrapped path n f in
    and_from (has_back g && true) (not (has_size g) || (eqb c c && true))
    (and_from (has_back g) true (back-wrapped-has path n f h) refl)
    (or_right (not (has_size g)) (eqb c c && true) (and_from (eqb c c) true (eq-eqb c c refl) refl))

pub numbers-wrapped : (path : Path) (n : ℕ) (f : Mapping) → size_under path n ≤ 1048576 → HasBack f → IsClosed n f →
    IsClosed n (back_of f) → HasNumbers (size_under path n) (wrapped path n f)
numbers-wrapped path n f high has there back =
    record {
      undone = back-wrapped-has path n f has;
      there = wrapped-defined path n f there high;
      back = subst (IsDefinedBelow (size_under path n)) (sym (back-wrapped path n f)) (wrapped-defined path n (back_of f) back high);
    }

-- ---- the permutations themselves

pub strided-closed : (r s : ℕ) → 1 ≤ r → 1 ≤ s → r * s ≤ 1048576 →
    IsClosed (r * s) (Strided r s) × IsClosed (r * s) (back_of (Strided r s))
strided-closed r s h g small =
    let move = strided-move r s h g small in
    let turned : s * r ≡ r * s = mul_comm s r in (
      record { defined = λ i below. below; below = move.permutes.there_below },
      record { defined = λ i below. omega (arith, turned, below); below = move.permutes.back_below },
    )

pub in-closed : (r s : ℕ) → AreCoprime r s → IsClosed (r * s) (ThomasIn r s) × IsClosed (r * s) (back_of (ThomasIn r s))
in-closed r s h =
    let undoes = in-undoes r s h in (
      thomas_in-closed r s (let a = h.left in omega (arith, a)) (let b = h.right in omega (arith, b)) h.small,
      record { defined = undoes.permutes.defined; below = undoes.permutes.below },
    )

pub out-closed : (r s : ℕ) → AreCoprime r s → IsClosed (r * s) (ThomasOut r s) × IsClosed (r * s)
    (back_of (ThomasOut r s))
out-closed r s h =
    let move = out-move r s h in
    let units = both_units r s h in
    let turned : s * r ≡ r * s = mul_comm s r in (
      record { defined = λ i below. below; below = move.permutes.there_below },
      thomas_back-closed r s (unit_of r s) (unit_of s r) (let a = h.left in omega (arith, a)) (let b = h.right in omega (arith, b)) h.small units.0.below (let v = units.1.below in omega (arith, v, turned)),
    )
