-- Inverses of permutations.
use Rattle.std.proofs.Common.{◌≡◌, ℕ, ◌+◌, ◌*◌, ◌/◌, ◌%◌, ◌<◌, List, length, get_or, Some, sym, ap, ap₂, ◌∙◌, subst}
use Rattle.std.proofs.Common.{arith, mul_comm}
use Rattle.std.proofs.lemmas.Nat.{mod_below, div_below, mul-add-lt, div-mul-add, mod-mul-add, div-add-mod'}
use Rattle.operators.specs.Operator.{stride}
use Rattle.index_fn.specs.Inverse.{Permutes, Undoes}
use Rattle.index_fn.specs.Mapping.{Mapping, Strided, Listed, at, IsWellFormed}
use Rattle.index_fn.proofs.Onto.{onto}

-- a table that leads back from each value is the inverse
pub table_undoes : (f : Mapping) (n : ℕ) (table : List ℕ) → Permutes f n → length table ≡ n →
    ((k : ℕ) → k < n → get_or table (at f k) 0 ≡ k) → Undoes f (Listed table) n
table_undoes f n table p len leads =
    record {
      well_formed = tt;
      size_is = ap Some len;
      permutes = record {
        fits = p.fits;
        defined = λ i h. omega arith;
        below = λ i h. subst (λ (v : ℕ). v < n) (sym (value i h)) (source i h).1;
        once = λ i j h k e. sym (undone i h) ∙ ap (at f) e ∙ undone j k;
      };
      undoes = leads;
      undone = undone;
    }
  where
    source : (i : ℕ) → i < n → (j : ℕ) × (j < n) × (at f j ≡ i)
    source i h = onto n (at f) p.below p.once i h

    value : (i : ℕ) (h : i < n) → get_or table i 0 ≡ (source i h).0
    value i h = ap (λ v. get_or table v 0) (sym (source i h).2) ∙ leads (source i h).0 (source i h).1

    undone : (i : ℕ) → i < n → at f (get_or table i 0) ≡ i
    undone i h = ap (at f) (value i h) ∙ (source i h).2

-- two turns of r rows of s items
turned_back : (r s i : ℕ) → 0 < r → 0 < s → i < r * s → stride s r (stride r s i) ≡ i
turned_back r s i r_pos s_pos h =
    let col : i / s < r = div_below i s r s_pos h in
    ap₂ (λ u v. u * s + v) (mod-mul-add (i % s) r (i / s) col) (div-mul-add (i % s) r (i / s) col) ∙ div-add-mod' i s

turned_below : (r s i : ℕ) → 0 < r → 0 < s → i < r * s → stride r s i < r * s
turned_below r s i r_pos s_pos h = omega (arith, mul-add-lt (i % s) r (i / s) s (mod_below i s s_pos) (div_below i s r s_pos h))

pub stride_undoes : (r s : ℕ) → IsWellFormed (Strided r s) → Undoes (Strided r s) (Strided s r) (r * s)
stride_undoes r s w =
    record {
      well_formed = (w.1, w.0, omega (arith, w.2));
      size_is = ap Some (mul_comm s r);
      permutes = record {
        fits = w.2;
        defined = λ i h. turn h;
        below = λ i h. omega (arith, turned_below s r i w.1 w.0 (turn h));
        once = λ i j h k e. sym (undone i h) ∙ ap (stride r s) e ∙ undone j k;
      };
      undoes = λ i h. turned_back r s i w.0 w.1 h;
      undone = undone;
    }
  where
    turn : {i : ℕ} → i < r * s → i < s * r
    turn h = omega (arith, h)

    undone : (i : ℕ) → i < r * s → stride r s (stride s r i) ≡ i
    undone i h = turned_back s r i w.1 w.0 (turn h)
