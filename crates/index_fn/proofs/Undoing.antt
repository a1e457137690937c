-- The formula that undoes a permutation of a size.
use Rattle.std.proofs.Common.{◌≡◌, ℕ, ◌+◌, ◌*◌, ◌/◌, ◌%◌, ◌<◌, ◌≤◌, ◌^◌, true, false, not, ◌&&◌, ◌||◌, eqb}
use Rattle.std.proofs.Common.{Option, Some, None, IfSome, refl, sym, ap, ◌∙◌, subst, arith, ⊎_elim}
use Rattle.std.specs.Option.{option_map}
use Rattle.std.proofs.lemmas.Bool.{and_parts, or_cases, ltb-true, eqb-true, not-true}
use Rattle.std.proofs.lemmas.Nat.{mod_below, div_below, mul-add-lt, mod-mul-add, div-mul-add, div-add-mod', mul-le}
use Rattle.index_fn.specs.Back.{HasBack, back_of, has_back, has_size, is_same}
use Rattle.index_fn.specs.Inverse.{Permutes, Undoes}
use Rattle.index_fn.specs.Mapping.{Mapping, Same, Always, Line, Strided, ThomasIn, ThomasOut, ThomasBack, Listed}
use Rattle.index_fn.specs.Mapping.{Paired, After, at, size_of, IsDefinedAt, IsWellFormed}
use Rattle.index_fn.proofs.StepsBefore.{in_inverse, in_undoes}
use Rattle.index_fn.proofs.Tables.{stride_undoes}
use Rattle.index_fn.proofs.Thomas.{out_undoes, thomas_back_undoes}

-- ---- a tensor with the identity

module _ (d : ℕ) (d1 : 1 ≤ d) where
  -- f on each of n blocks
  abbrev blocks : (ℕ → ℕ) → ℕ → ℕ
  blocks f i = f (i / d) * d + i % d

  block_of : (q j : ℕ) → j < d → (q * d + j) / d ≡ q
  block_of q j below = div-mul-add q d j below

  in_block : (q j : ℕ) → j < d → (q * d + j) % d ≡ j
  in_block q j below = mod-mul-add q d j below

  -- one after the other
  both : (f g : ℕ → ℕ) (n : ℕ) → ((q : ℕ) → q < n → g (f q) ≡ q) → (i : ℕ) → i < n * d → blocks g (blocks f i) ≡ i
  both f g n undoes i below =
      let row : i / d < n = div_below i d n d1 below in
      let column : i % d < d = mod_below i d d1 in
      ap (λ q. g q * d + blocks f i % d) (block_of (f (i / d)) (i % d) column)
      ∙ ap (λ j. g (f (i / d)) * d + j) (in_block (f (i / d)) (i % d) column)
      ∙ ap (λ q. q * d + i % d) (undoes (i / d) row)
      ∙ div-add-mod' i d

  blocks_below : (f : ℕ → ℕ) (n : ℕ) → ((q : ℕ) → q < n → f q < n) → (i : ℕ) → i < n * d → blocks f i < n * d
  blocks_below f n below i h =
      let turned : d * n ≡ n * d = omega arith in
      subst (λ (v : ℕ). blocks f i < v) turned
      (mul-add-lt (f (i / d)) d (i % d) n (below (i / d) (div_below i d n d1 h)) (mod_below i d d1))

  module _ (f : Mapping) (n : ℕ) (p : Permutes (Paired f d Same d) (n * d)) where
    place : (q : ℕ) → q < n → q * d + 0 < n * d
    place q h =
        let turned : d * n ≡ n * d = omega arith in
        subst (λ (v : ℕ). q * d + 0 < v) turned (mul-add-lt q d 0 n h d1)

    value : (q : ℕ) → blocks (at f) (q * d + 0) ≡ at f q * d + 0
    value q = ap (λ k. at f k * d + (q * d + 0) % d) (block_of q 0 d1) ∙ ap (λ j. at f q * d + j) (in_block q 0 d1)

    part_permutes : Permutes f n
    part_permutes =
        record {
          fits = fits;
          defined = λ q h. subst (IsDefinedAt f) (block_of q 0 d1) (p.defined (q * d + 0) (place q h)).0;
          below = λ q h. subst (λ (v : ℕ). v < n) (block_of (at f q) 0 d1)
              (div_below (at f q * d + 0) d n d1
              (subst (λ (v : ℕ). v < n * d) (value q) (p.below (q * d + 0) (place q h))));
          once = λ q k h l e.
              sym (block_of q 0 d1)
              ∙ ap (λ v. v / d) (p.once (q * d + 0) (k * d + 0) (place q h) (place k l)
              (value q ∙ ap (λ v. v * d + 0) e ∙ sym (value k)))
              ∙ block_of k 0 d1;
        }
      where
        fits : n < 2 ^ 64
        fits = let most : n * 1 ≤ n * d = mul-le n 1 n d (omega arith) d1 in omega (arith, most, p.fits)

    whole_undoes : (g : Mapping) → Undoes f g n → Undoes (Paired f d Same d) (Paired g d Same d) (n * d)
    whole_undoes g u =
        record {
          well_formed = (d1, u.well_formed, tt);
          size_is = ap (option_map (λ k. k * d)) u.size_is;
          permutes = record {
            fits = p.fits;
            defined = λ i h. (
              u.permutes.defined (i / d) (div_below i d n d1 h),
              tt,
              omega
                  (arith, p.fits, blocks_below (at g) n u.permutes.below i h),
            );
            below = blocks_below (at g) n u.permutes.below;
            once = λ i j h k e. sym (undone i h) ∙ ap (blocks (at f)) e ∙ undone j k;
          };
          undoes = both (at f) (at g) n u.undoes;
          undone = undone;
        }
      where
        undone : (i : ℕ) → i < n * d → blocks (at f) (blocks (at g) i) ≡ i
        undone = both (at g) (at f) n u.undone

-- ---- all formulas

abbrev number : Option ℕ → ℕ
number (Some k) = k
number None = 0

same_number : {k n : ℕ} → Some k ≡ Some n → k ≡ n
same_number e = ap number e

part_size : (d n : ℕ) (o : Option ℕ) → option_map (λ k. k * d) o ≡ Some n → (k : ℕ) × (o ≡ Some k) × (k * d ≡ n)
part_size d n (Some k) e = (k, refl, same_number e)
part_size d n None e = absurd (cc)

-- what has no size has none
unsized : (f : Mapping) (n : ℕ) → has_size f ≡ false → size_of f ≡ Some n → ⊥
unsized Same n h e = absurd (cc)
unsized (Always v) n h e = absurd (cc)
unsized (Line b s) n h e = absurd (cc)
unsized (Strided r s) n h e = absurd (cc)
unsized (ThomasIn r s) n h e = absurd (cc)
unsized (ThomasOut r s) n h e = absurd (cc)
unsized (ThomasBack r s u v) n h e = absurd (cc)
unsized (Listed places) n h e = absurd (cc)
unsized (Paired f c g d) n h e = let p = part_size d n (size_of f) e in unsized f p.0 h p.1
unsized (After f g) n h e = unsized g n h e

same_is : (f : Mapping) → is_same f ≡ true → f ≡ Same
same_is Same h = refl
same_is (Always v) h = absurd (cc)
same_is (Line b s) h = absurd (cc)
same_is (Strided r s) h = absurd (cc)
same_is (ThomasIn r s) h = absurd (cc)
same_is (ThomasOut r s) h = absurd (cc)
same_is (ThomasBack r s u v) h = absurd (cc)
same_is (Listed places) h = absurd (cc)
same_is (Paired f c g d) h = absurd (cc)
same_is (After f g) h = absurd (cc)

-- a tensor of a size is one with the identity
with_same : (f g : Mapping) (c d n : ℕ) → (not (has_size f) || (eqb c d && is_same g)) ≡ true → size_of f ≡ Some n
    → (c ≡ d) × (g ≡ Same)
with_same f g c d n h e =
    ⊎_elim
    (λ none. absurd (unsized f n (not-true (has_size f) none) e))
    (λ alike. let p = and_parts (eqb c d) (is_same g) alike in (eqb-true c d p.0, same_is g p.1))
    (or_cases (not (has_size f)) (eqb c d && is_same g) h)

abbrev FormulaUndoes : Mapping → ℕ → Type 0
FormulaUndoes f n = Permutes f n → Undoes f (back_of f) n

tensor_undoes : (f g : Mapping) (c d k n : ℕ) → c ≡ d → g ≡ Same → k * d ≡ n → 1 ≤ d → FormulaUndoes f k
    → FormulaUndoes (Paired f c g d) n
tensor_undoes f g c d k n same is size d1 inner =
    subst (λ m. FormulaUndoes (Paired f c g d) m) size
    (subst (λ h. FormulaUndoes (Paired f c h d) (k * d)) (sym is)
    (subst (λ b. FormulaUndoes (Paired f b Same d) (k * d)) (sym same)
    (λ p. whole_undoes d d1 f k p (back_of f) (inner (part_permutes d d1 f k p)))))

some_of : (r s : ℕ) → 1 ≤ r → 1 ≤ s → 0 < r * s
some_of r s r1 s1 = let most : 1 * 1 ≤ r * s = mul-le 1 1 r s r1 s1 in omega (arith, most)

pub formula_undoes : (f : Mapping) (n : ℕ) → HasBack f → IsWellFormed f → size_of f ≡ Some n → Permutes f n
    → Undoes f (back_of f) n
formula_undoes Same n h w e p = absurd (cc)
formula_undoes (Always v) n h w e p = absurd (cc)
formula_undoes (Line b s) n h w e p = absurd (cc)
formula_undoes (Strided r s) n h w e p =
    subst (λ k. FormulaUndoes (Strided r s) k) (same_number e) (λ q. stride_undoes r s w) p
formula_undoes (ThomasIn r s) n h w e p =
    let small = ltb-true (r * s) (2 ^ 32) h in
    let some = some_of r s w.0 w.1 in
    subst (λ k. FormulaUndoes (ThomasIn r s) k) (same_number e)
    (λ q. in_undoes r s w.0 w.1 small some (in_inverse r s w.0 w.1 small some q)) p
formula_undoes (ThomasOut r s) n h w e p =
    subst (λ k. FormulaUndoes (ThomasOut r s) k) (same_number e)
    (λ q. out_undoes r s w.0 w.1 (ltb-true (r * s) (2 ^ 32) h) q) p
formula_undoes (ThomasBack r s u v) n h w e p =
    subst (λ k. FormulaUndoes (ThomasBack r s u v) k) (same_number e) (λ q. thomas_back_undoes r s u v w q) p
formula_undoes (Listed places) n h w e p = absurd (cc)
formula_undoes (Paired f c g d) n h w e p =
    let has = and_parts (has_back f && has_back g) (not (has_size f) || (eqb c d && is_same g)) h in
    let size = part_size d n (size_of f) e in
    let alike = with_same f g c d size.0 has.1 size.1 in
    tensor_undoes f g c d size.0 n alike.0 alike.1 size.2 w.0
    (formula_undoes f size.0 (and_parts (has_back f) (has_back g) has.0).0 w.1 size.1)
    p
formula_undoes (After f g) n h w e p =
    absurd (unsized g n (not-true (has_size g) (and_parts (has_back f && has_back g) (not (has_size g)) h).1) e)

if_some : (o : Option ℕ) (P : ℕ → Type 0) → ((n : ℕ) → o ≡ Some n → P n) → IfSome o P
if_some (Some n) P h = h n refl
if_some None P h = tt

pub formula_if : (f g : Mapping) → HasBack f → IsWellFormed f → g ≡ back_of f
    → IfSome (size_of f) (λ n. Permutes f n → Undoes f g n)
formula_if f g h w is =
    subst (λ b. IfSome (size_of f) (λ n. Permutes f n → Undoes f b n)) (sym is)
    (if_some (size_of f) (λ n. Permutes f n → Undoes f (back_of f) n) (λ n e. formula_undoes f n h w e))
