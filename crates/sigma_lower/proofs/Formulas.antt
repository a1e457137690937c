-- The term of a whole formula as one phase: it does what the formula does, in its operations, and can be merged.
use Rattle.sigma_lower.proofs.Words.{◌≡◌, ℕ, ◌+◌, ◌*◌, ◌<◌, ◌∙◌, [], List, ap, arith, subst, sym, operations, work_cost}
use Rattle.sigma_lower.proofs.Words.{term_of, IsVector, PlainSigma, Formula, size_of, IsShaped, shaped_size}
use Rattle.sigma_lower.proofs.Words.{size_is_size, ◌%◌, mod-lt, Mapping, CanNest, IsGoodTerm, IsMove, same, product}
use Rattle.sigma_lower.proofs.Words.{PlainWork, tile, Path, IsGoodSigma, sigma_on, apply, MovesVectors}
use Rattle.sigma_lower.specs.OnePhase.{formula_sigma}
use Rattle.sigma_lower.proofs.Counted.{lower_counts}
use Rattle.sigma_lower.proofs.FormulaWords.{term-words}
use Rattle.sigma_lower.proofs.Lowers.{lowers}
use Rattle.sigma_lower.proofs.Several.{term-several}
use Rattle.sigma_spl.specs.Sigma.{CanMerge, sigma_cost}
use Rattle.sigma_spl.specs.Term.{PlainTerm, gath, scat, nest}

-- ---- a term that is good where there are no lanes is good for one

-- any permutation moves vectors of one word
moves-words : (f : ℕ → ℕ) → MovesVectors 1 f
moves-words f =
    record {
      together = λ i j whole below.
          let first : i + j ≡ i = omega (arith, below) in
          let none : f i ≡ f i + j = omega (arith, below) in
          ap f first ∙ none;
      begins = λ i whole some. let below : f i % 1 < 1 = mod-lt (f i) some in omega (arith, below);
    }

move-words : (n : ℕ) (f : Mapping) → IsMove 0 n f → IsMove 1 n f
move-words n f h =
    record {
      there = h.there;
      back = h.back;
      permutes = h.permutes;
      vectors = moves-words _;
      back_vectors = moves-words _;
    }

-- its tiles have no words
nest-words : (path : Path) (w : PlainWork) → CanNest 0 path w → CanNest 1 path w
nest-words path (tile v) h = (λ some. let none : v ≡ 0 = h.0 some in absurd (omega (arith, some, none)), h.1)
nest-words path _ h = tt

pub good-words : (n : ℕ) (t : PlainTerm) → IsGoodTerm 0 n t → IsGoodTerm 1 n t
good-words n same h = tt
good-words n (gath f) h = move-words n f h
good-words n (scat f) h = (move-words n f h.0, move-words n _ h.1, h.2)
good-words n (nest path w) h = (nest-words path w h.0, h.1)
good-words n (product a b) h = (good-words n a h.0, good-words n b h.1)
good-words n _ h = h

-- these terms, for one processor of one lane
abbrev pub one_phase : ℕ → List PlainTerm → PlainSigma
one_phase n ts = record { size = n; procs = 1; lanes = 1; phases = ts }

module _ (m : ℕ) (f : Formula) (s : PlainSigma) (some : 0 < m) (shaped : IsShaped f) (is : s ≡ formula_sigma m f) where
  pub does_the_same : (x : List ℕ) → IsVector m (size_of f) x → sigma_on m s x ≡ apply m f x
  does_the_same x v =
      ap (λ (g : PlainSigma). sigma_on m g x) is
      ∙ (lowers m [] f some (shaped_size f shaped) shaped).on x v

  pub can_merge : IsGoodSigma s
  can_merge =
      let size = shaped_size f shaped in
      let most = (size_is_size f shaped).1 in
      let term : CanMerge 1 (size_of f) (term_of m [] f) = record {
        good = good-words (size_of f) (term_of m [] f) (lowers m [] f some size shaped).good;
        several = term-several m [] f tt shaped;
        words = term-words m [] f most shaped;
      } in
      subst IsGoodSigma (sym is) (record { some = size; most = omega (arith, most); phases = (term, tt) })

  pub counts_the_same : (weight : ℕ) → sigma_cost weight (work_cost weight m) s ≡ operations weight m f
  counts_the_same weight =
      let one : 1 * operations weight m f ≡ operations weight m f = omega arith in
      let alone = lower_counts weight m [] f some shaped ∙ one in
      ap (sigma_cost weight (work_cost weight m)) is ∙ ap (λ n. n + 0) alone ∙ omega arith
