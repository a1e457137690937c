-- The least numbers of which something holds, and what a table's entry says by them.
use Rattle.std.proofs.Common.{◌≡◌, ◌≢◌, ℕ, ◌≤◌, ◌⊎◌, inl, inr, Bool, true, false, Option, Some, None, refl, sym, ap}
use Rattle.std.proofs.Common.{◌∙◌, arith, ⊎_elim}
use Rattle.std.specs.Prelude.{◌==◌, MatchOption, if◌then◌else◌}
use Rattle.std.proofs.lemmas.Bool.{eqb-true, eqb-false}
use Rattle.code_check.specs.declared.lines.LineUse.{LineUse}
use Rattle.code_check.specs.Uses.{earliest, second_with, touched_by}

-- the least number of which a fact holds, if there is one
abbrev pub IsLeast : (ℕ → Type 0) → Option ℕ → Type 0
IsLeast P o = MatchOption o ((r : ℕ) → P r → ⊥) (λ a. P a × ((r : ℕ) → P r → a ≤ r))

least_same : (P Q : ℕ → Type 0) (o : Option ℕ) → ((r : ℕ) → P r → Q r) → ((r : ℕ) → Q r → P r) → IsLeast P o →
    IsLeast Q o
least_same P Q None there back h = λ r x. h r (back r x)
least_same P Q (Some a) there back h = (there a h.0, λ r x. h.1 r (back r x))

-- a number q, of those that come in rising order, is the least if it is the first
least_more : (P Q : ℕ → Type 0) (o : Option ℕ) (q : ℕ) → ((r : ℕ) → P r → r ≤ q) → ((r : ℕ) → P r → Q r) → Q q →
    ((r : ℕ) → Q r → P r ⊎ (r ≡ q)) → IsLeast P o → IsLeast Q (earliest o q)
least_more P Q None q rising there here back h = (here, λ r x. ⊎_elim (λ (y : P r). absurd (h r y)) (λ (e : r ≡ q). omega arith) (back r x))
least_more P Q (Some a) q rising there here back h =
    (there a h.0, λ r x. ⊎_elim (λ (y : P r). h.1 r y) (λ (e : r ≡ q). omega (arith, rising a h.0)) (back r x))

-- W holds of the processors that write the line, and T of those that touch it
pub record IsUsedBy (W T : ℕ → Type 0) (e : LineUse) : Type 0 where
  pub writer : IsLeast W e.writer
  pub first : IsLeast T e.first
  pub second : IsLeast (λ r. T r × (e.first ≢ Some r)) e.second

pub used_same : (W T V U : ℕ → Type 0) (e : LineUse) → ((r : ℕ) → W r → V r) → ((r : ℕ) → V r → W r) →
    ((r : ℕ) → T r → U r) → ((r : ℕ) → U r → T r) → IsUsedBy W T e → IsUsedBy V U e
used_same W T V U e wv vw tu ut h =
    record {
      writer = least_same W V e.writer wv vw h.writer;
      first = least_same T U e.first tu ut h.first;
      second = least_same (λ r. T r × (e.first ≢ Some r)) (λ r. U r × (e.first ≢ Some r)) e.second (λ r x. (tu r x.0, x.1)) (λ r x. (ut r x.0, x.1)) h.second;
    }

-- the second that touches the line
second_more : (T U : ℕ → Type 0) (q : ℕ) (first second : Option ℕ) → ((r : ℕ) → T r → r ≤ q) → ((r : ℕ) → T r → U r) →
    U q → ((r : ℕ) → U r → T r ⊎ (r ≡ q)) → IsLeast T first → IsLeast (λ r. T r × (first ≢ Some r)) second →
    IsLeast (λ r. U r × (earliest first q ≢ Some r)) (second_with first second q)
second_more T U q None second rising there here back none h =
    least_same (λ r. T r × (None ≢ Some r)) (λ r. U r × (Some q ≢ Some r)) second
    (λ r x. absurd (none r x.0))
    (λ r x. ⊎_elim (λ (y : T r). absurd (none r y)) (λ (e : r ≡ q). absurd (x.1 (ap Some (sym e)))) (back r x.0)) h
second_more T U q (Some a) second rising there here back least h =
    by_test (a == q) refl
  where
    by_test : (b : Bool) → (a == q) ≡ b → IsLeast (λ r. U r × (Some a ≢ Some r))
        (if b then second else earliest second q)
    by_test true e =
        let same : a ≡ q = eqb-true a q e in
        least_same (λ r. T r × (Some a ≢ Some r)) (λ r. U r × (Some a ≢ Some r)) second (λ r x. (there r x.0, x.1))
        (λ r x. (⊎_elim (λ (y : T r). y) (λ (f : r ≡ q). absurd (x.1 (ap Some (same ∙ sym f)))) (back r x.0), x.1)) h
    by_test false e =
        let other : a ≢ q = eqb-false a q e in
        least_more (λ r. T r × (Some a ≢ Some r)) (λ r. U r × (Some a ≢ Some r)) second q (λ r x. rising r x.0) (λ r x. (there r x.0, x.1))
        (here, λ f. other (let g : a ≡ q = cc in g))
        (λ r x. ⊎_elim (λ (y : T r). inl (y, x.1)) (λ (f : r ≡ q). inr f) (back r x.0)) h

-- the line's use after processor q has touched it, where all that used it before are no greater
pub use_more : (W T V U : ℕ → Type 0) (q : ℕ) (writes : Bool) (e : LineUse) → ((r : ℕ) → W r → r ≤ q) →
    ((r : ℕ) → T r → r ≤ q) → ((r : ℕ) → W r → V r) → (writes ≡ true → V q) →
    ((r : ℕ) → V r → W r ⊎ ((r ≡ q) × (writes ≡ true))) → ((r : ℕ) → T r → U r) → U q →
    ((r : ℕ) → U r → T r ⊎ (r ≡ q)) → IsUsedBy W T e → IsUsedBy V U (touched_by q writes e)
use_more W T V U q writes e risingW risingT wv vq vw tu uq ut h = record {
  writer = of_writer writes wv vq vw;
  first = least_more T U e.first q risingT tu uq ut h.first;
  second = second_more T U q e.first e.second risingT tu uq ut h.first h.second;
}
  where
    of_writer : (b : Bool) → ((r : ℕ) → W r → V r) → (b ≡ true → V q) → ((r : ℕ) → V r → W r ⊎ ((r ≡ q) × (b ≡ true))) →
        IsLeast V (if b then earliest e.writer q else e.writer)
    of_writer true wv vq vw = least_more W V e.writer q risingW wv (vq refl) (λ r x. ⊎_elim (λ (y : W r). inl y) (λ (f : (r ≡ q) × (true ≡ true)). inr f.0) (vw r x)) h.writer
    of_writer false wv vq vw = least_same W V e.writer wv (λ r x. ⊎_elim (λ (y : W r). y) (λ (f : (r ≡ q) × (false ≡ true)). cc (f.1)) (vw r x)) h.writer
