-- What a table's first shared line says.
use Rattle.std.proofs.Common.{◌≡◌, ◌≢◌, ℕ, zero, suc, ◌+◌, ◌<◌, ◌≤◌, Bool, true, false, List, [], ◌∷◌, Option, Some}
use Rattle.std.proofs.Common.{None, length, refl, sym, ap, ◌∙◌, subst, arith, ⊎_elim}
use Rattle.std.specs.Prelude.{◌==◌, slice_index_or, if◌then◌else◌}
use Rattle.std.proofs.lemmas.Bool.{cases_eq, eqb-true, eqb-false}
use Rattle.code_check.specs.declared.lines.LineUse.{LineUse}
use Rattle.code_check.specs.declared.lines.Sharing.{Sharing}
use Rattle.code_check.specs.Uses.{unused, sharing_with, sharing_of, sooner, first_sharing}
use Rattle.code_check.proofs.Sharing.{IsLeast, IsUsedBy}

-- a line that nobody shares
none_with : (W T : ℕ → Type 0) (phase line : ℕ) (writer first second : Option ℕ) → IsLeast W writer → IsLeast T first →
    IsLeast (λ r. T r × (first ≢ Some r)) second → ((r : ℕ) → W r → T r) →
    sharing_with phase line writer first second ≡ None → (x y : ℕ) → W x → T y → y ≢ x → ⊥
none_with W T phase line None first second hw hf hs wt e x y wx ty ne = hw x wx
none_with W T phase line (Some writer) None second hw hf hs wt e x y wx ty ne = hf y ty
none_with W T phase line (Some writer) (Some first) None hw hf hs wt e x y wx ty ne =
    ⊎_elim
    (λ (same : first ≡ x). hs y (ty, λ f. let g : first ≡ y = cc in ne (sym g ∙ same)))
    (λ (other : first ≢ x). hs x (wt x wx, λ f. other (let g : first ≡ x = cc in g)))
    (cases_eq first x)
none_with W T phase line (Some writer) (Some first) (Some second) hw hf hs wt e x y wx ty ne = cc

pub nobody_shares : (W T : ℕ → Type 0) (phase line : ℕ) (u : LineUse) → IsUsedBy W T u → ((r : ℕ) → W r → T r) →
    sharing_of phase line u ≡ None → (x y : ℕ) → W x → T y → y ≢ x → ⊥
nobody_shares W T phase line u h wt e = none_with W T phase line u.writer u.first u.second h.writer h.first h.second wt e

-- a line that is shared
pub record IsSharedBy (W T : ℕ → Type 0) (a b : ℕ) : Type 0 where
  pub writes : W a
  pub touches : T b
  pub other : b ≢ a
  pub writers : (x : ℕ) → W x → a ≤ x
  pub others : (y : ℕ) → T y → y ≢ a → b ≤ y

shared_with : (W T : ℕ → Type 0) (phase line : ℕ) (s : Sharing) (writer first second : Option ℕ) → IsLeast W writer →
    IsLeast T first → IsLeast (λ r. T r × (first ≢ Some r)) second →
    sharing_with phase line writer first second ≡ Some s → (s.phase ≡ phase) × (s.line ≡ line) × IsSharedBy W T s.a s.b
shared_with W T phase line s None first second hw hf hs e = cc
shared_with W T phase line s (Some writer) None second hw hf hs e = cc
shared_with W T phase line s (Some writer) (Some first) None hw hf hs e = cc
shared_with W T phase line s (Some writer) (Some first) (Some second) hw hf hs e = by_test (first == writer) refl e
  where
    by_test : (b : Bool) → (first == writer) ≡ b → Some (record { phase = phase; line = line; a = writer; b = if b then second else first }) ≡ Some s → (s.phase ≡ phase) × (s.line ≡ line) × IsSharedBy W T s.a s.b
    by_test true et e =
        let same : first ≡ writer = eqb-true first writer et in
        let is : record { phase = phase; line = line; a = writer; b = second } ≡ s = cc in
        subst (λ (z : Sharing). (z.phase ≡ phase) × (z.line ≡ line) × IsSharedBy W T z.a z.b) is (
          refl,
          refl,
          record {
            writes = hw.0;
            touches = hs.0.0;
            other = λ f. hs.0.1 (ap Some (same ∙ sym f));
            writers = hw.1;
            others = λ y ty ne. hs.1 y (ty, λ f. ne (let g : first ≡ y = cc in sym g ∙ same));
          },
        )
    by_test false et e =
        let different : first ≢ writer = eqb-false first writer et in
        let is : record { phase = phase; line = line; a = writer; b = first } ≡ s = cc in
        subst (λ (z : Sharing). (z.phase ≡ phase) × (z.line ≡ line) × IsSharedBy W T z.a z.b) is (
          refl,
          refl,
          record { writes = hw.0; touches = hf.0; other = different; writers = hw.1; others = λ y ty ne. hf.1 y ty },
        )

pub someone_shares : (W T : ℕ → Type 0) (phase line : ℕ) (s : Sharing) (u : LineUse) → IsUsedBy W T u →
    sharing_of phase line u ≡ Some s → (s.phase ≡ phase) × (s.line ≡ line) × IsSharedBy W T s.a s.b
someone_shares W T phase line s u h e = shared_with W T phase line s u.writer u.first u.second h.writer h.first h.second e

-- the first shared line of a table

none_after : (o rest : Option Sharing) → sooner o rest ≡ None → (o ≡ None) × (rest ≡ None)
none_after None rest e = (refl, e)
none_after (Some s) rest e = cc

pub none_in_table : (phase line : ℕ) (table : List LineUse) → first_sharing phase line table ≡ None → (k : ℕ) →
    k < length table → sharing_of phase (line + k) (slice_index_or table k unused) ≡ None
none_in_table phase line [] e k lt = absurd (omega arith)
none_in_table phase line (u ∷ table) e zero lt =
    let same : line + 0 ≡ line = omega arith in ap (λ n. sharing_of phase n u) same ∙ (none_after (sharing_of phase line u) (first_sharing phase (line + 1) table) e).0
none_in_table phase line (u ∷ table) e (suc k) lt =
    let same : line + suc k ≡ line + 1 + k = omega arith in
    ap (λ n. sharing_of phase n (slice_index_or table k unused)) same
    ∙ none_in_table phase (line + 1) table (none_after (sharing_of phase line u) (first_sharing phase (line + 1) table) e).1 k (omega arith)

pub record FirstInTable (phase line : ℕ) (table : List LineUse) (s : Sharing) (k : ℕ) : Type 0 where
  pub inside : k < length table
  pub here : sharing_of phase (line + k) (slice_index_or table k unused) ≡ Some s
  pub before : (j : ℕ) → j < k → sharing_of phase (line + j) (slice_index_or table j unused) ≡ None

first_by : (phase line : ℕ) (u : LineUse) (table : List LineUse) (s : Sharing) (o : Option Sharing) →
    sharing_of phase line u ≡ o → (first_sharing phase (line + 1) table ≡ Some s →
    (k : ℕ) × FirstInTable phase (line + 1) table s k) → sooner o (first_sharing phase (line + 1) table) ≡ Some s →
    (k : ℕ) × FirstInTable phase line (u ∷ table) s k
first_by phase line u table s (Some z) eo more e =
    let same : line + 0 ≡ line = omega arith in
    (0, record { inside = omega arith; here = ap (λ n. sharing_of phase n u) same ∙ (eo ∙ e); before = λ j lt. absurd (omega arith) })
first_by phase line u table s None eo more e =
    let found = more e in
    let next : (j : ℕ) → line + suc j ≡ line + 1 + j = λ j. omega arith in (
      suc found.0,
      record {
        inside = omega (arith, found.1.inside);
        here = ap (λ n. sharing_of phase n (slice_index_or table found.0 unused)) (next found.0) ∙ found.1.here;
        before = none_before found.0 found.1.before next;
      },
    )
  where
    none_before : (k : ℕ) → ((j : ℕ) → j < k → sharing_of phase (line + 1 + j) (slice_index_or table j unused) ≡ None) →
        ((j : ℕ) → line + suc j ≡ line + 1 + j) → (j : ℕ) → j < suc k →
        sharing_of phase (line + j) (slice_index_or (u ∷ table) j unused) ≡ None
    none_before k h next zero lt = let same : line + 0 ≡ line = omega arith in ap (λ n. sharing_of phase n u) same ∙ eo
    none_before k h next (suc j) lt = ap (λ n. sharing_of phase n (slice_index_or table j unused)) (next j) ∙ h j (omega arith)

pub first_in_table : (phase line : ℕ) (table : List LineUse) (s : Sharing) → first_sharing phase line table ≡ Some s →
    (k : ℕ) × FirstInTable phase line table s k
first_in_table phase line [] s e = cc
first_in_table phase line (u ∷ table) s e =
    first_by phase line u table s (sharing_of phase line u) refl (first_in_table phase (line + 1) table s) e
