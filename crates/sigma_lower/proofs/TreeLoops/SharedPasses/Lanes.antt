-- Passes whose lanes are vectors, and what merging keeps of them.
use Rattle.sigma_lower.proofs.Words.{◌≡◌, ℕ, ◌+◌, ◌*◌, ◌<◌, arith, sym, ap, ◌∙◌, List, [], ◌∷◌, subst, Some, zero-mul}
use Rattle.sigma_lower.proofs.Words.{Mapping, at, Target, item_of, values_of, lane_step, none-some, same_Some}
use Rattle.sigma_lower.proofs.Words.{PlainDiagonal, PlainPass, Merging, through, new_pass, scattered, multiplied}
use Rattle.sigma_lower.proofs.Words.{merge_term, gath, scat, diag, nest, PlainWork, work_size, inner_of, Path, place}
use Rattle.sigma_lower.proofs.Words.{IsFramed, AllFramed, ◌/◌, ◌%◌, refl, ◌++◌, Blocks, Columns}
use Rattle.std.proofs.Common.{mul-zero}
use Rattle.sigma_lower.proofs.TreeLoops.SharedPasses.Merging.{Ends, ends-push, ends-last, ends-weaken}
use Rattle.sigma_lower.proofs.TreeLoops.SharedPasses.Naturals.{IsLoop}
use Rattle.sigma_lower.proofs.TreeTerms.Vectors.{KeepsVectors, HasVectors, apart, size-vectors}

-- ---- gathers that keep vectors, one after the other, and what a path leaves of them

abbrev pub AllKeepVectors : ℕ → List Mapping → Type 0
AllKeepVectors v [] = Unit {0}
AllKeepVectors v (f ∷ fs) = KeepsVectors v f × AllKeepVectors v fs

pub keep-append : (v : ℕ) (fs : List Mapping) (f : Mapping) → AllKeepVectors v fs → KeepsVectors v f →
    AllKeepVectors v (fs ++ f ∷ [])
keep-append v [] f h k = (k, tt)
keep-append v (g ∷ fs) f h k = (h.0, keep-append v fs f h.1 k)

pub through-keeps : (v : ℕ) (fs : List Mapping) → AllKeepVectors v fs → (a : ℕ) →
    (b : ℕ) × ((l : ℕ) → l < v → through fs (a * v + l) ≡ b * v + l)
through-keeps v [] h a = (a, λ l below. refl)
through-keeps v (f ∷ fs) h a =
    let one = h.0 a in
    let rest = through-keeps v fs h.1 one.0 in
    (rest.0, λ l below. ap (through fs) (one.1 l below) ∙ rest.1 l below)

-- the words of a vector are one item of their copies
pub inner-vectors : (v : ℕ) (path : Path) (n a l : ℕ) → HasVectors v path → l < v →
    at (inner_of path n) (a * v + l) ≡ at (inner_of path n) (a * v + 0)
inner-vectors v [] n a l h below = omega (arith, h, below)
inner-vectors v (Blocks k ∷ path) n a l h below =
    let whole = size-vectors v path n h in
    let g = inner_of path n in
    let positive : 0 < v = omega (arith, below) in
    ap (λ s. 0 * 0 + at g ((a * v + l) % s)) whole.1
    ∙ ap (λ y. 0 * 0 + at g y) (apart a whole.0 v l below).column
    ∙ ap (λ y. 0 * 0 + y) (inner-vectors v path n (a % whole.0) l h below)
    ∙ ap (λ y. 0 * 0 + at g y) (sym (apart a whole.0 v 0 positive).column)
    ∙ ap (λ s. 0 * 0 + at g ((a * v + 0) % s)) (sym whole.1)
inner-vectors v (Columns k ∷ path) n a l h below =
    let g = inner_of path n in
    let positive : 0 < v = omega (arith, below) in
    ap (λ s. at g ((a * v + l) / s) * 1 + 0) h.1
    ∙ ap (λ y. at g y * 1 + 0) ((apart a h.0 v l below).row ∙ sym (apart a h.0 v 0 positive).row)
    ∙ ap (λ s. at g ((a * v + 0) / s) * 1 + 0) (sym h.1)

-- the entries of a diagonal for the words of a vector stand k apart
abbrev pub HasStep : ℕ → ℕ → Path → ℕ → Type 0
HasStep v k path n = (a l : ℕ) → l < v → at (inner_of path n) (a * v + l) ≡ at (inner_of path n) (a * v + 0) + k * l

pub record IsLanedDiagonal (v k : ℕ) (d : PlainDiagonal) : Type 0 where
  pub places : AllKeepVectors v d.places
  pub factors : HasStep v k d.path (d.rows * d.cols)

-- a pass over registers whose functions keep vectors
pub record IsLanedPass (c : Target) (p : PlainPass) : Type 0 where
  pub loop : IsLoop c p.path p.work
  pub befores : AllKeepVectors c.lanes p.befores
  pub afters : AllKeepVectors c.lanes p.afters
  pub diagonals : (d : PlainDiagonal) → p.diagonal ≡ Some d → IsLanedDiagonal c.lanes (lane_step p.work) d

-- ---- such a pass is framed

-- what functions that keep vectors make of a vector is one
moved-vector : (v : ℕ) (fs : List Mapping) (b : ℕ) (natural : ℕ → ℕ) → AllKeepVectors v fs →
    ((l : ℕ) → l < v → natural l ≡ b * v + l) →
    (t : ℕ) × ((l : ℕ) → l < v → through fs (natural l) ≡ t * v + l)
moved-vector v fs b natural h e =
    let to = through-keeps v fs h b in (to.0, λ l below. ap (through fs) (e l below) ∙ to.1 l below)

beside : (v t l : ℕ) (natural : ℕ → ℕ) → l < v → ((j : ℕ) → j < v → natural j ≡ t * v + j) → natural l ≡ natural 0 + l
beside v t l natural below e =
    let first : natural 0 ≡ t * v + 0 = e 0 (omega (arith, below)) in omega (arith, e l below, first)

pub laned-framed : (c : Target) (p : PlainPass) → IsLanedPass c p → IsFramed c p
laned-framed c p h =
    let n = work_size p.work in
    let natural = λ (vs : List ℕ) (q k lane : ℕ). place p.path n (values_of c p.work q lane vs) (item_of p.work k lane) in
    record {
      loops = h.loop.loops;
      path = h.loop.form;
      lanes = h.loop.lanes;
      vectors = λ vs q lane k range one below inside.
          let here = h.loop.vectors vs q k one in
          let loads = moved-vector c.lanes p.befores here.0 (natural vs q k) h.befores here.1 in
          let stores = moved-vector c.lanes p.afters here.0 (natural vs q k) h.afters here.1 in
          record {
            gathers = beside c.lanes loads.0 lane (λ l. through p.befores (natural vs q k l)) below loads.1;
            scatters = beside c.lanes stores.0 lane (λ l. through p.afters (natural vs q k l)) below stores.1;
          };
      factors = λ d e vs q lane k range one below inside.
          let here = h.loop.vectors vs q k one in
          let to = moved-vector c.lanes d.places here.0 (natural vs q k) (h.diagonals d e).places here.1 in
          let inner = at (inner_of d.path (d.rows * d.cols)) in
          ap inner (to.1 lane below)
          ∙ (h.diagonals d e).factors to.0 lane below
          ∙ ap (λ y. y + lane_step p.work * lane) (sym (ap inner (to.1 0 (omega (arith, below)))));
    }

pub all-framed : (c : Target) (R : PlainPass → Type 0) (ps : List PlainPass) → Ends (IsLanedPass c) R ps →
    AllFramed c ps
all-framed c R [] h = tt
all-framed c R (p ∷ []) h = (laned-framed c p h.0, tt)
all-framed c R (p ∷ q ∷ ps) h = (laned-framed c p h.0, all-framed c R (q ∷ ps) h.1)

-- ---- merging

-- such passes, of which the last one has this work, and functions that keep vectors
abbrev pub Laned : Target → (PlainWork → Type 0) → Merging → Type 0
Laned c R st = Ends (IsLanedPass c) (λ p. R p.work) st.passes × AllKeepVectors c.lanes st.waiting

pub laned-gath : (c : Target) (R : PlainWork → Type 0) (st : Merging) (f : Mapping) → KeepsVectors c.lanes f →
    Laned c R st → Laned c R (merge_term st (gath f))
laned-gath c R st f k h = (h.0, (k, h.1))

pub laned-scat : (c : Target) (R : PlainWork → Type 0) (st : Merging) (f : Mapping) → KeepsVectors c.lanes f →
    Laned c R st → Laned c R (merge_term st (scat f))
laned-scat c R st f k h = (
  ends-last (IsLanedPass c) (λ p. R p.work) (λ p. R p.work) (scattered f) st.passes h.0 (λ p g r.
      (record { loop = g.loop; befores = g.befores; afters = keep-append c.lanes p.afters f g.afters k; diagonals = g.diagonals }, r)),
  h.1,
)

multiplied-laned : (c : Target) (path : Path) (r s w : ℕ) (p : PlainPass) →
    HasStep c.lanes (lane_step p.work) path (r * s) → IsLanedPass c p → IsLanedPass c (multiplied path r s w p)
multiplied-laned c path r s w p k h = record {
  loop = h.loop;
  befores = h.befores;
  afters = h.afters;
  diagonals = λ d e.
      subst (IsLanedDiagonal c.lanes (lane_step p.work)) (same_Some (record { path = path; rows = r; cols = s; root = w; places = p.afters }) d e) (record { places = h.afters; factors = k });
}

pub laned-diag : (c : Target) (R : PlainWork → Type 0) (st : Merging) (path : Path) (r s w : ℕ) →
    ((does : PlainWork) → R does → HasStep c.lanes (lane_step does) path (r * s)) →
    Laned c R st → Laned c R (merge_term st (diag path r s w))
laned-diag c R st path r s w k h = (
  ends-last (IsLanedPass c) (λ p. R p.work) (λ p. R p.work) (multiplied path r s w) st.passes h.0 (λ p g l. (multiplied-laned c path r s w p (k p.work l) g, l)),
  h.1,
)

pub laned-nest : (c : Target) (R S : PlainWork → Type 0) (st : Merging) (path : Path) (w : PlainWork) →
    IsLoop c path w → S w → Laned c R st → Laned c S (merge_term st (nest path w))
laned-nest c R S st path w k l h = (
  ends-push (IsLanedPass c) (λ p. R p.work) (λ p. S p.work) st.passes (new_pass path w st.waiting) h.0
      (record { loop = k; befores = h.1; afters = tt; diagonals = λ d e. absurd (none-some d e) }) l,
  tt,
)

pub laned-weaken : (c : Target) (R S : PlainWork → Type 0) (st : Merging) → ((w : PlainWork) → R w → S w) →
    Laned c R st → Laned c S st
laned-weaken c R S st k h = (ends-weaken (IsLanedPass c) (λ p. R p.work) (λ p. S p.work) st.passes h.0 (λ p g r. k p.work r), h.1)

-- ---- diagonals

-- the entries of one lane's vectors stand any number apart
pub single-step : (v k : ℕ) (path : Path) (n : ℕ) → v ≡ 1 → HasStep v k path n
single-step v k path n one a l below =
    let first : l ≡ 0 = omega (arith, one, below) in
    let none : k * l ≡ 0 = ap (λ j. k * j) first ∙ mul-zero k in
    ap (λ j. at (inner_of path n) (a * v + j)) first ∙ omega (arith, none)

-- those of a transform are one entry
pub vectors-step : (v k : ℕ) (path : Path) (n : ℕ) → HasVectors v path → k ≡ 0 → HasStep v k path n
vectors-step v k path n h e a l below =
    let none : k * l ≡ 0 = ap (λ j. j * l) e ∙ zero-mul l in
    inner-vectors v path n a l h below ∙ omega (arith, none)
