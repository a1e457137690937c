-- What a processor's parts of the passes of a phase leave, one pass after another.
use Rattle.std.proofs.Common.{◌≡◌, ◌≢◌, ℕ, zero, suc, ◌<◌, ◌≤◌, refl, List, [], ◌∷◌, ◌++◌, map, sym, ap, ◌∙◌, arith}
use Rattle.std.proofs.Common.{subst, inl, inr, Contains, if◌then◌else◌, slice_index, ◌==◌, ◌+◌, length, All}
use Rattle.std.proofs.Common.{length-append, ◌*◌, ◌%◌, ◌-◌, max, ◌^◌}
use Rattle.std.proofs.lemmas.Bool.{cases_eq, cases_lt}
use Rattle.std.proofs.lemmas.Bool.Decides.{nat_tests}
use Rattle.std.proofs.lemmas.List.Elements.{All-head, All-tail}
use Rattle.std.proofs.Math.Nat.{mul-le-mul_right, le-max_left, le-max_right}
use Rattle.operators.specs.Sum.{sum_below}
use Rattle.icode.proofs.Lines.{Contains-head, Contains-tail}
use Rattle.sigma_spl.specs.Shared.Running.{CanRun, IsStoredBy, IsLoadedBy}
use Rattle.operators.specs.declared.target.Target.{Target}
use Rattle.sigma_spl.specs.Shared.Machine.{framed_lanes, if_several}
use Rattle.sigma_spl.proofs.Walk.{nests-vector, residue_at}
use Rattle.sigma_spl.specs.Copies.{loops_of, hits}
use Rattle.sigma_spl.specs.Nest.{PlainNest, copies_of, store_place, nests_on}
use Rattle.sigma_spl.specs.Work.{work_size}
use Rattle.operators.specs.Paths.Loop.{nest_sum, loop_at}
use Rattle.operators.specs.Paths.Tensors.{Path, count_of, AreInRange}
use Rattle.icode.specs.Actions.{array_start}
use Rattle.icode.specs.declared.action.Action.{Action}
use Rattle.icode.specs.declared.program.Array.{Array}
use Rattle.code_gen.specs.PassActions.Acts.{pass_acts, pass_registers}
use Rattle.code_gen.specs.PassCode.Conditions.{CanWritePass}
use Rattle.sigma_spl.specs.Shared.Owners.{all_passes, AllOwn, FirstOwns}
use Rattle.code_gen.specs.PassActions.Laws.{Runs, AreApart, CanBegin, Leaves}
use Rattle.code_gen.specs.PassCode.Program.{count_in, written_array, array_after, most_of, most_of_phases}
use Rattle.icode.specs.declared.program.Array.TheVariants.{X, Y, A, B}
use Rattle.icode.proofs.SequenceLemmas.ByLane.{lists_follow}
use Rattle.icode.proofs.SequenceLemmas.Stores.{length-memory, length-registers}
use Rattle.icode.specs.Machine.{Local, effects}
use Rattle.sigma_spl.specs.Merged.{phase_on}
use Rattle.code_gen.proofs.PassActions.Copies.{modulus-some, nest-can, first_value, in_counts, under-several}
use Rattle.code_gen.proofs.PassActions.Copies.{loaded-below, stored-below, words_apart}
use Rattle.code_gen.proofs.PassActions.PassesRun.{passes_run}
use Rattle.code_gen.proofs.PassCode.Writing.{by_zero}
use Rattle.icode.specs.Sequences.Nests as nests

-- ---- each word of the array is stored by a processor

-- ---- a term of a sum that is not 0

some-term : (n : ℕ) (h : ℕ → ℕ) → 1 ≤ sum_below n h → (i : ℕ) × (i < n) × (1 ≤ h i)
some-term zero h some = absurd (omega arith)
some-term (suc n) h some =
    elim (cases_lt 0 (h n)) [
      | inl last ↦ (n, omega arith, omega arith)
      | inr none ↦ let rest = some-term n h (omega arith) in (rest.0, let low = rest.1 in omega arith, rest.2)
    ]

some-values : (path : Path) (h : List ℕ → ℕ) → 1 ≤ nest_sum path h → (vs : List ℕ) × AreInRange path vs × (1 ≤ h vs)
some-values [] h some = ([], tt, some)
some-values (t ∷ path) h some =
    let first = some-term (count_of t) (λ v. nest_sum path (λ vs. h (v ∷ vs))) some in
    let rest = some-values path (λ vs. h (first.0 ∷ vs)) first.2 in (first.0 ∷ rest.0, (first.1, rest.1), rest.2)

test-met : (a w : ℕ) → 1 ≤ (if a == w then 1 else 0) → a ≡ w
test-met a w some = grind (arith, nat_tests)

-- a copy and an item that are stored at a place
pub record IsHit (z : PlainNest) (w : ℕ) : Type 0 where
  pub values : List ℕ
  pub item : ℕ
  pub in_range : AreInRange (loops_of z.counts) values
  pub below : item < work_size z.work
  pub there : store_place z.work z.scatters values item ≡ w

hit-of : (m : ℕ) (z : PlainNest) (w : ℕ) → 1 ≤ loop_at (loops_of z.counts)
    (copies_of m z).size (copies_of m z).to (λ vs k. 1) w → IsHit z w
hit-of m z w some =
    let copy = some-values (loops_of z.counts) _ some in
    let item = some-term (work_size z.work) _ copy.2 in
    record { values = copy.0; item = item.0; in_range = copy.1; below = item.1; there = test-met _ w item.2 }

pass-hit : (m : ℕ) (zs : List PlainNest) (w : ℕ) → 1 ≤ hits (map (copies_of m) zs) w →
    (z : PlainNest) × Contains zs z × IsHit z w
pass-hit m [] w some = absurd (omega arith)
pass-hit m (z ∷ zs) w some =
    elim (cases_lt 0 (loop_at (loops_of z.counts) (copies_of m z).size (copies_of m z).to (λ vs k. 1) w)) [
      | inl here ↦ (z, Contains-head z zs, hit-of m z w (omega arith))
      | inr none ↦ let rest = pass-hit m zs w (omega arith) in (rest.0, Contains-tail z zs rest.0 rest.1, rest.2)
    ]

-- ---- its processor

head-below : (n : ℕ) (counts vs : List ℕ) → n ≢ 1 → nests.AreInRange (if_several n n ++ counts) vs →
    slice_index vs 0 < n
head-below n counts vs several range =
    let first = under-several n counts vs range in
    subst (λ v. v < n) (sym (ap (λ us. slice_index us 0) first.joined ∙ first_value n first.value first.rest several))
    first.below

module _ (c : Target) (zs : List PlainNest) (can : CanRun c zs) where
  pub stored-by : (w : ℕ) → w < c.size → 0 < c.procs → (q : ℕ) × (q < c.procs) × IsStoredBy c zs q w
  stored-by w low some =
      let found = pass-hit c.modulus zs w (let once = can.once w low in omega arith) in
      let z = found.0 in
      let hit = found.2 in
      let framed = (nest-can c zs can z found.1).framed in
      elim (cases_eq c.procs 1) [
        | inl one ↦ (
          0,
          some,
          record { nest = z; one = found.1; values = hit.values; item = hit.item; copy = record { in_range = hit.in_range; processor = λ several. absurd (several one) }; below = hit.below; there = hit.there },
        )
        | inr several ↦
            let range : nests.AreInRange (if_several c.procs c.procs ++ (framed_lanes c z.work ++ framed.loops)) hit.values =
            subst (λ counts. nests.AreInRange counts hit.values) framed.counts (in_counts z.counts hit.values hit.in_range) in (
              slice_index hit.values 0,
              head-below c.procs (framed_lanes c z.work ++ framed.loops) hit.values several range,
              record { nest = z; one = found.1; values = hit.values; item = hit.item; copy = record { in_range = hit.in_range; processor = λ _. refl }; below = hit.below; there = hit.there },
            )
      ]

  -- a word that belongs to a processor is stored by it
  pub stored-own : (owner : ℕ → ℕ) → ((q w : ℕ) → q < c.procs → IsStoredBy c zs q w → owner w ≡ q) → (q w : ℕ) →
      q < c.procs → w < c.size → owner w ≡ q → IsStoredBy c zs q w
  stored-own owner owns q w low below own =
      let found = stored-by w below (omega arith) in
      subst (λ r. IsStoredBy c zs r w) (sym (owns found.0 w found.1 found.2) ∙ own) found.2

  -- what a pass leaves are residues
  pub made-residues : (x : List ℕ) (i : ℕ) → i < c.size → slice_index (nests_on c.modulus c.size zs x) i < c.modulus
  made-residues x i = residue_at c.modulus c.size _ i (nests-vector c.modulus c.size zs x (modulus-some c zs can))

-- ---- what is known of passes, phase by phase, and their actions

-- nests that write one array together
abbrev pub Pass : Type 0
Pass = List PlainNest

abbrev pub AllKnown : Target → List Pass → Type 0
AllKnown c [] = Unit {0}
AllKnown c (p ∷ ps) = CanWritePass c p × AllKnown c ps

abbrev pub PhasesKnown : Target → List (List Pass) → Type 0
PhasesKnown c [] = Unit {0}
PhasesKnown c (ps ∷ more) = AllKnown c ps × PhasesKnown c more

all_known : (c : Target) (ps : List Pass) → All (CanWritePass c) ps → AllKnown c ps
all_known c [] h = tt
all_known c (p ∷ ps) h = (All-head (CanWritePass c) p ps h, all_known c ps (All-tail (CanWritePass c) p ps h))

known-split : (c : Target) (ps qs : List Pass) → AllKnown c (ps ++ qs) → AllKnown c ps × AllKnown c qs
known-split c [] qs h = (tt, h)
known-split c (p ∷ ps) qs h = let rest = known-split c ps qs h.1 in ((h.0, rest.0), rest.1)

known-parts : (c : Target) (pss : List (List Pass)) → AllKnown c (all_passes pss) → PhasesKnown c pss
known-parts c [] h = tt
known-parts c (ps ∷ more) h = let parts = known-split c ps (all_passes more) h in (parts.0, known-parts c more parts.1)

pub phases_known : (c : Target) (pss : List (List Pass)) → All (CanWritePass c) (all_passes pss) → PhasesKnown c pss
phases_known c pss h = known-parts c pss (all_known c (all_passes pss) h)

-- passes are counted phase by phase
pub passes-count : (pss : List (List Pass)) → length (all_passes pss) ≡ count_in pss
passes-count [] = refl
passes-count (ps ∷ more) =
    let all = length-append ps (all_passes more) in let rest = passes-count more in omega (arith, all, rest)

-- what holds of each phase, where the first has this number
abbrev pub AllFrom : (ℕ → Type 0) → ℕ → List (List Pass) → Type 0
AllFrom P f [] = Unit {0}
AllFrom P f (ps ∷ more) = P f × AllFrom P (f + 1) more

pub at-phase : (P : ℕ → Type 0) (f : ℕ) (pss : List (List Pass)) → AllFrom P f pss → (k : ℕ) → k < length pss →
    P (f + k)
at-phase P f [] h k low = absurd (omega (arith, low))
at-phase P f (ps ∷ more) h zero low = subst P (omega arith) h.0
at-phase P f (ps ∷ more) h (suc k) low = subst P (omega arith) (at-phase P (f + 1) more h.1 k (omega (arith, low)))

pub runs-of : (c : Target) (p : Pass) → CanWritePass c p → Runs c p
runs-of c p can = passes_run c p can.runs

-- the actions of passes, the first of which has number t and reads the source, given how many come after them and how
-- many words an array has
abbrev pub passes_acts : Target → ℕ → ℕ → List Pass → ℕ → Array → ℕ → List Action
passes_acts c words after [] t source q = []
passes_acts c words after (p ∷ ps) t source q =
    pass_acts c p (array_start words source) (array_start words (written_array t (after + length ps))) q
    ++ passes_acts c words after ps (suc t) (written_array t (after + length ps)) q

-- ---- no pass reads the array that it writes

-- the arrays in their order
abbrev pub number : Array → ℕ
number X = 0
number Y = 1
number A = 2
number B = 3

abbrev pub IsOther : Array → Array → Type 0
IsOther a b = number a ≢ number b

-- they stand one after another
pub start-is : (n : ℕ) (a : Array) → array_start n a ≡ number a * n
start-is n X = omega arith
start-is n _ = omega arith

-- an array is in the memory
pub inside-memory : (n : ℕ) (a : Array) → array_start n a + n ≤ 4 * n
inside-memory n X = omega arith
inside-memory n _ = omega arith

module _ (n size : ℕ) (enough : size ≤ n) where
  ends-before : (a b : Array) → number a < number b → array_start n a + size ≤ array_start n b
  ends-before a b low =
      let next : (number a + 1) * n ≤ number b * n = mul-le-mul_right n (omega arith) in
      let spread : (number a + 1) * n ≡ number a * n + n = omega arith in
      omega (arith, start-is n a, start-is n b, next, spread)

  -- different arrays have no word in common
  pub apart : (a b : Array) → IsOther a b → AreApart size (array_start n a) (array_start n b)
  apart a b other =
      elim (cases_lt (number a) (number b)) [
        | inl low ↦ inl (ends-before a b low)
        | inr high ↦ inr (ends-before b a (omega arith))
      ]

-- passes that others follow write A where their number is even, and else B
pub scratch-number : (t k : ℕ) → number (written_array t (suc k)) ≡ 2 + t % 2
scratch-number t k =
    by_zero (t % 2) (λ b. number (if b then A else B) ≡ 2 + t % 2) (λ even. omega arith) (λ odd. omega arith)

pub last-number : (t : ℕ) → number (written_array t zero) ≡ 1
last-number t = refl

-- no pass writes X
pub target-other : (t k : ℕ) → IsOther X (written_array t k)
target-other t zero = λ e. let is = last-number t in absurd (omega (arith, e, is))
target-other t (suc k) = λ e. let is = scratch-number t k in absurd (omega (arith, e, is))

-- the next pass reads what this one wrote
pub next-other : (t k j : ℕ) → IsOther (written_array t (suc k)) (written_array (suc t) j)
next-other t k zero = λ e. let this = scratch-number t k in absurd (omega arith)
next-other t k (suc j) = λ e. let this = scratch-number t k in let next = scratch-number (suc t) j in absurd (omega arith)

-- ---- what a processor's parts of the passes of a phase leave, one pass after another

module _ (c : Target) (words : ℕ) (enough : c.size ≤ words) (owner : ℕ → ℕ) (after : ℕ) where
  -- what a processor may read: all of X, which nobody writes, and its own words of the other arrays
  abbrev pub MayRead : Array → ℕ → ℕ → Type 0
  MayRead X q i = Unit {0}
  MayRead _ q i = owner i ≡ q

  pub own-read : (source : Array) (q i : ℕ) → owner i ≡ q → MayRead source q i
  own-read X q i own = tt
  own-read _ q i own = own

  pub read-own : (b : Array) (q i : ℕ) → IsOther X b → MayRead b q i → owner i ≡ q
  read-own X q i other may = absurd (other refl)
  read-own _ q i other may = may

  abbrev pub Reads : Pass → Array → Type 0
  Reads p source = (q w : ℕ) → q < c.procs → IsLoadedBy c p q w → MayRead source q w

  abbrev pub Owns : Pass → Type 0
  Owns p = (q w : ℕ) → q < c.procs → IsStoredBy c p q w → owner w ≡ q

  -- the passes read what they may, and write what is their own
  abbrev pub Owned : List Pass → ℕ → Array → Type 0
  Owned [] t source = Unit {0}
  Owned (p ∷ ps) t source = Reads p source × Owns p × Owned ps (suc t) (written_array t (after + length ps))

  pub all-owned : (ps : List Pass) (t : ℕ) (source : Array) → AllOwn c owner ps → Owned ps t source
  all-owned [] t source h = tt
  all-owned (p ∷ ps) t source h =
      (λ q w low is. own-read source q w (h.0 q w low is), h.1, all-owned ps (suc t) (written_array t (after + length ps)) h.2)

  pub first-owned : (ps : List Pass) (t : ℕ) → FirstOwns c owner ps → Owned ps t X
  first-owned [] t h = tt
  first-owned (p ∷ ps) t h = (λ q w low is. tt, h.0, all-owned ps (suc t) (written_array t (after + length ps)) h.1)

  -- there is room for a processor's parts of the passes, and what it may read of their source holds residues
  pub record Holds (ps : List Pass) (t : ℕ) (source : Array) (q : ℕ) (x : List ℕ) (s : Local) : Type 0 where
    pub memory : length s.memory ≡ 4 * words
    pub registers : most_of c ps * c.lanes ≤ length s.registers
    pub held : (i : ℕ) → i < c.size → MayRead source q i → slice_index s.memory (array_start words source + i)
        ≡ slice_index x i
    pub residues : (i : ℕ) → i < c.size → slice_index x i < c.modulus
    pub other : 0 < length ps → IsOther source (written_array t (after + length ps - 1))

  -- its own words of the last array have what the passes make, and what belongs to another and all of X are unchanged
  pub record Left (ps : List Pass) (t : ℕ) (source : Array) (q : ℕ) (x : List ℕ) (s end : Local) : Type 0 where
    pub stored : (i : ℕ) → i < c.size → owner i ≡ q → slice_index end.memory
        (array_start words (array_after after ps t source) + i) ≡ slice_index (phase_on c.modulus c.size ps x) i
    pub kept : (a : Array) (i : ℕ) → i < c.size → owner i ≢ q →
        slice_index end.memory (array_start words a + i) ≡ slice_index s.memory (array_start words a + i)
    pub first : (i : ℕ) → i < c.size → slice_index end.memory (array_start words X + i)
        ≡ slice_index s.memory (array_start words X + i)

  module _ (p : Pass) (ps : List Pass) (t : ℕ) (source : Array) (q : ℕ) (low : q < c.procs) (x : List ℕ) (s : Local) (known : CanWritePass c p) (reads : Reads p source)
      (owns : Owns p) (h : Holds (p ∷ ps) t source q x s) where
    abbrev target : Array
    target = written_array t (after + length ps)

    abbrev from : ℕ
    from = array_start words source

    abbrev to : ℕ
    to = array_start words target

    apart-arrays : AreApart c.size from to
    apart-arrays =
        let rest : after + suc (length ps) - 1 ≡ after + length ps = omega arith in
        apart words c.size enough source target (subst (λ (n : ℕ). IsOther source (written_array t n)) rest (h.other (omega arith)))

    begins : CanBegin c p from to q x s
    begins =
        record {
          registers =
              let most = h.registers in
              let first : pass_registers c.modulus p * c.lanes ≤ max (pass_registers c.modulus p) (most_of c ps) * c.lanes = mul-le-mul_right c.lanes (le-max_left (pass_registers c.modulus p) (most_of c ps)) in
              omega arith;
          sources = let all = h.memory in let room = inside-memory words source in omega arith;
          targets = let all = h.memory in let room = inside-memory words target in omega arith;
          held = λ w is. h.held w (loaded-below c p known.runs q w is) (reads q w low is);
          residues = h.residues;
        }

    leaves : Leaves c p from to q x s
    leaves = (runs-of c p known).leaves from to q x s low apart-arrays begins

    abbrev next : Local
    next = effects c.modulus c.lanes (pass_acts c p from to q) s

    abbrev made : List ℕ
    made = nests_on c.modulus c.size p x

    -- each own word of the target is stored
    own-stored : (i : ℕ) → i < c.size → owner i ≡ q → slice_index next.memory (to + i) ≡ slice_index made i
    own-stored i below own = leaves.stored i (stored-own c p known.runs owner owns q i low below own)

    -- other words are not
    other-owner : (i : ℕ) → i < c.size → owner i ≢ q → slice_index next.memory (to + i) ≡ slice_index s.memory (to + i)
    other-owner i below other =
        leaves.kept (to + i) (λ w is e.
        let same : i ≡ w = omega (arith, e) in
        other (ap owner same ∙ owns q w low is))

    other-array : (a : Array) (i : ℕ) → i < c.size → IsOther a target →
        slice_index next.memory (array_start words a + i) ≡ slice_index s.memory (array_start words a + i)
    other-array a i below other =
        leaves.kept (array_start words a + i) (λ w is e.
        words_apart c.size (array_start words a) to i w (array_start words a + i)
        (apart words c.size enough a target other)
        below (stored-below c p known.runs q w is) refl e)

    one-kept : (a : Array) (i : ℕ) → i < c.size → owner i ≢ q →
        slice_index next.memory (array_start words a + i) ≡ slice_index s.memory (array_start words a + i)
    one-kept a i below other =
        elim (cases_eq (number a) (number target)) [
          | inl same ↦
              let there : to ≡ array_start words a =
              start-is words target ∙ ap (λ k. k * words) (sym same) ∙ sym (start-is words a) in
              subst (λ start. slice_index next.memory (start + i) ≡ slice_index s.memory (start + i)) there
              (other-owner i below other)
          | inr differs ↦ other-array a i below differs
        ]

    holds-next : Holds ps (suc t) target q made next
    holds-next =
        record {
          memory = length-memory c.modulus c.lanes (pass_acts c p from to q) s ∙ h.memory;
          registers =
              let same = length-registers c.modulus c.lanes (pass_acts c p from to q) s in
              let most = h.registers in
              let rest : most_of c ps * c.lanes ≤ max (pass_registers c.modulus p) (most_of c ps) * c.lanes =
              mul-le-mul_right c.lanes (le-max_right (pass_registers c.modulus p) (most_of c ps)) in
              omega arith;
          held = λ i below may. own-stored i below (read-own target q i (target-other t (after + length ps)) may);
          residues = made-residues c p known.runs x;
          other = λ some.
              let more : after + length ps ≡ suc (after + length ps - 1) = omega (arith, some) in
              subst (λ (n : ℕ). IsOther (written_array t n) (written_array (suc t) (after + length ps - 1))) (sym more)
              (next-other t (after + length ps - 1) (after + length ps - 1));
        }

  -- all parts of a processor
  pub parts-leave : (ps : List Pass) (t : ℕ) (source : Array) (q : ℕ) (x : List ℕ) (s : Local) → q < c.procs →
      AllKnown c ps → Owned ps t source → Holds ps t source q x s →
      Left ps t source q x s (effects c.modulus c.lanes (passes_acts c words after ps t source q) s)
  parts-leave [] t source q x s low known owned h =
      record { stored = λ i below own. h.held i below (own-read source q i own); kept = λ a i below other. refl; first = λ i below. refl }
  parts-leave (p ∷ ps) t source q x s low known owned h =
      let target = written_array t (after + length ps) in
      let middle = next p ps t source q low x s known.0 owned.0 owned.1 h in
      let rest =
      parts-leave ps (suc t) target q (nests_on c.modulus c.size p x) middle low known.1 owned.2
      (holds-next p ps t source q low x s known.0 owned.0 owned.1 h) in
      let follow : effects c.modulus c.lanes (passes_acts c words after (p ∷ ps) t source q) s
      ≡ effects c.modulus c.lanes (passes_acts c words after ps (suc t) target q) middle =
      lists_follow c.modulus c.lanes (pass_acts c p (array_start words source) (array_start words target) q)
      (passes_acts c words after ps (suc t) target q) s in
      subst (Left (p ∷ ps) t source q x s) (sym follow)
      (record {
        stored = rest.stored;
        kept = λ a i below other.
            rest.kept a i below other
            ∙ one-kept p ps t source q low x s known.0 owned.0 owned.1 h a i below other;
        first = λ i below.
            rest.first i below
            ∙ other-array p ps t source q low x s known.0 owned.0 owned.1 h X i below
            (target-other t (after + length ps));
      })

-- ---- the registers of a program are those of the pass that uses most

module _ (c : Target) where
  -- each phase has its registers among those of all
  abbrev pub AllBelow : ℕ → List (List Pass) → Type 0
  AllBelow regs [] = Unit {0}
  AllBelow regs (ps ∷ more) = (most_of c ps ≤ regs) × AllBelow regs more

  below-more : (regs other : ℕ) (pss : List (List Pass)) → regs ≤ other → AllBelow regs pss → AllBelow other pss
  below-more regs other [] le h = tt
  below-more regs other (ps ∷ more) le h = (omega (arith, le, h.0), below-more regs other more le h.1)

  pub all-below : (pss : List (List Pass)) → AllBelow (most_of_phases c pss) pss
  all-below [] = tt
  all-below (ps ∷ more) = (omega arith, below-more (most_of_phases c more) (most_of_phases c (ps ∷ more)) more (omega arith) (all-below more))

  few-registers : (ps : List Pass) → AllKnown c ps → most_of c ps < 2 ^ 20
  few-registers [] known = omega arith
  few-registers (p ∷ ps) known = let first = known.0.few in let rest = few-registers ps known.1 in omega arith

  pub few-all : (pss : List (List Pass)) → PhasesKnown c pss → most_of_phases c pss < 2 ^ 20
  few-all [] known = omega arith
  few-all (ps ∷ more) known = let first = few-registers ps known.0 in let rest = few-all more known.1 in omega arith
