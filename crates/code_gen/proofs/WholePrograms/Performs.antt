-- The program of merged passes does what they do.
use Rattle.std.proofs.Common.{◌≡◌, ℕ, zero, suc, ◌+◌, ◌*◌, ◌<◌, ◌≤◌, All, List, [], ◌∷◌, length, inl, inr, refl, sym}
use Rattle.std.proofs.Common.{ap, arith, subst, length-append, mul-le-mul_left, ◌-◌, ◌/◌, ◌^◌, ◌&&◌, ◌++◌, replicate}
use Rattle.std.proofs.Common.{ap₂, ◌∙◌, append-nil, slice_index, slice_index_or, IsTrue}
use Rattle.std.proofs.lemmas.Bool.{cases_lt, lt-ltb}
use Rattle.std.proofs.lemmas.List.Elements.{All-append, All-cons, All-weaker}
use Rattle.std.specs.List.{list_all}
use Rattle.std.proofs.lemmas.List.{length-replicate, length-map, get_or-replicate, get_or_append_left, get_or_past}
use Rattle.std.proofs.lemmas.List.FromFn.{fill_by_all}
use Rattle.operators.proofs.Sums.{mul-sum_below, sum_below-append, sum_below-same}
use Rattle.icode.specs.Actions.{Step, StepFits, actions_of, array_start, PlainFits, plain_code, steps_of_body}
use Rattle.icode.specs.Actions.{steps_of_phase}
use Rattle.icode.specs.Plain.{PlainProgram, NoStmts}
use Rattle.icode.specs.declared.action.Action.{Action}
use Rattle.icode.specs.declared.program.Array.{Array}
use Rattle.operators.specs.declared.target.Target.{Target}
use Rattle.operators.specs.Sum.{sum_below}
use Rattle.code_gen.specs.PassActions.Acts.{pass_acts, pass_registers}
use Rattle.code_gen.specs.PassCode.Conditions.{IsInside, HasTables}
use Rattle.sigma_spl.specs.Shared.Owners.{most_actions, all_passes}
use Rattle.code_gen.specs.PassActions.Laws.{IsFit}
use Rattle.code_gen.specs.PassCode.Program.{written_array, most_of, array_after, count_in, phases_body, program_of}
use Rattle.code_gen.specs.PassCode.Program.{tables_of_phases, tables_through}
use Rattle.icode.proofs.SequenceLemmas.Placing.{slice_index-words_at}
use Rattle.icode.specs.Limits.{IsWithinLimits, is_body_within}
use Rattle.icode.specs.Machine.{Code, IsApart, Whole, phases_alone, results, runs, start, whole_lines, words_at}
use Rattle.icode.specs.declared.program.Array.TheVariants.{X, Y}
use Rattle.icode.proofs.Lists.{code_is}
use Rattle.icode.proofs.Runs.{memory_of_runs}
use Rattle.icode.specs.Fresh.{IsFresh}
use Rattle.code_gen.proofs.WholePrograms.FreshPhases.{all-fresh, fresh-code, Known}
use Rattle.icode.proofs.Words.{length-words_at}
use Rattle.operators.proofs.Lists.{length-list_below}
use Rattle.code_gen.specs.PassCode.Contract.{CanProgram, IsByPhase, Performs, ProgramsPerform}
use Rattle.sigma_spl.specs.Meaning.{IsVector}
use Rattle.sigma_spl.proofs.Walk.{residue_at}
use Rattle.sigma_spl.specs.Merged.{PlainMerged, merged_on, phase_on, phases_on}
use Rattle.sigma_spl.specs.Nest.{nests_on}
use Rattle.code_gen.proofs.WholePrograms.Processor.{Pass, AllKnown, passes_acts, runs-of, target-other, AllFrom}
use Rattle.code_gen.proofs.WholePrograms.Processor.{PhasesKnown, at-phase, passes-count, phases_known}
use Rattle.code_gen.proofs.PassCode.Emitted.{whole-enough}
use Rattle.code_gen.proofs.WholePrograms.Apart.{all-apart, phases-apart, all_parts, all-are, all-whole}
use Rattle.code_gen.proofs.WholePrograms.Lists.{passes-within, phases-extend}
use Rattle.code_gen.proofs.PassCode.SharedTables.{extends-longer}
use Rattle.code_gen.proofs.WholePrograms.Lists.{IsInsidePhase, Listed, phases-listed, steps-acts}
use Rattle.code_gen.proofs.WholePrograms.Phases.{Ready, RunsPhases, SharedFrom, all-phases, final_array, final-is}
use Rattle.code_gen.proofs.WholePrograms.Phases.{phases-shared}
use Rattle.code_gen.proofs.WholePrograms.Processor.{AllBelow, all-below, few-all}
use Rattle.code_gen.proofs.WholePrograms.ReadyPrograms.{phases-tables-within}
use Rattle.icode.specs.declared.action.Action.TheVariants as actions

-- ---- the programs of merged passes fit their machines

-- a bound on registers may be greater
fit-wider : (regs more lanes m : ℕ) (action : Action) → regs ≤ more → IsFit regs lanes m action →
    IsFit more lanes m action
fit-wider regs more lanes m (actions.Add r x y) le h =
    record { registers = (let low = h.registers.0 in omega (arith, low, le), let low = h.registers.1 in omega (arith, low, le), let low = h.registers.2 in omega (arith, low, le)); factors = h.factors }
fit-wider regs more lanes m (actions.Sub r x y) le h =
    record { registers = (let low = h.registers.0 in omega (arith, low, le), let low = h.registers.1 in omega (arith, low, le), let low = h.registers.2 in omega (arith, low, le)); factors = h.factors }
fit-wider regs more lanes m (actions.Neg r x) le h = record { registers = (let low = h.registers.0 in omega (arith, low, le), let low = h.registers.1 in omega (arith, low, le)); factors = h.factors }
fit-wider regs more lanes m (actions.Mul r x f) le h = record { registers = (let low = h.registers.0 in omega (arith, low, le), let low = h.registers.1 in omega (arith, low, le)); factors = h.factors }
fit-wider regs more lanes m (actions.Tile r x) le h =
    record { registers = (let low = h.registers.0 in omega (arith, low, le), let low = h.registers.1 in omega (arith, low, le), h.registers.2); factors = h.factors }
fit-wider regs more lanes m _ le h =
    record { registers = let low = h.registers in omega (arith, low, le); factors = h.factors }

-- steps at places that are inside, whose actions fit, fit
pub steps-fit : (program : PlainProgram) (xs : List Step) → All IsInside xs →
    All (IsFit program.regs program.lanes program.modulus) (actions_of xs) → All (StepFits program) xs
steps-fit program [] inside fit = λ k d below. absurd (omega arith)
steps-fit program (x ∷ xs) inside fit =
    All-cons (StepFits program) x xs
    (record {
      numbers = (inside 0 x (omega arith)).numbers;
      place = (inside 0 x (omega arith)).place;
      registers = (fit 0 x.action (omega arith)).registers;
      factors = (fit 0 x.action (omega arith)).factors;
    })
    (steps-fit program xs (λ k d below. inside (suc k) d (omega (arith, below))) (λ k d below. fit (suc k) d (omega (arith, below))))

pub length-actions : (xs : List Step) → length (actions_of xs) ≡ length xs
length-actions [] = refl
length-actions (x ∷ xs) = ap suc (length-actions xs)

-- a sum of n numbers, n times each of which is at most b
pub sum-shares : (n b : ℕ) (f : ℕ → ℕ) → ((i : ℕ) → i < n → n * f i ≤ b) → sum_below n f ≤ b
sum-shares zero b f each = omega arith
sum-shares (suc n) b f each =
    let most : sum_below (suc n) (λ i. suc n * f i) ≤ suc n * b = sum-most (suc n) b (λ i. suc n * f i) each in
    let all : suc n * sum_below (suc n) f ≤ suc n * b = subst (λ s. s ≤ suc n * b) (sym (mul-sum_below (suc n) (suc n) f)) most in
    elim (cases_lt b (sum_below (suc n) f)) [
      | inr low ↦ low
      | inl high ↦
          let more : suc n * (b + 1) ≤ suc n * sum_below (suc n) f = mul-le-mul_left (suc n) (omega arith) in
          let spread : suc n * (b + 1) ≡ suc n * b + suc n = omega arith in
          absurd (omega (arith, more, spread, all))
    ]
  where
    sum-most : (n k : ℕ) (f : ℕ → ℕ) → ((i : ℕ) → i < n → f i ≤ k) → sum_below n f ≤ n * k
    sum-most zero k f most = omega arith
    sum-most (suc n) k f most =
        let rest = sum-most n k f (λ i low. most i (omega (arith, low))) in
        let last = most n (omega arith) in
        let spread : suc n * k ≡ n * k + k = omega arith in
        omega (arith, rest, last, spread)

module _ (c : Target) (words : ℕ) where
  pub parts-fit : (regs after : ℕ) (ps : List Pass) (t : ℕ) (source : Array) (q : ℕ) → q < c.procs → AllKnown c ps →
      most_of c ps ≤ regs →
      All (IsFit regs c.lanes c.modulus) (passes_acts c words after ps t source q)
  parts-fit regs after [] t source q low known le = λ k d below. absurd (omega arith)
  parts-fit regs after (p ∷ ps) t source q low known le =
      let from = array_start words source in
      let target = written_array t (after + length ps) in
      All-append (IsFit regs c.lanes c.modulus) (pass_acts c p from (array_start words target) q) (passes_acts c words after ps (suc t) target q)
      (All-weaker (IsFit (pass_registers c.modulus p) c.lanes c.modulus) (IsFit regs c.lanes c.modulus)
      (λ x. fit-wider (pass_registers c.modulus p) regs c.lanes c.modulus x (omega (arith, le))) _
      ((runs-of c p known.0).fit from (array_start words target) q low))
      (parts-fit regs after ps (suc t) target q low known.1 (omega (arith, le)))

  -- the actions of all processors together are not too many
  pub parts-short : (after : ℕ) (ps : List Pass) (t : ℕ) (source : Array) (q : ℕ) → q < c.procs → AllKnown c ps →
      c.procs * length (passes_acts c words after ps t source q) ≤ most_actions c ps
  parts-short after [] t source q low known = omega arith
  parts-short after (p ∷ ps) t source q low known =
      let from = array_start words source in
      let target = written_array t (after + length ps) in
      let first = (runs-of c p known.0).short from (array_start words target) q low in
      let rest = parts-short after ps (suc t) target q low known.1 in
      let joined = length-append (pass_acts c p from (array_start words target) q) (passes_acts c words after ps (suc t) target q) in
      let spread : c.procs * (length (pass_acts c p from (array_start words target) q) + length (passes_acts c words after ps (suc t) target q)) ≡ c.procs * length (pass_acts c p from (array_start words target) q) + c.procs * length (passes_acts c words after ps (suc t) target q) = omega arith in
      let all = ap (λ n. c.procs * n) joined in
      omega (arith, first, rest, spread, all)

-- ---- the program of merged passes does what they do

most-append : (c : Target) (ps qs : List Pass) → most_actions c (ps ++ qs) ≡ most_actions c ps + most_actions c qs
most-append c [] qs = omega arith
most-append c (p ∷ ps) qs = let rest = most-append c ps qs in omega (arith, rest)

-- what passes make has the array's length
length-made : (m n : ℕ) (ps : List Pass) (x : List ℕ) → length x ≡ n → length (phase_on m n ps x) ≡ n
length-made m n [] x size = size
length-made m n (p ∷ ps) x size = length-made m n ps (nests_on m n p x) (length-list_below n _)

length-phases : (m n : ℕ) (pss : List (List Pass)) (x : List ℕ) → length x ≡ n → length (phases_on m n pss x) ≡ n
length-phases m n [] x size = size
length-phases m n (ps ∷ more) x size = length-phases m n more (phase_on m n ps x) (length-made m n ps x size)

module _ (c : Target) (g : PlainMerged) (can : CanProgram c g) where
  abbrev pss : List (List Pass)
  pss = g.phases

  abbrev p : PlainProgram
  p = program_of c g

  abbrev words : ℕ
  words = whole_lines c.size c.line

  abbrev code : Code
  code = plain_code p

  some-line : 0 < c.line
  some-line = let line = can.host.line in omega (arith, line)

  enough : c.size ≤ words
  enough = whole-enough c.size c.line some-line

  known : PhasesKnown c pss
  known = phases_known c pss can.passes

  count-some : 0 < count_in pss
  count-some = let h = can.some in let e = passes-count pss in omega (arith, h, e)

  has-tables : HasTables c (tables_of_phases c.modulus pss []) p
  has-tables = record { size = refl; modulus = refl; line = refl; lanes = refl; more = []; tables_are = sym (append-nil (tables_of_phases c.modulus pss [])) }

  listed : Listed c p refl refl refl enough 0 pss 0 X
  listed = phases-listed c p refl refl refl enough [] pss 0 [] X refl has-tables can.tables known

  shared : SharedFrom c words enough code refl refl refl pss 0 X
  shared = phases-shared c words enough code refl refl refl pss 0 can.shared

  bodies-long : (qss : List (List Pass)) (n : ℕ) (tables : List (List ℕ)) (source : Array) →
      length (phases_body c qss n tables source) ≡ length qss
  bodies-long [] n tables source = refl
  bodies-long (ps ∷ more) n tables source = ap suc (bodies-long more _ _ _)

  phases-long : length p.phases ≡ length pss
  phases-long = bodies-long pss 0 [] X

  code-long : length code.lists ≡ length pss
  code-long = length-map p.phases _ ∙ phases-long

  apart : (phase : ℕ) → IsApart code phase
  apart =
      all-apart c words enough some-line ((c.size + (c.line - 1)) / c.line) refl code (code_is p) refl refl refl refl pss code-long
      (phases-apart c words enough some-line ((c.size + (c.line - 1)) / c.line) refl code (code_is p) refl refl refl refl 0 pss 0 X known shared listed.0)

  -- ---- it fits

  below : AllBelow c p.regs pss
  below = all-below c pss

  -- a phase's steps fit
  abbrev PhaseFits : ℕ → Type 0
  PhaseFits f = (q : ℕ) → q < c.procs → All (StepFits p) (steps_of_phase p f q)

  abbrev Runs : ℕ → List (List Pass) → ℕ → Array → Type 0
  Runs f qss n source = RunsPhases c words enough code refl refl refl f qss n source

  runs-acts : (f : ℕ) (ps : List Pass) (more : List (List Pass)) (n : ℕ) (source : Array) → f < length pss →
      Runs f (ps ∷ more) n source → (q : ℕ) → q < c.procs → passes_acts c words (count_in more) ps n source q
      ≡ actions_of (steps_of_phase p f q)
  runs-acts f ps more n source here runs q low =
      sym (runs.0 q low) ∙ steps-acts p f q (let long = phases-long in omega (arith, here, long)) low

  all-fit : (f : ℕ) (qss : List (List Pass)) (n : ℕ) (source : Array) → f + length qss ≡ length pss →
      PhasesKnown c qss → AllBelow c p.regs qss → Runs f qss n source → AllFrom (IsInsidePhase c p refl refl refl enough) f qss →
      AllFrom PhaseFits f qss
  all-fit f [] n source e known below runs inside = tt
  all-fit f (ps ∷ more) n source e known below runs inside = (
    λ q low.
        steps-fit p (steps_of_phase p f q) (inside.0 q low)
        (subst (All (IsFit p.regs c.lanes c.modulus)) (runs-acts f ps more n source (omega (arith, e)) runs q low) (parts-fit c words p.regs (count_in more) ps n source q low known.0 below.0)),
    all-fit (f + 1) more (n + length ps) (array_after (count_in more) ps n source) (omega (arith, e)) known.1 below.1 runs.1 inside.1,
  )

  no-steps : (f q : ℕ) → length pss ≤ f → steps_of_phase p f q ≡ []
  no-steps f q past = ap (λ b. steps_of_body p b [] q) (get_or_past p.phases f NoStmts (let long = phases-long in omega (arith, past, long)))

  phase-fits : (f : ℕ) → PhaseFits f
  phase-fits f =
      elim (cases_lt f (length pss)) [
        | inl low ↦ subst PhaseFits (omega arith) (at-phase PhaseFits 0 pss (all-fit 0 pss 0 X (omega arith) known below listed.0 listed.1) f low)
        | inr past ↦ λ q low. subst (All (StepFits p)) (sym (no-steps f q past)) (λ k d under. absurd (omega (arith, under)))
      ]

  -- how many steps all processors have in a phase
  abbrev phase_steps : ℕ → ℕ
  phase_steps f = sum_below c.procs (λ q. length (steps_of_phase p f q))

  steps-few : (f : ℕ) (qss : List (List Pass)) (n : ℕ) (source : Array) → f + length qss ≡ length pss →
      PhasesKnown c qss → Runs f qss n source → sum_below (length qss) (λ k. phase_steps (f + k))
      ≤ most_actions c (all_passes qss)
  steps-few f [] n source e known runs = omega arith
  steps-few f (ps ∷ more) n source e known runs =
      let rest = steps-few (f + 1) more (n + length ps) (array_after (count_in more) ps n source) (omega (arith, e)) known.1 runs.1 in
      let one : phase_steps f ≤ most_actions c ps =
      sum-shares c.procs (most_actions c ps) (λ q. length (steps_of_phase p f q)) (λ q low.
      let mine = parts-short c words (count_in more) ps n source q low known.0 in
      let same = ap length (runs-acts f ps more n source (omega (arith, e)) runs q low) in
      let long = length-actions (steps_of_phase p f q) in
      subst (λ k. c.procs * k ≤ most_actions c ps) (same ∙ long) mine) in
      let first : sum_below (1 + length more) (λ k. phase_steps (f + k)) ≡ (0 + phase_steps (f + 0)) + sum_below (length more) (λ k. phase_steps (f + (1 + k))) = sum_below-append 1 (length more) (λ k. phase_steps (f + k)) in
      let next : sum_below (length more) (λ k. phase_steps (f + (1 + k))) ≡ sum_below (length more) (λ k. phase_steps (f + 1 + k)) = sum_below-same (length more) _ _ (λ k low. let moved : f + (1 + k) ≡ f + 1 + k = omega arith in ap phase_steps moved) in
      let here : phase_steps (f + 0) ≡ phase_steps f = (let same : f + 0 ≡ f = omega arith in ap phase_steps same) in
      let count : sum_below (suc (length more)) (λ k. phase_steps (f + k)) ≡ sum_below (1 + length more) (λ k. phase_steps (f + k)) = (let next : suc (length more) ≡ 1 + length more = omega arith in ap (λ k. sum_below k (λ j. phase_steps (f + j))) next) in
      let all = most-append c ps (all_passes more) in
      most_sum _ _ _ _ _ _ _ count first next here one rest all
    where
      most_sum : (whole parted first_one here rest next total : ℕ) → whole ≡ parted → parted ≡ 0 + first_one + rest →
          rest ≡ next → first_one ≡ here → here ≤ most_actions c ps → next ≤ most_actions c (all_passes more) →
          total ≡ most_actions c ps + most_actions c (all_passes more) → whole ≤ total
      most_sum whole parted first_one here rest next total a b d e f g h = omega arith

  fits : PlainFits p
  fits =
      record {
        few =
            let all = steps-few 0 pss 0 X (omega arith) known listed.0 in
            let same : sum_below (length pss) (λ k. phase_steps (0 + k)) ≡ sum_below (length pss) phase_steps = sum_below-same (length pss) _ _ (λ k low. let moved : 0 + k ≡ k = omega arith in ap phase_steps moved) in
            let long : sum_below (length p.phases) phase_steps ≡ sum_below (length pss) phase_steps = ap (λ n. sum_below n phase_steps) phases-long in
            let few = can.few in
            omega (arith, all, same, long, few);
        each = λ f q low. phase-fits f q low;
      }

  -- ---- what it leaves

  module _ (x : List ℕ) (vector : IsVector c.modulus c.size x) where
    abbrev begun : Whole
    begun = record { memory = (start code x).memory; registers = (start code x).registers }

    abbrev made : List ℕ
    made = phases_on c.modulus c.size pss x

    ready : Ready c words enough code refl refl refl p.regs X x begun
    ready =
        record {
          room = record {
            memory =
                let room = enough in
                let rest = length-replicate {A = ℕ} (4 * words - c.size) 0 in
                let long = length-append x (replicate (4 * words - c.size) 0) in
                let size = vector.size in
                omega (arith, room, rest, long, size);
            files = length-replicate {A = List ℕ} c.procs (replicate {A = ℕ} (p.regs * c.lanes) 0);
            each = λ r low.
                let there : slice_index_or (replicate c.procs (replicate {A = ℕ} (p.regs * c.lanes) 0)) r [] ≡ replicate {A = ℕ} (p.regs * c.lanes) 0 = get_or-replicate c.procs r (replicate {A = ℕ} (p.regs * c.lanes) 0) [] low in
                let long = length-replicate {A = ℕ} (p.regs * c.lanes) 0 in
                let same = ap length there in
                omega (arith, long, same);
          };
          held = λ i low. let here : 0 + i ≡ i = omega arith in let size = vector.size in ap (slice_index begun.memory) here ∙ get_or_append_left x (replicate (4 * words - c.size) 0) 0 i (omega (arith, low, size));
          residues = λ i low. residue_at c.modulus c.size x i vector low;
        }

    ended : Ready c words enough code refl refl refl p.regs (final_array c words enough code refl refl refl pss 0 X)
        made (phases_alone code (length pss) 0 begun)
    ended = all-phases c words enough code refl refl refl p.regs 0 pss 0 X x begun known below shared (λ some. target-other 0 (count_in pss - 1)) listed.0 ready

    memory-is : (runs code x []).memory ≡ (phases_alone code (length pss) 0 begun).memory
    memory-is = memory_of_runs code (code_is p) apart x [] ∙ ap (λ n. (phases_alone code n 0 begun).memory) code-long

    results-are : results code x [] ≡ merged_on c.modulus g x
    results-are =
        let after = (phases_alone code (length pss) 0 begun).memory in
        ap (λ memory. words_at c.size memory words) memory-is
        ∙ fill_by_all (slice_index made) (words_at c.size after words) c.size 0 (length-words_at c.size after words)
        (λ k low.
        slice_index-words_at c.size after words k low
        ∙ subst (λ a. slice_index after (array_start words a + k) ≡ slice_index made k) (final-is c words enough code refl refl refl pss 0 X count-some) (ended.held k low))
        ∙ sym (fill_by_all (slice_index made) made c.size 0 (length-phases c.modulus c.size pss x vector.size) (λ k low. refl))
        ∙ ap (λ n. phases_on c.modulus n pss x) (sym can.size)

  -- ---- its limits

  bodies-within : (qss : List (List Pass)) (n : ℕ) (tables : List (List ℕ)) (source : Array) → PhasesKnown c qss →
      length (tables_of_phases c.modulus qss tables) < 2 ^ 32 →
      IsTrue (list_all (λ body. is_body_within c.modulus body 0) (phases_body c qss n tables source))
  bodies-within [] n tables source known few = refl
  bodies-within (ps ∷ more) n tables source known few =
      let through = tables_through c.modulus ps tables in
      let longer = extends-longer (phases-extend c.modulus more through) in
      ap₂ (λ a b. a && b) (passes-within c (count_in more) ps n tables source known.0 (omega (arith, few, longer)))
      (bodies-within more (n + length ps) through (array_after (count_in more) ps n source) known.1 few)

  -- there is a phase
  phases-some : 0 < length pss
  phases-some = some_of pss count-some
    where
      some_of : (qss : List (List Pass)) → 0 < count_in qss → 0 < length qss
      some_of [] some = some
      some_of (ps ∷ more) some = omega arith

  limits : IsWithinLimits p
  limits =
      let large = can.host.modulus in
      record {
        header = record {
          of_size = can.host.size;
          of_modulus = large;
          of_procs = can.host.procs;
          of_line = can.host.line;
          of_lanes = can.host.lanes;
          of_regs = few-all c pss known;
        };
        constants = phases-tables-within c (omega (arith, large)) pss [] known refl;
        statements = ap₂ (λ a b. a && b) (lt-ltb 0 (length p.phases) (let long = phases-long in let some = phases-some in omega (arith, long, some))) (bodies-within pss 0 [] X known can.tables);
      }

  parts-listed : (q : ℕ) → q < c.procs → IsByPhase c g code q
  parts-listed q low =
      record {
        phases = all_parts c enough code refl refl refl q low pss 0 X;
        lists = all-whole c enough code refl refl refl q low 0 pss 0 X listed.0;
        each = all-are c enough code refl refl refl q low pss 0 X known;
      }

  -- ---- it reads nothing that is left over

  fresh : IsFresh code
  fresh =
      let all =
      all-fresh c words enough code refl refl refl 0 pss 0 X known shared (λ some. target-other 0 (count_in pss - 1)) listed.0
      (λ i below. inl (let here : 0 + i ≡ i = omega arith in omega (arith, here, below))) in
      let count : 0 + length pss ≡ length pss = omega arith in
      fresh-code c words enough code (code_is p) refl refl refl refl refl pss code-long count-some all.0
      (λ i below.
      subst (λ n. Known c words enough code refl refl refl n (array_start words Y + i)) count
      (subst (λ a. Known c words enough code refl refl refl (0 + length pss) (array_start words a + i))
      (final-is c words enough code refl refl refl pss 0 X count-some) (all.1 i below)))

  few-tables : length p.tables ≤ 2 ^ 64
  few-tables = let few = can.tables in omega (arith, few)

  performs : Performs c g p
  performs =
      record {
        size = refl;
        modulus = refl;
        procs = refl;
        line = refl;
        lanes = refl;
        limits = limits;
        tables = few-tables;
        fits = fits;
        apart = apart;
        results = results-are;
        fresh = fresh;
        phases = phases-long;
        parts = parts-listed;
      }

pub programs_perform : ProgramsPerform
programs_perform c g can = performs c g can
