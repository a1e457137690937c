-- The list of actions of each phase and processor is the processor's parts of the passes of the phase.
use Rattle.std.proofs.Common.{◌≡◌, ℕ, suc, ◌+◌, ◌^◌, ◌<◌, List, [], ◌∷◌, ◌++◌, length, true, refl, ap, ◌∙◌, arith}
use Rattle.std.proofs.Common.{append_assoc, ◌≤◌, map, sym, length-append, subst, All, slice_index_or}
use Rattle.std.proofs.Math.Seq.{get_or-append_seam}
use Rattle.std.proofs.lemmas.List.{get_or-map}
use Rattle.std.proofs.lemmas.List.FromFn.{get_or-map-range_with_len}
use Rattle.std.specs.List.{range_with_len}
use Rattle.icode.specs.Actions.{array_start, steps_of_body, actions_of, plain_code, steps_of_phase}
use Rattle.icode.specs.Limits.{is_body_within}
use Rattle.icode.specs.Machine.{whole_lines, Code, acts}
use Rattle.icode.specs.Plain.{PlainProgram, PlainBody, NoStmts}
use Rattle.code_gen.specs.PassActions.Acts.{pass_acts}
use Rattle.icode.specs.declared.program.Array.{Array}
use Rattle.code_gen.specs.PassCode.Conditions.{HasTables, IsInside}
use Rattle.operators.specs.declared.target.Target.{Target}
use Rattle.code_gen.specs.PassCode.Program.{written_array, phase_body, tables_through, tables_of_phases, phases_body}
use Rattle.code_gen.specs.PassCode.Program.{count_in, array_after}
use Rattle.code_gen.specs.PassCode.Statements.{pass_body, tables_after}
use Rattle.icode.specs.declared.action.Action.{Action}
use Rattle.code_gen.proofs.PassCode.Limits.{within-followed}
use Rattle.code_gen.proofs.PassCode.NestEmits.{pass-extends, passes_are_emitted}
use Rattle.code_gen.proofs.PassCode.Emits.{Emits, emits-followed, emits-none, emits-same}
use Rattle.code_gen.proofs.PassCode.SharedTables.{Extends, extends-longer, extends-more, extends-same}
use Rattle.code_gen.proofs.WholePrograms.Processor.{Pass, AllKnown, passes_acts, AllFrom, PhasesKnown}
use Rattle.code_gen.proofs.WholePrograms.Phases.{RunsPhases}

-- ---- the statements of passes in a row are their actions

pub through-extends : (m : ℕ) (ps : List Pass) (ts : List (List ℕ)) → Extends (tables_through m ps ts) ts
through-extends m [] ts = extends-same ts
through-extends m (p ∷ ps) ts = extends-more (through-extends m ps (tables_after m p ts)) (pass-extends m p ts)

pub phases-extend : (m : ℕ) (pss : List (List Pass)) (ts : List (List ℕ)) → Extends (tables_of_phases m pss ts) ts
phases-extend m [] ts = extends-same ts
phases-extend m (ps ∷ more) ts = extends-more (phases-extend m more (tables_through m ps ts)) (through-extends m ps ts)

module _ (c : Target) where
  -- a program with more tables has the first ones
  pub fewer-tables : (a b : List (List ℕ)) (program : PlainProgram) → Extends b a → HasTables c b program →
      HasTables c a program
  fewer-tables a b program g h =
      record {
        size = h.size;
        modulus = h.modulus;
        line = h.line;
        lanes = h.lanes;
        more = g.last ++ h.more;
        tables_are = h.tables_are ∙ ap (λ (ts : List (List ℕ)). ts ++ h.more) g.is ∙ append_assoc a g.last h.more;
      }

  abbrev words : ℕ
  words = whole_lines c.size c.line

  module _ (after : ℕ) (program : PlainProgram) (q : ℕ) (low : q < c.procs) where
    pub passes-emit : (ps : List Pass) (t : ℕ) (tables : List (List ℕ)) (source : Array) → AllKnown c ps →
        length (tables_through c.modulus ps tables) < 2 ^ 32 →
        HasTables c (tables_through c.modulus ps tables) program →
        Emits (steps_of_body program (phase_body c after ps t tables source) [] q)
        (passes_acts c words after ps t source q)
    passes-emit [] t tables source all few has = emits-none
    passes-emit (p ∷ ps) t tables source all few has =
        let so_far = tables_after c.modulus p tables in
        let target = written_array t (after + length ps) in
        let later = through-extends c.modulus ps so_far in
        let longer = extends-longer later in
        let mine = fewer-tables so_far (tables_through c.modulus ps so_far) program later has in
        let first = passes_are_emitted c p tables source target all.0 (omega arith) in
        emits-followed program q (pass_body c p tables source target) (phase_body c after ps (suc t) so_far target) []
        (pass_acts c p (array_start words source) (array_start words target) q)
        (passes_acts c words after ps (suc t) target q)
        (record { acts = first.acts program q low mine; inside = first.inside program q low mine })
        (passes-emit ps (suc t) so_far target all.1 few has)

  pub passes-within : (after : ℕ) (ps : List Pass) (t : ℕ) (tables : List (List ℕ)) (source : Array) → AllKnown c ps →
      length (tables_through c.modulus ps tables) < 2 ^ 32 →
      is_body_within c.modulus (phase_body c after ps t tables source) 0 ≡ true
  passes-within after [] t tables source all few = refl
  passes-within after (p ∷ ps) t tables source all few =
      let so_far = tables_after c.modulus p tables in
      let target = written_array t (after + length ps) in
      let longer = extends-longer (through-extends c.modulus ps so_far) in
      within-followed c.modulus (pass_body c p tables source target) (phase_body c after ps (suc t) so_far target) 0
      (passes_are_emitted c p tables source target all.0 (omega arith)).within
      (passes-within after ps (suc t) so_far target all.1 few)

-- ---- the list of actions of each phase and processor is the processor's parts of the passes of the phase

module _ (p : PlainProgram) where
  -- a processor's list in a phase is the actions of its steps
  pub steps-acts : (f q : ℕ) → f < length p.phases → q < p.procs →
      acts (plain_code p) f q ≡ actions_of (steps_of_phase p f q)
  steps-acts f q low high =
      let lists : PlainBody → List (List Action) =
      λ b. map (λ r. actions_of (steps_of_body p b [] r)) (range_with_len 0 p.procs) in
      ap (λ (l : List (List Action)). slice_index_or l q []) (get_or-map lists p.phases f NoStmts [] low)
      ∙ get_or-map-range_with_len (λ r. actions_of (steps_of_body p (slice_index_or p.phases f NoStmts) [] r)) 0 p.procs
      q q [] high (omega arith)

  steps-at : (front : List PlainBody) (body : PlainBody) (back : List PlainBody) (q : ℕ) →
      p.phases ≡ front ++ body ∷ back → steps_of_phase p (length front) q ≡ steps_of_body p body [] q
  steps-at front body back q is =
      ap (λ (b : PlainBody). steps_of_body p b [] q)
      (ap (λ (bodies : List PlainBody). slice_index_or bodies (length front) NoStmts) is
      ∙ get_or-append_seam front body back NoStmts)

module _ (c : Target) where
  module _ (p : PlainProgram) (modulus_is : p.modulus ≡ c.modulus) (lanes_are : p.lanes ≡ c.lanes)
      (procs_are : p.procs ≡ c.procs) (enough : c.size ≤ (words c)) where
    abbrev code : Code
    code = plain_code p

    -- each step of a phase is inside
    abbrev pub IsInsidePhase : ℕ → Type 0
    IsInsidePhase f = (q : ℕ) → q < c.procs → All IsInside (steps_of_phase p f q)

    abbrev pub Listed : ℕ → List (List Pass) → ℕ → Array → Type 0
    Listed f pss t source =
        RunsPhases c (words c) enough code modulus_is lanes_are procs_are f pss t source × AllFrom IsInsidePhase f pss

    pub phases-listed : (front : List PlainBody) (pss : List (List Pass)) (t : ℕ) (tables : List (List ℕ))
        (source : Array) → p.phases ≡ front ++ phases_body c pss t tables source →
        HasTables c (tables_of_phases c.modulus pss tables) p →
        length (tables_of_phases c.modulus pss tables) < 2 ^ 32 → PhasesKnown c pss → Listed (length front) pss t source
    phases-listed front [] t tables source is has few known = (tt, tt)
    phases-listed front (ps ∷ more) t tables source is has few known =
        let after = count_in more in
        let body = phase_body c after ps t tables source in
        let through = tables_through c.modulus ps tables in
        let next = array_after after ps t source in
        let later = phases_body c more (t + length ps) through next in
        let later_tables = phases-extend c.modulus more through in
        let longer = extends-longer later_tables in
        let mine : HasTables c through p =
        fewer-tables c through (tables_of_phases c.modulus more through) p later_tables has in
        let rest : Listed (length (front ++ body ∷ [])) more (t + length ps) next =
        phases-listed (front ++ body ∷ []) more (t + length ps) through next
        (is ∙ sym (append_assoc front (body ∷ []) later)) has few known.1 in
        let moved : Listed (length front + 1) more (t + length ps) next =
        subst (λ n. Listed n more (t + length ps) next) (length-append front (body ∷ [])) rest in
        let emits : (q : ℕ) → q < c.procs → Emits (steps_of_phase p (length front) q)
        (passes_acts c (words c) after ps t source q) =
        λ q low.
        emits-same _ _ _ (steps-at p front body later q is)
        (passes-emit c after p q low ps t tables source known.0 (omega arith) mine) in
        let here : length front < length p.phases =
        (let all = ap length is in let both = length-append front (body ∷ later) in omega arith) in (
          (
            λ q low. steps-acts p (length front) q here (omega (arith, low, procs_are)) ∙ (emits q low).acts,
            moved.0,
          ),
          (λ q low. (emits q low).inside, moved.1),
        )
