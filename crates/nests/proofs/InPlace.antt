-- One program in place of another, with its size, modulus, line and processors. Where the steps of each phase and
-- processor fit, and store and touch no other words, the program fits and its processors are apart. Where they keep a
-- relation on registers, it leaves the same in order, and so in every order of turns.
use Rattle.std.proofs.Common.{◌≡◌, ℕ, zero, suc, ◌<◌, ◌≤◌, List, [], ◌∷◌, ◌++◌, Bool, true, All, map, flat_map, length}
use Rattle.std.proofs.Common.{refl, sym, ap, ap₂, ◌∙◌, arith, ◌*◌, ◌/◌, ◌^◌, false, inl, inr, Contains, subst}
use Rattle.std.specs.Prelude.{nat_lt, slice_index_or, replicate, if◌then◌else◌}
use Rattle.std.specs.List.{range_with_len, list_all}
use Rattle.std.proofs.Math.ListN.{get_or-map}
use Rattle.std.proofs.Math.Path.{fun_ext}
use Rattle.std.proofs.lemmas.List.{get_or_past, length-map, map-append}
use Rattle.std.proofs.lemmas.List.Elements.{All-contains}
use Rattle.std.proofs.lemmas.List.FromFn.{get_or-map-range_with_len, length-map-range_with_len}
use Rattle.icode.specs.declared.action.Action.{Action}
use Rattle.icode.specs.Actions.{Step, StepFits, step_of, steps_of_stmt, steps_of_body, steps_of_phase, actions_of}
use Rattle.icode.specs.Actions.{plain_code, PlainFits}
use Rattle.icode.specs.Lengths.{len_of_body}
use Rattle.icode.specs.Limits.{is_body_within, are_phases_within}
use Rattle.icode.specs.Machine.{acts, IsApart, in_order, lines_of, stored_words, touched_words, whole_lines, words_at}
use Rattle.icode.specs.Plain.{PlainOp, PlainStmt, PlainBody, PlainProgram, Load, Loop, Do, NoStmts, AndStmts}
use Rattle.icode.proofs.Bools.{both_true}
use Rattle.icode.proofs.Lengths.{body_length}
use Rattle.nests.proofs.Bools.{both_kept}
use Rattle.nests.proofs.Members.{IsWithin, all_of_members, map_within, flat_map_within}
use Rattle.std.proofs.lemmas.Bool.{cases_lt}
use Rattle.operators.specs.Sum.{sum_below}
use Rattle.icode.proofs.Lines.{Contains-nil}
use Rattle.icode.proofs.Lists.{code_is}
use Rattle.icode.proofs.Runs.{memory_of_runs}
use Rattle.nests.specs.InPlace.{IsInPlaceOf}
use Rattle.nests.proofs.InOrder.{Keep, same_in_order}

-- what all phases pass, each does, and no statements do
pub passes-at : (test : PlainBody → Bool) → test NoStmts ≡ true → (bodies : List PlainBody) (phase : ℕ) →
    list_all test bodies ≡ true → test (slice_index_or bodies phase NoStmts) ≡ true
passes-at test none [] phase all = none
passes-at test none (body ∷ bodies) zero all = (both_true (test body) _ all).0
passes-at test none (body ∷ bodies) (suc phase) all =
    passes-at test none bodies phase (both_true (test body) _ all).1

-- where each of them stays within the limits, all do
pub all-within : (m : ℕ) (f : PlainBody → PlainBody) (test : PlainBody → Bool) →
    ((body : PlainBody) → test body ≡ true → is_body_within m body 0 ≡ true → is_body_within m (f body) 0 ≡ true) →
    (phases : List PlainBody) → list_all test phases ≡ true → are_phases_within m phases ≡ true →
    are_phases_within m (map f phases) ≡ true
all-within m f test each phases pass within =
    both_kept (λ some. ap (nat_lt 0) (length-map phases f) ∙ some) (all phases pass) within
  where
    all : (bodies : List PlainBody) → list_all test bodies ≡ true →
        list_all (λ body. is_body_within m body 0) bodies ≡ true →
        list_all (λ body. is_body_within m body 0) (map f bodies) ≡ true
    all [] pass within = refl
    all (body ∷ bodies) pass within =
        let one = both_true (test body) _ pass in
        both_kept (each body one.0) (all bodies one.1) within

-- ---- the list of a phase and a processor

module _ (p : PlainProgram) where
  abbrev list : PlainBody → ℕ → List Action
  list body q = actions_of (steps_of_body p body [] q)

  abbrev pub row : PlainBody → List (List Action)
  row body = map (list body) (range_with_len 0 p.procs)

  pub listed : (phase q : ℕ) → q < p.procs → acts (plain_code p) phase q ≡ actions_of (steps_of_phase p phase q)
  listed phase q lt = of_bodies p.phases phase
    where
      of_bodies : (bodies : List PlainBody) (phase : ℕ) →
          slice_index_or (slice_index_or (map row bodies) phase []) q [] ≡ list (slice_index_or bodies phase NoStmts) q
      of_bodies [] phase = refl
      of_bodies (body ∷ bodies) zero = get_or-map-range_with_len (list body) 0 p.procs q q [] lt (omega arith)
      of_bodies (body ∷ bodies) (suc phase) = of_bodies bodies phase

  pub not-listed : (phase q : ℕ) → p.procs ≤ q → acts (plain_code p) phase q ≡ []
  not-listed phase q past = of_bodies p.phases phase
    where
      of_bodies : (bodies : List PlainBody) (phase : ℕ) →
          slice_index_or (slice_index_or (map row bodies) phase []) q [] ≡ []
      of_bodies [] phase = refl
      of_bodies (body ∷ bodies) zero =
          let long = length-map-range_with_len (list body) 0 p.procs in
          get_or_past (row body) q [] (omega (arith, long, past))
      of_bodies (body ∷ bodies) (suc phase) = of_bodies bodies phase

  -- how long the list of the first processor is
  pub phase_length : (phase : ℕ) → 0 < p.procs →
      length (acts (plain_code p) phase 0) ≡ len_of_body (slice_index_or p.phases phase NoStmts)
  phase_length phase some =
      ap length (listed phase 0 some)
      ∙ length-map (steps_of_phase p phase 0) (λ (s : Step). s.action)
      ∙ body_length p (slice_index_or p.phases phase NoStmts) [] 0

-- ---- a program with other phases

abbrev pub with_phases : PlainProgram → List PlainBody → PlainProgram
with_phases p bodies = record p { phases = bodies }

module _ (p : PlainProgram) (bodies : List PlainBody) where
  step_is : (op : PlainOp) (vs : List ℕ) (q : ℕ) → step_of (with_phases p bodies) op vs q ≡ step_of p op vs q
  step_is (Load r array place) vs q = refl
  step_is _ vs q = refl

  mutual
    stmt_is : (stmt : PlainStmt) (vs : List ℕ) (q : ℕ) → steps_of_stmt (with_phases p bodies) stmt vs q
        ≡ steps_of_stmt p stmt vs q
    stmt_is (Loop count body) vs q =
        ap (λ (f : ℕ → List Step). flat_map f (range_with_len 0 count)) (fun_ext (λ i. body_is body (vs ++ i ∷ []) q))
    stmt_is (Do op) vs q = ap (λ s. s ∷ []) (step_is op vs q)

    pub body_is : (body : PlainBody) (vs : List ℕ) (q : ℕ) →
        steps_of_body (with_phases p bodies) body vs q ≡ steps_of_body p body vs q
    body_is NoStmts vs q = refl
    body_is (AndStmts stmt rest) vs q = ap₂ (λ xs ys. xs ++ ys) (stmt_is stmt vs q) (body_is rest vs q)

  -- steps that are steps of fitting ones
  pub members-fit : (new old : List Step) → All (StepFits p) old → IsWithin new old →
      All (StepFits (with_phases p bodies)) new
  members-fit new old fit within =
      all_of_members (StepFits (with_phases p bodies)) new (λ s has.
      let f = All-contains (StepFits p) old s fit (within s has) in
      record { numbers = f.numbers; place = f.place; registers = f.registers; factors = f.factors })

-- ---- a body for each body

module _ (f : PlainBody → PlainBody) (none : f NoStmts ≡ NoStmts) (bodies : List PlainBody) where
  pub body-at : (phase : ℕ) →
      slice_index_or (map f bodies) phase NoStmts ≡ f (slice_index_or bodies phase NoStmts)
  body-at phase = ap (slice_index_or (map f bodies) phase) (sym none) ∙ get_or-map f bodies phase NoStmts

  pub phase-is : (p : PlainProgram) (phase q : ℕ) → steps_of_phase (with_phases p (map f bodies)) phase q
      ≡ steps_of_body p (f (slice_index_or bodies phase NoStmts)) [] q
  phase-is p phase q =
      body_is p (map f bodies) (slice_index_or (map f bodies) phase NoStmts) [] q
      ∙ ap (λ body. steps_of_body p body [] q) (body-at phase)

-- ---- sums and lines

sum_of_smaller : (n : ℕ) (f g : ℕ → ℕ) → ((i : ℕ) → i < n → f i ≤ g i) → sum_below n f ≤ sum_below n g
sum_of_smaller zero f g h = omega arith
sum_of_smaller (suc n) f g h =
    let rest = sum_of_smaller n f g (λ i lt. h i (omega (arith, lt))) in
    let last = h n (omega arith) in
    omega (arith, rest, last)

lines-together : (line : ℕ) (f : Action → List ℕ) (actions : List Action) →
    flat_map (λ a. lines_of line (f a)) actions ≡ lines_of line (flat_map f actions)
lines-together line f [] = refl
lines-together line f (a ∷ actions) =
    ap (λ ks. lines_of line (f a) ++ ks) (lines-together line f actions)
    ∙ sym (map-append (λ k. k / line) (f a) (flat_map f actions))

-- lines of fewer words
lines-within : (line : ℕ) (f g : Action → List ℕ) (fs gs : List Action) → IsWithin (flat_map f fs) (flat_map g gs) →
    IsWithin (flat_map (λ a. lines_of line (f a)) fs) (flat_map (λ a. lines_of line (g a)) gs)
lines-within line f g fs gs within k h =
    subst (λ ks. Contains ks k) (sym (lines-together line g gs))
    (map_within (λ i. i / line) (flat_map f fs) (flat_map g gs) within k
    (subst (λ ks. Contains ks k) (lines-together line f fs) h))

-- ---- steps of a phase and a processor in place of others

pub record StandFor (r p : PlainProgram) (new old : List Step) : Type 0 where
  pub fits : All (StepFits r) new
  pub stored : IsWithin (flat_map (stored_words r.lanes) (actions_of new))
      (flat_map (stored_words p.lanes) (actions_of old))
  pub touched : IsWithin (flat_map (touched_words r.lanes) (actions_of new))
      (flat_map (touched_words p.lanes) (actions_of old))

-- where they are all among these
pub of-members : (p : PlainProgram) (bodies : List PlainBody) (new old : List Step) → All (StepFits p) old →
    IsWithin new old → StandFor (with_phases p bodies) p new old
of-members p bodies new old fit within =
    let actions = map_within (λ (s : Step). s.action) new old within in
    record {
      fits = members-fit p bodies new old fit within;
      stored = flat_map_within (stored_words p.lanes) (actions_of new) (actions_of old) actions;
      touched = flat_map_within (touched_words p.lanes) (actions_of new) (actions_of old) actions;
    }

-- ---- the program

-- the steps of all phases and processors
abbrev pub total : PlainProgram → ℕ
total p = sum_below (length p.phases) (λ phase. sum_below p.procs (λ q. length (steps_of_phase p phase q)))

module _ (p r : PlainProgram) where
  -- the program with the lanes, registers, tables and phases of the other
  abbrev there : PlainProgram
  there = record p { lanes = r.lanes; regs = r.regs; tables = r.tables; phases = r.phases }

  -- where no list is longer
  pub no-more : PlainFits p → length r.phases ≡ length p.phases →
      ((phase q : ℕ) → q < p.procs → length (steps_of_phase there phase q) ≤ length (steps_of_phase p phase q)) →
      total there < 2 ^ 59
  no-more fits many few = below (total there) (total p) (2 ^ 59) smaller fits.few
    where
      smaller : total there ≤ total p
      smaller =
          subst (λ n. sum_below n (λ phase. sum_below p.procs (λ q. length (steps_of_phase there phase q))) ≤ total p)
          (sym many)
          (sum_of_smaller (length p.phases) (λ phase. sum_below p.procs (λ q. length (steps_of_phase there phase q)))
          (λ phase. sum_below p.procs (λ q. length (steps_of_phase p phase q)))
          (λ phase _. sum_of_smaller p.procs (λ q. length (steps_of_phase there phase q))
          (λ q. length (steps_of_phase p phase q)) (few phase)))

      below : (a b n : ℕ) → a ≤ b → b < n → a < n
      below a b n le lt = omega (arith, le, lt)

  -- registers that are like at the beginning stay so
  pub memory-same : (Like : List ℕ → List ℕ → Type 0) → length r.phases ≡ length p.phases →
      Like (replicate (r.regs * r.lanes) 0) (replicate (p.regs * p.lanes) 0) →
      ((phase q : ℕ) → q < p.procs → Keep p.modulus r.lanes p.lanes Like
      (actions_of (steps_of_phase there phase q)) (actions_of (steps_of_phase p phase q))) →
      (x : List ℕ) → (in_order (plain_code there) x).memory ≡ (in_order (plain_code p) x).memory
  memory-same Like many like keep =
      same_in_order (plain_code p) (plain_code there) Like
      (λ phase q lt.
      subst (λ fs. Keep p.modulus r.lanes p.lanes Like fs (acts (plain_code p) phase q)) (sym (listed there phase q lt))
      (subst (Keep p.modulus r.lanes p.lanes Like (actions_of (steps_of_phase there phase q)))
      (sym (listed p phase q lt)) (keep phase q lt)))
      (length-map r.phases (row there) ∙ many ∙ sym (length-map p.phases (row p))) like

  -- the order of turns is free
  from-memory : PlainFits there → ((phase : ℕ) → IsApart (plain_code there) phase) →
      ((phase : ℕ) → IsApart (plain_code p) phase) →
      ((x : List ℕ) → (in_order (plain_code there) x).memory ≡ (in_order (plain_code p) x).memory) →
      IsInPlaceOf there p
  from-memory fits apart apart_here same =
      record {
        size = refl;
        modulus = refl;
        fits = fits;
        apart = apart;
        same = λ x turns orders.
            ap (λ memory. words_at p.size memory (whole_lines p.size p.line))
            (memory_of_runs (plain_code there) (code_is there) apart x turns
            ∙ same x
            ∙ sym (memory_of_runs (plain_code p) (code_is p) apart_here x orders));
      }

  module _ (apart : (phase : ℕ) → IsApart (plain_code p) phase) (each : (phase q : ℕ) → q < p.procs →
      StandFor there p (steps_of_phase there phase q) (steps_of_phase p phase q)) where
    words-of : (f g : Action → List ℕ) (phase q : ℕ) →
        (q < p.procs → IsWithin (flat_map f (actions_of (steps_of_phase there phase q)))
        (flat_map g (actions_of (steps_of_phase p phase q)))) →
        IsWithin (flat_map f (acts (plain_code there) phase q)) (flat_map g (acts (plain_code p) phase q))
    words-of f g phase q within k h =
        elim (cases_lt q p.procs) [
          | inl lt ↦
              subst (λ actions. Contains (flat_map g actions) k) (sym (listed p phase q lt))
              (within lt k (subst (λ actions. Contains (flat_map f actions) k) (listed there phase q lt) h))
          | inr past ↦
              absurd (Contains-nil k
              (subst (λ actions. Contains (flat_map f actions) k) (not-listed there phase q past) h))
        ]

    apart-there : (phase : ℕ) → IsApart (plain_code there) phase
    apart-there phase =
        record {
          alone = λ q other line ne written touched. (apart phase).alone q other line ne
              (lines-within p.line (stored_words r.lanes) (stored_words p.lanes) (acts (plain_code there) phase q)
              (acts (plain_code p) phase q)
              (words-of (stored_words r.lanes) (stored_words p.lanes) phase q (λ lt. (each phase q lt).stored))
              line written)
              (lines-within p.line (touched_words r.lanes) (touched_words p.lanes)
              (acts (plain_code there) phase other) (acts (plain_code p) phase other)
              (words-of (touched_words r.lanes) (touched_words p.lanes) phase other
              (λ lt. (each phase other lt).touched))
              line touched);
        }

    pub in-place : total there < 2 ^ 59 →
        ((x : List ℕ) → (in_order (plain_code there) x).memory ≡ (in_order (plain_code p) x).memory) →
        IsInPlaceOf there p
    in-place few same =
        from-memory (record { few = few; each = λ phase q lt. (each phase q lt).fits }) apart-there apart same

-- ---- the same program, a choice of two, and one after another

module _ (p : PlainProgram) (fits : PlainFits p) (apart : (phase : ℕ) → IsApart (plain_code p) phase) where
  pub itself : IsInPlaceOf p p
  itself = from-memory p p fits apart apart (λ x. refl)

  pub where-true : (r : PlainProgram) (test : Bool) → (test ≡ true → IsInPlaceOf r p) →
      IsInPlaceOf (if test then r else p) p
  where-true r true law = law refl
  where-true r false law = itself

pub after : (r q p : PlainProgram) → IsInPlaceOf r q → IsInPlaceOf q p → IsInPlaceOf r p
after r q p one two =
    record {
      size = one.size ∙ two.size;
      modulus = one.modulus ∙ two.modulus;
      fits = one.fits;
      apart = one.apart;
      same = λ x turns orders. one.same x turns turns ∙ two.same x turns orders;
    }
