-- A new machine runs its program.
use Rattle.std.proofs.Common.{◌≡◌, ℕ, zero, suc, ◌+◌, ◌^◌, ◌<◌, ◌≤◌, List, [], ◌∷◌, ◌++◌, length, map, take, replicate}
use Rattle.std.proofs.Common.{get_or, Option, Some, None, All, Vec, Global, refl, sym, ap, ap₂, ◌∙◌, subst, arith}
use Rattle.std.proofs.Common.{le_trans, append-nil}
use Rattle.std.specs.Prelude.{slice_get, slice_index_or}
use Rattle.std.specs.List.{range_with_len}
use Rattle.std.proofs.lemmas.List.{take_more, length-map, get_or-map}
use Rattle.operators.specs.Sum.{sum_below}
use Rattle.operators.proofs.Sums.{sum_below-append}
use Rattle.icode.specs.declared.action.Action.{Action}
use Rattle.icode.specs.declared.program.Stmt.{Stmt}
use Rattle.icode.specs.Plain.{PlainProgram, PlainBody, NoStmts, plain_op, plain_body, plain_phases}
use Rattle.icode.specs.Actions.{Step, StepFits, steps_of_body, steps_of_phase, actions_of, plain_code, PlainFits}
use Rattle.icode.specs.Headers.{without_statements}
use Rattle.icode.specs.Lengths.{len_of_body}
use Rattle.icode.proofs.Headers.{bare_step, fits_bare}
use Rattle.icode.proofs.Lengths.{body_length}
use Rattle.icode.proofs.End.{slice_index-zeros}
use Rattle.par_machine.specs.declared.cursor.Instruction.{Instruction}
use Rattle.par_machine.specs.declared.cursor.Instruction.TheVariants.{Act, Again}
use Rattle.par_machine.specs.declared.phase.Routine.{Routine}
use Rattle.par_machine.specs.Position.{Position, positions, first_position}
use Rattle.par_machine.specs.Hand.{step_with, step_at, action_of_step, Runs}
use Rattle.par_machine.specs.Frame.{code_of_frame, places_of, lens_of, total, IsRoutine}
use Rattle.par_machine.specs.Plays.{seen, Plays, IsCompiled}
use Rattle.par_machine.specs.Translated.{IsTranslated, AreTranslated}

-- One phase

starts : (p : PlainProgram) (code : List Instruction) (to len : ℕ) (body : PlainBody) (q : ℕ) →
    Plays p code 0 to 0 len (steps_of_body p body) → map (λ (place : Position). step_at p code q place)
    (positions code len first_position) ≡ seen p code q (len + 0) 0 (replicate 64 0)
starts p code to zero body q h = refl
starts p code to (suc len) body q h =
    let same : suc len + 0 ≡ suc len = omega arith in
    sym (ap (λ n. seen p code q n 0 (replicate 64 0)) same
    ∙ ap (λ place. map (λ (place : Position). step_at p code q place) (positions code (suc len) place)) (h.first (omega arith) (replicate 64 0)))

pub translated : (p : PlainProgram) (r : Routine) (body : PlainBody) → r.len ≡ len_of_body body →
    IsCompiled p.modulus 0 (len_of_body body) (λ p. steps_of_body p body) [] r.code.items → IsTranslated p r body
translated p r body e h =
    let code : List Instruction = r.code.items in
    record {
      len = e;
      closed = h.closed (λ k d lt. absurd (omega arith));
      within = h.within (λ k d lt. absurd (omega arith));
      plays = λ q.
          let plays : Plays p code 0 (length code) 0 (len_of_body body) (steps_of_body p body) = subst (λ xs. Plays p xs 0 (length code) 0 (len_of_body body) (steps_of_body p body)) (append-nil code) (h.plays p []) in
          ap (λ n. map (λ (place : Position). step_at p code q place) (positions code n first_position)) e
          ∙ (starts p code (length code) (len_of_body body) body q plays
          ∙ (plays.plays 0 q (replicate 64 0) refl (λ k le. slice_index-zeros 64 k)
          ∙ append-nil (map (λ (s : Step). Some s) (steps_of_body p body [] q))));
    }

pub translated_more : (p : PlainProgram) (rs : List Routine) (r : Routine) (bodies : List PlainBody)
    (body : PlainBody) → AreTranslated p rs bodies → IsTranslated p r body →
    AreTranslated p (rs ++ r ∷ []) (bodies ++ body ∷ [])
translated_more p [] r [] body h t = (t, tt)
translated_more p [] r (b ∷ bodies) body h t = absurd h
translated_more p (x ∷ rs) r [] body h t = absurd h
translated_more p (x ∷ rs) r (b ∷ bodies) body h t = (h.0, translated_more p rs r bodies body h.1 t)

pub phase_more : (phases : List (Vec Stmt Global)) (i : ℕ) (body : Vec Stmt Global) → i < length phases →
    body ≡ get_or phases i body → take (i + 1) (plain_phases phases) ≡ take i (plain_phases phases)
    ++ plain_body body.items ∷ []
phase_more phases i body lt e =
    let plain : Vec Stmt Global → PlainBody = λ (body : Vec Stmt Global). plain_body body.items in
    take_more (plain_phases phases) i NoStmts (omega (arith, length-map phases plain))
    ∙ ap (λ b. take i (plain_phases phases) ++ b ∷ []) (get_or-map plain phases i body NoStmts lt ∙ ap plain (sym e))

pub take_phases : (phases : List (Vec Stmt Global)) (n : ℕ) → length phases ≤ n →
    take n (plain_phases phases) ≡ plain_phases phases
take_phases [] zero le = refl
take_phases [] (suc n) le = refl
take_phases (x ∷ phases) zero le = absurd (omega arith)
take_phases (x ∷ phases) (suc n) le = ap (λ ys. plain_body x.items ∷ ys) (take_phases phases n (omega arith))

-- The header stands for the program

bare_with : (p : PlainProgram) (vs : List ℕ) (q : ℕ) (o : Option Instruction) →
    step_with (without_statements p) vs q o ≡ step_with p vs q o
bare_with p vs q None = refl
bare_with p vs q (Some (Act op depth)) = ap (λ (s : Step). Some s) (bare_step p (plain_op op) (take depth vs) q)
bare_with p vs q (Some (Again start last depth)) = refl

bare_at : (p : PlainProgram) (code : List Instruction) (q : ℕ) (place : Position) →
    step_at (without_statements p) code q place ≡ step_at p code q place
bare_at p code q place = bare_with p place.values q (slice_get code place.at)

bare_steps : (p : PlainProgram) (code : List Instruction) (q : ℕ) (places : List Position) →
    map (λ (place : Position). step_at (without_statements p) code q place) places
    ≡ map (λ (place : Position). step_at p code q place) places
bare_steps p code q [] = refl
bare_steps p code q (place ∷ places) = ap₂ (λ o os. o ∷ os) (bare_at p code q place) (bare_steps p code q places)

-- Lists of actions

actions_from : (f : Position → Option Step) (places : List Position) →
    map (λ place. action_of_step (f place)) places ≡ map action_of_step (map f places)
actions_from f [] = refl
actions_from f (place ∷ places) = ap (λ xs. action_of_step (f place) ∷ xs) (actions_from f places)

actions_to : (xs : List Step) → map action_of_step (map (λ (s : Step). Some s) xs) ≡ actions_of xs
actions_to [] = refl
actions_to (x ∷ xs) = ap (λ ys. x.action ∷ ys) (actions_to xs)

same_list : (p : PlainProgram) (r : Routine) (body : PlainBody) (q : ℕ) → IsTranslated p r body →
    map (λ place. action_of_step (step_at (without_statements p) r.code.items q place)) (places_of r)
    ≡ actions_of (steps_of_body p body [] q)
same_list p r body q t =
    actions_from (λ place. step_at (without_statements p) r.code.items q place) (places_of r)
    ∙ (ap (map action_of_step) (bare_steps p r.code.items q (places_of r) ∙ t.plays q)
    ∙ actions_to (steps_of_body p body [] q))

same_map : {X : Type 0} (f g : ℕ → X) → ((q : ℕ) → f q ≡ g q) → (n first : ℕ) →
    map f (range_with_len first n) ≡ map g (range_with_len first n)
same_map f g e zero first = refl
same_map f g e (suc n) first = ap₂ (λ x xs. x ∷ xs) (e first) (same_map f g e n (first + 1))

same_lists : (p : PlainProgram) (rs : List Routine) (bodies : List PlainBody) → AreTranslated p rs bodies →
    map (λ (r : Routine). map (λ q. map (λ place. action_of_step (step_at (without_statements p) r.code.items q place))
    (places_of r)) (range_with_len 0 p.procs)) rs ≡ map (λ body. map (λ q. actions_of (steps_of_body p body [] q))
    (range_with_len 0 p.procs)) bodies
same_lists p [] [] h = refl
same_lists p [] (b ∷ bodies) h = absurd h
same_lists p (r ∷ rs) [] h = absurd h
same_lists p (r ∷ rs) (b ∷ bodies) h =
    ap₂ (λ (x : List (List Action)) xs. x ∷ xs)
    (same_map (λ q. map (λ place. action_of_step (step_at (without_statements p) r.code.items q place)) (places_of r)) (λ q. actions_of (steps_of_body p b [] q)) (λ q. same_list p r b q h.0) p.procs 0)
    (same_lists p rs bodies h.1)

pub same_code : (p : PlainProgram) (rs : List Routine) → AreTranslated p rs p.phases → code_of_frame (record { header = without_statements p; phases = rs }) ≡ plain_code p
same_code p rs h =
    ap (λ (lists : List (List (List Action))). record { size = p.size; modulus = p.modulus; procs = p.procs; line = p.line; lanes = p.lanes; regs = p.regs; lists = lists }) (same_lists p rs p.phases h)

-- What fits may be done

all_run : (p : PlainProgram) (f : Position → Option Step) (places : List Position) (xs : List Step) →
    map f places ≡ map (λ (s : Step). Some s) xs → All (StepFits p) xs →
    All (λ place. Runs (without_statements p) (f place)) places
all_run p f [] xs e all k d lt = absurd (omega arith)
all_run p f (place ∷ places) [] e all k d lt = absurd (cons_nil (f place) (map f places) e)
  where
    cons_nil : (o : Option Step) (os : List (Option Step)) → o ∷ os ≡ [] → ⊥
    cons_nil o os e = cc
all_run p f (place ∷ places) (x ∷ xs) e all zero d lt =
    subst (Runs (without_statements p)) (sym (head_same (f place) (Some x) (map f places) _ e)) (fits_bare p x (all 0 x (omega arith)))
  where
    head_same : (a b : Option Step) (as' bs : List (Option Step)) → a ∷ as' ≡ b ∷ bs → a ≡ b
    head_same a b as' bs e = cc
all_run p f (place ∷ places) (x ∷ xs) e all (suc k) d lt =
    all_run p f places xs (tail_same (f place) (Some x) (map f places) _ e) (λ j y l. all (suc j) y (omega arith)) k d (omega arith)
  where
    tail_same : (a b : Option Step) (as' bs : List (Option Step)) → a ∷ as' ≡ b ∷ bs → as' ≡ bs
    tail_same a b as' bs e = cc

routine_runs : (p : PlainProgram) (all_phases : List Routine) (r : Routine) (body : PlainBody) → IsTranslated p r body → ((q : ℕ) → q < p.procs → All (StepFits p) (steps_of_body p body [] q)) → IsRoutine (record { header = without_statements p; phases = all_phases }) r
routine_runs p all_phases r body t fits =
    record {
      closed = t.closed;
      within = t.within;
      runs = λ q lt. all_run p (λ place. step_at (without_statements p) r.code.items q place) (places_of r) (steps_of_body p body [] q) (bare_steps p r.code.items q (places_of r) ∙ t.plays q) (fits q lt);
    }

all_routines : (p : PlainProgram) (all_phases rs : List Routine) (bodies : List PlainBody) → AreTranslated p rs bodies → ((phase q : ℕ) → q < p.procs → All (StepFits p) (steps_of_body p (slice_index_or bodies phase NoStmts) [] q)) → All (IsRoutine (record { header = without_statements p; phases = all_phases })) rs
all_routines p all_phases [] bodies h fits k d lt = absurd (omega arith)
all_routines p all_phases (r ∷ rs) [] h fits k d lt = absurd h
all_routines p all_phases (r ∷ rs) (b ∷ bodies) h fits zero d lt = routine_runs p all_phases r b h.0 (fits 0)
all_routines p all_phases (r ∷ rs) (b ∷ bodies) h fits (suc k) d lt = all_routines p all_phases rs bodies h.1 (λ phase. fits (suc phase)) k d (omega arith)

pub routines_run : (p : PlainProgram) (rs : List Routine) → AreTranslated p rs p.phases → PlainFits p → All (IsRoutine (record { header = without_statements p; phases = rs })) rs
routines_run p rs h fits = all_routines p rs rs p.phases h fits.each

first_of_sum : (n : ℕ) (f : ℕ → ℕ) → 0 < n → f 0 ≤ sum_below n f
first_of_sum zero f lt = absurd (omega arith)
first_of_sum (suc zero) f lt = omega arith
first_of_sum (suc (suc n)) f lt = omega (arith, first_of_sum (suc n) f (omega arith))

total_within : (p : PlainProgram) (rs : List Routine) (bodies : List PlainBody) (g : ℕ → ℕ) →
    AreTranslated p rs bodies → ((k : ℕ) → len_of_body (slice_index_or bodies k NoStmts) ≤ g k) →
    total (lens_of rs) ≤ sum_below (length bodies) g
total_within p [] [] g h le = omega arith
total_within p [] (b ∷ bodies) g h le = absurd h
total_within p (r ∷ rs) [] g h le = absurd h
total_within p (r ∷ rs) (b ∷ bodies) g h le =
    let n : ℕ = length bodies in
    let first : len_of_body b ≤ g 0 = le 0 in
    let rest = total_within p rs bodies (λ i. g (1 + i)) h.1 (λ k. le_trans (le (suc k)) (shifted k)) in
    let split : sum_below (1 + n) g ≡ sum_below 1 g + sum_below n (λ i. g (1 + i)) = sum_below-append 1 n g in
    let one : sum_below 1 g ≡ g 0 = omega arith in
    let all : sum_below (1 + n) g ≡ sum_below (suc n) g = ap (λ k. sum_below k g) (one_more n) in
    add_up (r.len) (total (lens_of rs)) (g 0) (sum_below n (λ i. g (1 + i))) (sum_below (suc n) g) (omega (arith, first, h.0.len)) rest (omega (arith, split, one, all))
  where
    one_more : (n : ℕ) → 1 + n ≡ suc n
    one_more n = omega arith

    shifted : (k : ℕ) → g (suc k) ≤ g (1 + k)
    shifted k = omega (arith, ap g (one_more k))

    add_up : (a b c d e : ℕ) → a ≤ c → b ≤ d → c + d ≤ e → a + b ≤ e
    add_up a b c d e x y z = omega arith

pub few_actions : (p : PlainProgram) (rs : List Routine) → 0 < p.procs → AreTranslated p rs p.phases → PlainFits p →
    total (lens_of rs) < 2 ^ 59
few_actions p rs procs h fits =
    let g : ℕ → ℕ = λ phase. sum_below p.procs (λ q. length (steps_of_phase p phase q)) in
    let within = total_within p rs p.phases g h (λ k. omega (arith, body_length p (slice_index_or p.phases k NoStmts) [] 0, first_of_sum p.procs (λ q. length (steps_of_phase p k q)) procs)) in
    omega (arith, within, fits.few)
