-- What is known of a program's actions.
use Rattle.std.proofs.Common.{◌≡◌, ℕ, zero, suc, ◌+◌, ◌*◌, ◌<◌, ◌≤◌, List, [], ◌∷◌, ◌++◌, map, flat_map, length, Some}
use Rattle.std.proofs.Common.{All, refl, sym, ap, ◌∙◌, subst, arith}
use Rattle.std.specs.Prelude.{slice_get, slice_index_or}
use Rattle.std.specs.List.{range_with_len}
use Rattle.std.proofs.lemmas.List.{length-map, get_or_past}
use Rattle.std.proofs.lemmas.List.FromFn.{get_or-map-range_with_len}
use Rattle.icode.specs.declared.action.Action.{Action}
use Rattle.icode.specs.declared.program.Array.{Array}
use Rattle.icode.specs.declared.program.Array.TheVariants.{X, Y, A, B}
use Rattle.icode.specs.declared.program.Program.{Program}
use Rattle.icode.specs.Actions.{Step, StepFits, actions_of, array_start, step_of, steps_of_stmt, steps_of_body}
use Rattle.icode.specs.Actions.{steps_of_phase, plain_code}
use Rattle.icode.specs.Lengths.{len_of_body}
use Rattle.icode.specs.Machine.{acts, whole_lines}
use Rattle.icode.specs.Operation.{AddressFits}
use Rattle.icode.specs.Plain.{PlainOp, PlainStmt, PlainBody, PlainProgram, Load, Store, Zero, Add, Sub, Neg, MulConst}
use Rattle.icode.specs.Plain.{MulTable, Tile, Loop, Do, NoStmts, AndStmts}
use Rattle.icode.specs.Program.{plain_program, code_of, Fits}
use Rattle.buffer_machine.specs.Good.{CanBeDone}
use Rattle.icode.proofs.Lengths.{body_length}

-- the list of a phase and a processor, whether or not there is the phase
pub acts_steps : (p : PlainProgram) (phase q : ℕ) → q < p.procs →
    acts (plain_code p) phase q ≡ actions_of (steps_of_phase p phase q)
acts_steps p phase q lt = of p.phases phase
  where
    of : (bodies : List PlainBody) (phase : ℕ) → slice_index_or
        (slice_index_or (map (λ body. map (λ q. actions_of (steps_of_body p body [] q)) (range_with_len 0 p.procs))
        bodies) phase []) q [] ≡ actions_of (steps_of_body p (slice_index_or bodies phase NoStmts) [] q)
    of [] phase = ap (λ (ls : List (List Action)). slice_index_or ls q []) (get_or_past [] phase [] (omega arith)) ∙ (get_or_past [] q [] (omega arith) ∙ sym (ap (λ body. actions_of (steps_of_body p body [] q)) (get_or_past [] phase NoStmts (omega arith))))
    of (body ∷ bodies) zero = get_or-map-range_with_len (λ q. actions_of (steps_of_body p body [] q)) 0 p.procs q q [] lt (omega arith)
    of (body ∷ bodies) (suc phase) = of bodies phase

-- all processors have lists of one length
pub lens_same : (p : PlainProgram) (phase q other : ℕ) → q < p.procs → other < p.procs →
    length (acts (plain_code p) phase q) ≡ length (acts (plain_code p) phase other)
lens_same p phase q other lt small = one q lt ∙ sym (one other small)
  where
    one : (q : ℕ) → q < p.procs → length (acts (plain_code p) phase q)
        ≡ len_of_body (slice_index_or p.phases phase NoStmts)
    one q lt = ap length (acts_steps p phase q lt) ∙ (length-map (steps_of_phase p phase q) (λ (s : Step). s.action) ∙ body_length p (slice_index_or p.phases phase NoStmts) [] q)

-- Addresses

start_within : (room : ℕ) (array : Array) → array_start room array ≤ 3 * room
start_within room X = omega arith
start_within room Y = omega arith
start_within room A = omega arith
start_within room B = omega arith

address_within : (room lanes value : ℕ) (array : Array) → value + lanes ≤ room →
    array_start room array + value + lanes ≤ 4 * room
address_within room lanes value array le = omega (arith, start_within room array)

-- a step whose place is inside names an address that is
abbrev IsPlaced : PlainProgram → Step → Type 0
IsPlaced p s = s.reach ≤ s.room → AddressFits p.lanes (4 * whole_lines p.size p.line) s.action

op_placed : (p : PlainProgram) (op : PlainOp) (vs : List ℕ) (q : ℕ) → IsPlaced p (step_of p op vs q)
op_placed p (Load register array place) vs q h = address_within (whole_lines p.size p.line) p.lanes _ array h
op_placed p (Store array place register) vs q h = address_within (whole_lines p.size p.line) p.lanes _ array h
op_placed p (Zero register) vs q h = tt
op_placed p (Add register left right) vs q h = tt
op_placed p (Sub register left right) vs q h = tt
op_placed p (Neg register source) vs q h = tt
op_placed p (MulConst register source factor) vs q h = tt
op_placed p (MulTable register source table place step) vs q h = tt
op_placed p (Tile register source) vs q h = tt

abbrev AtEach : PlainProgram → List Step → Type 0
AtEach p steps = (i : ℕ) (s : Step) → slice_get steps i ≡ Some s → IsPlaced p s

each-append : (p : PlainProgram) (xs ys : List Step) → AtEach p xs → AtEach p ys → AtEach p (xs ++ ys)
each-append p [] ys h g i s e = g i s e
each-append p (x ∷ xs) ys h g zero s e = h 0 s e
each-append p (x ∷ xs) ys h g (suc i) s e = each-append p xs ys (λ i. h (suc i)) g i s e

each-flat_map : (p : PlainProgram) (f : ℕ → List Step) → ((i : ℕ) → AtEach p (f i)) → (n first : ℕ) →
    AtEach p (flat_map f (range_with_len first n))
each-flat_map p f h zero first i s e = cc
each-flat_map p f h (suc n) first i s e = each-append p (f first) (flat_map f (range_with_len (first + 1) n)) (h first) (each-flat_map p f h n (first + 1)) i s e

mutual
  stmt_placed : (p : PlainProgram) (s : PlainStmt) (vs : List ℕ) (q : ℕ) → AtEach p (steps_of_stmt p s vs q)
  stmt_placed p (Loop count body) vs q i s e = each-flat_map p (λ i. steps_of_body p body (vs ++ i ∷ []) q) (λ i. body_placed p body (vs ++ i ∷ []) q) count 0 i s e
  stmt_placed p (Do op) vs q zero s e =
      let same : step_of p op vs q ≡ s = cc in
      subst (IsPlaced p) same (op_placed p op vs q)
  stmt_placed p (Do op) vs q (suc i) s e = cc

  body_placed : (p : PlainProgram) (body : PlainBody) (vs : List ℕ) (q : ℕ) → AtEach p (steps_of_body p body vs q)
  body_placed p NoStmts vs q i s e = cc
  body_placed p (AndStmts s body) vs q i t e = each-append p (steps_of_stmt p s vs q) (steps_of_body p body vs q) (stmt_placed p s vs q) (body_placed p body vs q) i t e

of_step : (p : PlainProgram) (steps : List Step) (i : ℕ) (a : Action) → All (StepFits p) steps → AtEach p steps →
    slice_get (actions_of steps) i ≡ Some a → CanBeDone (plain_code p) a
of_step p [] i a fits placed e = cc
of_step p (s ∷ steps) zero a fits placed e =
    let same : s.action ≡ a = cc in
    let fit : StepFits p s = fits 0 s (omega arith) in
    subst (CanBeDone (plain_code p)) same (record { named = fit.registers; factors = fit.factors; address = placed 0 s refl fit.place })
of_step p (s ∷ steps) (suc i) a fits placed e = of_step p steps i a (λ j d lt. fits (suc j) d (omega (arith, lt))) (λ j. placed (suc j)) e

pub can_be_done : (p : Program) → Fits p → (phase q i : ℕ) (a : Action) → q < p.procs →
    slice_get (acts (code_of p) phase q) i ≡ Some a → CanBeDone (code_of p) a
can_be_done p fits phase q i a lt e =
    let P : PlainProgram = plain_program p in
    of_step P (steps_of_phase P phase q) i a (fits.each phase q lt) (body_placed P (slice_index_or P.phases phase NoStmts) [] q) (sym (ap (λ (xs : List Action). slice_get xs i) (acts_steps P phase q lt)) ∙ e)
