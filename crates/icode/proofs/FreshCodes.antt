-- Where a code is fresh, a run among leftovers leaves what a run from the start leaves.
use Rattle.std.proofs.Common.{◌≡◌, ℕ, zero, suc, ◌+◌, ◌-◌, ◌<◌, ◌≤◌, List, [], ◌∷◌, ◌++◌, length, map, flat_map, Option, Some, None}
use Rattle.std.proofs.Common.{refl, sym, ap, ◌∙◌, subst, arith, ⊎_elim, Contains, replicate}
use Rattle.std.specs.Prelude.{slice_get, slice_index_or}
use Rattle.std.specs.List.{range_with_len}
use Rattle.std.proofs.lemmas.List.FromFn.{get_or-map-range_with_len}
use Rattle.std.proofs.lemmas.List.{get_or-map as get_or-map-there}
use Rattle.std.proofs.lemmas.List.{length-append, length-map}
use Rattle.std.proofs.lemmas.List.Elements.{Contains-append_cases}
use Rattle.std.proofs.lemmas.Option.{slice_get_within, get_or_from_slice_get}
use Rattle.operators.proofs.Lists.{length-list_below}
use Rattle.operators.specs.Sum.{list_below}
use Rattle.icode.specs.declared.action.Action.{Action}
use Rattle.icode.specs.Actions.{Step, step_of, steps_of_phase, steps_of_stmt, steps_of_body, actions_of, lane_factors, plain_code}
use Rattle.icode.specs.Fresh.{HasFactors, FreshIgnoresLeftovers, ProgramsHaveFactors}
use Rattle.icode.specs.Leftovers.{Leftovers, start_among, turn_among, run_among, with_files}
use Rattle.icode.specs.Machine.{Code, IsCode, State, acts, effect, turn, turn_with, run, start, completion, padded, words_at}
use Rattle.icode.specs.Machine.{next_action}
use Rattle.icode.specs.Plain.{PlainOp, PlainStmt, PlainBody, PlainProgram, Load, Store, Zero, Add, Sub, Neg, MulConst}
use Rattle.icode.specs.Plain.{MulTable, Tile, Loop, Do, NoStmts, AndStmts}
use Rattle.icode.proofs.FreshActions.{effect_leaves_same}
use Rattle.icode.proofs.FreshRuns.{step, step_with, steps, steps_among, results_same}
use Rattle.icode.proofs.Lines.{Contains-head, Contains-nil, Contains-tail}
use Rattle.icode.proofs.Lists.{code_is}
use Rattle.icode.proofs.Open.{has_action}

map_itself : (xs : List Action) → xs ≡ map (λ a. a) xs
map_itself [] = refl
map_itself (x ∷ xs) = ap (λ ys. x ∷ ys) (map_itself xs)

module _ (code : Code) (is : IsCode code) where
  abbrev same_acts : (phase q : ℕ) → acts code phase q ≡ map (λ a. a) (acts code phase q)
  same_acts phase q = map_itself (acts code phase q)

  abbrev stepped : State → ℕ → State
  stepped s q = step code is Action (λ a. a) (acts code) same_acts (effect code.modulus code.lanes) s q

  abbrev all_stepped : State → List ℕ → State
  all_stepped s turns = steps code is Action (λ a. a) (acts code) same_acts (effect code.modulus code.lanes) s turns

  abbrev all_among : Leftovers → State → List ℕ → State
  all_among left s turns = steps_among code is Action (λ a. a) (acts code) same_acts (effect code.modulus code.lanes) left s turns

  turn_is : (s : State) (q : ℕ) → stepped s q ≡ turn code s q
  turn_is s q = of (next_action code s q)
    where
      of : (o : Option Action) → step_with code is Action (λ a. a) (acts code) same_acts (effect code.modulus code.lanes) q s o ≡ turn_with code q s o
      of None = refl
      of (Some a) = refl

  run_is : (turns : List ℕ) (s : State) → all_stepped s turns ≡ run code s turns
  run_is [] s = refl
  run_is (q ∷ turns) s = ap (λ t. all_stepped t turns) (turn_is s q) ∙ run_is turns (turn code s q)

  run_among_is : (left : Leftovers) (turns : List ℕ) (s : State) → all_among left s turns ≡ run_among code left s turns
  run_among_is left [] s = refl
  run_among_is left (q ∷ turns) s =
      ap (λ t. all_among left (with_files left s.phase t) turns) (turn_is s q)
      ∙ run_among_is left turns (turn_among code left s q)

pub fresh_ignores_leftovers : FreshIgnoresLeftovers
fresh_ignores_leftovers code left is factors fresh are x turns size =
    let s : State = start code x in
    let t : State = start_among code left x in
    let whole : State → State = λ s. run code s (completion code s) in
    let whole_among : State → State = λ t. run_among code left t (completion code t) in
    let one : all_stepped code is (all_stepped code is s turns) (completion code (all_stepped code is s turns)) ≡ whole (run code s turns) =
    run_is code is (completion code (all_stepped code is s turns)) (all_stepped code is s turns) ∙ ap whole (run_is code is turns s) in
    let other : all_among code is left (all_among code is left t turns) (completion code (all_among code is left t turns)) ≡ whole_among (run_among code left t turns) =
    run_among_is code is left (completion code (all_among code is left t turns)) (all_among code is left t turns) ∙ ap whole_among (run_among_is code is left turns t) in
    ap (λ (t : State). words_at code.size t.memory (padded code)) (sym other)
    ∙ results_same code is Action (λ a. a) (acts code) (same_acts code is) (effect code.modulus code.lanes)
    (λ phase q n a here s t same. effect_leaves_same code.modulus code.lanes a s t (factors phase q n a here) same) fresh left are x turns size
    ∙ ap (λ (s : State). words_at code.size s.memory (padded code)) one

-- ---- factors

-- an item of a loop is one of its rounds
pub from_loop : {X : Type 0} (P : X → Type 0) (f : ℕ → List X) (is : List ℕ) → ((i : ℕ) (x : X) → Contains (f i) x → P x) →
    (x : X) → Contains (flat_map f is) x → P x
from_loop P f [] each x h = absurd (Contains-nil x h)
from_loop P f (i ∷ is) each x h =
    ⊎_elim
    (λ here. each i x here)
    (λ later. from_loop P f is each x later)
    (Contains-append_cases (f i) (flat_map f is) x h)

pub from_both : {X : Type 0} (P : X → Type 0) (xs ys : List X) → ((x : X) → Contains xs x → P x) →
    ((x : X) → Contains ys x → P x) → (x : X) → Contains (xs ++ ys) x → P x
from_both P xs ys one other x h = ⊎_elim (one x) (other x) (Contains-append_cases xs ys x h)

pub from_one : {X : Type 0} (P : X → Type 0) (y : X) → P y → (x : X) → Contains (y ∷ []) x → P x
from_one P y holds x (zero, lt, e) = subst P e holds
from_one P y holds x (suc n, lt, e) = absurd (omega (arith, lt))

pub contains_at : {X : Type 0} (xs : List X) (n : ℕ) (x : X) → slice_get xs n ≡ Some x → Contains xs x
contains_at xs n x e = (n, slice_get_within xs n x e, get_or_from_slice_get xs n x x e)

pub factors_wide : (lanes : ℕ) (f : ℕ → ℕ) → lanes ≤ length (lane_factors lanes f)
factors_wide lanes f =
    let both = length-append (list_below lanes f) (replicate (16 - lanes) 0) in
    let one = length-list_below lanes f in
    omega (arith, both, one)

module _ (p : PlainProgram) where
  abbrev Has : Step → Type 0
  Has s = HasFactors p.lanes s.action

  op_has : (op : PlainOp) (vs : List ℕ) (q : ℕ) → Has (step_of p op vs q)
  op_has (Load register array place) vs q = tt
  op_has (Store array place register) vs q = tt
  op_has (Zero register) vs q = tt
  op_has (Add register left right) vs q = tt
  op_has (Sub register left right) vs q = tt
  op_has (Neg register source) vs q = tt
  op_has (MulConst register source factor) vs q = factors_wide p.lanes (λ lane. factor)
  op_has (MulTable register source table place step) vs q = factors_wide p.lanes _
  op_has (Tile register source) vs q = tt

  mutual
    stmt_has : (stmt : PlainStmt) (vs : List ℕ) (q : ℕ) (s : Step) → Contains (steps_of_stmt p stmt vs q) s → Has s
    stmt_has (Loop count body) vs q s h = from_loop Has (λ i. steps_of_body p body (vs ++ i ∷ []) q) (range_with_len 0 count) (λ i. body_has body (vs ++ i ∷ []) q) s h
    stmt_has (Do op) vs q s h = from_one Has (step_of p op vs q) (op_has op vs q) s h

    body_has : (body : PlainBody) (vs : List ℕ) (q : ℕ) (s : Step) → Contains (steps_of_body p body vs q) s → Has s
    body_has NoStmts vs q s h = absurd (Contains-nil s h)
    body_has (AndStmts stmt rest) vs q s h = from_both Has (steps_of_stmt p stmt vs q) (steps_of_body p rest vs q) (stmt_has stmt vs q) (body_has rest vs q) s h

-- an item of a list that is mapped is made of one
from_map : (xs : List Step) (a : Action) → Contains (actions_of xs) a → (s : Step) × Contains xs s × (s.action ≡ a)
from_map [] a h = absurd (Contains-nil a h)
from_map (x ∷ xs) a (zero, lt, e) = (x, Contains-head x xs, e)
from_map (x ∷ xs) a (suc n, lt, e) =
    let rest = from_map xs a (n, omega (arith, lt), e) in (rest.0, Contains-tail x xs rest.0 rest.1, rest.2)

pub listed : (p : PlainProgram) (phase q : ℕ) → phase < length p.phases → q < p.procs →
    acts (plain_code p) phase q ≡ actions_of (steps_of_phase p phase q)
listed p phase q low high =
    let lists : PlainBody → List (List Action) =
    λ b. map (λ r. actions_of (steps_of_body p b [] r)) (range_with_len 0 p.procs) in
    ap (λ (l : List (List Action)). slice_index_or l q []) (get_or-map-there lists p.phases phase NoStmts [] low)
    ∙ get_or-map-range_with_len (λ r. actions_of (steps_of_body p (slice_index_or p.phases phase NoStmts) [] r)) 0 p.procs
    q q [] high (omega arith)

pub programs_have_factors : ProgramsHaveFactors
programs_have_factors p phase q n a e =
    let there = has_action (plain_code p) (code_is p) phase q n a e in
    let low : phase < length p.phases =
    omega (arith, there.1, length-map p.phases (λ b. map (λ r. actions_of (steps_of_body p b [] r)) (range_with_len 0 p.procs))) in
    let h : Contains (actions_of (steps_of_phase p phase q)) a =
    subst (λ actions. Contains actions a) (listed p phase q low there.0) (contains_at (acts (plain_code p) phase q) n a e) in
    let step = from_map (steps_of_phase p phase q) a h in
    subst (HasFactors p.lanes) step.2 (body_has p (slice_index_or p.phases phase NoStmts) [] q step.0 step.1)
