-- Counts up to a limit.
use Rattle.std.proofs.Common.{◌≡◌, ℕ, zero, suc, ◌+◌, ◌-◌, ◌*◌, ◌^◌, ◌<◌, ◌≤◌, List, [], drop, length, min, get_or, sym}
use Rattle.std.proofs.Common.{ap, ◌∙◌, arith, ⊎_elim, zero-mul, suc-mul, mul_comm, add-one}
use Rattle.std.proofs.lemmas.Bool.{cases_lt}
use Rattle.std.proofs.lemmas.List.{drop_all}
use Rattle.operators.specs.Sum.{sum_below}
use Rattle.operators.proofs.Sums.{mul-sum_below, sum_below-same}
use Rattle.icode.specs.declared.program.Program.{Program}
use Rattle.icode.specs.declared.program.Stmt.{Stmt}
use Rattle.icode.specs.Plain.{PlainProgram, NoStmts, plain_body, plain_phases}
use Rattle.icode.specs.Program.{plain_program}
use Rattle.icode.specs.Actions.{steps_of_phase}
use Rattle.icode.proofs.Lengths.{body_length}
use Rattle.code_check.specs.Refusals.{action_count}
use Rattle.std.specs.Prelude.{slice_index_or, Vec}
use Rattle.std.proofs.Common.{Global}
use Rattle.std.proofs.lemmas.List.{get_or-map, length-map}
use Rattle.icode.specs.Lengths.{stmt_len, body_len, len_of_body}
use Rattle.icode.proofs.Steps.{drop_item, body_len_parts}

pub capped_product : (n a limit s : ℕ) → s ≡ min a limit → limit < 2 ^ 64 →
    min (min (n * s) (2 ^ 64 - 1)) limit ≡ min (n * a) limit
capped_product n a limit s e small =
    ⊎_elim
    (λ (gt : limit < a). let same : s ≡ limit = omega arith in over n gt (ap (λ k. n * k) same))
    (λ (le : a ≤ limit). let same : s ≡ a = omega arith in omega (arith, ap (λ k. n * k) same))
    (cases_lt limit a)
  where
    over : (n : ℕ) → limit < a → n * s ≡ n * limit → min (min (n * s) (2 ^ 64 - 1)) limit ≡ min (n * a) limit
    over zero gt same = omega (arith, same, zero-mul limit, zero-mul a)
    over (suc n) gt same = omega (arith, same, suc-mul n limit, suc-mul n a)

-- a count of a list's statements, of which the first i are counted
pub record IsCount (limit sum i : ℕ) (items : List Stmt) : Type 0 where
  pub capped : sum ≤ limit
  pub same : min (sum + body_len (drop i items)) limit ≡ min (body_len items) limit

pub count_none : (limit : ℕ) (items : List Stmt) → IsCount limit 0 0 items
count_none limit items = record { capped = omega arith; same = omega arith }

pub count_more : (limit sum i one both : ℕ) (items : List Stmt) (x : Stmt) → limit < 2 ^ 64 → i < length items →
    x ≡ get_or items i x → IsCount limit sum i items → one ≡ min (stmt_len x) limit →
    both ≡ min (min (sum + one) (2 ^ 64 - 1)) limit → IsCount limit both (i + 1) items
count_more limit sum i one both items x small lt e h eo eb =
    let parts = body_len_parts x (drop i items) (drop (i + 1) items) (drop_item items i x lt e) in
    record { capped = omega (arith, eb); same = omega (arith, h.same, h.capped, parts, eo, eb) }

pub count_all : (limit sum i : ℕ) (items : List Stmt) → length items ≤ i → IsCount limit sum i items →
    sum ≡ min (body_len items) limit
count_all limit sum i items past h =
    let none = ap body_len (drop_all i items past) in omega (arith, h.same, h.capped, none)

-- the actions of a phase, on each processor
abbrev pub phase_len : PlainProgram → ℕ → ℕ
phase_len p k = len_of_body (slice_index_or p.phases k NoStmts)

constant_sum : (n k : ℕ) → sum_below n (λ i. k) ≡ n * k
constant_sum zero k = sym (zero-mul k)
constant_sum (suc n) k = omega (arith, constant_sum n k, suc-mul n k)

pub action_count_is : (p : PlainProgram) → action_count p ≡ p.procs * sum_below (length p.phases) (phase_len p)
action_count_is p =
    sum_below-same (length p.phases) (λ phase. sum_below p.procs (λ q. length (steps_of_phase p phase q)))
    (λ phase. p.procs * phase_len p phase)
    (λ phase _.
    sum_below-same p.procs (λ q. length (steps_of_phase p phase q)) (λ q. phase_len p phase)
    (λ q _. body_length p (slice_index_or p.phases phase NoStmts) [] q)
    ∙ constant_sum p.procs (phase_len p phase))
    ∙ sym (mul-sum_below (length p.phases) p.procs (phase_len p))

-- of the phases, the first i are counted
pub record IsPhaseCount (p : Program) (limit sum i : ℕ) : Type 0 where
  pub same : sum ≡ min (sum_below i (phase_len (plain_program p))) limit

pub phases_none : (p : Program) (limit : ℕ) → IsPhaseCount p limit 0 0
phases_none p limit = record { same = omega arith }

pub phases_more : (p : Program) (limit sum i one both : ℕ) (body : Vec Stmt Global) → limit < 2 ^ 64 →
    i < length p.phases.items → body ≡ get_or p.phases.items i body → IsPhaseCount p limit sum i →
    one ≡ min (body_len body.items) limit → both ≡ min (min (sum + one) (2 ^ 64 - 1)) limit →
    IsPhaseCount p limit both (i + 1)
phases_more p limit sum i one both body small lt e h eo eb =
    let body_is : slice_index_or (plain_phases p.phases.items) i NoStmts ≡ plain_body body.items = get_or-map (λ (b : Vec Stmt Global). plain_body b.items) p.phases.items i body NoStmts lt ∙ ap (λ (b : Vec Stmt Global). plain_body b.items) (sym e) in
    let len : phase_len (plain_program p) i ≡ body_len body.items = ap len_of_body body_is in
    let grows : sum_below (i + 1) (phase_len (plain_program p)) ≡ sum_below i (phase_len (plain_program p)) + phase_len (plain_program p) i = ap (λ n. sum_below n (phase_len (plain_program p))) (add-one i) in
    record { same = omega (arith, h.same, len, grows, eo, eb) }

pub phases_all : (p : Program) (limit sum i product : ℕ) → limit < 2 ^ 64 → length p.phases.items ≤ i →
    i ≤ length p.phases.items → IsPhaseCount p limit sum i → product ≡ min (min (sum * p.procs) (2 ^ 64 - 1)) limit →
    product ≡ min (action_count (plain_program p)) limit
phases_all p limit sum i product small past within h e =
    let all : i ≡ length (plain_phases p.phases.items) = omega (arith, length-map p.phases.items (λ (b : Vec Stmt Global). plain_body b.items)) in
    let total : ℕ = sum_below (length (plain_phases p.phases.items)) (phase_len (plain_program p)) in
    let counted : sum ≡ min total limit = h.same ∙ ap (λ n. min (sum_below n (phase_len (plain_program p))) limit) all in
    e ∙ (ap (λ n. min (min n (2 ^ 64 - 1)) limit) (mul_comm sum p.procs) ∙ (capped_product p.procs total limit sum counted small ∙ ap (λ n. min n limit) (sym (action_count_is (plain_program p)))))
