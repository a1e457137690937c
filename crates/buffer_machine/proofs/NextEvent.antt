-- The next of the events that complete a run.
use Rattle.std.proofs.Common.{◌≡◌, ℕ, true, false, ⊎_elim, ◌+◌, ◌<◌, ◌≤◌, ◌^◌, List}
use Rattle.std.proofs.Common.{[], ◌∷◌, length, refl, sym, ◌∙◌, subst, arith}
use Rattle.std.specs.Prelude.{slice_index}
use Rattle.std.proofs.lemmas.Bool.{cases_eq, false≢true}
use Rattle.icode.specs.declared.action.Action.{Action}
use Rattle.icode.specs.declared.event.Event.TheVariants.{Turn, Drain}
use Rattle.icode.specs.Buffers.{Waiting, IsIdle, is_waiting, buffered_completion}
use Rattle.icode.specs.Buffers.{buffered_turn}
use Rattle.icode.specs.Buffers.{drain}
use Rattle.icode.specs.Machine.{Code, acts}
use Rattle.icode.proofs.BufferedCompletion.{completion_turn, completion_drain}
use Rattle.icode.proofs.BufferedCompletion.{completion_past, idle_past}
use Rattle.buffer_machine.specs.declared.machine.BufMachine.TheInside.{Inside}
use Rattle.buffer_machine.specs.Stand.{backlog_at, buffered_of}
use Rattle.buffer_machine.specs.Running.{Running}
use Rattle.buffer_machine.specs.Views.{IsWhole, running_of}
use Rattle.buffer_machine.proofs.Standing.{queue_is}
use Rattle.buffer_machine.proofs.Direct.{some_action}
use Rattle.buffer_machine.proofs.Whole.{HasLeft, code_in}

pub idle_at : (a : Inside) (q : ℕ) → IsWhole a → q < (code_in a).procs →
    slice_index a.lens.items a.values.phase ≤ slice_index a.values.done q →
    is_waiting (backlog_at a.values.queues q).waiting ≡ false → IsIdle (code_in a) (buffered_of a.values) q
idle_at a q w lt over none = (omega (arith, w.lens.each a.values.phase q lt), queue_is a.values.queues q ∙ empty (backlog_at a.values.queues q).waiting none)
  where
    empty : (ws : List Waiting) → is_waiting ws ≡ false → ws ≡ []
    empty [] e = refl
    empty (w ∷ ws) e = absurd (false≢true (sym e))

pub idle_below : (a : Inside) (n : ℕ) → IsIdle (code_in a) (buffered_of a.values) n →
    ((q : ℕ) → q < n → IsIdle (code_in a) (buffered_of a.values) q) → (q : ℕ) → q < n + 1 →
    IsIdle (code_in a) (buffered_of a.values) q
idle_below a n here before q lt =
    ⊎_elim
    (λ (e : q ≡ n). subst (IsIdle (code_in a) (buffered_of a.values)) (sym e) here)
    (λ (ne : q ≡ n → ⊥). before q (omega arith))
    (cases_eq q n)

pub next_turn : {a : Inside} {q : ℕ} → HasLeft a q → ((k : ℕ) → k < q → IsIdle (code_in a) (buffered_of a.values) k) →
    buffered_completion (code_in a) (buffered_of a.values) ≡ Turn q ∷ buffered_completion (code_in a)
    (buffered_turn (code_in a) (buffered_of a.values) q)
next_turn {a} {q} h idle =
    let code : Code = code_in a in
    let w = h.whole in
    let xs : List Action = acts code a.values.phase q in
    let small : slice_index a.values.done q < length xs = omega (arith, h.left, w.lens.each a.values.phase q h.proc) in
    let some = some_action xs (slice_index a.values.done q) small in
    completion_turn code w.good.lists (buffered_of a.values) q some.0 w.busy some.1 idle

pub next_drain : (a : Inside) (q : ℕ) → IsWhole a → q < (code_in a).procs →
    slice_index a.lens.items a.values.phase ≤ slice_index a.values.done q →
    is_waiting (backlog_at a.values.queues q).waiting ≡ true →
    ((k : ℕ) → k < q → IsIdle (code_in a) (buffered_of a.values) k) →
    buffered_completion (code_in a) (buffered_of a.values) ≡ Drain q ∷ buffered_completion (code_in a)
    (drain (code_in a) (buffered_of a.values) q)
next_drain a q w lt over some idle =
    let there = oldest_there (backlog_at a.values.queues q).waiting some in
    completion_drain (code_in a) w.good.lists (buffered_of a.values) q there.0 there.1 w.busy lt (omega (arith, w.lens.each a.values.phase q lt)) (queue_is a.values.queues q ∙ there.2) idle
  where
    oldest_there : (ws : List Waiting) → is_waiting ws ≡ true → (w : Waiting) × (rest : List Waiting) × (ws ≡ w ∷ rest)
    oldest_there [] e = absurd (false≢true e)
    oldest_there (w ∷ ws) e = (w, ws, refl)

-- few events are left, seen from outside
pub few_left : {a : Inside} {r : Running} → running_of a ≡ r → IsWhole a →
    length (buffered_completion r.code r.state) < 2 ^ 60
few_left {a} {r} view w = subst (λ (r : Running). length (buffered_completion r.code r.state) < 2 ^ 60) view w.few

pub nothing_next : (a : Inside) → IsWhole a → length a.lens.items ≤ a.values.phase →
    buffered_completion (code_in a) (buffered_of a.values) ≡ []
nothing_next a w le = completion_past (code_in a) w.good.lists (buffered_of a.values) w.busy (omega (arith, w.lens.count))

pub all_idle : (a : Inside) → IsWhole a → ((q : ℕ) → q < (code_in a).procs →
    IsIdle (code_in a) (buffered_of a.values) q) → length a.lens.items ≤ a.values.phase
all_idle a w idle = omega (arith, w.lens.count, idle_past (code_in a) w.good.lists (buffered_of a.values) w.busy idle)
