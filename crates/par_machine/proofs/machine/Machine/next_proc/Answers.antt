use Rattle.std.proofs.Common.{◌≡◌, ◌<◌, ◌^◌, [], ap, subst, arith, length, List, ℕ}
use Rattle.std.specs.Prelude.{IfSome}
use Rattle.std.proofs.lemmas.Option.{IfSome_then}
use Rattle.icode.specs.Machine.{completion}
use Rattle.par_machine.specs.Lengths.{IsFirstLeft}
use Rattle.par_machine.specs.Running.{Running}
use Rattle.par_machine.specs.Unfinished.{IsNextTurn, IsUnfinished}
use Rattle.par_machine.proofs.Starting.{unfinished_at}
use Rattle.par_machine.proofs.Wholes.{nothing_left, next_left, some_left, if_none}
use Rattle.par_machine.proofs.Remaining.{few_left}
use Rattle.par_machine.proofs.machine.Machine.next_proc.Goals as goal

pub returns-then-self-len-clause-none : goal.returns-then-self-len-clause-none
returns-then-self-len-clause-none c =
    let a = c.self.inside in
    subst (λ (r : Running). completion r.code r.state ≡ []) c.self.view_is
    (nothing_left a (omega (arith, c.if-self-len.true, c.len.ensures, a.phases.ok.0)))

pub returns-clause-found : goal.returns-clause-found
returns-clause-found c =
    let a = c.self.inside in
    let w = c.self.invariant in
    let here : a.phase < length a.phases.items = omega (arith, w.running.phase, c.if-self-len.false, c.len.ensures, a.phases.ok.0) in
    subst (λ (r : Running). IfSome c.first_left.result (IsNextTurn r.code r.state)) c.self.view_is
    (IfSome_then c.first_left.result c.first_left.ensures.found (λ q p.
    next_left a q c.index.result.now w here c.index.ensures (subst (λ (done : List ℕ). IsFirstLeft done c.index.result.now.len q) c.deref.ensures.value (record { inside = p.inside; left = p.left; none_before = p.none_before }))))

pub returns-clause-unfinished : goal.returns-clause-unfinished
returns-clause-unfinished c =
    let a = c.self.inside in
    let w = c.self.invariant in
    let here : a.phase < length a.phases.items =
    omega (arith, w.running.phase, c.if-self-len.false, c.len.ensures, a.phases.ok.0) in
    subst (λ (r : Running). IfSome c.first_left.result (IsUnfinished r.code r.state)) c.self.view_is
    (IfSome_then c.first_left.result c.first_left.ensures.found (λ q p.
    unfinished_at a q c.index.result.now w here c.index.ensures
    (subst (λ (done : List ℕ). IsFirstLeft done c.index.result.now.len q) c.deref.ensures.value
    (record { inside = p.inside; left = p.left; none_before = p.none_before }))))

pub returns-clause-none : goal.returns-clause-none
returns-clause-none c =
    let a = c.self.inside in
    let w = c.self.invariant in
    let here : a.phase < length a.phases.items = omega (arith, w.running.phase, c.if-self-len.false, c.len.ensures, a.phases.ok.0) in
    if_none c.first_left.result (λ none. absurd (some_left a c.index.result.now w here c.index.ensures (λ q lt. rw c.deref.ensures.value at none q (omega (arith, lt, ap length c.deref.ensures.value))))) c.first_left.ensures.none

pub returns-then-self-len-clause-few : goal.returns-then-self-len-clause-few
returns-then-self-len-clause-few c = subst (λ (r : Running). length (completion r.code r.state) < 2 ^ 63) c.self.view_is (few_left c.self.inside c.self.invariant)

pub returns-clause-few : goal.returns-clause-few
returns-clause-few c = subst (λ (r : Running). length (completion r.code r.state) < 2 ^ 63) c.self.view_is (few_left c.self.inside c.self.invariant)
