use Rattle.std.proofs.Common.{◌≡◌, ◌<◌, ap, ap₂, ◌∙◌, sym, subst, arith, false, length}
use Rattle.icode.specs.Buffers.{buffered_finished, some_wait}
use Rattle.icode.specs.Machine.{Code, State, finished}
use Rattle.buffer_machine.specs.Lent.{IsHeld}
use Rattle.buffer_machine.specs.Running.{Running}
use Rattle.buffer_machine.specs.Stand.{waits_of}
use Rattle.buffer_machine.proofs.Finishing.{finished_whole, values_held}
use Rattle.buffer_machine.proofs.machine.BufMachine.finish_directly.Goals as goal

pub lend-requires : goal.lend-requires
lend-requires c = values_held c.self.inside.walker.code c.self.inside.values c.self.invariant.standing

pub take_back-requires : goal.take_back-requires
take_back-requires c =
    let a = c.self.inside in
    subst (λ (code : Code). IsHeld code a.values.memory a.values.registers) (sym (c.finish.ensures.code ∙ c.lend.ensures.code)) (values_held a.walker.code a.values c.self.invariant.standing)

pub invariant_of-self : goal.invariant_of-self
invariant_of-self c =
    let a = c.self.inside in
    let none : some_wait (waits_of a.values.queues) ≡ false = ap (λ (r : Running). some_wait r.state.queues) c.self.view_is ∙ c.requires.none in
    let here : a.values.phase < length a.walker.code.lists = omega (arith, c.requires.here, ap (λ (r : Running). r.state.state.phase) c.self.view_is, ap (λ (r : Running). length r.code.lists) c.self.view_is) in
    let same = c.finish.ensures.code ∙ c.lend.ensures.code in
    let state = c.finish.ensures.state ∙ ap₂ (λ (code : Code) (s : State). finished code s) c.lend.ensures.code c.lend.ensures.state in
    let held = subst (λ (code : Code). IsHeld code c.finish.new.self.state.memory c.finish.new.self.state.registers) same c.take_back.ensures.held in
    (finished_whole a c.take_back.new.self c.finish.new.self c.self.invariant none here same state held c.take_back.ensures.stand).0

pub returns-clause-state : goal.returns-clause-state
returns-clause-state c =
    let a = c.self.inside in
    let none : some_wait (waits_of a.values.queues) ≡ false = ap (λ (r : Running). some_wait r.state.queues) c.self.view_is ∙ c.requires.none in
    let here : a.values.phase < length a.walker.code.lists = omega (arith, c.requires.here, ap (λ (r : Running). r.state.state.phase) c.self.view_is, ap (λ (r : Running). length r.code.lists) c.self.view_is) in
    let same = c.finish.ensures.code ∙ c.lend.ensures.code in
    let state = c.finish.ensures.state ∙ ap₂ (λ (code : Code) (s : State). finished code s) c.lend.ensures.code c.lend.ensures.state in
    let held = subst (λ (code : Code). IsHeld code c.finish.new.self.state.memory c.finish.new.self.state.registers) same c.take_back.ensures.held in
    (finished_whole a c.take_back.new.self c.finish.new.self c.self.invariant none here same state held c.take_back.ensures.stand).1
    ∙ ap (λ (r : Running). buffered_finished r.code r.state) c.self.view_is
