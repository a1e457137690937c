use Rattle.std.proofs.Common.{ℕ, List, ◌<◌, ap, ◌∙◌, arith, length}
use Rattle.icode.specs.Buffers.{drain}
use Rattle.buffer_machine.specs.Running.{Running}
use Rattle.buffer_machine.specs.Stand.{settled_stand}
use Rattle.buffer_machine.proofs.Whole.{drain_within, drained}
use Rattle.buffer_machine.proofs.machine.BufMachine.drain.Goals as goal

pub settle-requires : goal.settle-requires
settle-requires c =
    omega (arith, drain_within c.self.inside c.args.proc c.write_oldest-address.result c.write_oldest-address.new.self c.self.invariant c.write_oldest-address.ensures, ap length c.deref.ensures.value)

pub invariant_of-self : goal.invariant_of-self
invariant_of-self c =
    let a = c.self.inside in
    let lt : c.args.proc < a.walker.code.procs = omega (arith, c.requires.proc, ap (λ (r : Running). r.code.procs) c.self.view_is) in
    (drained a c.args.proc c.write_oldest-address.result c.write_oldest-address.new.self c.settle.new.self c.self.invariant lt c.write_oldest-address.ensures
    (c.settle.ensures ∙ ap (λ (ls : List ℕ). settled_stand ls c.write_oldest-address.new.self) c.deref.ensures.value)).0

pub returns-clause-state : goal.returns-clause-state
returns-clause-state c =
    let a = c.self.inside in
    let lt : c.args.proc < a.walker.code.procs = omega (arith, c.requires.proc, ap (λ (r : Running). r.code.procs) c.self.view_is) in
    (drained a c.args.proc c.write_oldest-address.result c.write_oldest-address.new.self c.settle.new.self c.self.invariant lt c.write_oldest-address.ensures
    (c.settle.ensures ∙ ap (λ (ls : List ℕ). settled_stand ls c.write_oldest-address.new.self) c.deref.ensures.value)).1
    ∙ ap (λ (r : Running). drain r.code r.state c.args.proc) c.self.view_is
