use Rattle.std.proofs.Common.{◌≡◌, ◌<◌, ◌-◌, ◌∙◌, ap, ap₂, sym, subst, arith, length}
use Rattle.std.specs.Prelude.{slice_index}
use Rattle.icode.specs.Machine.{acts}
use Rattle.par_machine.specs.Running.{Running}
use Rattle.par_machine.proofs.Wholes.{done_is, done_within, len_is, len_past}
use Rattle.par_machine.proofs.machine.Machine.left.Goals as goal

pub overflow_sub-result : goal.overflow_sub-result
overflow_sub-result c =
    let a = c.self.inside in
    let lt : c.args.proc < a.header.shape.procs = omega (arith, c.requires.proc, ap (λ (r : Running). r.code.procs) c.self.view_is) in
    let here : a.phase < length a.phases.items = omega (arith, c.self.invariant.running.phase, c.if-self-len.false, c.len.ensures, a.phases.ok.0) in
    omega (arith, done_within a c.args.proc c.index.result.now c.self.invariant here c.index.ensures, done_is a c.args.proc c.index-2.result.now c.self.invariant lt c.index-2.ensures)

pub returns : goal.returns
returns c =
    let a = c.self.inside in
    let lt : c.args.proc < a.header.shape.procs = omega (arith, c.requires.proc, ap (λ (r : Running). r.code.procs) c.self.view_is) in
    let here : a.phase < length a.phases.items = omega (arith, c.self.invariant.running.phase, c.if-self-len.false, c.len.ensures, a.phases.ok.0) in
    ap₂ (λ n k. n - k) (sym (len_is a c.args.proc c.index.result.now lt here c.index.ensures)) (sym (done_is a c.args.proc c.index-2.result.now c.self.invariant lt c.index-2.ensures))
    ∙ ap (λ (r : Running). length (acts r.code r.state.phase c.args.proc) - slice_index r.state.done c.args.proc) c.self.view_is

pub returns-then-self-len : goal.returns-then-self-len
returns-then-self-len c =
    let a = c.self.inside in
    let lt : c.args.proc < a.header.shape.procs = omega (arith, c.requires.proc, ap (λ (r : Running). r.code.procs) c.self.view_is) in
    let none = len_past a c.args.proc lt (omega (arith, c.if-self-len.true, c.len.ensures, a.phases.ok.0)) in
    subst (λ (r : Running). 0 ≡ length (acts r.code r.state.phase c.args.proc) - slice_index r.state.done c.args.proc) c.self.view_is (omega (arith, none))
