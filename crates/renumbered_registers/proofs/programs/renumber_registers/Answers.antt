use Rattle.std.proofs.Common.{◌≡◌, ◌≤◌, ◌^◌, Some, sym, ap, ◌∙◌, arith}
use Rattle.icode.specs.Plain.{plain_phases}
use Rattle.renumbered_registers.specs.Renumbered.{numbered_phases, registers_for}
use Rattle.renumbered_registers.specs.Views.{phases_made}
use Rattle.renumbered_registers.proofs.Within.{phases-within}
use Rattle.renumbered_registers.proofs.programs.renumber_registers.Goals as goal

pub with_phases-requires-clause-phases : goal.with_phases-requires-clause-phases
with_phases-requires-clause-phases c =
    let p = c.args.program in
    let is : numbered_phases p.lanes (plain_phases p.phases.items) ≡ Some (plain_phases c.in-Some.phases.items) =
    sym (ap (λ xs. numbered_phases p.lanes (plain_phases xs)) c.deref-3.ensures.value)
    ∙ sym c.in_ok-phases.ensures
    ∙ ap phases_made c.in-Some.is in
    let regs =
    c.registers_for-regs.ensures
    ∙ ap (λ xs. registers_for p.lanes (plain_phases xs)) c.deref-2.ensures.value in
    let few : registers_for p.lanes (plain_phases p.phases.items) ≤ 2 ^ 20 = omega (arith, regs, c.if-regs.false) in
    phases-within p.modulus p.lanes (plain_phases p.phases.items) (plain_phases c.in-Some.phases.items) is few
    p.statements
