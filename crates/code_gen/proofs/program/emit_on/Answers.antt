use Rattle.std.proofs.Common.{◌≡◌, ◌+◌, ◌^◌, ◌<◌, List, sym, ap, subst}
use Rattle.icode.specs.Limits.{IsWithinLimits}
use Rattle.icode.specs.Plain.{PlainProgram, plain_tables}
use Rattle.icode.specs.Plain as icode_plain
use Rattle.code_gen.specs.PassCode.Contract.{Performs}
use Rattle.code_gen.specs.PassCode.Program.{count_in, program_of}
use Rattle.sigma_spl.specs.Nest.{PlainNest}
use Rattle.sigma_spl.specs.Views.{plain_merged}
use Rattle.code_gen.specs.Conditions.{CanEmitPhases, machine_for}
use Rattle.code_gen.specs.Views.{plain_phases}
use Rattle.code_gen.proofs.Passes.{written_is, can-emit, few-passes}
use Rattle.code_gen.proofs.WholePrograms.Performs.{programs_perform}
use Rattle.code_gen.proofs.WholePrograms.ReadyPrograms.{ready_can_program}
use Rattle.code_gen.proofs.program.emit_on.Goals as goal

pub emit_phases-requires-clause-can : goal.emit_phases-requires-clause-can
emit_phases-requires-clause-can c =
    let g = plain_merged c.args.merged.now in
    let h = machine_for c.args.modulus.now c.args.line g in
    subst (CanEmitPhases h) (sym (ap plain_phases c.deref.ensures.value)) (can-emit h g (ready_can_program h g c.requires))

pub emit_phases-requires-clause-few : goal.emit_phases-requires-clause-few
emit_phases-requires-clause-few c =
    let g = plain_merged c.args.merged.now in
    let h = machine_for c.args.modulus.now c.args.line g in
    subst (λ (ps : List (List (List PlainNest))). 0 + count_in ps < 2 ^ 64) (sym (ap plain_phases c.deref.ensures.value)) (few-passes h g (ready_can_program h g c.requires))

-- the program as plain data
written : (c : goal.After-get) →
    (let p : PlainProgram = record { size = c.args.merged.now.size; modulus = c.get.result; procs = c.args.merged.now.procs; line = c.args.line; lanes = c.args.merged.now.lanes; regs = c.in_ok-emitted.emitted.registers; tables = plain_tables c.emit_phases.new.tables.items; phases = icode_plain.plain_phases c.in_ok-emitted.emitted.phases.items } in p)
    ≡ program_of (machine_for c.args.modulus.now c.args.line (plain_merged c.args.merged.now)) (plain_merged c.args.merged.now)
written c =
    let g = plain_merged c.args.merged.now in
    let h = machine_for c.args.modulus.now c.args.line g in
    written_is h g c.get.result c.in_ok-emitted.emitted.registers (plain_phases c.deref.result.now) (plain_tables c.new-tables.result.items) (plain_tables c.emit_phases.new.tables.items) (icode_plain.plain_phases c.in_ok-emitted.emitted.phases.items)
    c.get.ensures.value (ap plain_phases c.deref.ensures.value) c.in_ok-emitted.ensures.registers (ap plain_tables c.new-tables.ensures.items) c.in_ok-emitted.ensures.tables c.in_ok-emitted.ensures.phases

pub invariant_of-result : goal.invariant_of-result
invariant_of-result c =
    let g = plain_merged c.args.merged.now in
    let h = machine_for c.args.modulus.now c.args.line g in
    let limits = subst IsWithinLimits (sym (written c)) (programs_perform h g (ready_can_program h g c.requires)).limits in
    record { header = limits.header; constants = limits.constants; statements = limits.statements }

pub returns-clause-performs : goal.returns-clause-performs
returns-clause-performs c =
    let g = plain_merged c.args.merged.now in
    let h = machine_for c.args.modulus.now c.args.line g in
    subst (Performs h g)
    (sym
    (written_is h g c.get.result c.in_ok-emitted.emitted.registers (plain_phases c.deref.result.now) (plain_tables c.new-tables.result.items) (plain_tables c.emit_phases.new.tables.items) (icode_plain.plain_phases c.in_ok-emitted.emitted.phases.items)
    c.get.ensures.value (ap plain_phases c.deref.ensures.value) c.in_ok-emitted.ensures.registers (ap plain_tables c.new-tables.ensures.items) c.in_ok-emitted.ensures.tables c.in_ok-emitted.ensures.phases))
    (programs_perform h g (ready_can_program h g c.requires))
