use Rattle.std.proofs.Common.{◌<◌, Vec, Global, length, sym, ◌∙◌, arith}
use Rattle.std.proofs.lemmas.List.{length-map}
use Rattle.icode.specs.declared.program.Stmt.{Stmt}
use Rattle.icode.specs.Plain.{plain_body, plain_phases}
use Rattle.icode.specs.Program.{plain_program}
use Rattle.code_check.proofs.KnownPhases.{phase_goes_on, phase_lost}
use Rattle.code_check.proofs.fresh.program_reads_known.Goals as goal

pub returns-then-not-branch : goal.returns-then-not-branch
returns-then-not-branch c =
    let p = c.args.program.now in
    let here : c.loop-phase.phase < length (plain_phases p.phases.items) =
    omega (
      arith,
      c.loop-phase-test.true,
      c.len-phase-end.ensures,
      length-map p.phases.items
          (λ (b : Vec Stmt Global). plain_body b.items),
    ) in
    phase_lost (plain_program p) c.loop-phase.phase c.loop-phase.table.words.items here c.loop-phase.invariant.walk
    (sym c.if-not-branch.true ∙ c.in_ok-phase_reads_known.ensures.known)

pub loop-phase-preserved : goal.loop-phase-preserved
loop-phase-preserved c =
    let p = c.args.program.now in
    let here : c.loop-phase.phase < length (plain_phases p.phases.items) =
    omega (
      arith,
      c.loop-phase-test.true,
      c.len-phase-end.ensures,
      length-map p.phases.items
          (λ (b : Vec Stmt Global). plain_body b.items),
    ) in
    record {
      table = c.in_ok-phase_reads_known.ensures.table;
      walk = phase_goes_on (plain_program p) c.loop-phase.phase c.loop-phase.table.words.items here
          c.loop-phase.invariant.walk
          c.phase_reads_known.new.table.words.items (sym c.if-not-branch.false
          ∙ c.in_ok-phase_reads_known.ensures.known)
          (c.in_ok-phase_reads_known.ensures.after c.if-not-branch.false);
    }
