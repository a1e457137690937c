use Rattle.std.proofs.Common.{◌+◌, ◌≤◌, length, sym, subst, arith, Vec, Global}
use Rattle.std.proofs.lemmas.List.{length-map}
use Rattle.icode.specs.declared.program.Stmt.{Stmt}
use Rattle.icode.specs.Plain.{plain_body}
use Rattle.icode.specs.Program.{plain_program}
use Rattle.code_check.specs.Refusals.{action_count}
use Rattle.code_check.proofs.Whole.{IsCheckedTo, checked_more, checked_passes}
use Rattle.code_check.proofs.check.judge.Goals as goal

pub loop-phase-preserved : goal.loop-phase-preserved
loop-phase-preserved c =
    let p = plain_program c.args.program.now in
    subst (IsCheckedTo p (c.loop-phase.phase + 1)) (sym c.sooner-shared.ensures)
    (checked_more p c.loop-phase.phase c.loop-phase.shared c.in_ok-found.found c.loop-phase.invariant c.in_ok-found.ensures)

pub invariant_of-result : goal.invariant_of-result
invariant_of-result c =
    let p = plain_program c.args.program.now in
    let few : action_count p ≤ 100000000 = omega (arith, c.count_actions.ensures, c.if-count_actions-gt-STEP_LIMIT.false) in
    let past : length p.phases ≤ c.loop-phase.phase =
    omega (arith, c.loop-phase-test.false, c.len-phase-end.ensures, length-map c.args.program.now.phases.items (λ (b : Vec Stmt Global). plain_body b.items)) in
    checked_passes 100000000 p c.loop-phase.phase few past (subst (IsCheckedTo p c.loop-phase.phase) c.in_default.is c.loop-phase.invariant)

pub returns-clause-verified : goal.returns-clause-verified
returns-clause-verified c =
    let p = plain_program c.args.program.now in
    let few : action_count p ≤ 100000000 = omega (arith, c.count_actions.ensures, c.if-count_actions-gt-STEP_LIMIT.false) in
    let past : length p.phases ≤ c.loop-phase.phase =
    omega (arith, c.loop-phase-test.false, c.len-phase-end.ensures, length-map c.args.program.now.phases.items (λ (b : Vec Stmt Global). plain_body b.items)) in
    checked_passes 100000000 p c.loop-phase.phase few past (subst (IsCheckedTo p c.loop-phase.phase) c.in_default.is c.loop-phase.invariant)
