use Rattle.std.proofs.Common.{◌+◌, ◌<◌, Vec, Global, List, [], length, ap, ap₂, sym, ◌∙◌, arith, subst}
use Rattle.std.proofs.lemmas.List.{with_items_is, length-map}
use Rattle.icode.specs.declared.program.Stmt.{Stmt}
use Rattle.icode.specs.Actions.{steps_of_body}
use Rattle.icode.specs.Lengths.{len_of_body}
use Rattle.icode.specs.Plain.{plain_body, plain_phases}
use Rattle.icode.specs.Program.{plain_program}
use Rattle.code_check.specs.declared.live.Live.{Live}
use Rattle.code_check.specs.Live.{plain_lives, pruned}
use Rattle.code_check.specs.Phases.{IsPhaseFault}
use Rattle.code_check.specs.Uses.{first_sharing}
use Rattle.code_check.specs.Walk.{walked}
use Rattle.std.specs.Prelude.{◌==◌}
use Rattle.code_check.proofs.Lives.{no_lives}
use Rattle.code_check.proofs.Phases.{IsPhaseSoFar, limits_of, live_steps, live_within, idle_phase, body_is_short}
use Rattle.code_check.proofs.Phases.{phase_goes_on, phase_stops, phase_ends}
use Rattle.code_check.proofs.Tables.{table_length}
use Rattle.code_check.proofs.phase.check_phase.Goals as goal

pub walk_body-walk-requires-clause-within : goal.walk_body-walk-requires-clause-within
walk_body-walk-requires-clause-within c =
    let p = c.args.program.now in
    let lives = c.in_ok-body.ensures ∙ ap (λ (items : List Stmt). pruned (plain_body items)) c.deref.ensures.value in
    rw c.deref-in-loop-proc.ensures.value (live_within p c.args.phase c.index.result.now (plain_lives c.in_ok-body.body.items) c.requires.phase c.index.ensures lives)

pub walk_body-walk-requires-clause-few : goal.walk_body-walk-requires-clause-few
walk_body-walk-requires-clause-few c =
    let p = c.args.program.now in
    let lives = c.in_ok-body.ensures ∙ ap (λ (items : List Stmt). pruned (plain_body items)) c.deref.ensures.value in
    omega (
      arith,
      ap (λ (items : List Live). len_of_body (plain_lives items)) c.deref-in-loop-proc.ensures.value,
      body_is_short p c.args.phase c.index.result.now (plain_lives c.in_ok-body.body.items) c.requires.phase c.index.ensures lives c.requires.few,
    )

pub walk_body-walk-requires-clause-lines : goal.walk_body-walk-requires-clause-lines
walk_body-walk-requires-clause-lines c =
    ap length c.deref_mut.ensures.value
    ∙ (ap length c.loop-proc.invariant.noted ∙ table_length (plain_program c.args.program.now) c.args.phase c.loop-proc.proc)

pub returns-in-Err : goal.returns-in-Err
returns-in-Err c =
    let p = c.args.program.now in
    let lives = c.in_ok-body.ensures ∙ ap (λ (items : List Stmt). pruned (plain_body items)) c.deref.ensures.value in
    let q = c.loop-proc.proc in
    let steps = live_steps p c.args.phase c.index.result.now (plain_lives c.in_ok-body.body.items) c.requires.phase c.index.ensures lives q
    ∙ ap (λ (items : List Live). steps_of_body (plain_program p) (plain_lives items) [] q) (sym c.deref-in-loop-proc.ensures.value) in
    let stopped = ap₂ (λ xs t. walked (plain_program p) q xs 0 t) steps (sym c.deref_mut.ensures.value) ∙ c.in-Err.ensures.walk in
    subst (IsPhaseFault (plain_program p) c.args.phase) (sym c.fault_of.ensures)
    (phase_stops (plain_program p) c.args.phase q c.walk_body-walk.new.count c.loop-proc.lines.items c.in-Err.offence c.loop-proc-test.true c.loop-proc.invariant stopped)

pub loop-proc-preserved : goal.loop-proc-preserved
loop-proc-preserved c =
    let p = c.args.program.now in
    let lives = c.in_ok-body.ensures ∙ ap (λ (items : List Stmt). pruned (plain_body items)) c.deref.ensures.value in
    let q = c.loop-proc.proc in
    let steps = live_steps p c.args.phase c.index.result.now (plain_lives c.in_ok-body.body.items) c.requires.phase c.index.ensures lives q
    ∙ ap (λ (items : List Live). steps_of_body (plain_program p) (plain_lives items) [] q) (sym c.deref-in-loop-proc.ensures.value) in
    let passed = ap₂ (λ xs t. walked (plain_program p) q xs 0 t) steps (sym c.deref_mut.ensures.value) ∙ c.in_default.ensures.walk in
    let table = with_items_is c.loop-proc.lines c.walk_body-walk.new.lines (c.walk_body-walk.auto.lines ∙ (ap length c.deref_mut.ensures.value ∙ sym c.loop-proc.lines.ok.0)) in
    subst (IsPhaseSoFar (plain_program p) c.args.phase (q + 1)) (sym table)
    (phase_goes_on (plain_program p) c.args.phase q c.walk_body-walk.new.count c.loop-proc.lines.items c.walk_body-walk.new.lines c.loop-proc.invariant passed)

pub returns : goal.returns
returns c =
    let p = c.args.program.now in
    let here : c.args.phase < length (plain_phases p.phases.items) = omega (arith, c.requires.phase, length-map p.phases.items (λ (b : Vec Stmt Global). plain_body b.items)) in
    phase_ends (plain_program p) (limits_of p) c.args.phase c.loop-proc.proc c.loop-proc.lines.items c.first_sharing.result
    here c.loop-proc-test.false c.loop-proc.auto.proc-end c.loop-proc.invariant (c.first_sharing.ensures ∙ ap (first_sharing c.args.phase 0) c.deref-2.ensures.value)

pub returns-then-is_empty : goal.returns-then-is_empty
returns-then-is_empty c =
    let p = c.args.program.now in
    let lives = c.in_ok-body.ensures ∙ ap (λ (items : List Stmt). pruned (plain_body items)) c.deref.ensures.value in
    let none = no_lives c.in_ok-body.body.items (ap (λ n. n == 0) (sym c.in_ok-body.body.ok.0) ∙ (sym c.is_empty.ensures ∙ c.if-is_empty.true)) in
    idle_phase p c.args.phase c.index.result.now (plain_lives c.in_ok-body.body.items) c.requires.phase c.index.ensures lives none
