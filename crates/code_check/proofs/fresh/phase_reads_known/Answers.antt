use Rattle.std.proofs.Common.{List, [], All, ap, subst, sym, ◌∙◌, refl}
use Rattle.icode.specs.Actions.{StepFits, steps_of_body}
use Rattle.icode.specs.declared.program.Stmt.{Stmt}
use Rattle.icode.specs.Plain.{plain_body}
use Rattle.icode.specs.Program.{plain_program}
use Rattle.code_check.specs.declared.live.Live.{Live}
use Rattle.code_check.specs.Live.{plain_lives, pruned}
use Rattle.code_check.specs.Marks.{Marks}
use Rattle.code_check.proofs.KnownPhases.{begun, processor_goes_on, processor_lost}
use Rattle.code_check.proofs.Phases.{live_steps, live_within}
use Rattle.code_check.proofs.fresh.phase_reads_known.Goals as goal

pub body_reads_known-requires-clause-within : goal.body_reads_known-requires-clause-within
body_reads_known-requires-clause-within c =
    let p = c.args.program.now in
    let lives = c.in_ok-body.ensures ∙ ap (λ (items : List Stmt). pruned (plain_body items)) c.deref.ensures.value in
    rw c.deref-in-loop-proc.ensures.value (live_within p c.args.phase c.index.result.now
    (plain_lives c.in_ok-body.body.items) c.requires.phase c.index.ensures lives)

pub body_reads_known-requires-clause-fits : goal.body_reads_known-requires-clause-fits
body_reads_known-requires-clause-fits c =
    let p = c.args.program.now in
    let lives = c.in_ok-body.ensures ∙ ap (λ (items : List Stmt). pruned (plain_body items)) c.deref.ensures.value in
    let q = c.loop-proc.proc in
    let steps = live_steps p c.args.phase c.index.result.now (plain_lives c.in_ok-body.body.items) c.requires.phase
    c.index.ensures lives q
    ∙ ap (λ (items : List Live). steps_of_body (plain_program p) (plain_lives items) [] q)
    (sym c.deref-in-loop-proc.ensures.value) in
    subst (All (StepFits (plain_program p))) steps (c.requires.fits.each c.args.phase q c.loop-proc-test.true)

pub body_reads_known-requires-clause-table : goal.body_reads_known-requires-clause-table
body_reads_known-requires-clause-table c =
    (begun (plain_program c.args.program.now) c.loop-proc.table c.begin_phase.new.self c.begin_phase.ensures.words
    c.begin_phase.ensures.registers c.loop-proc.invariant.table).0

pub returns-then-not-body_reads_known-clause-known : goal.returns-then-not-body_reads_known-clause-known
returns-then-not-body_reads_known-clause-known c =
    let p = c.args.program.now in
    let lives = c.in_ok-body.ensures ∙ ap (λ (items : List Stmt). pruned (plain_body items)) c.deref.ensures.value in
    let q = c.loop-proc.proc in
    let steps = live_steps p c.args.phase c.index.result.now (plain_lives c.in_ok-body.body.items) c.requires.phase
    c.index.ensures lives q
    ∙ ap (λ (items : List Live). steps_of_body (plain_program p) (plain_lives items) [] q)
    (sym c.deref-in-loop-proc.ensures.value) in
    let first = begun (plain_program p) c.loop-proc.table c.begin_phase.new.self c.begin_phase.ensures.words
    c.begin_phase.ensures.registers c.loop-proc.invariant.table in
    processor_lost (plain_program p) c.args.phase q c.loop-proc.table.words.items c.args.table.now.words.items
    c.loop-proc-test.true c.loop-proc.invariant.walk
    _ _ steps first.1 c.if-not-body_reads_known.ensures.known

pub loop-proc-preserved : goal.loop-proc-preserved
loop-proc-preserved c =
    let p = c.args.program.now in
    let lives = c.in_ok-body.ensures ∙ ap (λ (items : List Stmt). pruned (plain_body items)) c.deref.ensures.value in
    let q = c.loop-proc.proc in
    let steps = live_steps p c.args.phase c.index.result.now (plain_lives c.in_ok-body.body.items) c.requires.phase
    c.index.ensures lives q
    ∙ ap (λ (items : List Live). steps_of_body (plain_program p) (plain_lives items) [] q)
    (sym c.deref-in-loop-proc.ensures.value) in
    let first = begun (plain_program p) c.loop-proc.table c.begin_phase.new.self c.begin_phase.ensures.words
    c.begin_phase.ensures.registers c.loop-proc.invariant.table in
    record {
      table = c.if-not-body_reads_known.ensures.table;
      walk = processor_goes_on (plain_program p) c.args.phase q c.loop-proc.table.words.items
          c.args.table.now.words.items c.loop-proc-test.true c.loop-proc.invariant.walk
          _ _ steps first.1 c.body_reads_known.new.table.words.items c.if-not-body_reads_known.ensures.known
          (ap (λ (m : Marks). m.words) (c.if-not-body_reads_known.ensures.after refl));
    }
