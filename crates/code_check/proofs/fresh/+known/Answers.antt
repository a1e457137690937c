use Rattle.std.proofs.Common.{◌≡◌, ◌+◌, List, ℕ, take, ap, refl, ◌∙◌, arith, rules}
use Rattle.std.proofs.lemmas.Grind.{common_steps}
use Rattle.icode.specs.Plain.{PlainBody, Loop, plain_op}
use Rattle.icode.specs.Limits.{is_body_within}
use Rattle.icode.specs.Program.{plain_program}
use Rattle.code_check.specs.declared.live.Live.{the_lemmas}
use Rattle.code_check.specs.Live.{plain_live, plain_lives}
use Rattle.code_check.specs.MarkTables.{marks_of}
use Rattle.code_check.proofs.Knowing.{item_within, item_fits, item_lost, item_goes_on, opened, op_fits, turn_fits}
use Rattle.code_check.proofs.Knowing.{turn_lost, turn_goes_on}
use Rattle.code_check.proofs.Lives.{plain_live-Loop, plain_live-Do}
use Rattle.code_check.proofs.Walking.{within_loop, without_variable}
use Rattle.code_check.proofs.fresh.+known.Goals as goal

pub body_reads_known-stmt_reads_known-requires : goal.body_reads_known-stmt_reads_known-requires
body_reads_known-stmt_reads_known-requires t c =
    let p = plain_program c.args.worker.now.program.now in
    let inv = c.loop-stmt.invariant in
    let within = item_within p c.args.worker.now.proc c.args.body.now c.loop-stmt.stmt-index c.stmt-item.result _ _
    _ _ _
    c.loop-stmt-test.true c.stmt-item.is inv.values inv.walk in
    let fits = item_fits p c.args.worker.now.proc c.args.body.now c.loop-stmt.stmt-index c.stmt-item.result _ _ _ _
    _ c.loop-stmt-test.true c.stmt-item.is inv.values inv.walk in
    let d = c.decreases in
    let item = c.stmt-item.is in
    (search (rules, the_lemmas, common_steps) depth 8, (within, (c.requires.depth, (fits, inv.table))))

pub body_reads_known-returns-then-not-stmt_reads_known-clause-known :
    goal.body_reads_known-returns-then-not-stmt_reads_known-clause-known
body_reads_known-returns-then-not-stmt_reads_known-clause-known t c =
    item_lost (plain_program c.args.worker.now.program.now) c.args.worker.now.proc c.args.body.now
    c.loop-stmt.stmt-index c.stmt-item.result _ _ _ _ _
    c.loop-stmt-test.true c.stmt-item.is c.loop-stmt.invariant.values c.loop-stmt.invariant.walk
    c.if-not-stmt_reads_known.ensures.known

pub body_reads_known-loop-stmt-preserved : goal.body_reads_known-loop-stmt-preserved
body_reads_known-loop-stmt-preserved t c = record {
  values = c.if-not-stmt_reads_known.ensures.values ∙ c.loop-stmt.invariant.values;
  table = c.if-not-stmt_reads_known.ensures.table;
  walk = item_goes_on (plain_program c.args.worker.now.program.now) c.args.worker.now.proc c.args.body.now
      c.loop-stmt.stmt-index
      c.stmt-item.result _ _ _ _ _
      c.loop-stmt-test.true c.stmt-item.is c.loop-stmt.invariant.values c.loop-stmt.invariant.walk _
      c.if-not-stmt_reads_known.ensures.known (c.if-not-stmt_reads_known.ensures.after refl);
}

pub stmt_reads_known-body_reads_known-requires : goal.stmt_reads_known-body_reads_known-requires
stmt_reads_known-body_reads_known-requires t c =
    let p = plain_program c.args.worker.now.program.now in
    let q = c.args.worker.now.proc in
    let vs : List ℕ = take c.args.depth c.args.values.now in
    let inv = c.loop-turn.invariant in
    let body : PlainBody = plain_lives c.in-Loop.body.items in
    let is : plain_live c.args.stmt.now ≡ Loop c.in-Loop.count body = ap plain_live c.in-Loop.is
    ∙ plain_live-Loop c.in-Loop.count c.in-Loop.body in
    let inner = within_loop p.modulus c.args.depth c.in-Loop.count body (plain_live c.args.stmt.now) is
    c.requires.within in
    let now = opened p.modulus c.args.depth c.in-Loop.count c.loop-turn.turn body (plain_live c.args.stmt.now)
    c.loop-turn.values c.args.values.now is c.requires.within inv.long inv.values in
    let same : plain_lives c.deref.result.now ≡ body = ap plain_lives c.deref.ensures.value in
    let fits =
    turn_fits p q (plain_live c.args.stmt.now) body c.deref.result.now vs _ c.loop-turn.turn c.in-Loop.count
    _ _ same now
    c.loop-turn-test.true inv.walk in
    let d = c.decreases in
    let w = c.in-Loop.is in
    let items = c.deref.ensures.value in (
      search (rules, the_lemmas, common_steps) depth 8,
      (
        ap (λ b. is_body_within p.modulus b (c.args.depth + 1)) same ∙ inner.1,
        (
          omega (arith, inner.0),
          (fits, inv.table),
        ),
      ),
    )

pub stmt_reads_known-returns-then-not-body_reads_known-clause-known :
    goal.stmt_reads_known-returns-then-not-body_reads_known-clause-known
stmt_reads_known-returns-then-not-body_reads_known-clause-known t c =
    let p = plain_program c.args.worker.now.program.now in
    let is = ap plain_live c.in-Loop.is ∙ plain_live-Loop c.in-Loop.count c.in-Loop.body in
    let now = opened p.modulus c.args.depth c.in-Loop.count c.loop-turn.turn (plain_lives c.in-Loop.body.items)
    (plain_live c.args.stmt.now) c.loop-turn.values c.args.values.now is c.requires.within
    c.loop-turn.invariant.long c.loop-turn.invariant.values in
    turn_lost p c.args.worker.now.proc (plain_live c.args.stmt.now) (plain_lives c.in-Loop.body.items)
    c.deref.result.now _ _ c.loop-turn.turn c.in-Loop.count _ _
    (ap plain_lives c.deref.ensures.value) now c.loop-turn-test.true c.loop-turn.invariant.walk
    c.if-not-body_reads_known.ensures.known

pub stmt_reads_known-returns-then-not-body_reads_known-clause-values :
    goal.stmt_reads_known-returns-then-not-body_reads_known-clause-values
stmt_reads_known-returns-then-not-body_reads_known-clause-values t c =
    without_variable c.body_reads_known.new.values c.loop-turn.values c.args.depth c.loop-turn.turn
    c.if-not-body_reads_known.ensures.values ∙ c.loop-turn.invariant.values

pub stmt_reads_known-loop-turn-preserved : goal.stmt_reads_known-loop-turn-preserved
stmt_reads_known-loop-turn-preserved t c =
    let p = plain_program c.args.worker.now.program.now in
    let inv = c.loop-turn.invariant in
    let is = ap plain_live c.in-Loop.is ∙ plain_live-Loop c.in-Loop.count c.in-Loop.body in
    let now = opened p.modulus c.args.depth c.in-Loop.count c.loop-turn.turn (plain_lives c.in-Loop.body.items)
    (plain_live c.args.stmt.now) c.loop-turn.values c.args.values.now is c.requires.within inv.long inv.values in
    record {
      long = c.body_reads_known.array_long;
      values = without_variable c.body_reads_known.new.values c.loop-turn.values c.args.depth c.loop-turn.turn
          c.if-not-body_reads_known.ensures.values ∙ inv.values;
      table = c.if-not-body_reads_known.ensures.table;
      walk = turn_goes_on p c.args.worker.now.proc (plain_live c.args.stmt.now) (plain_lives c.in-Loop.body.items)
          c.deref.result.now _ _ c.loop-turn.turn c.in-Loop.count _ _
          (ap plain_lives c.deref.ensures.value) now c.loop-turn-test.true inv.walk
          (marks_of c.body_reads_known.new.table)
          c.if-not-body_reads_known.ensures.known (c.if-not-body_reads_known.ensures.after refl);
    }

pub stmt_reads_known-reads_known-known-requires-clause-fits :
    goal.stmt_reads_known-reads_known-known-requires-clause-fits
stmt_reads_known-reads_known-known-requires-clause-fits t c =
    op_fits (plain_program c.args.worker.now.program.now) c.args.worker.now.proc (plain_op c.in-Do.op.now)
    (plain_live c.args.stmt.now) (take c.args.depth c.args.values.now)
    (ap plain_live c.in-Do.is ∙ plain_live-Do c.in-Do.op) c.requires.fits

pub stmt_reads_known-note-requires-clause-fits : goal.stmt_reads_known-note-requires-clause-fits
stmt_reads_known-note-requires-clause-fits t c =
    op_fits (plain_program c.args.worker.now.program.now) c.args.worker.now.proc (plain_op c.in-Do.op.now)
    (plain_live c.args.stmt.now) (take c.args.depth c.args.values.now)
    (ap plain_live c.in-Do.is ∙ plain_live-Do c.in-Do.op) c.requires.fits
