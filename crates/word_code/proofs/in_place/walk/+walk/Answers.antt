use Rattle.std.proofs.Common.{◌≡◌, ◌+◌, List, ℕ, take, ap, refl, ◌∙◌, arith, rules}
use Rattle.std.proofs.lemmas.Grind.{common_steps}
use Rattle.icode.specs.Plain.{PlainBody, Loop, plain_op, plain_stmt, plain_body}
use Rattle.icode.specs.Limits.{is_body_within}
use Rattle.icode.specs.Program.{plain_program}
use Rattle.icode.specs.declared.program.Stmt.{the_lemmas}
use Rattle.icode.proofs.Views.{plain_stmt-Loop, plain_stmt-Do}
use Rattle.word_code.specs.InPlace.Views.{homes_of}
use Rattle.code_check.proofs.Walking.{within_loop, without_variable}
use Rattle.word_code.proofs.InPlace.Walking.{item_within, item_fits, item_stops, item_goes_on, opened, turn_fits}
use Rattle.word_code.proofs.InPlace.Walking.{turn_stops, turn_goes_on, op_fits}
use Rattle.word_code.proofs.in_place.walk.+walk.Goals as goal

pub walk_body-walk_stmt-requires : goal.walk_body-walk_stmt-requires
walk_body-walk_stmt-requires t c =
    let p = plain_program c.args.program.now in
    let inv = c.loop-stmt.invariant in
    let within = item_within p c.args.route c.args.body.now c.loop-stmt.stmt-index c.stmt-item.result _ _ _ _ _
    c.loop-stmt-test.true c.stmt-item.is inv.values inv.walk in
    let fits = item_fits p c.args.route c.args.body.now c.loop-stmt.stmt-index c.stmt-item.result _ _ _ _ _ c.loop-stmt-test.true c.stmt-item.is inv.values inv.walk in
    let d = c.decreases in
    let item = c.stmt-item.is in
    (search (rules, the_lemmas, common_steps) depth 8, (within, (c.requires.depth, (fits, inv.table))))

pub walk_body-returns-then-not-walk_stmt-clause-right :
    goal.walk_body-returns-then-not-walk_stmt-clause-right
walk_body-returns-then-not-walk_stmt-clause-right t c =
    item_stops (plain_program c.args.program.now) c.args.route c.args.body.now c.loop-stmt.stmt-index c.stmt-item.result _ _ _ _ _
    c.loop-stmt-test.true c.stmt-item.is c.loop-stmt.invariant.values c.loop-stmt.invariant.walk c.if-not-walk_stmt.ensures.right

pub walk_body-loop-stmt-preserved : goal.walk_body-loop-stmt-preserved
walk_body-loop-stmt-preserved t c = record {
  values = c.if-not-walk_stmt.ensures.values ∙ c.loop-stmt.invariant.values;
  table = c.if-not-walk_stmt.ensures.table;
  walk = item_goes_on (plain_program c.args.program.now) c.args.route c.args.body.now c.loop-stmt.stmt-index
      c.stmt-item.result _ _ _ _ _
      c.loop-stmt-test.true c.stmt-item.is c.loop-stmt.invariant.values c.loop-stmt.invariant.walk _
      c.if-not-walk_stmt.ensures.right (c.if-not-walk_stmt.ensures.after refl);
}

pub walk_stmt-walk_body-requires : goal.walk_stmt-walk_body-requires
walk_stmt-walk_body-requires t c =
    let p = plain_program c.args.program.now in
    let vs : List ℕ = take c.args.depth c.args.values.now in
    let inv = c.loop-turn.invariant in
    let body : PlainBody = plain_body c.in-Loop.body.items in
    let is : plain_stmt c.args.stmt.now ≡ Loop c.in-Loop.count body = ap plain_stmt c.in-Loop.is ∙ plain_stmt-Loop c.in-Loop.count c.in-Loop.body in
    let inner = within_loop p.modulus c.args.depth c.in-Loop.count body (plain_stmt c.args.stmt.now) is c.requires.within in
    let now = opened p.modulus c.args.depth c.in-Loop.count c.loop-turn.turn body (plain_stmt c.args.stmt.now) c.loop-turn.values c.args.values.now is c.requires.within inv.long inv.values in
    let same : plain_body c.deref.result.now ≡ body = ap plain_body c.deref.ensures.value in
    let fits =
    turn_fits p c.args.route (plain_stmt c.args.stmt.now) body c.deref.result.now vs _ c.loop-turn.turn c.in-Loop.count
    _ _ same now
    c.loop-turn-test.true inv.walk in
    let d = c.decreases in
    let w = c.in-Loop.is in
    let items = c.deref.ensures.value in (
      search (rules, the_lemmas, common_steps) depth 8,
      (
        ap (λ b. is_body_within p.modulus b (c.args.depth + 1)) same ∙ inner.1,
        (
          omega (arith, inner.0),
          (fits, inv.table),
        ),
      ),
    )

pub walk_stmt-returns-then-not-walk_body-clause-right :
    goal.walk_stmt-returns-then-not-walk_body-clause-right
walk_stmt-returns-then-not-walk_body-clause-right t c =
    let p = plain_program c.args.program.now in
    let is = ap plain_stmt c.in-Loop.is ∙ plain_stmt-Loop c.in-Loop.count c.in-Loop.body in
    let now = opened p.modulus c.args.depth c.in-Loop.count c.loop-turn.turn (plain_body c.in-Loop.body.items) (plain_stmt c.args.stmt.now) c.loop-turn.values c.args.values.now is c.requires.within c.loop-turn.invariant.long c.loop-turn.invariant.values in
    turn_stops p c.args.route (plain_stmt c.args.stmt.now) (plain_body c.in-Loop.body.items) c.deref.result.now _ _ c.loop-turn.turn c.in-Loop.count _ _
    (ap plain_body c.deref.ensures.value) now c.loop-turn-test.true c.loop-turn.invariant.walk c.if-not-walk_body.ensures.right

pub walk_stmt-returns-then-not-walk_body-clause-values :
    goal.walk_stmt-returns-then-not-walk_body-clause-values
walk_stmt-returns-then-not-walk_body-clause-values t c =
    without_variable c.walk_body.new.values c.loop-turn.values c.args.depth c.loop-turn.turn c.if-not-walk_body.ensures.values ∙ c.loop-turn.invariant.values

pub walk_stmt-loop-turn-preserved : goal.walk_stmt-loop-turn-preserved
walk_stmt-loop-turn-preserved t c =
    let p = plain_program c.args.program.now in
    let inv = c.loop-turn.invariant in
    let is = ap plain_stmt c.in-Loop.is ∙ plain_stmt-Loop c.in-Loop.count c.in-Loop.body in
    let now = opened p.modulus c.args.depth c.in-Loop.count c.loop-turn.turn (plain_body c.in-Loop.body.items) (plain_stmt c.args.stmt.now) c.loop-turn.values c.args.values.now is c.requires.within inv.long inv.values in
    record {
      long = c.walk_body.array_long;
      values = without_variable c.walk_body.new.values c.loop-turn.values c.args.depth c.loop-turn.turn c.if-not-walk_body.ensures.values ∙ inv.values;
      table = c.if-not-walk_body.ensures.table;
      walk = turn_goes_on p c.args.route (plain_stmt c.args.stmt.now) (plain_body c.in-Loop.body.items)
          c.deref.result.now _ _ c.loop-turn.turn c.in-Loop.count _ _
          (ap plain_body c.deref.ensures.value) now c.loop-turn-test.true inv.walk (homes_of c.walk_body.new.table)
          c.if-not-walk_body.ensures.right (c.if-not-walk_body.ensures.after refl);
    }

pub walk_stmt-visit-requires-clause-fits : goal.walk_stmt-visit-requires-clause-fits
walk_stmt-visit-requires-clause-fits t c =
    op_fits (plain_program c.args.program.now) (plain_op c.in-Do.op) (plain_stmt c.args.stmt.now) (take c.args.depth c.args.values.now)
    (ap plain_stmt c.in-Do.is ∙ plain_stmt-Do c.in-Do.op) c.requires.fits
