use Rattle.std.proofs.Common.{◌≡◌, ◌+◌, ◌<◌, List, ℕ, take, drop, length, ap, ap₂, sym, ◌∙◌, arith, rules}
use Rattle.icode.specs.Actions.{steps_of_stmt, steps_of_body}
use Rattle.icode.specs.Program.{plain_program}
use Rattle.code_check.specs.declared.live.Live.{Live}
use Rattle.code_check.specs.Live.{plain_live, plain_lives}
use Rattle.code_check.specs.Walk.{Stopped, walked}
use Rattle.code_check.proofs.Lives.{plain_live-Loop}
use Rattle.code_check.proofs.Walking.{body_goes_on, body_stops, next_live, loop_goes_on, loop_stops, open_now}
use Rattle.code_check.proofs.Walking.{within_loop, without_variable}
use Rattle.code_check.proofs.walk.+walk.Goals as goal

pub walk_body-returns-in_err-walk_stmt-clause-walk : goal.walk_body-returns-in_err-walk_stmt-clause-walk
walk_body-returns-in_err-walk_stmt-clause-walk t c =
    let p = plain_program c.args.worker.now.program.now in
    let q = c.args.worker.now.proc in
    let vs : List ℕ = take c.args.depth c.args.values.now in
    let inv = c.loop-stmt.invariant in
    let next = next_live c.args.body.now c.loop-stmt.stmt-index c.stmt-item.result c.loop-stmt-test.true c.stmt-item.is in
    let stopped = ap (λ vs. walked p q (steps_of_stmt p (plain_live c.stmt-item.result) vs q) c.loop-stmt.count c.loop-stmt.lines) (sym inv.values) ∙ c.in_err-walk_stmt.ensures.walk in
    let h : walked p q (steps_of_body p (plain_lives c.args.body.now) vs q) c.args.count.now c.args.lines.now ≡ Stopped c.walk_stmt.new.count c.in_err-walk_stmt.field-0.0 =
    body_stops p q c.args.depth c.loop-stmt.count c.args.count.now (plain_lives c.args.body.now) (plain_lives (drop c.loop-stmt.stmt-index c.args.body.now)) (plain_lives (drop (c.loop-stmt.stmt-index + 1) c.args.body.now)) (plain_live c.stmt-item.result) vs c.loop-stmt.lines c.args.lines.now
    c.walk_stmt.new.count c.in_err-walk_stmt.field-0.0 next inv.walk stopped in
    search rules

pub walk_body-loop-stmt-preserved : goal.walk_body-loop-stmt-preserved
walk_body-loop-stmt-preserved t c =
    let p = plain_program c.args.worker.now.program.now in
    let q = c.args.worker.now.proc in
    let vs : List ℕ = take c.args.depth c.args.values.now in
    let inv = c.loop-stmt.invariant in
    let next = next_live c.args.body.now c.loop-stmt.stmt-index c.stmt-item.result c.loop-stmt-test.true c.stmt-item.is in
    let passed = ap (λ vs. walked p q (steps_of_stmt p (plain_live c.stmt-item.result) vs q) c.loop-stmt.count c.loop-stmt.lines) (sym inv.values) ∙ c.in_ok-walk_stmt.ensures.walk in
    record {
      values = c.in_ok-walk_stmt.ensures.values ∙ inv.values;
      walk = body_goes_on p q c.args.depth c.loop-stmt.count c.args.count.now (plain_lives c.args.body.now) (plain_lives (drop c.loop-stmt.stmt-index c.args.body.now)) (plain_lives (drop (c.loop-stmt.stmt-index + 1) c.args.body.now)) (plain_live c.stmt-item.result) vs c.loop-stmt.lines c.args.lines.now
          c.walk_stmt.new.count c.walk_stmt.new.lines next inv.walk passed;
    }

pub walk_stmt-returns-in_err-walk_body-in-Loop-clause-walk : goal.walk_stmt-returns-in_err-walk_body-in-Loop-clause-walk
walk_stmt-returns-in_err-walk_body-in-Loop-clause-walk t c =
    let p = plain_program c.args.worker.now.program.now in
    let q = c.args.worker.now.proc in
    let vs : List ℕ = take c.args.depth c.args.values.now in
    let inv = c.loop-turn.invariant in
    let is = ap plain_live c.in-Loop.is ∙ plain_live-Loop c.in-Loop.turns c.in-Loop.body in
    let inside : c.args.depth < length c.loop-turn.values = omega (arith, inv.long, (within_loop p.modulus c.args.depth c.in-Loop.turns (plain_lives c.in-Loop.body.items) (plain_live c.args.stmt.now) is c.requires.within).0) in
    let opened = open_now c.loop-turn.values c.args.values.now c.args.depth c.loop-turn.turn inside inv.values in
    let stopped = ap₂ (λ (items : List Live) vs. walked p q (steps_of_body p (plain_lives items) vs q) c.loop-turn.count c.loop-turn.lines) (sym c.deref.ensures.value) (sym opened) ∙ c.in_err-walk_body-in-Loop.ensures.walk in
    let h : walked p q (steps_of_stmt p (plain_live c.args.stmt.now) vs q) c.args.count.now c.args.lines.now ≡ Stopped c.walk_body.new.count c.in_err-walk_body-in-Loop.field-0.0 =
    loop_stops p q c.loop-turn.turn c.in-Loop.turns c.loop-turn.count c.args.count.now (plain_live c.args.stmt.now) (plain_lives c.in-Loop.body.items) vs c.loop-turn.lines c.args.lines.now
    c.walk_body.new.count c.in_err-walk_body-in-Loop.field-0.0 c.loop-turn-test.true inv.walk stopped in
    search rules

pub walk_stmt-loop-turn-preserved : goal.walk_stmt-loop-turn-preserved
walk_stmt-loop-turn-preserved t c =
    let p = plain_program c.args.worker.now.program.now in
    let q = c.args.worker.now.proc in
    let vs : List ℕ = take c.args.depth c.args.values.now in
    let inv = c.loop-turn.invariant in
    let is = ap plain_live c.in-Loop.is ∙ plain_live-Loop c.in-Loop.turns c.in-Loop.body in
    let inside : c.args.depth < length c.loop-turn.values = omega (arith, inv.long, (within_loop p.modulus c.args.depth c.in-Loop.turns (plain_lives c.in-Loop.body.items) (plain_live c.args.stmt.now) is c.requires.within).0) in
    let opened = open_now c.loop-turn.values c.args.values.now c.args.depth c.loop-turn.turn inside inv.values in
    let passed = ap₂ (λ (items : List Live) vs. walked p q (steps_of_body p (plain_lives items) vs q) c.loop-turn.count c.loop-turn.lines) (sym c.deref.ensures.value) (sym opened) ∙ c.in_ok-walk_body-in-Loop.ensures.walk in
    record {
      long = c.walk_body.array_long;
      values = without_variable c.walk_body.new.values c.loop-turn.values c.args.depth c.loop-turn.turn c.in_ok-walk_body-in-Loop.ensures.values ∙ inv.values;
      walk = loop_goes_on p q c.loop-turn.turn c.in-Loop.turns c.loop-turn.count c.args.count.now (plain_live c.args.stmt.now) (plain_lives c.in-Loop.body.items) vs c.loop-turn.lines c.args.lines.now
          c.walk_body.new.count c.walk_body.new.lines c.loop-turn-test.true inv.walk passed;
    }

pub walk_stmt-returns-in_err-walk_body-in-Loop-clause-values
    : goal.walk_stmt-returns-in_err-walk_body-in-Loop-clause-values
walk_stmt-returns-in_err-walk_body-in-Loop-clause-values t c =
    without_variable c.walk_body.new.values c.loop-turn.values c.args.depth c.loop-turn.turn c.in_err-walk_body-in-Loop.ensures.values ∙ c.loop-turn.invariant.values
