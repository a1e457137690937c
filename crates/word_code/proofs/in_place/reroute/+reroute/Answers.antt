use Rattle.std.proofs.Common.{rules, ◌∙◌, sym, ap, arith, map}
use Rattle.word_code.specs.Views.{plain_word_stmt, word_body_of}
use Rattle.nests.proofs.Items.{changed-none, changed-more, changed-all}
use Rattle.word_code.specs.InPlace.Routes.{rerouted_stmt}
use Rattle.word_code.proofs.InPlace.Rerouting.{body-map}
use Rattle.word_code.proofs.in_place.reroute.+reroute.Goals as goal

pub reroute_body-loop-stmt-init : goal.reroute_body-loop-stmt-init
reroute_body-loop-stmt-init t c = (search rules, changed-none plain_word_stmt (rerouted_stmt c.args.route) c.args.body.now)

pub reroute_body-loop-stmt-preserved : goal.reroute_body-loop-stmt-preserved
reroute_body-loop-stmt-preserved t c = (
  search rules,
  changed-more plain_word_stmt (rerouted_stmt c.args.route) c.loop-stmt.stmt-index c.args.body.now c.loop-stmt.body c.stmt-item.result c.reroute_stmt.new.stmt (omega arith) c.stmt-item.is c.reroute_stmt.ensures c.loop-stmt.invariant.1,
)

pub reroute_body-returns : goal.reroute_body-returns
reroute_body-returns t c =
    ap word_body_of (changed-all plain_word_stmt (rerouted_stmt c.args.route) c.loop-stmt.stmt-index c.args.body.now c.loop-stmt.body (omega (arith, c.loop-stmt.auto.body)) c.loop-stmt.invariant.1)
    ∙ sym (body-map c.args.route (map plain_word_stmt c.args.body.now))
