use Rattle.std.proofs.Common.{◌∙◌, sym}
use Rattle.icode.specs.Plain.{plain_body}
use Rattle.nests.proofs.Counts.{others-counts}
use Rattle.interchange.proofs.Sunk.{exchanged-alone}
use Rattle.interchange.proofs.orders.+exchanging.Goals as goal

pub exchange_innermost-returns-then-body-ne1 : goal.exchange_innermost-returns-then-body-ne1
exchange_innermost-returns-then-body-ne1 t c =
    c.exchange_round.ensures ∙ sym (exchanged-alone c.args.depth (plain_body c.args.body.now) (others-counts c.args.body.now c.if-body-ne1.true))
