use Rattle.std.proofs.Common.{arith, map}
use Rattle.std.proofs.lemmas.List.{length-map}
use Rattle.icode.specs.Plain.{plain_expr}
use Rattle.word_code.proofs.InPlace.Choosing.{places-differ}
use Rattle.word_code.proofs.in_place.places.same_places.Goals as goal

pub returns-then-left-right : goal.returns-then-left-right
returns-then-left-right c =
    places-differ (map (λ e. plain_expr e.now) c.args.left.now) (map (λ e. plain_expr e.now) c.args.right.now)
    (λ same. omega (arith, same, c.if-left-right.true, length-map c.args.left.now (λ e. plain_expr e.now), length-map c.args.right.now (λ e. plain_expr e.now)))
