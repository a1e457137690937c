use Rattle.std.proofs.Common.{◌≡◌, drop, map}
use Rattle.icode.specs.Plain.{plain_expr}
use Rattle.word_code.specs.InPlace.Routing.{same_places}
use Rattle.word_code.proofs.in_place.places.same_places.Given as goal

abbrev pub invariant-loop-index : goal.invariant-loop-index
invariant-loop-index l =
    same_places (map (λ e. plain_expr e.now) (drop l.index l.left)) (map (λ e. plain_expr e.now) (drop l.index l.right))
    ≡ same_places (map (λ e. plain_expr e.now) l.left) (map (λ e. plain_expr e.now) l.right)
