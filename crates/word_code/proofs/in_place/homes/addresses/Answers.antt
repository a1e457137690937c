use Rattle.std.proofs.Common.{sym, ap, ◌∙◌, ◌++◌, ◌∷◌, []}
use Rattle.word_code.proofs.in_place.homes.addresses.Goals as goal
use Rattle.nests.proofs.Straight.{range-more}

pub loop-address-preserved : goal.loop-address-preserved
loop-address-preserved c =
    c.in_ok-push.ensures.items
    ∙ (ap (λ xs. xs ++ c.loop-address.address ∷ []) c.loop-address.invariant ∙ sym (range-more c.loop-address.address))
