-- The law of interchanged loops.
use Rattle.interchange.specs.Laws.{InterchangedLeavesTheSame}
use Rattle.interchange.proofs.Interchanged.{interchanged_program}

pub interchanged_leaves_the_same : InterchangedLeavesTheSame
interchanged_leaves_the_same p fits apart =
    let law = interchanged_program p fits apart in
    record { fits = law.fits; apart = law.apart; same = law.same }
