use Rattle.spiral_words.proofs.order.mix_of.Goals as goal

pub returns-in-Err-Syntax-clause-usage : goal.returns-in-Err-Syntax-clause-usage
returns-in-Err-Syntax-clause-usage c =
    let stuck = rw (c.in-Err-Syntax.field-0-is, c.as_bytes.ensures.value) at c.in-Err-Syntax.ensures.answer in
    λ _. stuck.nothing
