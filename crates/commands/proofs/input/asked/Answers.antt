use Rattle.std.proofs.Common.{refl, inl, inr}
use Rattle.commands.proofs.input.asked.Goals as goal

pub returns-in-Err-Usage-clause-refused : goal.returns-in-Err-Usage-clause-refused
returns-in-Err-Usage-clause-refused c = λ _. (refl, c.in-Err-Usage.ensures.usage (let q = c.in-Err-Usage.field-0-is in cc))

pub returns-in-Err-Usage-clause-words : goal.returns-in-Err-Usage-clause-words
returns-in-Err-Usage-clause-words c = inr (inl (refl, c.in-Err-Usage.ensures.usage (let q = c.in-Err-Usage.field-0-is in cc)))
