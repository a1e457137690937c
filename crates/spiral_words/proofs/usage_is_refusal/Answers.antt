use Rattle.spiral_words.proofs.Decided.{usage_or_refusal}
use Rattle.spiral_words.proofs.usage_is_refusal.Goals as goal

pub returns : goal.returns
returns c = usage_or_refusal
