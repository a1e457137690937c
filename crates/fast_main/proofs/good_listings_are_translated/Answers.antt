use Rattle.fast_main.proofs.Existence.{translated_outcome}
use Rattle.fast_main.proofs.good_listings_are_translated.Goals as goal

pub returns : goal.returns
returns c = translated_outcome
