use Rattle.sigma_spl.proofs.Counting as laws
use Rattle.sigma_spl.proofs.merge_counts.Goals as goal

pub returns : goal.returns
returns c = laws.merge_counts
