use Rattle.sigma_spl.proofs.Keeps as laws
use Rattle.sigma_spl.proofs.merge_keeps.Goals as goal

pub returns : goal.returns
returns c = laws.merge_keeps
