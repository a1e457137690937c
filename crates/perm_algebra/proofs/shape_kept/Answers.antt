use Rattle.perm_algebra.proofs.ShapeLaws as laws
use Rattle.perm_algebra.proofs.shape_kept.Goals as goal

pub returns : goal.returns
returns c = laws.shape_kept
