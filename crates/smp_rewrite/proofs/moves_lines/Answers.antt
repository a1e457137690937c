use Rattle.smp_rewrite.proofs.Moves as laws
use Rattle.smp_rewrite.proofs.moves_lines.Goals as goal

pub returns : goal.returns
returns c = laws.moves_lines
