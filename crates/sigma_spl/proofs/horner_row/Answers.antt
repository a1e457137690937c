use Rattle.sigma_spl.proofs.HornerRows as laws
use Rattle.sigma_spl.proofs.horner_row.Goals as goal

pub returns : goal.returns
returns c = laws.horner_row
