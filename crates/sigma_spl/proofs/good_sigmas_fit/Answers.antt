use Rattle.sigma_spl.proofs.PlainLemmas.Fitting as laws
use Rattle.sigma_spl.proofs.good_sigmas_fit.Goals as goal

pub returns : goal.returns
returns c = laws.good_fit
