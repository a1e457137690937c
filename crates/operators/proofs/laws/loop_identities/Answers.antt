use Rattle.operators.proofs.Scatters.{tensors_as_loops, gather_of_gather, scatter_of_scatter, gather_of_scale}
use Rattle.operators.proofs.Scatters.{scale_of_scatter, gather_as_scatter}
use Rattle.operators.proofs.laws.loop_identities.Goals as goal

pub returns : goal.returns
returns _ = record {
  tensors = tensors_as_loops;
  gathers = gather_of_gather;
  scatters = scatter_of_scatter;
  gathered_diagonals = gather_of_scale;
  scattered_diagonals = scale_of_scatter;
  permutations = gather_as_scatter;
}
