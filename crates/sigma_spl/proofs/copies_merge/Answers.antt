use Rattle.sigma_spl.proofs.CopiesMerge.{loads_gather, stores_scatter, loops_scale, stand_side_by_side, stand_under}
use Rattle.sigma_spl.proofs.CopiesMerge.{keeps_once}
use Rattle.sigma_spl.proofs.copies_merge.Goals as goal

pub returns : goal.returns
returns _ = record {
  loads = loads_gather;
  stores = stores_scatter;
  scales = loops_scale;
  sides = stand_side_by_side;
  tensors = stand_under;
  once = keeps_once;
}
