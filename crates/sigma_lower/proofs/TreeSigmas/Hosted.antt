-- Layouts whose loops are ready for emission.
use Rattle.sigma_lower.proofs.Words.{IsMachine, IsHost, CanShareLayout, Layout, IsGoodLayout, Target, IsSmallWork}
use Rattle.sigma_lower.proofs.TreeLoops.Shaped.{HasWorks}

-- a good layout with small kernels, which a machine within the limits of programs can share
pub record IsHosted (h : Target) (l : Layout) : Type 0 where
  pub machine : IsMachine h
  pub host : IsHost h
  pub shares : CanShareLayout h l
  pub good : IsGoodLayout h.modulus l
  pub small : HasWorks IsSmallWork l
