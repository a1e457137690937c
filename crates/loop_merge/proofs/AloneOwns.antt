-- One processor owns all words.
use Rattle.std.proofs.Common.{◌≡◌, List, [], ◌∷◌, refl, arith}
use Rattle.operators.specs.declared.target.Target.{Target}
use Rattle.sigma_spl.specs.Nest.{PlainNest}
use Rattle.sigma_spl.specs.Shared.Owners.{AllOwn, IsFirstShared}

module _ (h : Target) (procs : h.procs ≡ 1) where
  own-all : (ps : List (List PlainNest)) → AllOwn h (λ _. 0) ps
  own-all [] = tt
  own-all (zs ∷ ps) = (λ q w low is. omega (arith, low, procs), λ q w low is. omega (arith, low, procs), own-all ps)

  pub shared-first : (ps : List (List PlainNest)) → IsFirstShared h ps
  shared-first [] = record { owner = λ _. 0; is_owner = record { lines = λ a b low high same. refl; procs = λ a low. omega (arith, procs) }; owns = tt }
  shared-first (zs ∷ ps) = record {
    owner = λ _. 0;
    is_owner = record { lines = λ a b low high same. refl; procs = λ a low. omega (arith, procs) };
    owns = (λ q w low is. omega (arith, low, procs), own-all ps);
  }
