-- What a pass takes of what is merged.
use Rattle.std.specs.Prelude.{ℕ, Bool, ◌&&◌, List, ◌∷◌}
use Rattle.index_fn.specs.Mapping.{Mapping}
use Rattle.sigma_spl.specs.Merge.{Room, can_multiply, settled, suits, take_gathers}
use Rattle.sigma_spl.specs.Nest.{PlainFactors, PlainNest}
use Rattle.operators.specs.Paths.Tensors.{Path}

-- a pass with what it takes of the gathers that wait, and copy passes for those that are left
abbrev pub taken : Room → ℕ → List PlainNest → List Mapping → List (List PlainNest)
taken room n zs fs =
    (take_gathers room n zs fs).pass ∷ settled room n (take_gathers room n zs fs).left

-- whether the work of a pass suits a diagonal under a path, and the pass can take it
abbrev pub takes_diagonal : ℕ → ℕ → Path → PlainFactors → List Mapping → List PlainNest → Bool
takes_diagonal room n path factors fs zs = suits path zs && can_multiply room n factors fs zs
