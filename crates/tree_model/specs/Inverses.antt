-- By the inverse root a tree costs, loads and stores what it does by the root.
use Rattle.std.specs.Prelude.{◌≡◌, ◌↔◌}
use Rattle.matrix_meaning.specs.declared.Kind.TheVariants.{Dft}
use Rattle.matrix_meaning.specs.declared.Request.{Request}
use Rattle.matrix_meaning.specs.Parts.{inverted}
use Rattle.matrix_meaning.specs.Valid.{IsValid}
use Rattle.tree_model.specs.Admissible.{IsAdmissible}
use Rattle.tree_model.specs.Breakdown.{Breakdown}
use Rattle.tree_model.specs.Cost.{cost_of}
use Rattle.tree_model.specs.Passes.{loads_of, stores_of}

-- the request for it admits the same trees
abbrev pub InverseAdmits : Type 0
InverseAdmits = (c : Request) (t : Breakdown) → c.kind ≡ Dft → IsAdmissible (inverted c) t ↔ IsAdmissible c t

-- a tree costs the same: a power of the inverse root is 1, or -1, where that power of the root is
abbrev pub InverseCosts : Type 0
InverseCosts = (c : Request) (t : Breakdown) → c.kind ≡ Dft → IsValid c → cost_of (inverted c) t ≡ cost_of c t

-- its passes load the same
abbrev pub InverseLoads : Type 0
InverseLoads = (c : Request) (t : Breakdown) → loads_of (inverted c) t ≡ loads_of c t

-- and store the same
abbrev pub InverseStores : Type 0
InverseStores = (c : Request) (t : Breakdown) → stores_of (inverted c) t ≡ stores_of c t
