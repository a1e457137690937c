-- Trees of valid requests, or of nodes of them.
use Rattle.std.specs.Prelude.{◌≡◌, ℕ, ◌%◌}
use Rattle.matrix_meaning.specs.Valid.{IsValid}
use Rattle.matrix_meaning.specs.declared.Request.{Request}
use Rattle.tree_model.specs.Breakdown.{Breakdown, size_of}
use Rattle.tree_model.specs.Whole.{IsTreeOf}

-- a tree of a valid request, or of a node of it
pub record IsNodeTree (p : Request) (t : Breakdown) : Type 0 where
  pub valid : IsValid p
  pub tree : IsTreeOf p t
  pub divides : p.size % size_of t ≡ 0
