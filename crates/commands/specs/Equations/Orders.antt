-- What the line of a request orders: the request, and the tree that is chosen for it.
use Rattle.std.specs.Prelude.{◌≡◌, ℕ, List, Ok, Err}
use Rattle.generate_faults.specs.declared.generate_fault.GenerateFault.{GenerateFault}
use Rattle.spiral_words.specs.Statuses.Fault.{status_of_generate}
use Rattle.commands.specs.Input.Asking.{spelt}
use Rattle.commands.specs.Input.Commands.{admitted, first_stranger}
use Rattle.commands.specs.Input.Stage.{Stage, given, ◌>>=◌}
use Rattle.generate.specs.Planned.{IsPlanned}
use Rattle.matrix_meaning.specs.declared.Request.{Request}
use Rattle.tree_model.specs.Breakdown.{Breakdown}

-- a request with its tree
pub record Planned : Type 0 where
  pub request : Request
  pub tree : Breakdown

-- the request, if each processor that the words name is one of its own
abbrev pub turned : List ℕ → Request → Stage Request
turned names request = given (admitted (first_stranger names request.procs) request.procs request)

-- the request that the text spells, for a command whose words name these processors
abbrev pub spelt_for : List ℕ → List ℕ → Stage Request
spelt_for names text = spelt text >>= turned names

-- the request with the tree chosen for it, or the first cause to refuse it
abbrev pub chosen : Request → Stage Planned
chosen request (Ok plan) = (plan.request ≡ request) × IsPlanned request (Ok plan.tree)
chosen request (Err status) =
    (fault : GenerateFault) × IsPlanned request (Err fault) × (status ≡ status_of_generate fault)

-- what a line orders, for a command whose words name these processors
abbrev pub planned : List ℕ → List ℕ → Stage Planned
planned names text = spelt_for names text >>= chosen
