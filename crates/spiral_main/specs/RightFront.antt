-- Inputs that are right in all that a command asks of them.
use Rattle.std.specs.Prelude.{◌≤◌, ◌≡◌, ◌%◌, ℕ, true, List, length, Ok, None}
use Rattle.std.specs.List.{list_all}
use Rattle.data_stream.specs.Data.{tokens, is_good}
use Rattle.commands.specs.Input.Asking.{spelt}
use Rattle.commands.specs.Input.Commands.{first_stranger}
use Rattle.runs.specs.Stream.{vectors_of}
use Rattle.commands.specs.Convolutions.ConvPlanned.{IsConvPlanned}
use Rattle.commands.specs.Equations.Convolutions.{conv_spelt}
use Rattle.commands.specs.Equations.Formulas.{written}
use Rattle.commands.specs.Planned.{IsPlanned}
use Rattle.spl_ast.specs.Formula.{Formula}
use Rattle.commands.specs.Equations.Front.{Front, line, room_behind}
use Rattle.commands.specs.Equations.Orders.{Planned}

-- good tokens in whole vectors, and no more bytes than may come
pub record AreWholeVectors (size room : ℕ) (bytes : List ℕ) : Type 0 where
  pub few : length bytes ≤ room
  pub good : list_all is_good (tokens bytes) ≡ true
  pub whole : length (tokens bytes) % size ≡ 0

-- the first line is not too long and spells the request, which has each processor that the words name; this tree is
-- chosen for it, so the least cost is within the budget
pub record IsRightLine (names bytes : List ℕ) (plan : Planned) : Type 0 where
  pub short : length ((line 256).first bytes) ≤ 256
  pub spells : spelt ((line 256).first bytes) (Ok plan.request)
  pub turns : first_stranger names plan.request.procs ≡ None
  pub planned : IsPlanned plan.request (Ok plan.tree)

-- the same of a request for convolutions, whose tree is that of both transforms
pub record IsRightConvLine (names bytes : List ℕ) (plan : Planned) : Type 0 where
  pub short : length ((line 256).first bytes) ≤ 256
  pub spells : conv_spelt ((line 256).first bytes) (Ok plan.request)
  pub turns : first_stranger names plan.request.procs ≡ None
  pub planned : IsConvPlanned plan.request (Ok plan.tree)

-- the first line is not too long and spells the formula
pub record IsRightFormulaLine (bytes : List ℕ) (formula : Formula) : Type 0 where
  pub short : length ((line 65536).first bytes) ≤ 65536
  pub spells : written ((line 65536).first bytes) (Ok formula)

-- after a front there are whole vectors
abbrev pub HasWholeVectors : Front → ℕ → List ℕ → Type 0
HasWholeVectors front size bytes = AreWholeVectors size (room_behind front bytes) (front.behind bytes)

-- the vectors after a front
abbrev pub vectors_behind : Front → (size modulus : ℕ) → List ℕ → List (List ℕ)
vectors_behind front size modulus bytes = vectors_of size modulus (tokens (front.behind bytes))

-- those after the line of a request
abbrev pub request_vectors : Planned → List ℕ → List (List ℕ)
request_vectors plan bytes = vectors_behind (line 256) plan.request.size plan.request.modulus bytes
