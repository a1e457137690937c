-- The parts of a call that goes by a list.
use Rattle.std.specs.Prelude.{◌≡◌, Bool, true, false, List, ℕ, Ok}
use Rattle.generate.specs.Emission.Whole.{conv_emission}
use Rattle.generate.specs.ConvPlanned.{IsConvPlanned}
use Rattle.generate.specs.Convolver.{IsConvolver}
use Rattle.icode.specs.Program.{plain_program}
use Rattle.icode.specs.declared.program.Program.{Program}
use Rattle.matrix_meaning.specs.declared.Request.{Request}
use Rattle.tree_model.specs.Breakdown.{Breakdown}
use Rattle.commands.specs.Equations.Convolutions.{conv_chosen}
use Rattle.commands.specs.Equations.Convolve.{convolve_work, convolver_work}
use Rattle.commands.specs.Equations.Front.{Work, staged}
use Rattle.commands.specs.Equations.Orders.{Planned}

-- the program of the chosen tree and the list h, which convolves with the list
pub record IsListProgram (request : Request) (h : List ℕ) (program : Program) : Type 0 where
  pub tree : Breakdown
  pub planned : IsConvPlanned request (Ok tree)
  pub letters : plain_program program ≡ conv_emission request tree h
  pub convolver : IsConvolver request tree h (plain_program program)

-- what is done by the list: it is convolved with, or the program that does so is written
abbrev pub list_work : Bool → Planned → Work
list_work false plan = convolve_work plan
list_work true plan = convolver_work plan

-- what is right after the line of the request
abbrev pub work_by_list : Bool → Request → Work
work_by_list code request = staged (conv_chosen request) (list_work code)
