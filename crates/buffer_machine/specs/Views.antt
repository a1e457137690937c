-- How a machine's fields are seen.
use Rattle.std.specs.Prelude.{◌≡◌, ◌<◌, ◌^◌, length}
use Rattle.icode.specs.Buffers.{IsBusy, buffered_completion}
use Rattle.buffer_machine.specs.declared.machine.BufMachine.TheInside.{Inside}
use Rattle.buffer_machine.specs.Good.{IsGood}
use Rattle.buffer_machine.specs.Running.{Running}
use Rattle.buffer_machine.specs.Stand.{buffered_of, HasLens, IsStanding}
use Rattle.buffer_machine.specs.Walking.{IsWalking}

abbrev pub running_of : Inside → Running
running_of a = record { code = a.walker.code; state = buffered_of a.values }

pub record IsWhole (a : Inside) : Type 0 where
  pub good : IsGood a.walker.code
  pub modulus : a.shape.modulus ≡ a.walker.code.modulus
  pub procs : a.shape.procs ≡ a.walker.code.procs
  pub lanes : a.shape.lanes ≡ a.walker.code.lanes
  pub regs : a.shape.regs ≡ a.walker.code.regs
  pub lens : HasLens a.walker.code a.lens.items
  pub standing : IsStanding a.walker.code a.values
  pub busy : IsBusy a.walker.code (buffered_of a.values)
  pub few : length (buffered_completion a.walker.code (buffered_of a.values)) < 2 ^ 60
  pub walking : IsWalking a.walker.code (buffered_of a.values).state a.walker.state
