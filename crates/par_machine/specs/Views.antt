-- How a machine's fields are seen.
use Rattle.std.specs.Prelude.{List}
use Rattle.icode.specs.Machine.{State}
use Rattle.par_machine.specs.Running.{Running}
use Rattle.par_machine.specs.declared.machine.Machine.TheInside.{Inside}
use Rattle.par_machine.specs.Context.{Context}
use Rattle.par_machine.specs.Header.{header_of}
use Rattle.par_machine.specs.Frame.{Frame, Stand, code_of_frame, IsReady, IsRunning}
use Rattle.par_machine.specs.Processors.{registers_of, cursors_of, counts_of_all}

abbrev pub frame_of : Inside → Frame
frame_of a = record { header = header_of a.header; phases = a.phases.items }

abbrev pub stand_with : State → List Context → Stand
stand_with state processors =
    record { state = state; places = cursors_of processors; counts = counts_of_all processors }

abbrev pub stand_of : Inside → Stand
stand_of a =
    stand_with
    (record {
      memory = a.memory.items;
      registers = registers_of a.processors.items;
      phase = a.phase;
      done = a.done.items;
    })
    a.processors.items

abbrev pub running_of : Inside → Running
running_of a = record { code = code_of_frame (frame_of a); state = (stand_of a).state }

pub record IsWhole (a : Inside) : Type 0 where
  pub ready : IsReady (frame_of a)
  pub running : IsRunning (frame_of a) (stand_of a)
