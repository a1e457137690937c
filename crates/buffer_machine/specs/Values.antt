-- How a machine's values are seen.
use Rattle.buffer_machine.specs.declared.values.Values.TheInside.{Inside}
use Rattle.buffer_machine.specs.Stand.{Stand}

abbrev pub stand_of : Inside → Stand
stand_of v =
    record {
      memory = v.memory.items;
      registers = v.registers.items;
      queues = v.queues.items;
      phase = v.phase;
      done = v.done.items;
    }
