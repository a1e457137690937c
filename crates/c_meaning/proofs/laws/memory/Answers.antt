use Rattle.c_meaning.proofs.MemoryValues.{lanes_load, lanes_store}
use Rattle.c_meaning.proofs.laws.memory.Goals as goal

pub returns : goal.returns
returns _ = record { loads = lanes_load; stores = lanes_store }
