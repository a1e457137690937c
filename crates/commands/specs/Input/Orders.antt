-- The processors that an order of turns and drains names.
use Rattle.std.specs.Prelude.{ℕ, List, map}
use Rattle.icode.specs.Buffers.{proc_of}
use Rattle.schedules.specs.Turns.{named}
use Rattle.spiral_words.specs.declared.Order.{Order}
use Rattle.spiral_words.specs.declared.Order.TheVariants as order

-- the processors that an order names
abbrev pub procs_in : Order → List ℕ
procs_in (order.Turns schedule) = named schedule
procs_in (order.Buffered schedule) = named schedule
procs_in (order.Mixed mix) = map proc_of mix
