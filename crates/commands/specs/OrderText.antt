-- The text of a run in an order of turns and drains.
use Rattle.std.specs.Prelude.{ℕ, Bool, List, map}
use Rattle.icode.specs.declared.event.Event.TheVariants.{Turn}
use Rattle.icode.specs.Machine.{Code}
use Rattle.schedules.specs.Turns.{turns_of}
use Rattle.buffer_machine.specs.declared.Events.{Events}
use Rattle.buffer_machine.specs.declared.Events.TheVariants as events
use Rattle.spiral_words.specs.declared.Order.{Order}
use Rattle.spiral_words.specs.declared.Order.TheVariants as order
use Rattle.runs.specs.Texts.{buffered_text, run_text}

-- The text of a vector's run on a number of processors: a line for each turn and drain, where these are asked for, and
-- the line of its results. Turns alone are those of the machine without buffers
abbrev pub order_text : Bool → Order → ℕ → Code → List ℕ → List ℕ
order_text asked (order.Turns schedule) procs code = run_text asked code (turns_of schedule procs)
order_text asked (order.Buffered schedule) procs code = buffered_text asked code (map Turn (turns_of schedule procs))
order_text asked (order.Mixed mix) procs code = buffered_text asked code mix

-- the order whose events these are
abbrev pub order_of : Events → Order
order_of (events.Turns schedule) = order.Buffered schedule.now
order_of (events.Mixed mix) = order.Mixed mix.now
