-- The line of a turn or a drain.
use Rattle.std.specs.Prelude.{ℕ, List, ◌++◌, codes, decimal, take}
use Rattle.std.specs.List.{join_by}
use Rattle.icode.specs.declared.action.Action.{Action}
use Rattle.icode.specs.declared.action.Action.TheVariants.{Load, Store, Zero, Add, Sub, Neg, Mul, Tile}
use Rattle.icode.specs.declared.event.Drained.{Drained}
use Rattle.icode.specs.declared.event.Drained.TheVariants.{Wrote, Empty}
use Rattle.icode.specs.declared.event.Turned.{Turned}
use Rattle.icode.specs.declared.event.Turned.TheVariants.{Did, Waits, Done}

-- an action on these lanes
abbrev pub action_text : ℕ → Action → List ℕ
action_text lanes (Load register address) = codes "ld r" ++ decimal register ++ codes " " ++ decimal address
action_text lanes (Store address register) = codes "st " ++ decimal address ++ codes " r" ++ decimal register
action_text lanes (Zero register) = codes "zero r" ++ decimal register
action_text lanes (Add register left right) = codes "add r" ++ decimal register ++ codes " r" ++ decimal left ++ codes " r" ++ decimal right
action_text lanes (Sub register left right) = codes "sub r" ++ decimal register ++ codes " r" ++ decimal left ++ codes " r" ++ decimal right
action_text lanes (Neg register source) = codes "neg r" ++ decimal register ++ codes " r" ++ decimal source
action_text lanes (Mul register source factors) =
    codes "mul r" ++ decimal register ++ codes " r" ++ decimal source ++ codes " " ++ join_by decimal (codes ",") (take lanes factors)
action_text lanes (Tile register source) = codes "tile r" ++ decimal register ++ codes " r" ++ decimal source

abbrev pub answer_text : ℕ → Turned → List ℕ
answer_text lanes (Did action) = action_text lanes action
answer_text lanes Waits = codes "waits"
answer_text lanes Done = codes "done"

-- the line of a turn: its number, the processor, and what it answers
abbrev pub turn_line : ℕ → ℕ → ℕ → Turned → List ℕ
turn_line lanes number q given = decimal number ++ codes " " ++ decimal q ++ codes " " ++ answer_text lanes given ++ codes "\n"

abbrev pub drained_text : Drained → List ℕ
drained_text (Wrote address) = codes "drain " ++ decimal address
drained_text Empty = codes "empty"

-- the line of a drain
abbrev pub drain_line : ℕ → ℕ → Drained → List ℕ
drain_line number q given = decimal number ++ codes " " ++ decimal q ++ codes " " ++ drained_text given ++ codes "\n"
