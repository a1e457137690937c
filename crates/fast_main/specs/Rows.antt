-- The table of statuses: of each its number, and its line after `spiral_fast: `.
use Rattle.std.specs.Prelude.{ℕ, List, [], ◌∷◌, None, Some, codes}
use Rattle.io_edge.specs.Status.Rows.{PlainRow, row}
use Rattle.loop_lanes.specs.declared.obstacles.NestFault.{NestFault}
use Rattle.loop_lanes.specs.declared.obstacles.NestFault.TheVariants.{NoLoop, Loops, Stores, Rounds, Registers, Places}
use Rattle.fast_main.specs.declared.status.Status.{Status}
use Rattle.fast_main.specs.declared.status.Status.TheVariants.{Success, Usage, ListingSyntax, OverSteps, Address}
use Rattle.fast_main.specs.declared.status.Status.TheVariants.{Register, LineShared, WideModulus, ReadFault, WriteFault}
use Rattle.fast_main.specs.declared.status.Status.TheVariants.{NoMemory, TooLong, InputWritten, OneLane}
use Rattle.fast_main.specs.declared.status.Status.TheVariants.{OneLaneOfRegisters}

-- a text was written, of one lane in place of several: what stands before the number of a line, and behind it
abbrev pub before_line : NestFault → List ℕ
before_line NoLoop = codes "one lane: line "
before_line fault = codes "one lane: the loop at line "

abbrev pub why : NestFault → List ℕ
why NoLoop = codes " stands in no loop"
why Loops = codes " has loops side by side, or beside operations"
why Stores = codes " stores more than 256 times in a round"
why Rounds = codes " has rounds that are no multiple of the lanes"
why Registers = codes " has registers out of order, or reads one that its round has not put"
why Places = codes " loads or stores words that do not stand side by side"

abbrev pub row_of : Status → PlainRow
row_of Success = row 0 []
row_of (OneLane line fault) = row 0 ((before_line fault, Some line) ∷ (why fault, None) ∷ [])
row_of OneLaneOfRegisters = row 0 ((codes "one lane: more than 349525 registers", None) ∷ [])
row_of Usage =
    row 2 ((codes "usage: spiral_fast [--words 16|32|52|64] [--lanes 2|4|8|16] [--name NAME [--times] [--header]] < LISTING > TEXT (reads a listing, writes C)", None) ∷ [])
row_of ReadFault = row 10 ((codes "read failed", None) ∷ [])
row_of WriteFault = row 11 ((codes "write failed", None) ∷ [])
row_of NoMemory = row 12 ((codes "out of memory", None) ∷ [])
row_of (TooLong limit) = row 13 ((codes "more than ", Some limit) ∷ (codes " bytes", None) ∷ [])
row_of (ListingSyntax line) = row 18 ((codes "listing syntax at line ", Some line) ∷ [])
row_of (Address phase proc action) =
    row 19 ((codes "bad place in phase ", Some phase) ∷ (codes ", processor ", Some proc)
    ∷ (codes ", action ", Some action) ∷ [])
row_of (Register phase proc action) =
    row 20 ((codes "bad register in phase ", Some phase) ∷ (codes ", processor ", Some proc)
    ∷ (codes ", action ", Some action) ∷ [])
row_of (LineShared phase line a b) =
    row 21 ((codes "phase ", Some phase) ∷ (codes " line ", Some line)
    ∷ (codes " is shared by ", Some a) ∷ (codes " and ", Some b) ∷ [])
row_of (OverSteps limit) = row 22 ((codes "more than ", Some limit) ∷ (codes " actions", None) ∷ [])
row_of (WideModulus bits) = row 24 ((codes "modulus of more than ", Some bits) ∷ (codes "-bit words", None) ∷ [])
row_of (InputWritten phase) =
    row 25 ((codes "phase ", Some phase) ∷ (codes " stores into X, which is only read in a function", None) ∷ [])
