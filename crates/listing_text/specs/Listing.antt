-- The listing of a program.
use Rattle.std.specs.Prelude.{ℕ, List, [], ◌++◌, codes, decimal, flat_map}
use Rattle.icode.specs.declared.program.Array.{Array}
use Rattle.icode.specs.declared.program.Array.TheVariants as arrays
use Rattle.icode.specs.Plain.{PlainExpr, PlainParts, PlainPart, PlainOp, PlainProgram, Sum, NoParts, AndParts, Proc, Var, Product, Rem, Quot, Load, Store, Zero, Add, Sub, Neg, MulConst, MulTable, Tile}
use Rattle.listing_text.specs.declared.draft.Header.{Header}
use Rattle.listing_text.specs.Wording.{PlainAct, Open, Close, Do, Wording, text_of}

-- a place: its constant and its parts, with a mark after each constant
abbrev mutual
  pub sum_with : List ℕ → PlainExpr → List ℕ
  sum_with mark (Sum constant parts) = decimal constant ++ (mark ++ parts_with mark parts)

  pub parts_with : List ℕ → PlainParts → List ℕ
  parts_with mark NoParts = []
  parts_with mark (AndParts part rest) = part_with mark part ++ parts_with mark rest

  pub part_with : List ℕ → PlainPart → List ℕ
  part_with mark (Proc factor) = codes "+q*" ++ decimal factor
  part_with mark (Var depth factor) = codes "+v" ++ decimal depth ++ codes "*" ++ decimal factor
  part_with mark (Product outer inner factor) =
      codes "+v" ++ decimal outer ++ codes "*v" ++ decimal inner ++ codes "*" ++ decimal factor
  part_with mark (Rem of divisor factor) =
      codes "+(" ++ sum_with mark of ++ codes ")%" ++ decimal divisor ++ codes "*" ++ decimal factor
  part_with mark (Quot of divisor factor) =
      codes "+(" ++ sum_with mark of ++ codes ")/" ++ decimal divisor ++ codes "*" ++ decimal factor

-- in a listing there is none
abbrev pub sum_text : PlainExpr → List ℕ
sum_text place = sum_with [] place

abbrev pub parts_text : PlainParts → List ℕ
parts_text parts = parts_with [] parts

abbrev pub part_text : PlainPart → List ℕ
part_text part = part_with [] part

abbrev pub array_text : Array → List ℕ
array_text arrays.X = codes "X"
array_text arrays.Y = codes "Y"
array_text arrays.A = codes "A"
array_text arrays.B = codes "B"

abbrev pub place_text : Array → PlainExpr → List ℕ
place_text array place = array_text array ++ codes "[" ++ sum_text place ++ codes "]"

abbrev pub op_text : PlainOp → List ℕ
op_text (Load register array place) = codes "ld r" ++ decimal register ++ codes " " ++ place_text array place
op_text (Store array place register) = codes "st " ++ place_text array place ++ codes " r" ++ decimal register
op_text (Zero register) = codes "zero r" ++ decimal register
op_text (Add register left right) = codes "add r" ++ decimal register ++ codes " r" ++ decimal left ++ codes " r" ++ decimal right
op_text (Sub register left right) = codes "sub r" ++ decimal register ++ codes " r" ++ decimal left ++ codes " r" ++ decimal right
op_text (Neg register source) = codes "neg r" ++ decimal register ++ codes " r" ++ decimal source
op_text (MulConst register source factor) = codes "mul r" ++ decimal register ++ codes " r" ++ decimal source ++ codes " " ++ decimal factor
op_text (MulTable register source table place step) =
    codes "mul r" ++ decimal register ++ codes " r" ++ decimal source ++ codes " t" ++ decimal table ++ codes "[" ++ sum_text place ++ codes "] step " ++ decimal step
op_text (Tile register source) = codes "tile r" ++ decimal register ++ codes " r" ++ decimal source

abbrev pub header_text : Header → List ℕ
header_text h =
    codes "program size " ++ decimal h.size ++ codes " mod " ++ decimal h.modulus ++ codes " procs " ++ decimal h.procs
    ++ codes " line " ++ decimal h.line ++ codes " lanes " ++ decimal h.lanes ++ codes " regs " ++ decimal h.regs

-- a line of a phase, without its end and with it
abbrev pub act_text : PlainAct → List ℕ
act_text (Open depth count) = codes "for v" ++ decimal depth ++ codes " " ++ decimal count
act_text Close = codes "end"
act_text (Do op) = op_text op

abbrev pub line_text : PlainAct → List ℕ
line_text act = act_text act ++ codes "\n"

abbrev pub values_text : List ℕ → List ℕ
values_text entries = flat_map (λ c. codes " " ++ decimal c) entries

abbrev pub table_text : ℕ → List ℕ → List ℕ
table_text number entries = codes "table " ++ decimal number ++ codes " values" ++ values_text entries ++ codes "\n"

abbrev pub listing_wording : Wording
listing_wording = record {
  header = λ h. header_text h ++ codes "\n";
  front = λ h. [];
  table = table_text;
  between = [];
  phase = λ regs number. codes "phase\n";
  line = line_text;
}

abbrev pub listing_of : PlainProgram → List ℕ
listing_of p = text_of listing_wording p
