-- A row of the table of statuses: the number of the status, and its line as texts with numbers between them.
use Rattle.std.specs.Prelude.{ℕ, List, [], ◌∷◌, ◌++◌, None, Some, codes, decimal}
use Rattle.std.specs.List.{flat_map}
use Rattle.std.specs.declared.option.Option.{Option}

-- a text, and a number after it if there is one
abbrev pub PlainPart : Type 0
PlainPart = List ℕ × Option ℕ

abbrev pub part_text : PlainPart → List ℕ
part_text (text, None) = text
part_text (text, Some number) = text ++ decimal number

-- the line of the parts after a front; no parts are no line
abbrev pub line_of : List ℕ → List PlainPart → List ℕ
line_of front [] = []
line_of front (part ∷ parts) = front ++ (flat_map part_text (part ∷ parts) ++ codes "\n")

pub record PlainRow : Type 0 where
  pub code : ℕ
  pub parts : List PlainPart

abbrev pub row : ℕ → List PlainPart → PlainRow
row code parts = record { code = code; parts = parts }
