-- A field's word in a request line.
use Rattle.std.specs.Prelude.{ℕ, List, codes}
use Rattle.request_text.specs.declared.fault.Field.{Field}
use Rattle.request_text.specs.declared.fault.Field.TheVariants.{Size, Mod, Root, Procs, Line, Lanes, Unroll, Budget, Weight}

abbrev pub field_word : Field → List ℕ
field_word Size = codes "size"
field_word Mod = codes "mod"
field_word Root = codes "root"
field_word Procs = codes "procs"
field_word Line = codes "line"
field_word Lanes = codes "lanes"
field_word Unroll = codes "unroll"
field_word Budget = codes "budget"
field_word Weight = codes "weight"
