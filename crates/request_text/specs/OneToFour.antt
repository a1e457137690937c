-- What a line spells, before its sizes are known to fit a word.
use Rattle.std.specs.Prelude.{List, [], ◌∷◌, Option, Some, None}
use Rattle.matrix_meaning.specs.declared.Request.{Request}
use Rattle.request_text.specs.declared.one_to_four.OneToFour.{OneToFour}
use Rattle.request_text.specs.declared.one_to_four.OneToFour.TheVariants as few
use Rattle.request_text.specs.declared.spelling.Fields.{Fields}
use Rattle.request_text.specs.Line.{request_of}

abbrev pub items : {T : Type 0} → OneToFour T → List T
items (few.One a) = a ∷ []
items (few.Two a b) = a ∷ b ∷ []
items (few.Three a b c) = a ∷ b ∷ c ∷ []
items (few.Four a b c d) = a ∷ b ∷ c ∷ d ∷ []

-- the items, where there are any
abbrev pub items_of : {T : Type 0} → Option (OneToFour T) → List T
items_of None = []
items_of (Some few) = items few

-- the request that the fields make up
abbrev pub spelt : Fields → Request
spelt f =
    request_of f.kind (items f.dimensions) f.modulus
    (f.procs ∷ f.line ∷ f.lanes ∷ f.unroll ∷ f.budget ∷ f.weight ∷ [])
