-- What the lines of a vector's run in a trace end with.
use Rattle.std.specs.Prelude.{◌≡◌, ◌++◌, true, List, ℕ}
use Rattle.commands.specs.Equations.Orders.{Planned}
use Rattle.spl_ast.specs.Meaning.{IsVector}
use Rattle.commands.specs.OrderText.{order_text}
use Rattle.data_stream.specs.Line.{line_of}
use Rattle.icode.specs.Actions.{plain_code}
use Rattle.icode.specs.Plain.{PlainProgram}
use Rattle.matrix_meaning.specs.Asked.{asked_of}
use Rattle.spiral_words.specs.declared.Order.{Order}

-- in every order of turns, and of turns and drains, they end with the line of the matrix times the vector
abbrev pub EndsWithResults : Planned → PlainProgram → Type 0
EndsWithResults plan program =
    (order : Order) (x : List ℕ) → IsVector plan.request.modulus plan.request.size x → (events : List ℕ)
    × (order_text true order plan.request.procs (plain_code program) x ≡ events ++ line_of (asked_of plan.request x))
