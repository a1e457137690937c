-- What a program that is ready to run writes for the vectors of the data.
use Rattle.std.specs.Prelude.{◌≡◌, ◌++◌, ℕ, List}
use Rattle.icode.specs.Program.{code_of}
use Rattle.runs.specs.Stream.{texts}
use Rattle.spiral_words.specs.declared.Order.{Order}
use Rattle.commands.specs.declared.streams.Prepared.{Prepared}
use Rattle.commands.specs.Equations.Front.{Work}
use Rattle.commands.specs.Equations.Works.{all, mapping}
use Rattle.commands.specs.OrderText.{order_text}

-- the text before the runs, and then that of each vector's run in the order
abbrev pub stream_text : Prepared → Order → List (List ℕ) → List ℕ
stream_text made order vectors =
    made.front.items ++ texts (order_text made.lines order made.program.procs (code_of made.program)) vectors

abbrev pub stream_work : Prepared → Order → Work
stream_work made order =
    mapping all made.program.size made.program.modulus (λ vectors text. text ≡ stream_text made order vectors)
