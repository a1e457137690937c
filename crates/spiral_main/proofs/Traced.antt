-- In every order the lines of a vector's run in a trace end with the line of the matrix times it.
use Rattle.std.proofs.Common.{◌≡◌, ◌∙◌, ℕ, true, List, [], ◌++◌, ap, map}
use Rattle.std.proofs.lemmas.List.Elements.{All-nil}
use Rattle.commands.specs.Equations.Orders.{Planned}
use Rattle.spl_ast.specs.Meaning.{IsVector}
use Rattle.data_stream.specs.Line.{line_of}
use Rattle.icode.specs.Actions.{plain_code}
use Rattle.icode.specs.Buffers.{buffered_start}
use Rattle.icode.specs.Machine.{results, start}
use Rattle.icode.specs.Plain.{PlainProgram}
use Rattle.icode.specs.declared.event.Event.{Event}
use Rattle.icode.specs.declared.event.Event.TheVariants.{Turn}
use Rattle.matrix_meaning.specs.Asked.{asked_of}
use Rattle.runs.specs.Standing.{direct, queued}
use Rattle.runs.specs.Texts.{asked_lines, buffered_text}
use Rattle.schedules.specs.Turns.{turns_of}
use Rattle.spiral_words.specs.declared.Order.TheVariants as order
use Rattle.spiral_main.specs.Good.{IsLeanFor}
use Rattle.spiral_main.specs.Traced.{EndsWithResults}
use Rattle.spiral_main.proofs.Theorem.{by_events, by_turns}

pub ends_with_results : (plan : Planned) (program : PlainProgram) → IsLeanFor plan program →
    EndsWithResults plan program
ends_with_results plan program lean = by_order
  where
    first : (x : List ℕ) → IsVector plan.request.modulus plan.request.size x → results (plain_code program) x [] ≡ asked_of plan.request x
    first x vector = lean.0.product x [] vector (All-nil _)

    with_buffers : (events : List Event) (x : List ℕ) → IsVector plan.request.modulus plan.request.size x → (front : List ℕ)
        × (buffered_text true (plain_code program) events x ≡ front ++ line_of (asked_of plan.request x))
    with_buffers events x vector =
        let code = plain_code program in
        let front = asked_lines true code (queued (buffered_start code x)) events in
        (front, ap (λ (y : List ℕ). front ++ line_of y) (by_events program lean.0.apart x events ∙ first x vector))

    by_order : EndsWithResults plan program
    by_order (order.Turns schedule) x vector =
        let code = plain_code program in
        let turns = turns_of schedule plan.request.procs in
        let front = asked_lines true code (direct (start code x)) (map Turn turns) in
        (front, ap (λ (y : List ℕ). front ++ line_of y) (by_turns program lean.0.apart x turns ∙ first x vector))
    by_order (order.Buffered schedule) x vector = with_buffers
        (map Turn (turns_of schedule plan.request.procs)) x vector
    by_order (order.Mixed mix) x vector = with_buffers mix x vector
