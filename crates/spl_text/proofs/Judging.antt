-- From a part that is made or refused to what reading gives.
use Rattle.std.proofs.Common.{ℕ, Result, Ok, Err, sym, ap, ◌∙◌}
use Rattle.std.specs.Option.{option_map}
use Rattle.grammar.specs.Reading.{Place}
use Rattle.grammar.specs.Stops.{Fault, passed, tested_at}
use Rattle.spl_ast.specs.Formula.{Formula}
use Rattle.spl_text.specs.declared.reading.Halt.{Halt}
use Rattle.spl_text.specs.declared.reading.Halt.TheVariants as halts
use Rattle.spl_text.specs.Reader.{Says, Judged}
use Rattle.spl_text.specs.Fault.{Shape, shape_fault}

pub says_judged : (r : Result Formula Halt) (left : ℕ) (g : Formula) (place : Place ℕ) → Judged r left g →
    Says r place (tested_at left shape_fault (Ok (g, place)))
says_judged (Ok f) left g place h =
    ap (λ o. passed (option_map (λ p. Shape left p.0 p.1) o) (g, place)) h.1 ∙ ap (λ u. Ok (u, place)) (sym h.0)
says_judged (Err halts.NoMemory) left g place h = tt
says_judged (Err (halts.Syntax at)) left g place h = absurd h
says_judged (Err (halts.TooDeep at)) left g place h = absurd h
says_judged (Err (halts.Shape at first second)) left g place h =
    ap (λ o. passed (option_map (λ p. Shape left p.0 p.1) o) (g, place)) h.1 ∙ ap (λ n. Err (Fault (Shape n first second))) (sym h.0)
