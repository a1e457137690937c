use Rattle.std.proofs.Common.{◌≡◌, ◌∙◌, ap, sym}
use Rattle.std.specs.Prelude.{◌==◌, not}
use Rattle.icode.specs.Plain.{Loop, plain_stmt, plain_body}
use Rattle.icode.proofs.Views.{plain_stmt-Loop}
use Rattle.word_code.specs.InPlace.Sharing.{are_full}
use Rattle.word_code.proofs.InPlace.Choosing.{full-some, full-none}
use Rattle.word_code.proofs.in_place.share.+full.Goals as goal

pub is_full-returns-then-not-is_empty : goal.is_full-returns-then-not-is_empty
is_full-returns-then-not-is_empty t c =
    let is : plain_stmt c.args.stmt.now ≡ Loop c.in-Loop.count (plain_body c.in-Loop.body.items) = ap plain_stmt c.in-Loop.is ∙ plain_stmt-Loop c.in-Loop.count c.in-Loop.body in
    let some = ap (λ n. n == 0) (sym c.in-Loop.body.ok.0) ∙ (sym c.is_empty.ensures ∙ c.if-not-is_empty.true) in
    full-some c.in-Loop.count c.in-Loop.body.items (plain_stmt c.args.stmt.now) c.are_full.result is some
    (c.are_full.ensures ∙ ap (λ items. are_full (plain_body items)) c.deref.ensures.value)

pub is_full-returns-else-not-is_empty : goal.is_full-returns-else-not-is_empty
is_full-returns-else-not-is_empty t c =
    let is : plain_stmt c.args.stmt.now ≡ Loop c.in-Loop.count (plain_body c.in-Loop.body.items) = ap plain_stmt c.in-Loop.is ∙ plain_stmt-Loop c.in-Loop.count c.in-Loop.body in
    let none = ap (λ n. n == 0) (sym c.in-Loop.body.ok.0) ∙ (sym c.is_empty.ensures ∙ c.if-not-is_empty.false) in
    ap not c.if-not-is_empty.false ∙ full-none c.in-Loop.count c.in-Loop.body.items (plain_stmt c.args.stmt.now) is none
