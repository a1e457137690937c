use Rattle.std.proofs.Common.{◌≡◌, ◌+◌, ◌<◌, ◌^◌, List, ◌∷◌, [], Some, drop, map, ap, ap₂, sym, ◌∙◌, subst, arith}
use Rattle.std.proofs.Common.{rules}
use Rattle.std.specs.Prelude.{option_map}
use Rattle.std.proofs.lemmas.Grind.{common_steps}
use Rattle.std.proofs.lemmas.List.{drop_all, map-append}
use Rattle.icode.specs.declared.program.Stmt.{Stmt, the_lemmas}
use Rattle.icode.specs.Plain.{PlainBody, plain_stmt, plain_body}
use Rattle.renumbered_registers.specs.Renumbered.{Numbering, numbered_stmt, numbered_body, most_put}
use Rattle.renumbered_registers.specs.Views.{plain_numbering}
use Rattle.renumbered_registers.proofs.Steps.{front, first_stmt, stmt_room, rest_room, one_more_stmt, all_stmts}
use Rattle.renumbered_registers.proofs.programs.+numbered.Goals as goal

pub numbered_body-numbered_stmt-requires : goal.numbered_body-numbered_stmt-requires
numbered_body-numbered_stmt-requires t c =
    let items = c.args.body.now in
    let i = c.loop-stmt.stmt-index in
    let d = c.decreases in (
      search (rules, the_lemmas, common_steps) depth 8,
      stmt_room c.args.lanes c.loop-stmt.numbering.next (plain_stmt c.stmt-item.result)
          (plain_body (drop (i + 1) items))
          (subst (λ b. most_put c.args.lanes c.loop-stmt.numbering.next b < 2 ^ 20)
          (first_stmt items i c.stmt-item.result (omega (arith, c.loop-stmt-test.true)) c.stmt-item.is)
          c.loop-stmt.invariant.room),
    )

pub numbered_body-loop-stmt-preserved : goal.numbered_body-loop-stmt-preserved
numbered_body-loop-stmt-preserved t c =
    let items = c.args.body.now in
    let i = c.loop-stmt.stmt-index in
    let x = c.stmt-item.result in
    let made = c.loop-stmt.made.items in
    let z : Numbering = plain_numbering c.loop-stmt.numbering in
    let rest : PlainBody = plain_body (drop (i + 1) items) in
    let left = first_stmt items i x (omega (arith, c.loop-stmt-test.true)) c.stmt-item.is in
    let after = c.in_ok-stmt.ensures.after in
    let is : numbered_stmt c.args.lanes z (plain_stmt x) ≡ Some (plain_stmt c.in-Some.stmt) =
    sym c.in_ok-stmt.ensures.made ∙ ap (option_map plain_stmt) c.in-Some.is in
    record {
      so_far =
          ap₂ (λ ss n. front ss (numbered_body c.args.lanes n rest))
          (ap (map plain_stmt) c.in_ok-push-in-Some.ensures.items
          ∙ map-append plain_stmt made (c.in-Some.stmt ∷ [])) after
          ∙ one_more_stmt c.args.lanes z (map plain_stmt made) (plain_stmt x) (plain_stmt c.in-Some.stmt) rest _ is
          (sym (ap (λ b. front (map plain_stmt made) (numbered_body c.args.lanes z b)) left)
          ∙ c.loop-stmt.invariant.so_far);
      room =
          subst (λ n. most_put c.args.lanes n rest < 2 ^ 20) (sym (ap (λ (w : Numbering). w.next) after))
          (rest_room c.args.lanes z (plain_stmt x) rest
          (subst (λ b. most_put c.args.lanes z.next b < 2 ^ 20) left c.loop-stmt.invariant.room));
    }

pub numbered_body-returns : goal.numbered_body-returns
numbered_body-returns t c =
    let items = c.args.body.now in
    let i = c.loop-stmt.stmt-index in
    let z : Numbering = plain_numbering c.loop-stmt.numbering in
    let made = map plain_stmt c.loop-stmt.made.items in
    all_stmts c.args.lanes z made _
    (sym (ap (λ (xs : List Stmt). front made (numbered_body c.args.lanes z (plain_body xs)))
    (drop_all i items (omega (arith, c.loop-stmt-test.false)))) ∙ c.loop-stmt.invariant.so_far)
