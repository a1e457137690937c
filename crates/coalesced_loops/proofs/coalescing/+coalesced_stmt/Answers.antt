use Rattle.std.specs.Option.{unwrap_or}
use Rattle.std.proofs.Common.{◌≡◌, ◌+◌, List, ap, sym, ◌∙◌, subst, arith, rules, true}
use Rattle.std.proofs.lemmas.Grind.{common_steps}
use Rattle.icode.specs.declared.program.Stmt.{Stmt, the_lemmas}
use Rattle.icode.specs.Limits.{is_stmt_within, is_body_within}
use Rattle.icode.specs.Plain.{Loop, plain_stmt, plain_body}
use Rattle.coalesced_loops.specs.Coalesced.{as_one, coalesced_stmt, coalesced_body}
use Rattle.nests.proofs.Limited.{IsLoopWithin, loop-within, item-within}
use Rattle.coalesced_loops.proofs.Seen.{coalesced-pushed, loop-is}
use Rattle.coalesced_loops.proofs.coalescing.+coalesced_stmt.Goals as goal

pub coalesced_stmt-requires : goal.coalesced_stmt-requires
coalesced_stmt-requires t c =
    let is : plain_stmt c.args.stmt.now
    ≡ Loop c.in-Loop.count (plain_body c.in-Loop.body.items) =
    loop-is c.args.stmt.now c.in-Loop.count c.in-Loop.body c.in-Loop.is in
    let known : IsLoopWithin c.args.modulus c.in-Loop.count c.args.depth (plain_body c.in-Loop.body.items) =
    loop-within c.args.modulus c.in-Loop.count c.args.depth (plain_body c.in-Loop.body.items)
    (sym (ap (λ s. is_stmt_within c.args.modulus s c.args.depth) is) ∙ c.requires.within) in
    let items = c.deref-inner-items.ensures.value in
    let d = c.decreases in
    let w = c.in-Loop.is in
    let deep = known.deep in (
      search (rules, the_lemmas, common_steps) depth 8,
      (
        omega (arith, deep),
        item-within c.args.modulus (c.args.depth + 1) c.loop-inner.inner-index c.deref-inner-items.result.now
            c.inner-item.result
            (subst (λ (xs : List Stmt). is_body_within c.args.modulus (plain_body xs) (c.args.depth + 1)
            ≡ true) (sym items) known.within) (omega arith) c.inner-item.is,
      ),
    )

pub returns-in_ok-made-in-Loop : goal.returns-in_ok-made-in-Loop
returns-in_ok-made-in-Loop t c =
    let depth = c.args.depth in
    let count = c.in-Loop.count in
    let inside : plain_body c.loop-inner.inside.items ≡ coalesced_body (depth + 1) (plain_body c.in-Loop.body.items) =
    subst (λ (xs : List Stmt). plain_body c.loop-inner.inside.items
    ≡ coalesced_body (depth + 1) (plain_body xs)) c.deref-inner-items.ensures.value
    (coalesced-pushed (depth + 1) c.loop-inner.inner-index c.deref-inner-items.result.now c.loop-inner.inside.items
    (omega (arith, c.loop-inner-test.false)) c.loop-inner.invariant) in
    c.in_ok-made-in-Loop.ensures
    ∙ ap (λ body. unwrap_or (as_one depth count body) (Loop count body)) inside
    ∙ ap (coalesced_stmt depth) (sym (loop-is c.args.stmt.now count c.in-Loop.body c.in-Loop.is))
