use Rattle.std.proofs.Common.{◌≡◌, true, length, map, ◌++◌, ◌∷◌, [], Some, sym, ap, ◌∙◌}
use Rattle.std.proofs.lemmas.List.{map-append, length-map, length-reverse}
use Rattle.icode.specs.declared.program.Stmt.TheVariants as stmts
use Rattle.icode.specs.Limits.{is_op_within}
use Rattle.icode.specs.Plain.{plain_op, plain_stmt}
use Rattle.icode.specs.Plain as plain
use Rattle.icode.proofs.Views.{plain_stmt-Do}
use Rattle.listing_text.specs.Drafts.{plain_draft, with_body}
use Rattle.listing_text.proofs.drafts.with_op.Goals as goal

pub returns : goal.returns
returns c =
    let d = plain_draft c.args.draft in
    let op = plain_op c.args.op in
    let loops : length d.open_loops ≡ c.len.result = simp (length-reverse, length-map) (sym (c.len.ensures ∙ c.args.draft.open_loops.ok.0)) in
    let within : is_op_within d.header.modulus op (length d.open_loops) ≡ true = ap (λ n. is_op_within d.header.modulus op n) loops ∙ sym c.is_op_within.ensures ∙ c.if-not-is_op_within.false in
    let body : map plain_stmt c.push.new.self.items ≡ d.body ++ plain.Do op ∷ [] =
    ap (λ xs. map plain_stmt xs) c.in_ok-push.ensures.items ∙ map-append plain_stmt c.args.draft.body.items (stmts.Do c.args.op ∷ []) ∙ ap (λ s. d.body ++ s ∷ []) (plain_stmt-Do c.args.op) in
    rw within (ap (λ body. Some (with_body d body)) (sym body))
