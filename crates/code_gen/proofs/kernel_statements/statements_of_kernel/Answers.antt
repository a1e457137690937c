use Rattle.std.proofs.Common.{ℕ, ◌+◌, List, ◌++◌, ap, ap₂, ◌∙◌, slice_index}
use Rattle.icode.specs.declared.program.Stmt.{Stmt}
use Rattle.icode.specs.Plain.{PlainBody, plain_body}
use Rattle.code_gen.specs.PassCode.Statements.{followed_by, in_a_row, straight_body}
use Rattle.code_gen.specs.Bodies.{stored_at}
use Rattle.code_gen.proofs.PlainRules.{plain-append}
use Rattle.code_gen.proofs.kernel_statements.statements_of_kernel.Goals as goal

pub returns : goal.returns
returns c =
    let made = c.args.made.now in
    let loads : List Stmt = c.in_ok-statements.statements.items in
    let code : List Stmt = c.in_ok-code.code.items in
    let stores : List Stmt = c.in_ok-stores.stores.items in
    let ends : ℕ → PlainBody = λ k. stored_at c.args.site 0 c.args.nest.now k (slice_index made.outputs.items k) (made.regs + k) in
    ap plain_body (c.in_ok-append-2.ensures.items ∙ ap (λ (xs : List Stmt). loads ++ xs) c.in_ok-append.ensures.items)
    ∙ plain-append loads (code ++ stores)
    ∙ ap (followed_by (plain_body loads)) (plain-append code stores)
    ∙ ap₂ followed_by c.in_ok-statements.ensures
    (ap₂ followed_by (c.in_ok-code.ensures ∙ ap straight_body c.deref.ensures.value) (c.in_ok-stores.ensures ∙ ap (λ (n : ℕ). in_a_row n ends) c.requires.outputs))
