use Rattle.std.proofs.Common.{List, ap, ap₂, ◌∙◌}
use Rattle.icode.specs.declared.program.Stmt.{Stmt}
use Rattle.icode.specs.Plain.{PlainBody, AndStmts, Do, Tile, plain_body}
use Rattle.code_gen.specs.PassCode.Statements.{followed_by}
use Rattle.code_gen.specs.Bodies.{tile_stores_at}
use Rattle.code_gen.proofs.PlainRules.{followed-one, plain-append}
use Rattle.code_gen.proofs.tile_statements.statements_of_tile.Goals as goal

pub returns : goal.returns
returns c =
    let v = c.args.lanes in
    let stores : List Stmt = c.in_ok-stores.stores.items in
    let ends : PlainBody = tile_stores_at c.args.site c.args.nest.now v in
    ap plain_body c.in_ok-append.ensures.items
    ∙ plain-append c.put_op.new.out.items stores
    ∙ ap₂ followed_by c.in_ok-put_op.ensures c.in_ok-stores.ensures
    ∙ followed-one (plain_body c.in_ok-statements.statements.items) ends (Do (Tile v 0))
    ∙ ap (λ (b : PlainBody). followed_by b (AndStmts (Do (Tile v 0)) ends)) c.in_ok-statements.ensures
