use Rattle.std.proofs.Common.{◌∙◌, ap}
use Rattle.matrix_meaning.specs.Parts.{first_of, rest_of}
use Rattle.tree_model.proofs.Sharing.{first_two, rest_two}
use Rattle.tree_model.proofs.context.Ctx.both.Goals as goal

pub returns-clause-left : goal.returns-clause-left
returns-clause-left c =
    first_two c.args.self.now _ _ c.new.ensures
    (c.in-Some.ensures.some.0 ∙ ap first_of c.request-request.ensures.value)
    c.request-request.ensures.valid.in_range c.requires

pub returns-clause-right : goal.returns-clause-right
returns-clause-right c =
    rest_two c.args.self.now _ _ c.new-in-Some.ensures
    (c.in-Some.ensures.some.1 ∙ ap rest_of c.request-request.ensures.value)
    c.request-request.ensures.valid.in_range c.requires
