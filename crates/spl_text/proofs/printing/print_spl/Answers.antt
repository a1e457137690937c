use Rattle.std.proofs.Common.{subst, ap, ◌∙◌, ◌++◌}
use Rattle.spl_text.specs.Spelling.{spelling}
use Rattle.spl_ast.specs.Shape.{IsShaped}
use Rattle.spl_text.proofs.Printable.{printed}
use Rattle.spl_text.proofs.printing.print_spl.Goals as goal

pub returns-clause-spells : goal.returns-clause-spells
returns-clause-spells c = printed c.args.f.now _ c.requires.complete (subst IsShaped c.f.view_is c.f.invariant) (c.in_ok-write_formula.ensures ∙ ap (λ l. l ++ spelling c.args.f.now) c.new-out.ensures.items)
