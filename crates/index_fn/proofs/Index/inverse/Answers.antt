use Rattle.std.proofs.Common.{sym, ◌∙◌}
use Rattle.index_fn.specs.Index.{mapping_of}
use Rattle.index_fn.proofs.Undoing.{formula_if}
use Rattle.index_fn.proofs.Index.inverse.Goals as goal

pub returns-then-has_back-clause-undone : goal.returns-then-has_back-clause-undone
returns-then-has_back-clause-undone c =
    formula_if (mapping_of c.args.self.now) (mapping_of c.in_ok-back.back) (sym c.has_back.ensures ∙ c.if-has_back.true) c.requires.well_formed c.in_ok-back.ensures
