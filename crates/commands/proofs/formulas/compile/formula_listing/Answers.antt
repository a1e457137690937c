use Rattle.std.proofs.Common.{ap, ◌∙◌}
use Rattle.listing_text.specs.Listing.{listing_of}
use Rattle.commands.proofs.formulas.compile.formula_listing.Goals as goal

pub returns-clause-text : goal.returns-clause-text
returns-clause-text c = (
  c.in_ok-formula.formula,
  c.in_ok-formula.ensures.formula,
  c.in_ok-listing.ensures.text ∙ ap listing_of c.in_ok-program.ensures.letters,
)
