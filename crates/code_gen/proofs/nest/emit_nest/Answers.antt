use Rattle.std.specs.Option.{option_map}
use Rattle.sigma_spl.specs.Nest.{PlainMultiplier}
use Rattle.sigma_spl.specs.Views.{plain_multiplier}
use Rattle.code_gen.proofs.Passes.{has-factors}
use Rattle.code_gen.proofs.nest.emit_nest.Goals as goal

pub number_multiplier-requires : goal.number_multiplier-requires
number_multiplier-requires c =
    has-factors (option_map plain_multiplier c.args.nest.now.multiplier) (λ (d : PlainMultiplier) is. let known = c.requires.writes.multiplier d is in (known.2, known.3))
