use Rattle.loop_nests.specs.Views.{from_last}
use Rattle.loop_nests.proofs.Standing.{can_stand, first_lifted, second_lifted}
use Rattle.loop_nests.proofs.beside.sides.Goals as goal

pub sides_of-requires-clause-stand : goal.sides_of-requires-clause-stand
sides_of-requires-clause-stand c = can_stand c.args.sizes.0 c.args.sizes.1 c.args.path.now c.requires.several c.requires.some c.requires.high

pub sides_of-requires-clause-first : goal.sides_of-requires-clause-first
sides_of-requires-clause-first c =
    first_lifted c.args.sizes.0 c.args.sizes.1 c.args.path.now (from_last c.args.first.items) c.requires.several
    c.requires.some.0 c.requires.high c.requires.first

pub sides_of-requires-clause-second : goal.sides_of-requires-clause-second
sides_of-requires-clause-second c =
    second_lifted c.args.sizes.0 c.args.sizes.1 c.args.path.now (from_last c.args.second.items) c.requires.several
    c.requires.some.0 c.requires.high c.requires.second
