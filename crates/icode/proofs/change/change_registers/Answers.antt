use Rattle.icode.proofs.Transposes.{tile_words}
use Rattle.icode.proofs.change.change_registers.Goals as goal

pub transpose-requires-clause-apart : goal.transpose-requires-clause-apart
transpose-requires-clause-apart c =
    tile_words c.args.shape.now.lanes c.in-Tile.register c.in-Tile.source c.args.shape.now.regs (rw c.in-Tile.is at c.requires.named)
