use Rattle.operators.proofs.Blocks.{tensor_of_product, columns_in_blocks, turn_in_blocks, blocks_in_blocks}
use Rattle.operators.proofs.Blocks.{diagonal_in_blocks}
use Rattle.operators.proofs.WholeLines.{whole_lines}
use Rattle.operators.proofs.laws.processor_identities.Goals as goal

pub returns : goal.returns
returns _ = record {
  products = tensor_of_product;
  columns = columns_in_blocks;
  turns = turn_in_blocks;
  blocks = blocks_in_blocks;
  lines = whole_lines;
  diagonals = diagonal_in_blocks;
}
