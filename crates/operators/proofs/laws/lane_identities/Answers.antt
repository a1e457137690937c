use Rattle.operators.proofs.Blocks.{columns_in_columns, lanes_after_turn, lanes_of_blocks, tiles_first, tiles_last}
use Rattle.operators.proofs.laws.lane_identities.Goals as goal

pub returns : goal.returns
returns _ = record {
  columns = columns_in_columns;
  after_turn = lanes_after_turn;
  of_blocks = lanes_of_blocks;
  tiles_first = tiles_first;
  tiles_last = tiles_last;
}
