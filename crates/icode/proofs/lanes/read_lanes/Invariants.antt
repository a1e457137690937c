use Rattle.std.proofs.Common.{◌≡◌, ℕ, ◌<◌, take, length}
use Rattle.std.specs.Prelude.{slice_index}
use Rattle.icode.specs.Machine.{words_at}
use Rattle.icode.proofs.lanes.read_lanes.Given as goal

abbrev pub invariant-loop-lane : goal.invariant-loop-lane
invariant-loop-lane l = record {
  whole : length l.values ≡ 16;
  read : take l.lane l.values ≡ words_at l.lane l.words l.at;
  below : (m : ℕ) → 0 < m → ((k : ℕ) → slice_index l.words k < m) → (k : ℕ) → slice_index l.values k < m;
}
