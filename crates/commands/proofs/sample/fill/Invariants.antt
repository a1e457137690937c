use Rattle.std.proofs.Common.{◌≡◌, take}
use Rattle.schedules.specs.Turns.{state_after}
use Rattle.commands.specs.Sample.{sample_vector}
use Rattle.commands.proofs.sample.fill.Given as goal

-- the data so far are those of the seed
abbrev pub invariant-loop-place : goal.invariant-loop-place
invariant-loop-place l = record {
  state : l.state ≡ state_after l.place l.fn.seed;
  words : take l.place l.vector ≡ sample_vector l.fn.modulus l.place l.fn.seed;
}
