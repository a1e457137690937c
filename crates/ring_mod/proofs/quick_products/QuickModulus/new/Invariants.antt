use Rattle.std.proofs.Common.{◌-◌, ◌≡◌, ◌*◌, ◌^◌, ◌<◌, ◌≤◌}
use Rattle.ring_mod.proofs.quick_products.QuickModulus.new.Given as goal

abbrev pub invariant-loop-number : goal.invariant-loop-number
invariant-loop-number l = record {
  scaled : l.number ≡ l.modulus * 2 ^ l.shift;
  limit : l.number < 2 ^ 62;
  steps : 2 ^ l.shift ≤ l.number;
  positive : 0 < l.number;
}

abbrev pub decreases-loop-number : goal.decreases-loop-number
decreases-loop-number l = 2305843009213693952 - l.number
