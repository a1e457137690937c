use Rattle.std.proofs.Common.{◌≡◌, ℕ, ◌*◌, ◌%◌, ◌<◌}
use Rattle.std.specs.Int.{IsGcd}
use Rattle.ring_mod.proofs.Modulus.inverse.Given as goal

abbrev pub invariant-loop-next : goal.invariant-loop-next
invariant-loop-next l = record {
  common : (g : ℕ) → IsGcd l.rest l.next g → IsGcd l.fn.a l.self g;
  rest_is : (l.fn.a * l.factor) % l.self ≡ l.rest % l.self;
  next_is : (l.fn.a * l.next_factor) % l.self ≡ l.next % l.self;
  factor_in : l.factor < l.self;
  next_factor_in : l.next_factor < l.self;
}

abbrev pub decreases-loop-next : goal.decreases-loop-next
decreases-loop-next l = l.next
