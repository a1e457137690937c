use Rattle.std.proofs.Common.{◌≡◌, drop, nat_lt}
use Rattle.std.specs.List.{list_any}
use Rattle.buffer_machine.proofs.settle.some_left.Given as goal

abbrev pub invariant-loop-count : goal.invariant-loop-count
invariant-loop-count l = list_any (λ d. nat_lt d l.len) (drop l.count-index l.done) ≡ list_any (λ d. nat_lt d l.len) l.done
