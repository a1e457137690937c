use Rattle.std.proofs.Common.{◌≡◌, drop, map}
use Rattle.listing_text.specs.Numbers.{numbers_behind}
use Rattle.listing_text.proofs.pieces.put_numbers.Given as goal

abbrev pub invariant-loop-word : goal.invariant-loop-word
invariant-loop-word l = numbers_behind l.out.items (map (λ p. (p.0.now, p.1)) (drop l.word-index l.numbers)) ≡ numbers_behind l.fn.out.items (map (λ p. (p.0.now, p.1)) l.numbers)
