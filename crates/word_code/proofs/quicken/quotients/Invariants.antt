use Rattle.std.proofs.Common.{◌≡◌, ◌*◌, take, map}
use Rattle.word_code.specs.Words.{quotient_of}
use Rattle.word_code.proofs.quicken.quotients.Given as goal

abbrev pub invariant-loop-entry : goal.invariant-loop-entry
invariant-loop-entry l = l.made.items ≡ map (quotient_of (l.half * l.half) l.modulus) (take l.entry-index l.entries)
