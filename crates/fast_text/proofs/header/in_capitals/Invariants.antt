use Rattle.std.proofs.Common.{◌≡◌, ◌++◌, drop, map}
use Rattle.fast_text.specs.FunctionText.{capital}
use Rattle.fast_text.proofs.header.in_capitals.Given as goal

abbrev pub invariant-loop-letter : goal.invariant-loop-letter
invariant-loop-letter l = l.text.items ++ map capital (drop l.letter-index l.name) ≡ map capital l.name
