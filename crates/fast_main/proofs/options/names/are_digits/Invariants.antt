use Rattle.std.proofs.Common.{◌≡◌, drop}
use Rattle.std.specs.List.{list_all}
use Rattle.fast_main.specs.Options.Names.{is_digit}
use Rattle.fast_main.proofs.options.names.are_digits.Given as goal

abbrev pub invariant-loop-byte : goal.invariant-loop-byte
invariant-loop-byte l = list_all is_digit (drop l.byte-index l.number) ≡ list_all is_digit l.number
