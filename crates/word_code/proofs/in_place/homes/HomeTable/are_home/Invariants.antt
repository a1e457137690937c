use Rattle.std.proofs.Common.{◌≡◌, ◌+◌, ◌-◌}
use Rattle.word_code.specs.InPlace.Homes.{are_home}
use Rattle.word_code.specs.InPlace.Views.{homes_of}
use Rattle.word_code.proofs.in_place.homes.HomeTable.are_home.Given as goal

-- whether all words stand there is whether those that are left do
abbrev pub invariant-loop-word : goal.invariant-loop-word
invariant-loop-word l =
    are_home (homes_of l.self) l.count l.at l.to ≡ are_home (homes_of l.self) (l.count - l.word) (l.at + l.word) (l.to + l.word)
