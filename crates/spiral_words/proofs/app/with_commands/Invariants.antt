use Rattle.std.proofs.Common.{◌≡◌, map, take}
use Rattle.clap.specs.Words.{app_of}
use Rattle.spiral_words.specs.CommandLine.{app_with}
use Rattle.spiral_words.proofs.app.with_commands.Given as goal

-- it has the commands so far
abbrev pub invariant-loop-row : goal.invariant-loop-row
invariant-loop-row l = app_of l.app ≡ app_with (take l.row-index (map (λ row. (row.0.now, row.1.now)) l.rows))
