use Rattle.spiral_main.specs.Traced.{EndsWithResults}
use Rattle.spiral_main.proofs.Good.{trace_prints}
use Rattle.spiral_main.proofs.Traced.{ends_with_results}
use Rattle.spiral_main.proofs.answers.trace_gives_results.Goals as goal

pub returns : goal.returns
returns c = trace_prints EndsWithResults ends_with_results
