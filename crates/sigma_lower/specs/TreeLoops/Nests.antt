-- The passes of a layout as loops and nests, which know no request.
use Rattle.std.specs.Prelude.{◌*◌, [], ◌∷◌, ◌++◌}
use Rattle.std.specs.Option.{option_map}
use Rattle.sigma_lower.specs.TreeLoops.Merge.{PlainDiagonal, PlainPass}
use Rattle.sigma_spl.specs.Loops.{PlainLoop, PlainTaken}
use Rattle.sigma_spl.specs.Nest.{twiddles, inner_of}

-- the twiddles of a ct, by their places in its diagonal
abbrev pub taken_of : PlainDiagonal → PlainTaken
taken_of d = record {
  factors = twiddles d.rows d.cols d.root;
  places = d.places ++ inner_of d.path (d.rows * d.cols) ∷ [];
}

abbrev pub loop_of : PlainPass → PlainLoop
loop_of p = record {
  path = p.path;
  work = p.work;
  befores = p.befores;
  taken = option_map taken_of p.diagonal;
  afters = p.afters;
}
