-- What passes count.
use Rattle.std.specs.Prelude.{ℕ, ◌+◌, ◌*◌, List, [], ◌∷◌}
use Rattle.tree_model.specs.KernelCosts.{trees_cost}
use Rattle.sigma_spl.specs.Counts.{copies_in}
use Rattle.sigma_spl.specs.Counts as counts
use Rattle.sigma_spl.specs.Nest.{PlainNest}
use Rattle.sigma_spl.specs.Work.{PlainWork, kernel, rows, horner, tile, copy, trees_of, work_size}

-- the operations of one copy, where a product counts as several
abbrev pub work_cost : ℕ → ℕ → PlainWork → ℕ
work_cost weight m (kernel k) = trees_cost weight m (trees_of k)
work_cost weight m (rows root size) = (1 + weight) * size * size
work_cost weight m (horner root size) = (1 + weight) * size * size
work_cost weight m (tile lanes) = 0
work_cost weight m (copy size) = 0

-- and of a pass, modulo m
abbrev pub pass_cost : ℕ → ℕ → List PlainNest → ℕ
pass_cost weight m zs = counts.pass_cost weight (work_cost weight m) zs

abbrev pub work_loads : PlainWork → ℕ
work_loads (rows root size) = size * size
work_loads (horner root size) = size * size
work_loads w = work_size w

abbrev pub pass_loads : List PlainNest → ℕ
pass_loads [] = 0
pass_loads (z ∷ zs) = copies_in z.counts * work_loads z.work + pass_loads zs

-- a word for each item
abbrev pub stored_in_pass : List PlainNest → ℕ
stored_in_pass [] = 0
stored_in_pass (z ∷ zs) = copies_in z.counts * work_size z.work + stored_in_pass zs
