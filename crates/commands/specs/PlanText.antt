-- The text of a plan.
use Rattle.std.specs.Prelude.{ℕ, ◌/◌, nat_le, if◌then◌else◌, List, ◌++◌, codes, decimal}
use Rattle.matrix_meaning.specs.declared.Request.{Request}
use Rattle.tree_model.specs.Breakdown.{Breakdown}
use Rattle.tree_model.specs.Chosen.{whole_cost}
use Rattle.tree_model.specs.Text.{tree_text}

-- one phase for one processor, and else two
abbrev pub phases_of : ℕ → ℕ
phases_of procs = if nat_le procs 1 then 1 else 2

-- what comes after a tree: its cost, how many phases there are, and the share of each processor in the cost
abbrev pub cost_lines : ℕ → ℕ → List ℕ
cost_lines procs cost =
    codes "\ncost " ++ (decimal cost
    ++ (codes "\nphases " ++ (decimal (phases_of procs)
    ++ (codes "\neach " ++ (decimal (cost / procs) ++ codes "\n")))))

-- the tree, what the request costs by it, how many phases there are, and the share of each processor in the cost
abbrev pub plan_text : Request → Breakdown → List ℕ
plan_text c t = codes "tree " ++ (tree_text t ++ cost_lines c.procs (whole_cost c t))
