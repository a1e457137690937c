-- What `run` answers depends on the chosen tree by its cost alone.
use Rattle.std.proofs.Common.{ℕ, List, Ok, Err, inl, inr}
use Rattle.commands.specs.Equations.Front.{line, ordered}
use Rattle.commands.specs.Equations.Orders.{Planned, chosen, planned, spelt_for}
use Rattle.commands.specs.Equations.Run.{affordable, run_answer, run_outcomes}
use Rattle.commands.specs.Input.Orders.{procs_in}
use Rattle.commands.specs.Input.Stage.{◌>>=◌}
use Rattle.matrix_meaning.specs.declared.Request.{Request}
use Rattle.plan_search.proofs.WholeChosen.{whole_is_least}
use Rattle.spiral_words.specs.declared.Order.{Order}
use Rattle.spiral_words.specs.declared.statuses.status.Status.{Status}
use Rattle.tree_model.specs.Chosen.{whole_cost}

chosen_pays : (r : Request) (plan : Planned) → chosen r (Ok plan) → affordable r (Ok plan.request)
chosen_pays r plan p = (p.0, p.1.0, (whole_cost r plan.tree, whole_is_least r plan.tree p.1.1, p.1.2))

refused_line : (names text : List ℕ) (s : Status) → planned names text (Err s)
    → (spelt_for names text >>= affordable) (Err s)
refused_line names text s (inl p) = inl p
refused_line names text s (inr p) = inr (record { value = p.value; before = p.before; behind = p.behind })

refused_front : (names bytes : List ℕ) (s : Status) → ordered (line 256) (planned names) bytes (Err s)
    → ordered (line 256) (λ text. spelt_for names text >>= affordable) bytes (Err s)
refused_front names bytes s (inl p) = inl p
refused_front names bytes s (inr p) =
    inr (record { value = p.value; before = p.before; behind = refused_line names p.value s p.behind })

front_pays : (names bytes : List ℕ) (plan : Planned) → ordered (line 256) (planned names) bytes (Ok plan)
    → ordered (line 256) (λ text. spelt_for names text >>= affordable) bytes (Ok plan.request)
front_pays names bytes plan p = record {
  value = p.value;
  before = p.before;
  behind = record {
    value = p.behind.value;
    before = p.behind.before;
    behind = chosen_pays p.behind.value plan p.behind.behind;
  };
}

pub run_forgets : (order : Order) (bytes : List ℕ) (s : Status) (t : List ℕ)
    → (run_outcomes order).answer bytes s t → run_answer order bytes s t
run_forgets order bytes s t (inl p) = inl (refused_front (procs_in order) bytes s p.0, p.1)
run_forgets order bytes s t (inr p) = inr (p.0.request, front_pays (procs_in order) bytes p.0 p.1, p.2)
