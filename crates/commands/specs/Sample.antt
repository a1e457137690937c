-- What `sample` makes and counts.
use Rattle.std.specs.Prelude.{◌≡◌, ℕ, ◌+◌, ◌*◌, ◌%◌, ◌^◌, ◌<◌, List, ◌++◌, length, slice_index, codes, decimal}
use Rattle.operators.specs.Sum.{sum_below, list_below}
use Rattle.icode.specs.declared.action.Counts.{Counts}
use Rattle.icode.specs.Machine.{Code, State, counts_so_far}
use Rattle.schedules.specs.Turns.{state_after}

-- the vector of a seed: numbers of the generator, reduced
abbrev pub sample_vector : ℕ → ℕ → ℕ → List ℕ
sample_vector modulus size seed = list_below size (λ i. state_after (i + 1) seed % modulus)

-- the sum over k of (k + 1) times item k, modulo m
abbrev pub weighted_sum : ℕ → List ℕ → ℕ
weighted_sum m y = sum_below (length y) (λ k. (k + 1) * slice_index y k) % m

abbrev pub sample_text : ℕ → ℕ → ℕ → ℕ → List ℕ
sample_text sum operations loads stores =
    codes "sum " ++ decimal sum ++ codes "\noperations " ++ decimal operations ++ codes "\nloads " ++ decimal loads ++
    codes "\nstores " ++ decimal stores ++ codes "\n"

-- what all processors have executed together is counted in 64 bits
pub record AreCountable (code : Code) (s : State) : Type 0 where
  pub operations : sum_below code.procs (λ q. (counts_so_far code s q).operations) < 2 ^ 64
  pub muls : sum_below code.procs (λ q. (counts_so_far code s q).muls) < 2 ^ 64
  pub loads : sum_below code.procs (λ q. (counts_so_far code s q).loads) < 2 ^ 64
  pub stores : sum_below code.procs (λ q. (counts_so_far code s q).stores) < 2 ^ 64

-- the counts are of what all processors have executed together
pub record AreTotals (code : Code) (s : State) (totals : Counts) : Type 0 where
  pub operations : totals.operations ≡ sum_below code.procs (λ q. (counts_so_far code s q).operations)
  pub muls : totals.muls ≡ sum_below code.procs (λ q. (counts_so_far code s q).muls)
  pub loads : totals.loads ≡ sum_below code.procs (λ q. (counts_so_far code s q).loads)
  pub stores : totals.stores ≡ sum_below code.procs (λ q. (counts_so_far code s q).stores)
