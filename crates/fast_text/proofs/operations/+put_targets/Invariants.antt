use Rattle.fast_text.proofs.operations.+put_targets.Given as goal

abbrev pub decreases-put_targets : goal.decreases-put_targets
decreases-put_targets l = l.count
