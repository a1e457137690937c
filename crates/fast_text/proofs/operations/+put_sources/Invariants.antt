use Rattle.fast_text.proofs.operations.+put_sources.Given as goal

abbrev pub decreases-put_sources : goal.decreases-put_sources
decreases-put_sources l = l.count
