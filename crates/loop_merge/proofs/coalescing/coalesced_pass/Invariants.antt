use Rattle.std.specs.Prelude.{◌≡◌, map, reverse}
use Rattle.loop_merge.specs.Coalescing.Copies.{with_copies_coalesced}
use Rattle.sigma_spl.specs.Views.{plain_nest}
use Rattle.loop_merge.proofs.coalescing.coalesced_pass.Given as goal

abbrev pub invariant-loop-nest : goal.invariant-loop-nest
invariant-loop-nest l = map plain_nest (reverse l.coalesced.items) ≡ with_copies_coalesced (map plain_nest (reverse l.yielded))
