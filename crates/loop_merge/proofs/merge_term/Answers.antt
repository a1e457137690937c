use Rattle.std.proofs.Common.{ap, ◌∙◌}
use Rattle.sigma_spl.specs.Merge.{if_any}
use Rattle.loop_merge.proofs.Merged.{whole-room}
use Rattle.loop_nests.proofs.Standing.{in_turn}
use Rattle.loop_merge.proofs.merge_term.Goals as goal

pub merged_alone-requires-clause-room : goal.merged_alone-requires-clause-room
merged_alone-requires-clause-room c = whole-room c.args.size c.requires.size.0 c.requires.size.1

pub returns : goal.returns
returns c = in_turn _ _ (c.in_ok-passes-2.ensures ∙ ap (if_any c.args.size) c.in_ok-passes.ensures)
