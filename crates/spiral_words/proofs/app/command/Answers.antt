use Rattle.std.proofs.Common.{ap₂, ◌∙◌, ◌||◌}
use Rattle.clap.specs.Words.{with_rule}
use Rattle.spiral_words.proofs.Table.{one_option}
use Rattle.spiral_words.proofs.app.command.Goals as goal

pub loop-option-preserved : goal.loop-option-preserved
loop-option-preserved c = record {
  app = c.in_ok-command.ensures.shape c.rule.ensures.local
      ∙ ap₂ with_rule c.loop-option.invariant.app c.rule.ensures.rule
      ∙ one_option c.args.name.now c.args.options.now c.loop-option.option-index _ c.loop-option-test.true;
  local = c.in_ok-command.ensures.globals ∙ ap₂ ◌||◌ c.loop-option.invariant.local c.rule.ensures.local;
}
