use Rattle.std.proofs.Common.{◌≡◌, false, take}
use Rattle.clap.specs.Words.{app_of}
use Rattle.clap.specs.declared.Command.TheViews.{out-Command as fields_of}
use Rattle.spiral_words.proofs.Table.{command_app}
use Rattle.spiral_words.proofs.app.command.Given as goal

-- it has the options so far
abbrev pub invariant-loop-option : goal.invariant-loop-option
invariant-loop-option l = record {
  app : app_of l.command ≡ command_app l.name (take l.option-index l.options);
  local : (fields_of l.command).has_globals ≡ false;
}
