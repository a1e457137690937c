-- Steps that are added to those that were there.
use Rattle.std.specs.Prelude.{◌≡◌, List, ◌++◌, map, Vec}
use Rattle.std.proofs.Common.{Global}
use Rattle.smp_rewrite.specs.Layout.Step.{PlainStep}
use Rattle.smp_rewrite.specs.Layout.Views.{plain_step}
use Rattle.smp_rewrite.specs.declared.layout.Step.{Step}

-- the new steps are the old ones, and then these
abbrev pub Appends : Vec Step Global → Vec Step Global → List PlainStep → Type 0
Appends old new more = map plain_step new.items ≡ map plain_step old.items ++ more
