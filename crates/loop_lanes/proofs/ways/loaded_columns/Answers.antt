use Rattle.std.proofs.Common.{ℕ, List, None, ap, ap₂, ◌∙◌}
use Rattle.icode.specs.Plain.{PlainOp, plain_body}
use Rattle.nests.specs.Rounds.{Stored, ops_in}
use Rattle.loop_lanes.specs.Views.{plain_ops, ops_made, stored_reference, in_loaded_if}
use Rattle.loop_lanes.proofs.Choices.{last_made}
use Rattle.loop_lanes.proofs.ways.loaded_columns.Goals as goal

pub returns : goal.returns
returns c =
    let ops : List PlainOp = ops_in (plain_body c.args.round.now) in
    let to : Stored = stored_reference c.args.target in
    let same =
    ap₂
    (λ (f : List PlainOp) (t : List ℕ).
    in_loaded_if c.args.group.lanes c.args.regs c.args.group.depth to ops
    (record { front = f; turned = t; by = None }))
    (ap plain_ops c.deref.ensures.value ∙ c.in_ok-front.ensures) (c.deref-2.ensures.value ∙ c.in_ok-turned.ensures) in
    last_made _ _ _ _ _ _ _ (c.in_ok-ops.ensures ∙ same) (ap ops_made c.in-None.is) c.in_ok-made-in-None.ensures
