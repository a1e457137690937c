use Rattle.std.proofs.Common.{sym, ap, ◌∙◌}
use Rattle.index_fn.specs.Index.{mapping_of}
use Rattle.sigma_spl.specs.Merge.{can_gather, most}
use Rattle.loop_merge.proofs.Readies.{copy-words}
use Rattle.loop_merge.proofs.copies.copy_by.Goals as goal

pub returns : goal.returns
returns c =
    let room = most c.args.limits.room in
    let n = c.args.limits.size in
    let f = mapping_of c.args.f.now in
    let refused = c.in_ok-pass.ensures.refused c.in-Refused.field-0 c.in-Refused.is in
    c.in_ok-pass-in-Refused.ensures ∙ copy-words room n f (ap (can_gather room n f) (sym c.in_ok-natural.ensures) ∙ refused.0)
