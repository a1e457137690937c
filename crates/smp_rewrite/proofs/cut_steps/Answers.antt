use Rattle.std.proofs.Common.{rules, ◌≡◌, map, take, drop, ap, ◌∙◌}
use Rattle.std.proofs.lemmas.List.{take-map, drop-map}
use Rattle.std.specs.List.{flat_map}
use Rattle.sigma_spl.specs.Shared.Targets.{target_of}
use Rattle.smp_rewrite.specs.Layout.Views.{plain_step}
use Rattle.smp_rewrite.specs.Cut.{factors_of, first_count}
use Rattle.smp_rewrite.specs.Views.{plain_factor}
use Rattle.smp_rewrite.proofs.cut_steps.Goals as goal

pub returns : goal.returns
returns c =
    let h = target_of c.args.c.now in
    let ss = map plain_step c.args.steps.items in
    let count : c.first_count.result ≡ first_count c.request-request.result.procs ss
    = c.first_count.ensures.value
    ∙ ap (λ xs. first_count c.request-request.result.procs (map plain_step xs)) c.deref.ensures.value in
    let first : map plain_factor c.in_ok-first.first.items
    ≡ flat_map (factors_of h.size h.procs) (take (first_count h.procs ss) ss)
    = search (rules, take-map, count) in
    let second : map plain_factor c.in_ok-second.second.items
    ≡ flat_map (factors_of h.size h.procs) (drop (first_count h.procs ss) ss)
    = search (rules, drop-map, count) in
    λ i. record { target = c.target_of.ensures i; first = first i; second = second i; closing = c.args.closing }
