use Rattle.std.proofs.Common.{rules, ◌≡◌, [], sym, ◌∙◌, subst, arith, map}
use Rattle.index_fn.specs.Index.{mapping_of}
use Rattle.sigma_spl.specs.Merge.{back_of, most}
use Rattle.sigma_spl.specs.Views.{plain_nest}
use Rattle.loop_merge.specs.Known.{AreKnownPasses}
use Rattle.loop_nests.specs.Places.Known.{AreSteps}
use Rattle.loop_nests.proofs.Standing.{last_first}
use Rattle.loop_merge.proofs.Readies.{known-stores}
use Rattle.loop_merge.proofs.Waiting.{last_goes, last_left, none_left, steps_wait}
use Rattle.loop_merge.proofs.steps.+ended.Goals as goal

pub ended-requires : goal.ended-requires
ended-requires t c =
    let room = c.args.limits.room in
    let n = c.args.limits.size in
    let steps = subst (λ fs. AreSteps n (map mapping_of fs)) c.in-Some.ensures.cases.0 c.requires.steps in
    let known = subst (AreKnownPasses room n) (last_first _ _ _ c.in-Some-pop.ensures.items) c.requires.known in
    let made = c.in_ok-pass.ensures.made c.in-Made.pass c.in-Made.is in
    let changed = known-stores room n c.requires.room (back_of (mapping_of c.in-Some.f.now))
    (map plain_nest c.in-Some-pop.last.items)
    (map plain_nest c.in-Made.pass.items) steps.0.moves.back made.0 made.1 known.0 in (
      omega (arith, c.decreases, c.in-Some.ensures.cases.1),
      (
        c.requires.room,
        (
          steps.1,
          subst (AreKnownPasses room n)
              (sym (last_first _ _ _ c.in_ok-push-in-Made.ensures.items)) (changed, known.1),
        ),
      ),
    )

pub settled-requires-clause-steps : goal.settled-requires-clause-steps
settled-requires-clause-steps t c = steps_wait c.args.limits.size c.args.waiting.now c.requires.steps

pub settled-requires-in-Refused-clause-steps : goal.settled-requires-in-Refused-clause-steps
settled-requires-in-Refused-clause-steps t c = steps_wait c.args.limits.size c.args.waiting.now c.requires.steps

pub returns-in_default-pop : goal.returns-in_default-pop
returns-in_default-pop t c =
    let none : c.args.passes.items ≡ [] = search rules in
    c.in_ok-passes.ensures
    ∙ none_left (most c.args.limits.room) c.args.limits.size c.args.waiting.now c.in-Some.f.now c.in-Some.rest.now
    c.args.passes.items c.in-Some.ensures.cases.0 none

pub returns-in_ok-append-in-Refused : goal.returns-in_ok-append-in-Refused
returns-in_ok-append-in-Refused t c =
    let refused = c.in_ok-pass.ensures.refused c.in-Refused.last c.in-Refused.is in
    last_left (most c.args.limits.room) c.args.limits.size c.args.waiting.now c.in-Some.f.now c.in-Some.rest.now
    c.args.passes.items c.pop.new.self.items c.push-in-Refused.new.self.items c.in_ok-after-in-Refused.after.items
    c.append.new.self.items c.in-Some-pop.last c.in-Refused.last c.in-Some.ensures.cases.0 refused.0
    c.in-Some-pop.ensures.items c.in_ok-push-in-Refused.ensures.items refused.1 c.in_ok-append-in-Refused.ensures.items
    c.in_ok-after-in-Refused.ensures

pub returns-in_ok-passes-in-Made : goal.returns-in_ok-passes-in-Made
returns-in_ok-passes-in-Made t c =
    let made = c.in_ok-pass.ensures.made c.in-Made.pass c.in-Made.is in
    c.in_ok-passes-in-Made.ensures
    ∙ last_goes (most c.args.limits.room) c.args.limits.size _ _ _ _ _ _ _ _ c.in-Some.ensures.cases.0 made.0
    c.in-Some-pop.ensures.items c.in_ok-push-in-Made.ensures.items made.1
