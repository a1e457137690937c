use Rattle.std.proofs.Common.{rules, ◌≡◌, sym, ap, ◌∙◌, subst, arith, length, ◌+◌}
use Rattle.sigma_spl.specs.Merge.{Merging, ended, from_end, merged, most, sides}
use Rattle.sigma_spl.specs.Views.{plain_term}
use Rattle.loop_merge.specs.Known.{IsKnown}
use Rattle.loop_merge.specs.Views.{plain_merging}
use Rattle.loop_nests.specs.Views.{from_last}
use Rattle.loop_merge.proofs.Depths.{term_depth}
use Rattle.loop_merge.proofs.Merged.{merged-known, nothing-known}
use Rattle.loop_merge.proofs.Parts.{alone-known, can-merge, factors-of, is-part, known-both, merged-anew, parts-of}
use Rattle.loop_merge.proofs.Parts.{same-term}
use Rattle.loop_merge.proofs.merging.+merged.Goals as goal

pub merged-merged-requires : goal.merged-merged-requires
merged-merged-requires t c =
    let can = can-merge _ _ _ c.requires.room c.requires.good c.requires.several c.requires.words in
    let factors = factors-of _ _ _ _ _ can (ap plain_term c.in-Compose.is) in
    let whole : term_depth (plain_term c.args.term) ≡ 1 + (term_depth (plain_term c.in-Compose.a.value) + term_depth (plain_term c.in-Compose.b.value)) = ap (λ x. term_depth (plain_term x)) c.in-Compose.is in
    let first = same-term _ _ c.in-Compose.a.value c.into_inner.result c.into_inner.ensures factors.first in
    (omega (arith, c.decreases, whole, ap (λ x. term_depth (plain_term x)) c.into_inner.ensures), (c.requires.room, (c.requires.known, (first.good, (first.several, first.words)))))

pub merged-merged-requires-in-Compose : goal.merged-merged-requires-in-Compose
merged-merged-requires-in-Compose t c =
    let can = can-merge _ _ _ c.requires.room c.requires.good c.requires.several c.requires.words in
    let factors = factors-of _ _ _ _ _ can (ap plain_term c.in-Compose.is) in
    let whole : term_depth (plain_term c.args.term) ≡ 1 + (term_depth (plain_term c.in-Compose.a.value) + term_depth (plain_term c.in-Compose.b.value)) = ap (λ x. term_depth (plain_term x)) c.in-Compose.is in
    let first = same-term _ _ c.in-Compose.a.value c.into_inner.result c.into_inner.ensures factors.first in
    let second = same-term _ _ c.in-Compose.b.value c.into_inner-in-Compose.result c.into_inner-in-Compose.ensures factors.second in
    let known = merged-known c.args.limits.room c.args.limits.size (plain_merging c.args.state) (plain_term c.into_inner.result) c.requires.room first.good first.several first.words c.requires.known in (
      omega (arith, c.decreases, whole, ap (λ x. term_depth (plain_term x)) c.into_inner-in-Compose.ensures),
      (c.requires.room, (subst (IsKnown c.args.limits.room c.args.limits.size) (sym c.in_ok-next-in-Compose.ensures) known, (second.good, (second.several, second.words)))),
    )

pub merged-overflow_sub-room : goal.merged-overflow_sub-room
merged-overflow_sub-room t c =
    let can = can-merge _ _ _ c.requires.room c.requires.good c.requires.several c.requires.words in
    let long : c.len.result ≡ length c.in-Beside.path.items = search rules in
    let parts = parts-of _ _ c.len.result _ _ _ _ _ _ can (ap plain_term c.in-Beside.is) long in
    omega (arith, long, parts.short)

pub merged-merged_alone-requires : goal.merged-merged_alone-requires
merged-merged_alone-requires t c =
    let can = can-merge _ _ _ c.requires.room c.requires.good c.requires.several c.requires.words in
    let long : c.len.result ≡ length c.in-Beside.path.items = search rules in
    let parts = parts-of _ _ c.len.result _ _ _ _ _ _ can (ap plain_term c.in-Beside.is) long in
    let whole : term_depth (plain_term c.args.term) ≡ 1 + (term_depth (plain_term c.in-Beside.first.value) + term_depth (plain_term c.in-Beside.second.value)) = ap (λ x. term_depth (plain_term x)) c.in-Beside.is in
    let first = same-term _ _ c.in-Beside.first.value c.into_inner-in-Beside.result c.into_inner-in-Beside.ensures parts.first in
    (omega (arith, c.decreases, whole, ap (λ x. term_depth (plain_term x)) c.into_inner-in-Beside.ensures), (first.room_left, (first.good, (first.several, first.words))))

pub merged-merged_alone-requires-in-Beside : goal.merged-merged_alone-requires-in-Beside
merged-merged_alone-requires-in-Beside t c =
    let can = can-merge _ _ _ c.requires.room c.requires.good c.requires.several c.requires.words in
    let long : c.len.result ≡ length c.in-Beside.path.items = search rules in
    let parts = parts-of _ _ c.len.result _ _ _ _ _ _ can (ap plain_term c.in-Beside.is) long in
    let whole : term_depth (plain_term c.args.term) ≡ 1 + (term_depth (plain_term c.in-Beside.first.value) + term_depth (plain_term c.in-Beside.second.value)) = ap (λ x. term_depth (plain_term x)) c.in-Beside.is in
    let second = same-term _ _ c.in-Beside.second.value c.into_inner-in-Beside-2.result c.into_inner-in-Beside-2.ensures parts.second in
    (omega (arith, c.decreases, whole, ap (λ x. term_depth (plain_term x)) c.into_inner-in-Beside-2.ensures), (second.room_left, (second.good, (second.several, second.words))))

pub merged-sides-requires-clause-first : goal.merged-sides-requires-clause-first
merged-sides-requires-clause-first t c =
    let can = can-merge _ _ _ c.requires.room c.requires.good c.requires.several c.requires.words in
    let long : c.len.result ≡ length c.in-Beside.path.items = search rules in
    let parts = parts-of _ _ c.len.result _ _ _ _ _ _ can (ap plain_term c.in-Beside.is) long in
    let first = same-term _ _ c.in-Beside.first.value c.into_inner-in-Beside.result c.into_inner-in-Beside.ensures parts.first in
    is-part _ _ _ first (from_last c.in_ok-left-in-Beside.left.items) c.in_ok-left-in-Beside.ensures

pub merged-sides-requires-clause-second : goal.merged-sides-requires-clause-second
merged-sides-requires-clause-second t c =
    let can = can-merge _ _ _ c.requires.room c.requires.good c.requires.several c.requires.words in
    let long : c.len.result ≡ length c.in-Beside.path.items = search rules in
    let parts = parts-of _ _ c.len.result _ _ _ _ _ _ can (ap plain_term c.in-Beside.is) long in
    let second = same-term _ _ c.in-Beside.second.value c.into_inner-in-Beside-2.result c.into_inner-in-Beside-2.ensures parts.second in
    is-part _ _ _ second (from_last c.in_ok-right-in-Beside.right.items) c.in_ok-right-in-Beside.ensures

pub merged-with_passes-requires-clause-known : goal.merged-with_passes-requires-clause-known
merged-with_passes-requires-clause-known t c =
    let can = can-merge _ _ _ c.requires.room c.requires.good c.requires.several c.requires.words in
    let long : c.len.result ≡ length c.in-Beside.path.items = search rules in
    let parts = parts-of _ _ c.len.result _ _ _ _ _ _ can (ap plain_term c.in-Beside.is) long in
    let first = same-term _ _ c.in-Beside.first.value c.into_inner-in-Beside.result c.into_inner-in-Beside.ensures parts.first in
    let second = same-term _ _ c.in-Beside.second.value c.into_inner-in-Beside-2.result c.into_inner-in-Beside-2.ensures parts.second in
    let ps = from_last c.in_ok-left-in-Beside.left.items in
    let qs = from_last c.in_ok-right-in-Beside.right.items in
    known-both _ _ _ _ _ _ _ _ ps qs _ c.requires.room parts
    (alone-known _ _ _ first ps c.in_ok-left-in-Beside.ensures) (alone-known _ _ _ second qs c.in_ok-right-in-Beside.ensures)
    (c.in_ok-both-in-Beside.ensures ∙ ap (λ p. sides p c.in-Beside.first_size c.in-Beside.second_size ps qs) c.deref-in-Beside.ensures.value)

pub merged_alone-merged-requires : goal.merged_alone-merged-requires
merged_alone-merged-requires t c =
    let known = subst (IsKnown c.args.room c.args.size) (sym c.nothing.ensures) (nothing-known c.args.room c.args.size) in
    (omega (arith, c.decreases), (c.requires.room, (known, (c.requires.good, (c.requires.several, c.requires.words)))))

pub merged_alone-finished-requires-clause-known : goal.merged_alone-finished-requires-clause-known
merged_alone-finished-requires-clause-known t c =
    let can = can-merge _ _ _ c.requires.room c.requires.good c.requires.several c.requires.words in
    merged-anew c.args.room c.args.size (plain_term c.args.term) (plain_merging c.in_ok-state.state) can (c.in_ok-state.ensures ∙ ap (λ st. merged (most c.args.room) c.args.size st (plain_term c.args.term)) c.nothing.ensures)

pub merged_alone-returns : goal.merged_alone-returns
merged_alone-returns t c =
    c.in_ok-passes.ensures
    ∙ ap (λ (st : Merging). ended (most c.args.room) c.args.size (from_end st.waiting) st.passes) (c.in_ok-state.ensures ∙ ap (λ st. merged (most c.args.room) c.args.size st (plain_term c.args.term)) c.nothing.ensures)
