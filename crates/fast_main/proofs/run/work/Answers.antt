use Rattle.std.proofs.Common.{Err, ap}
use Rattle.std.proofs.lemmas.Result.{err_from_is_err_and}
use Rattle.io_edge.specs.Told.{IsOver}
use Rattle.io_edge.specs.Feed.{to_come}
use Rattle.fast_main.specs.Options.Views.{plain_options}
use Rattle.fast_main.proofs.Told.{first_fed, has_read, listing_ended, told_no_words, judged_refused, judged, told_unread}
use Rattle.fast_main.proofs.Told.{told_refused, told_cut, told_whole, rest_is_no_usage}
use Rattle.fast_main.specs.declared.options.asked.Refusal.TheVariants as refusal
use Rattle.fast_main.proofs.run.work.Goals as goal

pub returns-in_err-options-clause-told : goal.returns-in_err-options-clause-told
returns-in_err-options-clause-told g c =
    let p = err_from_is_err_and c.from_residual.result c.from_residual.ensures.1 in
    rw (p.1, p.2) (told_no_words _ _ _ c.in_err-options.field-0.0 (λ e. c.in_err-options.ensures.usage (ap (λ f. Err f) e)))

pub returns-in_err-options-clause-words : goal.returns-in_err-options-clause-words
returns-in_err-options-clause-words g c =
    let p = err_from_is_err_and c.from_residual.result c.from_residual.ensures.1 in
    rw (p.1, p.2) (judged_refused _ c.in_err-options.field-0.0 (λ e. c.in_err-options.ensures.usage (ap (λ f. Err f) e)))

pub returns-in_err-listing-clause-told : goal.returns-in_err-listing-clause-told
returns-in_err-listing-clause-told g c =
    let told = g.I.Source.left c.args.input.now in
    let left = g.I.Source.left c.read_part.new.source in
    let answer = c.in_err-listing.ensures.answer in
    let consumes = first_fed told left c.in_ok-feed.feed c.read_part.new.feed answer.0 c.in_ok-feed.ensures answer.1 in
    let p = err_from_is_err_and c.from_residual-in_err-listing.result c.from_residual-in_err-listing.ensures.1 in
    rw (p.1, p.2) (told_unread _ (plain_options c.in_ok-options.options) (g.O.Sink.taken c.args.output.now) c.in_ok-options.ensures.ok told c.read_part.new.feed left answer.0 c.in_err-listing.field-0.0 (IsOver (to_come c.read_part.new.feed left)) c.in_ok-feed.feed.taken c.read_part.new.feed.taken consumes answer.2
    (λ e. c.in_err-listing.ensures.empty (ap (λ f. Err f) e)))

pub returns-in_err-listing-clause-words : goal.returns-in_err-listing-clause-words
returns-in_err-listing-clause-words g c =
    let p = err_from_is_err_and c.from_residual-in_err-listing.result c.from_residual-in_err-listing.ensures.1 in
    rw (p.1, p.2) (judged _ (plain_options c.in_ok-options.options) (g.O.Sink.taken c.args.output.now) c.in_ok-options.ensures.ok _ (rest_is_no_usage c.in_err-listing.field-0.0))

pub returns-in_err-made-clause-told : goal.returns-in_err-made-clause-told
returns-in_err-made-clause-told g c =
    let told = g.I.Source.left c.args.input.now in
    let left = g.I.Source.left c.read_part.new.source in
    let read = has_read told left c.in_ok-feed.feed c.read_part.new.feed c.deref.result.now c.in_ok-listing.listing c.in_ok-feed.ensures c.deref.ensures.value c.in_ok-listing.ensures.answer in
    let p = err_from_is_err_and c.from_residual-in_err-made.result c.from_residual-in_err-made.ensures.1 in
    rw (p.1, p.2) (told_refused _ (plain_options c.in_ok-options.options) (g.O.Sink.taken c.args.output.now) c.in_ok-options.ensures.ok told left c.read_part.new.feed c.deref.result.now read
    c.in_err-made.field-0.0 c.in_err-made.ensures.refused c.in_err-made.ensures.inside)

pub returns-in_err-made-clause-words : goal.returns-in_err-made-clause-words
returns-in_err-made-clause-words g c =
    let p = err_from_is_err_and c.from_residual-in_err-made.result c.from_residual-in_err-made.ensures.1 in
    rw (p.1, p.2) (judged _ (plain_options c.in_ok-options.options) (g.O.Sink.taken c.args.output.now) c.in_ok-options.ensures.ok _ c.in_err-made.ensures.inside.usage)

pub returns-in_err-write_all-clause-told : goal.returns-in_err-write_all-clause-told
returns-in_err-write_all-clause-told g c =
    let told = g.I.Source.left c.args.input.now in
    let left = g.I.Source.left c.read_part.new.source in
    let read = has_read told left c.in_ok-feed.feed c.read_part.new.feed c.deref.result.now c.in_ok-listing.listing c.in_ok-feed.ensures c.deref.ensures.value c.in_ok-listing.ensures.answer in
    let p = err_from_is_err_and c.from_residual-in_err-write_all.result c.from_residual-in_err-write_all.ensures.1 in
    let wrote = rw c.deref-2.ensures.value at c.in_err-write_all.ensures.bytes in
    rw (p.1, p.2) (told_cut _ (plain_options c.in_ok-options.options) (g.O.Sink.taken c.args.output.now) c.in_ok-options.ensures.ok told left c.read_part.new.feed c.deref.result.now read
    (g.O.Sink.taken c.write_all.new.sink) c.in_ok-made.made.text.items c.in_ok-made.made.ending c.in_ok-made.ensures.text c.in_ok-made.ensures.done wrote)

pub returns-clause-told : goal.returns-clause-told
returns-clause-told g c =
    let told = g.I.Source.left c.args.input.now in
    let left = g.I.Source.left c.read_part.new.source in
    let read = has_read told left c.in_ok-feed.feed c.read_part.new.feed c.deref.result.now c.in_ok-listing.listing c.in_ok-feed.ensures c.deref.ensures.value c.in_ok-listing.ensures.answer in
    let wrote = rw c.deref-2.ensures.value at c.in_ok-write_all.ensures.bytes in
    told_whole _ (plain_options c.in_ok-options.options) (g.O.Sink.taken c.args.output.now) c.in_ok-options.ensures.ok told left c.read_part.new.feed c.deref.result.now read
    (g.O.Sink.taken c.write_all.new.sink) c.in_ok-made.made.text.items c.in_ok-made.made.ending c.in_ok-made.ensures.text c.in_ok-made.ensures.done wrote

pub returns-clause-end : goal.returns-clause-end
returns-clause-end g c =
    let told = g.I.Source.left c.args.input.now in
    let left = g.I.Source.left c.read_part.new.source in
    let read = has_read told left c.in_ok-feed.feed c.read_part.new.feed c.deref.result.now c.in_ok-listing.listing c.in_ok-feed.ensures c.deref.ensures.value c.in_ok-listing.ensures.answer in
    λ e. listing_ended told left c.read_part.new.feed c.deref.result.now read

pub returns-in_err-feed-clause-told : goal.returns-in_err-feed-clause-told
returns-in_err-feed-clause-told g c =
    let p = err_from_is_err_and c.from_residual-in_err-feed.result c.from_residual-in_err-feed.ensures.1 in
    rw (p.1, p.2) (told_no_words _ _ _ refusal.NoMemory (λ e. absurd (cc)))

pub returns-clause-words : goal.returns-clause-words
returns-clause-words g c =
    judged _ (plain_options c.in_ok-options.options) (g.O.Sink.taken c.args.output.now) c.in_ok-options.ensures.ok _ c.in_ok-made.ensures.done.usage
