use Rattle.std.proofs.Common.{◌<◌, ◌≤◌, ◌+◌, ◌-◌, arith, length, true}
use Rattle.io_edge.specs.Feed.{limit}
use Rattle.std.proofs.lemmas.Result.{err_from_is_err_and}
use Rattle.commands.proofs.ConvolutionLemmas.ConvolvedLemmas.{convolves_listing, convolves_cut}
use Rattle.data_stream.proofs.TokensLemmas.{reports_none}
use Rattle.spiral_words.specs.declared.statuses.status.Status.TheVariants.{NoMemory}
use Rattle.commands.proofs.Inputs.StatusLemmas.{quiet_ends}
use Rattle.commands.proofs.Inputs.OutcomeLemmas.{told_nothing}
use Rattle.commands.proofs.convolutions.print_convolver.Goals as goal

pub returns-in_err-write_all-clause-told : goal.returns-in_err-write_all-clause-told
returns-in_err-write_all-clause-told g c =
    let made = c.in_ok-program.ensures in
    let some : 0 < c.args.request.now.size = omega (arith, c.requires.request.in_range.size.0) in
    let wrote = rw c.deref.ensures.value at c.in_err-write_all.ensures.bytes in
    let p = err_from_is_err_and c.from_residual-in_err-write_all.result c.from_residual-in_err-write_all.ensures.1 in
    rw (p.1, p.2) (convolves_cut c.args.request.now c.in_ok-program.field-0-1 c.args.feed.now c.listed_program.new.feed _ _
    _ _ c.in_ok-program.field-0-2.items c.in_ok-listing.listing.items c.in_ok-program.program
    made.cut some made.come made.within made.ready.end made.program c.in_ok-listing.ensures.text wrote)

pub returns-clause-told : goal.returns-clause-told
returns-clause-told g c =
    let made = c.in_ok-program.ensures in
    let wrote = rw c.deref.ensures.value at c.in_ok-write_all.ensures.bytes in
    convolves_listing c.args.request.now c.in_ok-program.field-0-1 c.args.feed.now c.listed_program.new.feed _ _
    _ _ c.in_ok-program.field-0-2.items c.in_ok-listing.listing.items c.in_ok-program.program
    made.cut made.come c.requires.within made.within made.ready.end made.program c.in_ok-listing.ensures.text wrote

pub returns-in_err-listing-clause-ends : goal.returns-in_err-listing-clause-ends
returns-in_err-listing-clause-ends g c =
    let same = reports_none _ _ _ c.in_ok-program.ensures.ends.read (λ e. cc) in
    let p = err_from_is_err_and c.from_residual-in_err-listing.result c.from_residual-in_err-listing.ensures.1 in
    rw (p.1, p.2) (quiet_ends NoMemory _ _ _ _ _
    same (λ e. cc) (λ e. cc) (λ e. cc))

pub returns-in_err-program-clause-told : goal.returns-in_err-program-clause-told
returns-in_err-program-clause-told g c =
    let p = err_from_is_err_and c.from_residual.result c.from_residual.ensures.1 in
    rw (p.1, p.2) (c.in_err-program.ensures.told true (g.O.Sink.taken c.args.output.now))

pub returns-in_err-listing-clause-told : goal.returns-in_err-listing-clause-told
returns-in_err-listing-clause-told g c =
    let progress = c.in_ok-program.ensures.come.progress in
    let p = err_from_is_err_and c.from_residual-in_err-listing.result c.from_residual-in_err-listing.ensures.1 in
    let few : length progress.bytes ≤ limit - c.args.feed.now.taken + 1 =
    omega (arith, progress.taken, c.requires.within, c.in_ok-program.ensures.within) in
    rw (p.1, p.2) (told_nothing _ _ _ _ progress.bytes progress.consumed few)
