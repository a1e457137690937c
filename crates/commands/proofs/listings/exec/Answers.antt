use Rattle.std.proofs.Common.{arith, zero-add, ◌∙◌, length}
use Rattle.std.proofs.lemmas.Result.{err_from_is_err_and}
use Rattle.commands.specs.Input.Stage.{status_of}
use Rattle.commands.specs.Equations.Exec.{exec_work}
use Rattle.commands.specs.Equations.Front.{part}
use Rattle.commands.specs.Listings.Listed.{loaded}
use Rattle.commands.proofs.Inputs.FrontLemmas.{text_refused}
use Rattle.commands.proofs.ListingLemmas.ListedLemmas.{exec_unread, exec_told}
use Rattle.commands.proofs.listings.exec.Goals as goal

pub returns-in_err-text-clause-told : goal.returns-in_err-text-clause-told
returns-in_err-text-clause-told g c =
    let told = c.in_err-text.ensures.told in
    let p = err_from_is_err_and c.from_residual.result c.from_residual.ensures.1 in
    rw (p.1, p.2, told.2.1) (exec_unread c.args.schedule.now _ _ _ c.listing_text.new.feed.taken told.0 told.2.0 told.1 told.2.2)

pub returns-in_err-program-clause-told : goal.returns-in_err-program-clause-told
returns-in_err-program-clause-told g c =
    let told = c.in_ok-text.ensures.told in
    let refused = rw c.deref.ensures.value at c.in_err-program.ensures.refused in
    let p = err_from_is_err_and c.from_residual-in_err-program.result c.from_residual-in_err-program.ensures.1 in
    rw (p.1, p.2) (text_refused (part 1048576) (loaded c.args.schedule.now) exec_work _ _ _ c.listing_text.new.feed.taken told.0 c.in_ok-text.text.items c.in_err-program.field-0.0
    told.1 (omega (arith, told.2.1, told.2.2)) told.2.3.parts told.2.1 refused c.in_err-program.ensures.refusal)

pub returns-clause-told : goal.returns-clause-told
returns-clause-told g c =
    let told = c.in_ok-text.ensures.told in
    let load = rw c.deref.ensures.value at c.in_ok-program.ensures.program in
    exec_told c.args.schedule.now c.in_ok-program.program c.new.result _ _ _ _ _
    c.listing_text.new.feed.taken told.0 c.in_ok-text.text.items (status_of c.stream_turns.result)
    told.1 (omega (arith, told.2.1, told.2.2)) (told.2.0 ∙ zero-add (length told.0)) told.2.3 told.2.1 load
    c.new.ensures.items c.stream_turns.ensures.told
