use Rattle.std.proofs.Common.{ℕ, ◌<◌, ◌≤◌, ◌+◌, ◌*◌, List, ◌∷◌, ◌++◌, [], length, length-set, replicate, sym, ap, ap₂}
use Rattle.std.proofs.Common.{◌∙◌, arith}
use Rattle.std.proofs.lemmas.List.{with_items_is}
use Rattle.icode.specs.Buffers.{Waiting}
use Rattle.icode.specs.Machine.{with_words, words_at}
use Rattle.icode.proofs.Words.{length-words_at}
use Rattle.icode.proofs.SequenceLemmas.Placing.{length-with_words}
use Rattle.buffer_machine.specs.Backlog.{Backlog}
use Rattle.buffer_machine.proofs.Newest.{newest_push}
use Rattle.buffer_machine.proofs.Windows.{window-push}
use Rattle.buffer_machine.proofs.queue.Queue.push.Goals as goal

pub returns-clause-waiting : goal.returns-clause-waiting
returns-clause-waiting c =
    let a = c.self.inside in
    let values : List ℕ = words_at a.lanes c.args.words.now c.args.place in
    let words = with_items_is a.words c.copy_lanes.new.to (c.copy_lanes.auto.to ∙ (ap length c.deref_mut.ensures.value ∙ sym a.words.ok.0)) in
    let written = words ∙ (c.copy_lanes.ensures ∙ ap (λ (ws : List ℕ). with_words ws (a.tail * a.lanes) values) c.deref_mut.ensures.value) in
    window-push a.lanes a.head a.tail c.args.address a.addresses.items a.words.items _ values c.self.invariant.order
    (omega (arith, c.requires.room, ap (λ (b : Backlog). b.room) c.self.view_is)) c.self.invariant.size (length-words_at a.lanes c.args.words.now c.args.place) written
    ∙ ap₂ (λ (ws : List Waiting) (n : ℕ). ws ++ record { address = c.args.address; words = words_at n c.args.words.now c.args.place } ∷ []) (ap (λ (b : Backlog). b.waiting) c.self.view_is) (ap (λ (b : Backlog). b.lanes) c.self.view_is)

pub invariant_of-self : goal.invariant_of-self
invariant_of-self c =
    let a = c.self.inside in
    let w = c.self.invariant in
    let values : List ℕ = words_at a.lanes c.args.words.now c.args.place in
    let words = with_items_is a.words c.copy_lanes.new.to (c.copy_lanes.auto.to ∙ (ap length c.deref_mut.ensures.value ∙ sym a.words.ok.0)) in
    let written = words ∙ (c.copy_lanes.ensures ∙ ap (λ (ws : List ℕ). with_words ws (a.tail * a.lanes) values) c.deref_mut.ensures.value) in
    let newest = with_items_is a.newest c.mark.new.newest (c.mark.auto.newest ∙ (ap length c.deref_mut-2.ensures.value ∙ sym a.newest.ok.0)) in
    let marked = newest ∙ (c.mark.ensures ∙ ap (λ (ws : List ℕ). with_words ws c.args.address (replicate a.lanes (a.tail + 1))) c.deref_mut-2.ensures.value) in
    let lt : a.tail < length a.addresses.items = omega (arith, c.requires.room, ap (λ (b : Backlog). b.room) c.self.view_is) in
    let inside : c.args.address + a.lanes ≤ length a.newest.items = omega (arith, c.requires.inside, ap (λ (b : Backlog). b.lanes) c.self.view_is, ap (λ (b : Backlog). b.span) c.self.view_is) in
    record {
      order = omega (arith, w.order);
      inside = omega (arith, lt, length-set a.addresses.items a.tail c.args.address);
      size = ap length written ∙ (length-with_words values a.words.items (a.tail * a.lanes) ∙ (w.size ∙ ap (λ k. k * a.lanes) (sym (length-set a.addresses.items a.tail c.args.address))));
      few = w.few;
      newest = newest_push a.lanes a.tail c.args.address a.addresses.items a.newest.items _ w.newest lt inside marked;
    }
