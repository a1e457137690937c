use Rattle.std.proofs.Common.{ℕ, ◌-◌, ◌*◌, ◌<◌, List, length, ap, ap₂, sym, subst, ◌∙◌, arith}
use Rattle.std.specs.Prelude.{slice_index}
use Rattle.std.proofs.lemmas.List.{get_or_read}
use Rattle.icode.specs.Machine.{words_at, with_words}
use Rattle.buffer_machine.specs.Backlog.{Backlog}
use Rattle.buffer_machine.specs.Waits.{OldestFits}
use Rattle.buffer_machine.proofs.Windows.{window-first, oldest_there}
use Rattle.buffer_machine.proofs.queue.Queue.write_oldest.Goals as goal

pub copy_lanes-requires-clause-to : goal.copy_lanes-requires-clause-to
copy_lanes-requires-clause-to c =
    let a = c.self.inside in
    let A : List ℕ = a.addresses.items in
    let fits = subst (λ (b : Backlog). OldestFits b.lanes (length c.args.memory.now) b.waiting) (sym c.self.view_is) c.requires in
    let there = oldest_there a.lanes (length c.args.memory.now) (a.tail - a.head) a.head A a.words.items fits in
    let lt : a.head < a.tail = omega (arith, there) in
    let address = get_or_read A a.head c.index-address.result.now (omega (arith, lt, c.self.invariant.inside)) c.index-address.ensures 0 in
    let first = subst (OldestFits a.lanes (length c.args.memory.now)) (window-first a.lanes a.head a.tail A a.words.items lt) fits in
    omega (arith, address, first)

pub returns : goal.returns
returns c =
    let a = c.self.inside in
    let A : List ℕ = a.addresses.items in
    let W : List ℕ = a.words.items in
    let there = oldest_there a.lanes (length c.args.memory.now) (a.tail - a.head) a.head A W
    (subst (λ (b : Backlog). OldestFits b.lanes (length c.args.memory.now) b.waiting) (sym c.self.view_is) c.requires) in
    let lt : a.head < a.tail = omega arith in
    let address = get_or_read A a.head c.index-address.result.now (omega (arith, c.self.invariant.inside)) c.index-address.ensures 0 in
    record {
      oldest = record { address = slice_index A a.head; words = words_at a.lanes W (a.head * a.lanes) };
      splits = ap (λ (b : Backlog). b.waiting) (sym c.self.view_is) ∙ window-first a.lanes a.head a.tail A W lt;
      address_is = address;
      written = c.copy_lanes.ensures ∙ ap₂ (λ (k : ℕ) (ws : List ℕ). with_words c.args.memory.now k (words_at a.lanes ws (a.head * a.lanes))) address c.deref.ensures.value;
      room = ap (λ (b : Backlog). b.room) c.self.view_is;
      most = ap (λ (b : Backlog). b.most) c.self.view_is;
      lanes = ap (λ (b : Backlog). b.lanes) c.self.view_is;
      span = ap (λ (b : Backlog). b.span) c.self.view_is;
    }
