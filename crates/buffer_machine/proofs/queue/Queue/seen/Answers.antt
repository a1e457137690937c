use Rattle.std.proofs.Common.{arith}
use Rattle.buffer_machine.proofs.Newest.{store_there, address_below, word_there, seen_in_memory, seen_in_store}
use Rattle.buffer_machine.proofs.queue.Queue.seen.Goals as goal

pub index-requires : goal.index-requires
index-requires c =
    let store = store_there c.args.memory.now c.self.invariant c.self.view_is c.requires.span c.requires.place
    c.index-newest.ensures c.if-newest-self.false in
    omega (arith, store, c.if-newest-self.false, c.self.inside.addresses.ok.0)

pub overflow_sub-lane : goal.overflow_sub-lane
overflow_sub-lane c =
    address_below c.args.memory.now c.self.invariant c.self.view_is c.requires.span c.requires.place
    c.index-newest.ensures c.if-newest-self.false c.index.ensures

pub overflow_mul-at : goal.overflow_mul-at
overflow_mul-at c =
    let word = word_there c.args.memory.now c.self.invariant c.self.view_is c.requires.span c.requires.place
    c.index-newest.ensures c.if-newest-self.false c.index.ensures in
    omega (arith, word, c.self.inside.words.ok.0, c.self.inside.words.small)

pub overflow_add-at : goal.overflow_add-at
overflow_add-at c =
    let word = word_there c.args.memory.now c.self.invariant c.self.view_is c.requires.span c.requires.place
    c.index-newest.ensures c.if-newest-self.false c.index.ensures in
    omega (arith, word, c.self.inside.words.ok.0, c.self.inside.words.small)

pub index-requires-2 : goal.index-requires-2
index-requires-2 c =
    let word = word_there c.args.memory.now c.self.invariant c.self.view_is c.requires.span c.requires.place
    c.index-newest.ensures c.if-newest-self.false c.index.ensures in
    omega (arith, word, c.self.inside.words.ok.0)

pub returns-then-newest-self : goal.returns-then-newest-self
returns-then-newest-self c =
    seen_in_memory c.args.memory.now c.self.invariant c.self.view_is c.requires.span c.requires.place
    c.index-newest.ensures c.if-newest-self.true

pub returns : goal.returns
returns c =
    seen_in_store c.args.memory.now c.self.invariant c.self.view_is c.requires.span c.requires.place
    c.index-newest.ensures c.if-newest-self.false c.index.ensures c.index-2.ensures
