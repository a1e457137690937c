use Rattle.std.proofs.Common.{◌≡◌, ap, sym, subst, ◌∙◌, length}
use Rattle.std.proofs.lemmas.List.{with_items_is}
use Rattle.std.specs.Vec.{with_items}
use Rattle.icode.specs.Machine.{Code, weighted}
use Rattle.schedules.specs.Turns.{turns_of}
use Rattle.commands.specs.Sample.{sample_text, weighted_sum, AreCountable}
use Rattle.commands.proofs.SampleLemmas.{sample_residues, good_counts, costs, cost_fits, sampled}
use Rattle.commands.proofs.Programs.{good_code}
use Rattle.commands.proofs.sample.sample.Goals as goal

pub transform-requires-clause-residues : goal.transform-requires-clause-residues
transform-requires-clause-residues c =
    let filled : c.deref_mut-2.result.now ≡ c.fill.new.vector =
    c.deref_mut-2.ensures.value ∙ with_items_is c.in_ok-machine.vector c.fill.new.vector (c.fill.auto.vector ∙ c.deref_mut.ensures.len) in
    sample_residues c.args.request.now c.in_ok-machine.machine.code c.modulus-modulus.result (length c.deref_mut.result.now) c.args.seed c.deref_mut-2.result.now
    (good_code c.args.request.now c.in_ok-machine.machine.code c.requires.in_range c.in_ok-machine.ensures.machine) c.requires.in_range c.modulus-modulus.ensures (filled ∙ c.fill.ensures)

pub all_counts-counts-requires : goal.all_counts-counts-requires
all_counts-counts-requires c =
    let code = c.in_ok-machine.machine.code in
    subst (λ (k : Code). AreCountable k c.transform.new.machine.state) (sym c.transform.ensures.code)
    (good_counts c.args.request.now code c.transform.new.machine.state c.deref_mut-2.result.now (turns_of c.args.schedule.now code.procs) (good_code c.args.request.now c.in_ok-machine.machine.code c.requires.in_range c.in_ok-machine.ensures.machine) c.requires.in_range c.transform.ensures.state)

pub weighted-operations-requires-clause-room : goal.weighted-operations-requires-clause-room
weighted-operations-requires-clause-room c =
    let code = c.in_ok-machine.machine.code in
    (cost_fits c.args.request.now code (weighted c.args.request.now.weight c.all_counts-counts.result) (good_code c.args.request.now c.in_ok-machine.machine.code c.requires.in_range c.in_ok-machine.ensures.machine) c.requires.in_range
    (costs c.args.request.now code c.transform.new.machine.code c.deref_mut-2.result.now (turns_of c.args.schedule.now code.procs) c.transform.new.machine.state c.all_counts-counts.result
    (good_code c.args.request.now c.in_ok-machine.machine.code c.requires.in_range c.in_ok-machine.ensures.machine) c.requires.in_range c.transform.ensures.code c.transform.ensures.state c.all_counts-counts.ensures.operations c.all_counts-counts.ensures.muls))

pub returns-clause-text : goal.returns-clause-text
returns-clause-text c =
    let code = c.in_ok-machine.machine.code in
    let m = c.modulus-modulus.result in
    let n = length c.deref_mut.result.now in
    let vector = c.in_ok-machine.vector in
    let filled : c.deref_mut-2.result.now ≡ c.fill.new.vector =
    c.deref_mut-2.ensures.value ∙ with_items_is vector c.fill.new.vector (c.fill.auto.vector ∙ c.deref_mut.ensures.len) in
    let seen : c.deref.result.now ≡ c.transform.new.vector =
    c.deref.ensures.value ∙ with_items_is (with_items vector c.fill.new.vector) c.transform.new.vector (c.transform.auto.vector ∙ c.deref_mut-2.ensures.len) in
    sampled c.args.request.now code c.transform.new.machine.code c.args.schedule.now m n c.args.seed c.deref_mut-2.result.now c.transform.new.vector c.transform.new.machine.state
    c.weighted_sum-sum.result c.all_counts-counts.result c.in_ok-text.text.items
    (good_code c.args.request.now c.in_ok-machine.machine.code c.requires.in_range c.in_ok-machine.ensures.machine) c.requires.in_range c.requires.turns
    c.transform.ensures.code c.modulus-modulus.ensures (c.deref_mut.ensures.len ∙ c.in_ok-machine.ensures.room) (filled ∙ c.fill.ensures)
    c.transform.ensures.vector c.transform.ensures.state (c.weighted_sum-sum.ensures ∙ ap (weighted_sum m) seen)
    c.all_counts-counts.ensures.operations c.all_counts-counts.ensures.muls c.all_counts-counts.ensures.loads c.all_counts-counts.ensures.stores
    (c.in_ok-text.ensures ∙ ap (λ k. sample_text c.weighted_sum-sum.result k c.all_counts-counts.result.loads c.all_counts-counts.result.stores)
    c.weighted-operations.ensures)
