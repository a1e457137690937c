use Rattle.std.proofs.Common.{◌≡◌, ◌<◌, ◌≤◌, ◌+◌, ◌-◌, All, arith, length, refl, ap, subst, sym, ◌∙◌}
use Rattle.std.proofs.lemmas.Result.{err_from_is_err_and}
use Rattle.std.proofs.lemmas.List.{with_items_is}
use Rattle.generate.specs.Convolver.{IsConvolver}
use Rattle.generate.specs.Emission.Whole.{conv_emission}
use Rattle.tree_model.specs.Breakdown.{breakdown_of}
use Rattle.io_edge.specs.Feed.{to_come, limit}
use Rattle.spiral_words.specs.Statuses.Fault.{status_of_conv}
use Rattle.icode.specs.Program.{plain_program}
use Rattle.runs.specs.Progress.{HasNoVector}
use Rattle.commands.specs.Convolutions.Convolved.{list_work}
use Rattle.commands.specs.Equations.Convolutions.{conv_chosen}
use Rattle.commands.proofs.ConvolutionLemmas.ConvolvedLemmas.{conv_refused, conv_refusal, convolves_lacking}
use Rattle.commands.proofs.DocumentLemmas.{with_tree}
use Rattle.commands.proofs.Inputs.StageLemmas.{stage_refused}
use Rattle.commands.proofs.Inputs.OutcomeLemmas.{told_nothing, unread_nothing}
use Rattle.commands.proofs.convolutions.listed_program.Goals as goal

pub returns-in_err-plan-clause-told : goal.returns-in_err-plan-clause-told
returns-in_err-plan-clause-told g c =
    let fault = c.in_err-plan.field-0.0 in
    let p = err_from_is_err_and c.from_residual.result c.from_residual.ensures.1 in
    rw (p.1, p.2) (λ code out. stage_refused (conv_chosen c.args.request.now) (list_work code) (limit - c.args.feed.now.taken) _ out (status_of_conv fault)
    (conv_refused c.args.request.now fault c.in_err-plan.ensures.refused) (conv_refusal fault))

pub returns-in_err-read_first-clause-told : goal.returns-in_err-read_first-clause-told
returns-in_err-read_first-clause-told g c =
    let start = to_come c.args.feed.now (g.I.Source.told c.args.input.now) in
    let reached = to_come c.read_first.new.feed (g.I.Source.told c.read_first.new.input) in
    let request = c.args.request.now in
    let fault = c.in_err-read_first.field-0.0 in
    let size : length c.deref_mut.result.now ≡ request.size = ap length c.deref_mut.ensures.value ∙ sym c.in_ok-list.list.ok.0 ∙ c.in_ok-list.ensures.len in
    let modulus : c.unwrap-modulus.result ≡ request.modulus = rw c.unwrap-modulus.ensures at c.new.ensures.value in
    let none : HasNoVector request.size request.modulus c.args.feed.now c.read_first.new.feed start reached fault =
    subst (λ m. HasNoVector request.size m c.args.feed.now c.read_first.new.feed start reached fault) modulus
    (subst (λ n. HasNoVector n c.unwrap-modulus.result c.args.feed.now c.read_first.new.feed start reached fault) size c.in_err-read_first.ensures.none) in
    let p = err_from_is_err_and c.from_residual-in_err-read_first.result c.from_residual-in_err-read_first.ensures.1 in
    rw (p.1, p.2) (λ code out. convolves_lacking code (with_tree request (breakdown_of c.in_ok-plan.plan.tree)) request c.args.feed.now c.read_first.new.feed start reached out fault
    (refl, c.in_ok-plan.ensures.planned) c.requires.within (λ other. c.in_err-read_first.ensures.within (λ e. other (let q = p.1 in cc))) none)

pub generate_conv-requires-clause-list : goal.generate_conv-requires-clause-list
generate_conv-requires-clause-list g c =
    let request = c.args.request.now in
    let size : length c.deref_mut.result.now ≡ request.size = ap length c.deref_mut.ensures.value ∙ sym c.in_ok-list.list.ok.0 ∙ c.in_ok-list.ensures.len in
    let modulus : c.unwrap-modulus.result ≡ request.modulus = rw c.unwrap-modulus.ensures at c.new.ensures.value in
    let same : c.deref.result.now ≡ c.read_first.new.vector = c.deref.ensures.value ∙ with_items_is c.in_ok-list.list c.read_first.new.vector (c.read_first.auto.vector ∙ (ap length c.deref_mut.ensures.value ∙ sym c.in_ok-list.list.ok.0)) in
    record {
      size = ap length same ∙ c.read_first.auto.vector ∙ size;
      residues = subst (All (λ v. v < request.modulus)) (sym same) (subst (λ m. All (λ v. v < m) c.read_first.new.vector) modulus c.in_ok-read_first.ensures.residues);
    }

-- the list is the first vector
pub returns-clause-program : goal.returns-clause-program
returns-clause-program g c =
    let request = c.args.request.now in
    let tree = breakdown_of c.in_ok-plan.plan.tree in
    let program = c.in_ok-program.program in
    record {
      tree = tree;
      planned = c.in_ok-plan.ensures.planned;
      letters = c.in_ok-program.ensures.letters ∙ ap (conv_emission request tree) c.deref.ensures.value;
      convolver = subst (λ h. IsConvolver request tree h (plain_program program)) c.deref.ensures.value c.in_ok-program.ensures.convolver;
    }

pub returns-in_err-list-clause-told : goal.returns-in_err-list-clause-told
returns-in_err-list-clause-told g c =
    let p = err_from_is_err_and c.from_residual-in_err-list.result c.from_residual-in_err-list.ensures.1 in
    rw (p.1, p.2) (λ code out. unread_nothing _ _ out)

pub returns-in_err-program-clause-told : goal.returns-in_err-program-clause-told
returns-in_err-program-clause-told g c =
    let progress = c.in_ok-read_first.ensures.come.progress in
    let p = err_from_is_err_and c.from_residual-in_err-program.result c.from_residual-in_err-program.ensures.1 in
    let within = c.in_ok-read_first.ensures.within (λ e. cc) in
    let few : length progress.bytes ≤ limit - c.args.feed.now.taken + 1 =
    omega (arith, progress.taken, c.requires.within, within) in
    rw (p.1, p.2) (λ code out. told_nothing _ _ _ out progress.bytes progress.consumed few)
