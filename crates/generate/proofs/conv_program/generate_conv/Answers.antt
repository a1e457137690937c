use Rattle.std.proofs.Common.{◌≡◌, sym, ap, ap₂, ◌∙◌, subst}
use Rattle.matrix_meaning.specs.declared.Request.{Request}
use Rattle.matrix_meaning.specs.Valid.{IsValid}
use Rattle.sigma_spl.specs.Shared.Ready.{IsReady}
use Rattle.code_gen.specs.PassCode.Program.{program_of}
use Rattle.sigma_spl.specs.Views.{plain_merged}
use Rattle.tree_model.specs.Breakdown.{breakdown_of}
use Rattle.tree_model.specs.Chosen.{IsWholeTree}
use Rattle.sigma_spl.specs.Shared.Targets.{target_of}
use Rattle.generate.specs.ConvLetters.{conv_merged}
use Rattle.generate.specs.Factors.{factors_of}
use Rattle.generate.proofs.ConvGoodness.{inverse_tree, inverse_valid, can-convolve, joined-same, planned-valid}
use Rattle.generate.specs.Convolver.{IsConvolver}
use Rattle.generate.proofs.Emission.Programs.{conv_programs_are_emissions}
use Rattle.generate.proofs.GoodPrograms.{conv_programs_convolve}
use Rattle.generate.proofs.conv_program.generate_conv.Goals as goal
use Rattle.generate.proofs.conv_program.generate_conv.Goals.{In_ok-joined}

pub new-backward-requires : goal.new-backward-requires
new-backward-requires c =
    let r = c.args.request.now in
    let valid = planned-valid r (breakdown_of c.args.plan.now.tree) c.requires.request c.requires.plan in
    subst IsValid (sym c.inverted.ensures.value) (inverse_valid r c.requires.request valid)

pub merge_tree-requires : goal.merge_tree-requires
merge_tree-requires c =
    subst (λ (z : Request). IsWholeTree z (breakdown_of c.args.plan.now.tree)) (sym c.new-forward.ensures)
    c.requires.plan.2.tree

pub list_factors-requires-clause-tree : goal.list_factors-requires-clause-tree
list_factors-requires-clause-tree c =
    subst (λ (z : Request). IsWholeTree z (breakdown_of c.args.plan.now.tree)) (sym c.new-forward.ensures) c.requires.plan.2.tree

pub merge_tree-requires-2 : goal.merge_tree-requires-2
merge_tree-requires-2 c =
    let r = c.args.request.now in
    let t = breakdown_of c.args.plan.now.tree in
    let valid = planned-valid r t c.requires.request c.requires.plan in
    subst (λ (z : Request). IsWholeTree z t) (sym (c.new-backward.ensures ∙ c.inverted.ensures.value))
    (inverse_tree r c.requires.request valid t c.requires.plan.2.tree)

-- both requests are for one machine
pub emit_joined-requires-clause-alike : goal.emit_joined-requires-clause-alike
emit_joined-requires-clause-alike c =
    ap target_of c.new-forward.ensures ∙ sym (ap target_of (c.new-backward.ensures ∙ c.inverted.ensures.value))

-- the passes that are joined are those of the convolution
joined-are : (c : In_ok-joined) → plain_merged c.in_ok-joined.joined
    ≡ conv_merged c.args.request.now (breakdown_of c.args.plan.now.tree) (factors_of c.args.request.now c.args.h.now)
joined-are c =
    joined-same c.args.request.now c.new-forward.result c.new-backward.result (breakdown_of c.args.plan.now.tree)
    c.args.h.now c.in_ok-diagonal.diagonal.items
    (plain_merged c.in_ok-first.first) (plain_merged c.in_ok-second.second) (plain_merged c.in_ok-joined.joined)
    c.new-forward.ensures (c.new-backward.ensures ∙ c.inverted.ensures.value) c.in_ok-diagonal.ensures.value
    c.in_ok-first.ensures.merged c.in_ok-second.ensures.merged c.in_ok-joined.ensures.joined

pub emit_joined-requires-clause-ready : goal.emit_joined-requires-clause-ready
emit_joined-requires-clause-ready c =
    let r = c.args.request.now in
    let t = breakdown_of c.args.plan.now.tree in
    let valid = planned-valid r t c.requires.request c.requires.plan in
    subst (λ (z : Request). IsReady (target_of z) (plain_merged c.in_ok-joined.joined)) (sym c.new-forward.ensures)
    (subst (IsReady (target_of r)) (sym (joined-are (goal.at.emit_joined-requires-clause-ready c).In_ok-joined))
    (can-convolve r t c.args.h.now c.requires.request valid c.requires.plan.2.tree))

-- the program is that of the rules of emission
pub returns-clause-letters : goal.returns-clause-letters
returns-clause-letters c =
    c.in_ok-program.ensures.code
    ∙ ap₂ (λ z passes. program_of (target_of z) passes) c.new-forward.ensures
    (joined-are (goal.at.returns-clause-letters c).In_ok-joined)
    ∙ conv_programs_are_emissions c.args.request.now (breakdown_of c.args.plan.now.tree) c.args.h.now
    c.requires.request c.requires.plan

-- which is one for convolutions
pub returns-clause-convolver : goal.returns-clause-convolver
returns-clause-convolver c =
    let r = c.args.request.now in
    let t = breakdown_of c.args.plan.now.tree in
    subst (IsConvolver r t c.args.h.now) (sym (returns-clause-letters c))
    (conv_programs_convolve r t c.args.h.now c.requires.request c.requires.plan)
