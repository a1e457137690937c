use Rattle.std.proofs.Common.{sym, ap, ◌∙◌, rules, subst}
use Rattle.std.specs.Prelude.{slice_index}
use Rattle.index_fn.specs.Index.{mapping_of}
use Rattle.index_fn.specs.Mapping.{IsDefinedAt}
use Rattle.perm_algebra.specs.Affine.{constant, simplified}
use Rattle.perm_algebra.specs.Contract.{EachValue, IsSimplified}
use Rattle.perm_algebra.specs.Room.{has_room}
use Rattle.perm_algebra.specs.Views.{plain_sum}
use Rattle.loop_nests.proofs.LimitLemmas.Constants.{made_is, number_defined, number_form, number_room}
use Rattle.loop_nests.proofs.limits.rooms.+simplify_in_room.Goals as goal

pub at-requires-clause-defined : goal.at-requires-clause-defined
at-requires-clause-defined t c =
    let f = mapping_of c.args.f.now in
    number_defined (slice_index c.args.counts.now) f c.in-Constant.number
    (subst (EachValue c.args.counts.now (IsDefinedAt f)) c.in-Constant.is c.requires.defined)

pub returns-in-Constant-clause-some : goal.returns-in-Constant-clause-some
returns-in-Constant-clause-some t c = λ x e.
    let cs = slice_index c.args.counts.now in
    let f = mapping_of c.args.f.now in
    let number = c.in-Constant.number in
    let there = number_defined cs f number
    (subst (EachValue c.args.counts.now (IsDefinedAt f)) c.in-Constant.is c.requires.defined) in
    made_is (IsSimplified c.args.counts.now f c.args.arg.now) _ x e
    (ap constant c.at.ensures
    ∙ sym (number_form cs f number c.requires.formed c.requires.no_list there)
    ∙ ap (λ a. simplified cs f (plain_sum a)) (sym c.in-Constant.is))

pub returns-in-Constant-clause-room : goal.returns-in-Constant-clause-room
returns-in-Constant-clause-room t c = λ x e.
    let cs = slice_index c.args.counts.now in
    let f = mapping_of c.args.f.now in
    let number = c.in-Constant.number in
    let there = number_defined cs f number
    (subst (EachValue c.args.counts.now (IsDefinedAt f)) c.in-Constant.is c.requires.defined) in
    ap (λ a. has_room cs f (plain_sum a)) c.in-Constant.is
    ∙ number_room cs f number c.requires.formed c.requires.no_list there

pub returns-in_ok-line-in-Stride-clause-affine : goal.returns-in_ok-line-in-Stride-clause-affine
returns-in_ok-line-in-Stride-clause-affine t c =
    c.in_ok-line-in-Stride.ensures.affine c.args.counts.now c.requires.affine

pub returns-in-Some-3-clause-affine : goal.returns-in-Some-3-clause-affine
returns-in-Some-3-clause-affine t c = c.scale_and_add.ensures.affine c.args.counts.now (search rules) (search rules)
