use Rattle.std.proofs.Common.{◌≡◌, ap, sym, subst, ◌∙◌}
use Rattle.smp_rewrite.specs.Views.{plain_smp}
use Rattle.sigma_spl.specs.Shared.Targets.{target_of}
use Rattle.vec_rewrite.specs.Laws.{IsLaned, Keeps}
use Rattle.vec_rewrite.specs.Turning.{vec_of}
use Rattle.vec_rewrite.specs.Vectors.{vec_on, vec_shares}
use Rattle.vec_rewrite.specs.Views.{plain_vec}
use Rattle.vec_rewrite.proofs.LaneLaws.{vec_keeps}
use Rattle.vec_rewrite.proofs.LaneShapes.{vec_shaped}
use Rattle.vec_rewrite.proofs.to_vec.Goals as goal

pub returns : goal.returns
returns c =
    let request = c.args.c.now in
    let h = target_of request in
    let f = plain_smp c.args.f in
    let form : plain_vec c.in_ok-formula.formula ≡ vec_of f = c.in_ok-formula.ensures in
    let keeps : Keeps request.weight request.modulus f = vec_keeps request.weight request.modulus h f c.requires in
    record {
      form = form;
      meaning = λ x. ap (λ g. vec_on request.modulus g x) form ∙ keeps.0 x;
      operations = ap (vec_shares request.weight request.modulus) form ∙ keeps.1;
      shape = subst IsLaned (sym form) (vec_shaped h f c.requires);
      fits = λ of. record {
        whole = of.smp.whole;
        shares = of.smp.shares;
        good = of.good;
        form = form ∙ ap vec_of of.smp.form;
      };
      tree = λ t of. record { valid = of.valid; tree = of.tree; form = form ∙ ap vec_of of.form };
    }
