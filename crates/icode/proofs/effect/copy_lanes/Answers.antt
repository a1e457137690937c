use Rattle.std.proofs.Common.{◌≡◌, ℕ, subst, sym, refl, get_or}
use Rattle.std.specs.Prelude.{slice_set}
use Rattle.icode.specs.Machine.{with_words, words_at}
use Rattle.icode.proofs.effect.copy_lanes.Goals as goal

pub returns-then-lanes-eq1 : goal.returns-then-lanes-eq1
returns-then-lanes-eq1 c =
    subst (λ (n : ℕ). slice_set c.args.to.now c.args.place (get_or c.args.from.now c.args.at 0) ≡ with_words c.args.to.now c.args.place (words_at n c.args.from.now c.args.at)) (sym c.if-lanes-eq1.true) refl
