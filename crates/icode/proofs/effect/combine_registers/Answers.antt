use Rattle.std.proofs.Common.{arith, ◌≡◌, ℕ, ◌*◌, ◌∙◌, ap, subst, sym, refl, get_or}
use Rattle.std.specs.Prelude.{slice_set}
use Rattle.icode.specs.Machine.{with_words, words_at, lane_by_lane}
use Rattle.icode.specs.Operation.{operated}
use Rattle.icode.proofs.effect.combine_registers.Goals as goal

pub returns-then-lanes-eq1 : goal.returns-then-lanes-eq1
returns-then-lanes-eq1 c =
    let lanes = c.args.shape.now.lanes in
    let f = operated c.args.operation c.args.shape.now.modulus in
    let registers = c.args.registers.now in
    let to = c.args.register * lanes in
    let left = c.args.left * lanes in
    let right = c.args.right * lanes in
    ap (slice_set registers to) c.operate.ensures
    ∙ subst (λ (n : ℕ). slice_set registers to (f (get_or registers left 0) (get_or registers right 0)) ≡ with_words registers to (lane_by_lane f (words_at n registers left) (words_at n registers right))) (sym c.if-lanes-eq1.true) refl

pub combine-values-requires-clause-left_in : goal.combine-values-requires-clause-left_in
combine-values-requires-clause-left_in c = c.read_lanes-x.ensures.below c.args.shape.now.modulus (omega (arith, c.requires.residues 0)) c.requires.residues

pub combine-values-requires-clause-right_in : goal.combine-values-requires-clause-right_in
combine-values-requires-clause-right_in c = c.read_lanes-y.ensures.below c.args.shape.now.modulus (omega (arith, c.requires.residues 0)) c.requires.residues
