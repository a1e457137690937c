use Rattle.std.proofs.Common.{arith}
use Rattle.matrix_meaning.specs.declared.Dimensions.TheVariants.{Two, Three, Four}
use Rattle.matrix_meaning.proofs.Parts.{both_in_range, both_valid, last_two_fit}
use Rattle.matrix_meaning.proofs.Request.parts.Goals as goal

pub overflow_mul-size : goal.overflow_mul-size
overflow_mul-size c =
    let of = c.in-Four in
    let fits = last_two_fit c.args.self.now of.a of.b of.c of.d of.is c.requires in
    omega (arith, fits)

pub returns-in-Two-clause-valid : goal.returns-in-Two-clause-valid
returns-in-Two-clause-valid c =
    let of = c.in-Two in
    both_valid c.args.self.now (Two of.a of.b) c.part.result c.part-in-Two.result of.is (λ e. absurd cc)
    c.part.ensures c.part-in-Two.ensures

pub returns-in-Three-clause-in_range : goal.returns-in-Three-clause-in_range
returns-in-Three-clause-in_range c =
    let of = c.in-Three in
    both_in_range c.args.self.now (Three of.a of.b of.c) c.part-in-Three.result c.together-others.result of.is
    (λ e. absurd cc) c.part-in-Three.ensures c.together-others.ensures c.requires

pub returns-in-Three-clause-valid : goal.returns-in-Three-clause-valid
returns-in-Three-clause-valid c =
    let of = c.in-Three in
    both_valid c.args.self.now (Three of.a of.b of.c) c.part-in-Three.result c.together-others.result of.is
    (λ e. absurd cc) c.part-in-Three.ensures c.together-others.ensures

pub returns-in-Four-clause-in_range : goal.returns-in-Four-clause-in_range
returns-in-Four-clause-in_range c =
    let of = c.in-Four in
    both_in_range c.args.self.now (Four of.a of.b of.c of.d) c.part-in-Four.result c.together.result of.is
    (λ e. absurd cc) c.part-in-Four.ensures c.together.ensures c.requires

pub returns-in-Four-clause-valid : goal.returns-in-Four-clause-valid
returns-in-Four-clause-valid c =
    let of = c.in-Four in
    both_valid c.args.self.now (Four of.a of.b of.c of.d) c.part-in-Four.result c.together.result of.is
    (λ e. absurd cc) c.part-in-Four.ensures c.together.ensures
