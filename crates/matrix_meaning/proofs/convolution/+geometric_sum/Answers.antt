use Rattle.std.proofs.Common.{◌≡◌, ℕ, ◌+◌, ◌/◌, ◌%◌, ap, sym, arith, ◌∙◌}
use Rattle.ring_mod.specs.Residue.{power_mod}
use Rattle.ring_mod.proofs.Powers.{power_mod-zero}
use Rattle.operators.specs.Sum.{sum_below}
use Rattle.matrix_meaning.proofs.GeometricSums.{doubled_sum, doubled_power, next_sum, next_power}
use Rattle.matrix_meaning.proofs.convolution.+geometric_sum.Goals as goal

even-halves : (n : ℕ) → n % 2 ≡ 0 → n / 2 + n / 2 ≡ n
even-halves n e = omega arith

odd-halves : (n : ℕ) → (n % 2 ≡ 0 → ⊥) → (n / 2 + n / 2) + 1 ≡ n
odd-halves n e = omega arith

pub returns-then-n-eq0-clause-power : goal.returns-then-n-eq0-clause-power
returns-then-n-eq0-clause-power t c =
    c.reduce.ensures.value ∙ sym (power_mod-zero c.args.modulus.now c.args.q) ∙ ap (power_mod c.args.modulus.now c.args.q) (sym c.if-n-eq0.true)

pub returns-then-n-eq0-2-clause-sum : goal.returns-then-n-eq0-2-clause-sum
returns-then-n-eq0-2-clause-sum t c =
    doubled_sum c.args.modulus.now c.args.q (c.args.n / 2) c.geometric_sum-half_sum.result.0 c.geometric_sum-half_sum.result.1 c.mul.result c.add-sum.result
    c.geometric_sum-half_sum.ensures.sum c.geometric_sum-half_sum.ensures.power c.mul.ensures.value c.add-sum.ensures.value
    ∙ ap (λ n. sum_below n (λ l. power_mod c.args.modulus.now c.args.q l) % c.args.modulus.now) (even-halves c.args.n c.if-n-eq0-2.true)

pub returns-then-n-eq0-2-clause-power : goal.returns-then-n-eq0-2-clause-power
returns-then-n-eq0-2-clause-power t c =
    doubled_power c.args.modulus.now c.args.q (c.args.n / 2) c.geometric_sum-half_sum.result.1 c.mul-power.result
    c.geometric_sum-half_sum.ensures.power c.mul-power.ensures.value
    ∙ ap (power_mod c.args.modulus.now c.args.q) (even-halves c.args.n c.if-n-eq0-2.true)

pub returns-clause-sum : goal.returns-clause-sum
returns-clause-sum t c =
    next_sum c.args.modulus.now c.args.q (c.args.n / 2 + c.args.n / 2) c.add-sum.result c.mul-power.result c.add.result
    (doubled_sum c.args.modulus.now c.args.q (c.args.n / 2) c.geometric_sum-half_sum.result.0 c.geometric_sum-half_sum.result.1 c.mul.result c.add-sum.result
    c.geometric_sum-half_sum.ensures.sum c.geometric_sum-half_sum.ensures.power c.mul.ensures.value c.add-sum.ensures.value)
    (doubled_power c.args.modulus.now c.args.q (c.args.n / 2) c.geometric_sum-half_sum.result.1 c.mul-power.result
    c.geometric_sum-half_sum.ensures.power c.mul-power.ensures.value)
    c.add.ensures.value
    ∙ ap (λ n. sum_below n (λ l. power_mod c.args.modulus.now c.args.q l) % c.args.modulus.now) (odd-halves c.args.n c.if-n-eq0-2.false)

pub returns-clause-power : goal.returns-clause-power
returns-clause-power t c =
    next_power c.args.modulus.now c.args.q (c.args.n / 2 + c.args.n / 2) c.mul-power.result c.mul-2.result
    (doubled_power c.args.modulus.now c.args.q (c.args.n / 2) c.geometric_sum-half_sum.result.1 c.mul-power.result
    c.geometric_sum-half_sum.ensures.power c.mul-power.ensures.value)
    c.mul-2.ensures.value
    ∙ ap (power_mod c.args.modulus.now c.args.q) (odd-halves c.args.n c.if-n-eq0-2.false)
