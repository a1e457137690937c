use Rattle.std.proofs.Common.{◌≡◌, ℕ, ◌+◌, ◌*◌, ◌^◌, ◌<◌, ◌≤◌, arith, ap, ◌∙◌, ⊎_elim, add-one}
use Rattle.std.proofs.Math.Nat.{pow-suc, pow-le-pow_right}
use Rattle.std.proofs.lemmas.Bool.{cases_lt}
use Rattle.ring_mod.proofs.quick_products.QuickModulus.new.Goals as goal

exponent_below : (n k x : ℕ) → 2 ^ n ≤ x → x < 2 ^ k → n < k
exponent_below n k x least limit =
    ⊎_elim
    (λ (lt : n < k). lt)
    (λ (le : k ≤ n). absurd (omega (arith, pow-le-pow_right {n = 2} (omega arith) {i = k} {j = n} le)))
    (cases_lt n k)

doubled : (n : ℕ) → 2 ^ (n + 1) ≡ 2 ^ n * 2
doubled n = ap (λ k. 2 ^ k) (add-one n) ∙ pow-suc 2 n

pub overflow_add-shift : goal.overflow_add-shift
overflow_add-shift c = omega (arith, exponent_below c.loop-number.shift 62 c.loop-number.number c.loop-number.invariant.steps c.loop-number.invariant.limit)

pub loop-number-preserved : goal.loop-number-preserved
loop-number-preserved c =
    let inv = c.loop-number.invariant in
    let twice = doubled c.loop-number.shift in
    record {
      scaled = omega (arith, inv.scaled, ap (λ n. c.args.modulus * n) twice);
      limit = omega (arith, c.loop-number-test.true);
      steps = omega (arith, inv.steps, twice);
      positive = omega (arith, inv.positive);
    }

pub invariant_of-result : goal.invariant_of-result
invariant_of-result c =
    let inv = c.loop-number.invariant in
    record {
      scaled = c.new-divisor.ensures ∙ inv.scaled;
      shift = exponent_below c.loop-number.shift 62 c.loop-number.number inv.steps inv.limit;
    }
