use Rattle.std.proofs.Common.{◌*◌, ◌%◌, refl, sym, ap, ◌∙◌, arith, rules, mul-zero, subst}
use Rattle.std.specs.Int.{IsGcd}
use Rattle.std.proofs.Math.Nat.{mul-one, mod_self, zero-mod}
use Rattle.std.proofs.lemmas.Nat.Gcd.{IsGcd-from_zero, IsGcd-from_mod, same_from_IsGcd}
use Rattle.ring_mod.proofs.InverseLaws.{inverse_mod-is, euclid-factor}
use Rattle.ring_mod.proofs.Modulus.inverse.Goals as goal

pub loop-next-init : goal.loop-next-init
loop-next-init c = record {
  common = λ g h. IsGcd-from_mod c.args.a c.args.self.now g (subst (λ n. IsGcd n (c.args.a % c.args.self.now) g) c.get-rest.ensures.value (subst (λ n. IsGcd c.get-rest.result n g) c.reduce-next.ensures.value h));
  rest_is = ap (λ n. n % c.args.self.now) (mul-zero c.args.a) ∙ zero-mod c.args.self.now ∙ sym (mod_self c.args.self.now) ∙ ap (λ n. n % c.args.self.now) (sym c.get-rest.ensures.value);
  next_is = ap (λ n. n % c.args.self.now) (mul-one c.args.a) ∙ search rules;
  factor_in = omega (arith, c.get-rest.ensures.at_least_two);
  next_factor_in = omega (arith, c.get-rest.ensures.at_least_two);
}

pub loop-next-preserved : goal.loop-next-preserved
loop-next-preserved c = record {
  common = λ g h. c.loop-next.invariant.common g (IsGcd-from_mod c.loop-next.rest c.loop-next.next g h);
  rest_is = c.loop-next.invariant.next_is;
  next_is =
      euclid-factor c.args.self.now c.args.a c.loop-next.rest c.loop-next.next c.loop-next.factor c.loop-next.next_factor c.mul-product.result c.sub-left_factor.result
      (omega (arith, c.get-rest.ensures.at_least_two))
      (c.mul-product.ensures.value ∙ ap (λ q. (q * c.loop-next.next_factor) % c.args.self.now) c.reduce.ensures.value)
      c.sub-left_factor.ensures.inverse c.loop-next.invariant.rest_is c.loop-next.invariant.next_is;
  factor_in = c.loop-next.invariant.next_factor_in;
  next_factor_in = c.sub-left_factor.ensures.residue;
}

pub returns-then-rest-eq1-clause-some : goal.returns-then-rest-eq1-clause-some
returns-then-rest-eq1-clause-some c = (
  λ _. c.loop-next.invariant.common 1 (subst (λ n. IsGcd c.loop-next.rest c.loop-next.next n) c.if-rest-eq1.true (IsGcd-from_zero c.loop-next.rest c.loop-next.next (omega arith))),
  λ _. refl,
)

pub returns-then-rest-eq1-clause-value : goal.returns-then-rest-eq1-clause-value
returns-then-rest-eq1-clause-value c =
    sym (inverse_mod-is c.args.self.now c.args.a c.loop-next.factor c.loop-next.invariant.factor_in
    (c.loop-next.invariant.rest_is ∙ ap (λ n. n % c.args.self.now) c.if-rest-eq1.true))

pub returns-else-rest-eq1-clause-some : goal.returns-else-rest-eq1-clause-some
returns-else-rest-eq1-clause-some c = (
  λ e. absurd cc,
  λ coprime. absurd (c.if-rest-eq1.false
      (same_from_IsGcd c.args.a c.args.self.now c.loop-next.rest 1
      (c.loop-next.invariant.common c.loop-next.rest (IsGcd-from_zero c.loop-next.rest c.loop-next.next (omega arith))) coprime)),
)
