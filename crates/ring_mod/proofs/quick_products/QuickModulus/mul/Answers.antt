use Rattle.std.proofs.Common.{◌*◌, ◌/◌, ◌%◌, ◌^◌, ◌<◌, ◌≤◌, arith, ap, ap₂, ◌∙◌, mod-eq_of_lt}
use Rattle.std.proofs.lemmas.Nat.{pow_pos, mul-le}
use Rattle.ring_mod.specs.Residue.{product_mod}
use Rattle.ring_mod.proofs.QuickProducts.Estimate.{scaled_rest}
use Rattle.ring_mod.proofs.quick_products.QuickModulus.mul.Goals as goal

pub returns-clause-value : goal.returns-clause-value
returns-clause-value c =
    let q = c.self.inside in
    let a = c.args.a in
    let b = c.args.b in
    let s = 2 ^ q.shift in
    let below : a < q.modulus = omega (arith, c.requires.a_in, c.self.view_is) in
    let fits : a * s ≤ q.modulus * s = mul-le a s q.modulus s (omega arith) (omega arith) in
    let small : a * s < 18446744073709551616 = omega (arith, fits, c.self.invariant.scaled, q.divisor.limit) in
    ap (λ n. n / s) (c.rest.ensures ∙ ap₂ (λ n d. n * b % d) (mod-eq_of_lt small) c.self.invariant.scaled)
    ∙ (scaled_rest a b q.modulus s (omega arith) (pow_pos q.shift)
    ∙ ap (λ m. product_mod m a b) c.self.view_is)
