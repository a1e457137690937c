use Rattle.std.proofs.Common.{◌≡◌, ℕ, ◌+◌, ◌*◌, ◌/◌, ◌^◌, ◌<◌, ◌≤◌, arith, subst, sym}
use Rattle.ring_mod.proofs.QuickProducts.Estimate.{estimate_under, estimate_over, rest_is}
use Rattle.ring_mod.proofs.quick_products.Divisor.rest.Goals as goal

under : (x m r : ℕ) → 2 ^ 61 ≤ m → x < 2 ^ 124 → r ≡ 2 ^ 124 / m →
    x / 2305843009213693952 * r / 9223372036854775808 * m ≤ x
under x m r least small e =
    subst (λ u. x / 2305843009213693952 * u / 9223372036854775808 * m ≤ x) (sym e)
    (estimate_under 2305843009213693952 9223372036854775808 m x (omega arith) (omega arith) (omega arith) (omega arith) (omega arith))

over : (x m r : ℕ) → 2 ^ 61 ≤ m → x < 2 ^ 124 → r ≡ 2 ^ 124 / m →
    x < (x / 2305843009213693952 * r / 9223372036854775808 + 3) * m
over x m r least small e =
    subst (λ u. x < (x / 2305843009213693952 * u / 9223372036854775808 + 3) * m) (sym e)
    (estimate_over 2305843009213693952 9223372036854775808 m x (omega arith) (omega arith) (omega arith) (omega arith) (omega arith))

pub overflow_sub-rest : goal.overflow_sub-rest
overflow_sub-rest c =
    let d = c.args.self.now in
    under c.args.x d.number d.reciprocal d.least c.requires.small d.quotient

pub overflow_cast-rest-3 : goal.overflow_cast-rest-3
overflow_cast-rest-3 c =
    let d = c.args.self.now in
    let q = c.args.x / 2305843009213693952 * d.reciprocal / 9223372036854775808 in
    omega (arith, over c.args.x d.number d.reciprocal d.least c.requires.small d.quotient, d.limit)

pub returns : goal.returns
returns c =
    let d = c.args.self.now in
    let q = c.args.x / 2305843009213693952 * d.reciprocal / 9223372036854775808 in
    rest_is c.args.x d.number q c.less.result c.less-2.result
    (under c.args.x d.number d.reciprocal d.least c.requires.small d.quotient)
    (over c.args.x d.number d.reciprocal d.least c.requires.small d.quotient)
    c.less.ensures.below c.less.ensures.above c.less-2.ensures.below c.less-2.ensures.above
