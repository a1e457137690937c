use Rattle.std.proofs.Common.{◌≡◌, sym, subst}
use Rattle.std.specs.Int.{IsGcd}
use Rattle.breakdown.proofs.closing.divide.Goals as goal

pub unwrap-inverse-requires : goal.unwrap-inverse-requires
unwrap-inverse-requires c =
    let modulus : c.unwrap.result ≡ c.args.modulus = rw c.unwrap.ensures at c.new.ensures.value in
    c.inverse.ensures.some.1
    (subst (λ m. IsGcd c.rows-size.result m 1) (sym modulus)
    (subst (λ n. IsGcd n c.args.modulus 1) (sym c.rows-size.ensures.value) c.requires.unit))
