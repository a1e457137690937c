-- A modulus and the divisor that is a power of two times it.
use Rattle.std.specs.Prelude.{◌≡◌, ℕ, ◌*◌, ◌^◌, ◌<◌}
use Rattle.ring_mod.specs.declared.quick_products.QuickModulus.TheInside.{Inside}

abbrev pub modulus_of : Inside → ℕ
modulus_of a = a.modulus

pub record IsScaled (a : Inside) : Type 0 where
  pub scaled : a.divisor.number ≡ a.modulus * 2 ^ a.shift
  pub shift : a.shift < 62
