-- What the functions of a C text compute.
use Rattle.std.specs.Prelude.{◌≡◌, ℕ, ◌^◌, ◌<◌, [], ◌∷◌, true, pos, flat_map}
use Rattle.ring_mod.specs.Residue.{sum_mod, difference_mod, negation_mod, product_mod}
use Rattle.c_print.specs.CText.{functions_text}
use Rattle.c_meaning.specs.Types.{Word}
use Rattle.c_meaning.specs.Syntax.{is_read_so}
use Rattle.c_meaning.specs.Numbers.{Defined}
use Rattle.c_meaning.specs.Scopes.{Scope}
use Rattle.c_meaning.specs.Expressions.{returned}
use Rattle.c_meaning.specs.Spelling.{function_text}
use Rattle.c_meaning.specs.Functions.{modulus_name, add_function, sub_function, mul_function, functions}

-- the text of the functions is that of their trees, and C's grammar reads the values so
abbrev pub FunctionsAreTrees : Type 0
FunctionsAreTrees =
    (functions_text ≡ flat_map function_text functions)
    × (is_read_so add_function.value ≡ true)
    × (is_read_so sub_function.value ≡ true)
    × (is_read_so mul_function.value ≡ true)

-- the modulus is a word
pub record HasModulus (s : Scope) (m : ℕ) : Type 0 where
  pub type : s.type modulus_name ≡ Word
  pub value : s.value modulus_name ≡ Defined (pos m)

-- for residues the functions have no undefined step, and return the sum, the difference, the negation and the product
abbrev pub FunctionsCompute : Type 0
FunctionsCompute =
    (s : Scope) (m : ℕ) → HasModulus s m → m < 2 ^ 62 → (a b : ℕ) → a < m → b < m →
    (returned s add_function (pos a ∷ pos b ∷ []) ≡ Defined (pos (sum_mod m a b)))
    × (returned s sub_function (pos a ∷ pos b ∷ []) ≡ Defined (pos (difference_mod m a b)))
    × (returned s sub_function (pos 0 ∷ pos a ∷ []) ≡ Defined (pos (negation_mod m a)))
    × (returned s mul_function (pos a ∷ pos b ∷ []) ≡ Defined (pos (product_mod m a b)))
