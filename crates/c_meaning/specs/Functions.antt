-- The functions of the C text of a program: the sum, the difference and the product of two residues modulo M.
use Rattle.std.specs.Prelude.{List, [], ◌∷◌, codes}
use Rattle.c_meaning.specs.Types.{Word, Wide}
use Rattle.c_meaning.specs.Syntax.{Name, word, Times, Modulo, Plus, Minus, AtLeast, Spaced, CExpr, Named, Grouped, Cast, Two, Choice, Parameter, Function}

-- the macro of the modulus
abbrev pub modulus_name : Name
modulus_name = word (codes "M")

abbrev pub modulus : CExpr
modulus = Named modulus_name

abbrev pub first : Name
first = word (codes "a")

abbrev pub second : Name
second = word (codes "b")

abbrev pub sum : Name
sum = word (codes "c")

abbrev pub two_words : List Parameter
two_words = record { type = Word; name = first } ∷ record { type = Word; name = second } ∷ []

abbrev pub add_function : Function
add_function =
    record {
      result = Word;
      name = word (codes "add");
      parameters = two_words;
      locals = record { type = Word; name = sum; value = Two Plus Spaced (Named first) (Named second) } ∷ [];
      value = Choice (Two AtLeast Spaced (Named sum) modulus) (Two Minus Spaced (Named sum) modulus) (Named sum);
    }

abbrev pub sub_function : Function
sub_function =
    record {
      result = Word;
      name = word (codes "sub");
      parameters = two_words;
      locals = [];
      value =
          Choice (Two AtLeast Spaced (Named first) (Named second)) (Two Minus Spaced (Named first) (Named second))
          (Two Minus Spaced (Two Plus Spaced (Named first) modulus) (Named second));
    }

abbrev pub mul_function : Function
mul_function =
    record {
      result = Word;
      name = word (codes "mul");
      parameters = two_words;
      locals = [];
      value =
          Cast Word (Grouped (Two Modulo Spaced (Two Times Spaced (Cast Wide (Named first)) (Named second)) modulus));
    }

abbrev pub functions : List Function
functions = add_function ∷ sub_function ∷ mul_function ∷ []
