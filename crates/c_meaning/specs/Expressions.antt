-- The types and the values of expressions, and what functions return.
use Rattle.std.specs.Prelude.{zero, ℤ, pos, List, [], ◌∷◌, if◌then◌else◌, slice_index_or}
use Rattle.c_meaning.specs.Types.{CType, Int, promoted, common, constant_type}
use Rattle.c_meaning.specs.Syntax.{Operator, ShiftLeft, ShiftRight, Less, AtLeast, Equal, CExpr, CExprs, Constant, Named, Element, Call, Grouped, Cast, Complement, Two, Choice, Nil, Cons, Local, Parameter, Function}
use Rattle.c_meaning.specs.Numbers.{Outcome, Undefined, Defined, ◌>>=◌, fits, converted, combined, complement}
use Rattle.c_meaning.specs.Scopes.{Scope, Words, no_words, instead, with_variable, word_at}

-- the type to which an operator converts its left operand, and in which it computes: a shift's is its own
abbrev pub left_type : Operator → CType → CType → CType
left_type ShiftLeft a b = promoted a
left_type ShiftRight a b = promoted a
left_type _ a b = common a b

abbrev pub right_type : Operator → CType → CType → CType
right_type ShiftLeft a b = promoted b
right_type ShiftRight a b = promoted b
right_type _ a b = common a b

-- the type of what it gives
abbrev pub result_type : Operator → CType → CType → CType
result_type Less a b = Int
result_type AtLeast a b = Int
result_type Equal a b = Int
result_type operator a b = left_type operator a b

abbrev pub type_of : Scope → CExpr → CType
type_of s (Constant number suffix) = constant_type suffix number
type_of s (Named name) = s.type name
type_of s (Element array indices) = s.type array
type_of s (Call function arguments) = s.type function
type_of s (Grouped of) = type_of s of
type_of s (Cast type of) = type
type_of s (Complement of) = promoted (type_of s of)
type_of s (Two operator gap left right) = result_type operator (type_of s left) (type_of s right)
type_of s (Choice test one other) = common (type_of s one) (type_of s other)

-- an operator's value for numbers of two types
abbrev pub operated : Operator → CType → CType → ℤ → ℤ → Outcome ℤ
operated operator a b x y =
    combined operator (left_type operator a b) (converted (left_type operator a b) x)
    (converted (right_type operator a b) y)

-- the one or the other, of which only one is computed, as a number of the type
abbrev pub chosen : CType → ℤ → Outcome ℤ → Outcome ℤ → Outcome ℤ
chosen type (pos zero) one other = other >>= λ x. Defined (converted type x)
chosen type _ one other = one >>= λ x. Defined (converted type x)

abbrev mutual
  pub value_of : Scope → Words → CExpr → Outcome ℤ
  value_of s words (Constant number suffix) =
      if fits (constant_type suffix number) (pos number) then Defined (pos number) else Undefined
  value_of s words (Named name) = s.value name
  value_of s words (Element array indices) =
      values_of s words indices >>= λ is. word_at s array is >>= λ place.
      slice_index_or (words (s.lies array).0) place Undefined
  value_of s words (Call function arguments) = values_of s words arguments >>= λ xs. s.function function xs
  value_of s words (Grouped of) = value_of s words of
  value_of s words (Cast type of) = value_of s words of >>= λ x. Defined (converted type x)
  value_of s words (Complement of) =
      let type = promoted (type_of s of) in value_of s words of >>= λ x. Defined (complement type (converted type x))
  value_of s words (Two operator gap left right) =
      value_of s words left >>= λ x. value_of s words right >>= λ y.
      operated operator (type_of s left) (type_of s right) x y
  value_of s words (Choice test one other) =
      value_of s words test >>= λ x.
      chosen (common (type_of s one) (type_of s other)) x (value_of s words one) (value_of s words other)

  pub values_of : Scope → Words → CExprs → Outcome (List ℤ)
  values_of s words Nil = Defined []
  values_of s words (Cons first rest) =
      value_of s words first >>= λ x. values_of s words rest >>= λ xs. Defined (x ∷ xs)

-- Functions

-- as many arguments as there are parameters
abbrev pub with_parameters : List Parameter → List ℤ → Scope → Outcome Scope
with_parameters [] [] s = Defined s
with_parameters (p ∷ parameters) (x ∷ xs) s = with_parameters parameters xs (with_variable p.type p.name x s)
with_parameters _ _ s = Undefined

abbrev pub with_locals : List Local → Scope → Outcome Scope
with_locals [] s = Defined s
with_locals (l ∷ locals) s = value_of s no_words l.value >>= λ x. with_locals locals (with_variable l.type l.name x s)

-- what a function returns for arguments, where the scope is that of its definition
abbrev pub returned : Scope → Function → List ℤ → Outcome ℤ
returned s f arguments =
    with_parameters f.parameters arguments s >>= λ inside. with_locals f.locals inside >>= λ inside.
    value_of inside no_words f.value >>= λ x. Defined (converted f.result x)

abbrev pub with_function : Function → Scope → Scope
with_function f s =
    record s { type = instead f.name f.result s.type; function = instead f.name (returned s f) s.function }
