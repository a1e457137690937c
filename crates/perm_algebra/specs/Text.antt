-- How a sum is written: the constant, and then each part as a listing writes it, as in `1+v0*3+(0+v1*1)%3*2`.
use Rattle.std.specs.Prelude.{ℕ, ◌++◌, List, [], codes, decimal}
use Rattle.perm_algebra.specs.Affine.{Sum, constant, variable, remainder, quotient}

-- the constant at the end of a sum
abbrev pub constant_of : Sum → ℕ
constant_of (constant c) = c
constant_of (variable f d rest) = constant_of rest
constant_of (remainder f of m rest) = constant_of rest
constant_of (quotient f of m rest) = constant_of rest

abbrev pub parts_text : Sum → List ℕ
parts_text (constant c) = []
parts_text (variable f d rest) = codes "+v" ++ decimal d ++ codes "*" ++ decimal f ++ parts_text rest
parts_text (remainder f of m rest) =
    codes "+(" ++ decimal (constant_of of) ++ parts_text of ++ codes ")%" ++ decimal m ++ codes "*" ++ decimal f
    ++ parts_text rest
parts_text (quotient f of m rest) =
    codes "+(" ++ decimal (constant_of of) ++ parts_text of ++ codes ")/" ++ decimal m ++ codes "*" ++ decimal f
    ++ parts_text rest

abbrev pub sum_text : Sum → List ℕ
sum_text s = decimal (constant_of s) ++ parts_text s
