-- Parts that divide.
use Rattle.icode.specs.Plain.{PlainPart, Rem, Quot}

-- the part is a remainder or a quotient
abbrev pub Divides : PlainPart → Type 0
Divides (Rem of divisor factor) = Unit {0}
Divides (Quot of divisor factor) = Unit {0}
Divides _ = ⊥
