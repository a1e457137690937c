-- What is known of an answer that may be refused, as `ForSome` and `ForNone` say it of an option.
use Rattle.std.specs.Prelude.{Option, Result, IfOk}
use Rattle.std.specs.Option.{ForNone, ForSome}

-- P of what was made
abbrev pub IfMade : {T E : Type 0} → Result (Option T) E → (T → Type 0) → Type 0
IfMade r P = IfOk r (λ o. ForSome o P)

-- P, if that was refused
abbrev pub IfRefused : {T E : Type 0} → Result (Option T) E → Type 0 → Type 0
IfRefused r P = IfOk r (λ o. ForNone o P)
