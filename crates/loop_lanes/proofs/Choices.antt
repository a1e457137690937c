-- What tests, one after another, leave of a choice.
use Rattle.std.proofs.Common.{◌≡◌, Bool, true, false, Option, Some, None, refl, sym, ap, ◌∙◌}
use Rattle.std.specs.Prelude.{◌&&◌, ◌||◌, if◌then◌else◌}

pub fails_first : (x a more : Bool) → x ≡ a → x ≡ false → x ≡ (a && more)
fails_first x true more e f = cc
fails_first x false more e f = e

pub holds_all : (x a y b z c w d : Bool) → x ≡ a → x ≡ true → y ≡ b → y ≡ true → z ≡ c → z ≡ true → w ≡ d →
    w ≡ (a && (b && (c && d)))
holds_all x true y true z true w d ea fa eb fb ec fc e = e
holds_all x false y b z c w d ea fa eb fb ec fc e = cc
holds_all x true y false z c w d ea fa eb fb ec fc e = cc
holds_all x true y true z false w d ea fa eb fb ec fc e = cc

-- what is made, if a test holds
pub made_if : {A : Type 0} (t : Bool) (x y : A) → Some y ≡ (if t then Some x else None) → (t ≡ true) × (y ≡ x)
made_if true x y h = (refl, cc)
made_if false x y h = cc

pub held : {A : Type 0} (t : Bool) (x y : A) → t ≡ true → y ≡ x → Some y ≡ (if t then Some x else None)
held true x y h e = ap (λ z. Some z) e
held false x y h e = cc

-- of two ways, after a test of both, the first that can be gone
pub first_made : {A : Type 0} (l a t u : Bool) (x y : A) (first : Option A) (made : A) → l ≡ true → l ≡ a →
    first ≡ (if t then Some x else None) → first ≡ Some made →
    Some made ≡ (if (a && (t || u)) then Some (if t then x else y) else None)
first_made l true true u x y first made holds e h is = sym is ∙ h
first_made l true false u x y first made holds e h is = cc
first_made l false t u x y first made holds e h is = cc

pub second_made : {A : Type 0} (l a t u : Bool) (x y : A) (first second : Option A) → l ≡ true → l ≡ a →
    first ≡ (if t then Some x else None) → first ≡ None → second ≡ (if u then Some y else None) →
    second ≡ (if (a && (t || u)) then Some (if t then x else y) else None)
second_made l true true u x y first second holds e h is more = cc
second_made l true false u x y first second holds e h is more = more
second_made l false t u x y first second holds e h is more = cc

-- of two ways, of which the second has a test of its own
pub last_made : {A : Type 0} (t b u : Bool) (x y : A) (first second : Option A) →
    first ≡ (if t then Some x else None) → first ≡ None →
    second ≡ (if b then (if u then Some y else None) else None) →
    second ≡ (if (t || (b && u)) then Some (if t then x else y) else None)
last_made true b u x y first second h is more = cc
last_made false true u x y first second h is more = more
last_made false false u x y first second h is more = more
