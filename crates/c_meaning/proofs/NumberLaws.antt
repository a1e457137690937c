-- What operators make of numbers that are not below zero, and of results for which there is room.
use Rattle.std.proofs.Common.{◌≡◌, ℕ, zero, suc, ◌+◌, ◌*◌, ◌/◌, ◌%◌, ◌^◌, ◌<◌, ◌≤◌, Bool, true, false, pos, arith, div-le_self, mod-eq_of_lt, refl, ap, ap₂, ◌∙◌}
use Rattle.std.specs.Prelude.{nat_le, nat_lt, if◌then◌else◌}
use Rattle.std.proofs.lemmas.Bool.{leb-true, ltb-true, lt-ltb}
use Rattle.c_meaning.specs.Types.{CType, Short, Int, Half, Long, Word, Wide, width, is_signed, room, promoted, common, constant_type, Bare}
use Rattle.c_meaning.specs.Syntax.{Times, Over, Modulo, Plus}
use Rattle.c_meaning.specs.Numbers.{◌>>=◌, Defined, Undefined, of_bits, converted, settled, combined}
use Rattle.c_meaning.specs.Expressions.{operated}

-- each type has room for what its width holds at most
room_test : (type : CType) → nat_le (room type) (2 ^ width type) ≡ true
room_test Short = refl
room_test _ = refl

room_within : (type : CType) → room type ≤ 2 ^ width type
room_within type = leb-true (room type) (2 ^ width type) (room_test type)

widens_test : (a b : CType) → nat_le (room (promoted a)) (room (common a b)) ≡ true
widens_test Short Short = refl
widens_test Int Short = refl
widens_test Half Short = refl
widens_test Long Short = refl
widens_test Word Short = refl
widens_test Wide Short = refl
widens_test _ _ = refl

pub widens : (a b : CType) → room (promoted a) ≤ room (common a b)
widens a b = leb-true (room (promoted a)) (room (common a b)) (widens_test a b)

-- a type has no more room than the type to which it is promoted
promotes_test : (type : CType) → nat_le (room type) (room (promoted type)) ≡ true
promotes_test Short = refl
promotes_test _ = refl

pub promotes : (type : CType) → room type ≤ room (promoted type)
promotes type = leb-true (room type) (room (promoted type)) (promotes_test type)

-- and that has at least int's
least_test : (type : CType) → nat_le (2 ^ 31) (room (promoted type)) ≡ true
least_test Short = refl
least_test _ = refl

pub least_room : (type : CType) → 2 ^ 31 ≤ room (promoted type)
least_room type = leb-true (2 ^ 31) (room (promoted type)) (least_test type)

right_test : (a b : CType) → nat_le (room (promoted b)) (room (common a b)) ≡ true
right_test Short Short = refl
right_test Int Short = refl
right_test Half Short = refl
right_test Long Short = refl
right_test Word Short = refl
right_test Wide Short = refl
right_test _ _ = refl

pub widens_right : (a b : CType) → room (promoted b) ≤ room (common a b)
widens_right a b = leb-true (room (promoted b)) (room (common a b)) (right_test a b)

-- to promote twice is to promote once
pub promoted_common : (a b : CType) → promoted (common a b) ≡ common a b
promoted_common Short Short = refl
promoted_common Int Short = refl
promoted_common Half Short = refl
promoted_common Long Short = refl
promoted_common Word Short = refl
promoted_common Wide Short = refl
promoted_common _ _ = refl

in_room : (n m k : ℕ) → n < m → m ≤ k → n % k ≡ n
in_room n m k h g = mod-eq_of_lt (omega arith)

first_of_two : {A : Type 0} (b : Bool) (x y : A) → b ≡ true → (if b then x else y) ≡ x
first_of_two b x y e = ap (λ b. if b then x else y) e

pub converted_is : (type : CType) (n : ℕ) → n < room type → converted type (pos n) ≡ pos n
converted_is type n h =
    ap (of_bits type) (in_room n (room type) (2 ^ width type) h (room_within type))
    ∙ first_of_two (nat_lt n (room type)) _ _ (lt-ltb n (room type) h)

absurd_lt : 0 < 0 → ⊥
absurd_lt h = omega arith

quotient_below : (x y m : ℕ) → x < m → x / suc y < m
quotient_below x y m h = omega (arith, div-le_self x (suc y))

either : {A : Type 0} (b : Bool) (x y z : A) → x ≡ z → y ≡ z → (if b then x else y) ≡ z
either true x y z h g = h
either false x y z h g = g

pub settled_is : (type : CType) (n : ℕ) → n < room type → settled type (pos n) ≡ Defined (pos n)
settled_is type n h =
    either (is_signed type) _ _ (Defined (pos n)) (ap (λ b. if b then Defined (pos n) else Undefined) (lt-ltb n (room type) h))
    (ap (λ z. Defined z) (converted_is type n h))

left_room : (a b : CType) (x : ℕ) → x < room a → x < room (common a b)
left_room a b x h = omega (arith, promotes a, widens a b)

right_room : (a b : CType) (y : ℕ) → y < room b → y < room (common a b)
right_room a b y h = omega (arith, promotes b, widens_right a b)

pub sum_is : (a b : CType) (x y : ℕ) → x < room a → y < room b → x + y < room (common a b) →
    operated Plus a b (pos x) (pos y) ≡ Defined (pos (x + y))
sum_is a b x y h g small =
    ap₂ (λ u v. combined Plus (common a b) u v) (converted_is _ x (left_room a b x h)) (converted_is _ y (right_room a b y g))
    ∙ settled_is (common a b) (x + y) small

pub product_is : (a b : CType) (x y : ℕ) → x < room a → y < room b → x * y < room (common a b) →
    operated Times a b (pos x) (pos y) ≡ Defined (pos (x * y))
product_is a b x y h g small =
    ap₂ (λ u v. combined Times (common a b) u v) (converted_is _ x (left_room a b x h)) (converted_is _ y (right_room a b y g))
    ∙ settled_is (common a b) (x * y) small

over_is : (type : CType) (x y : ℕ) → x < room type → 0 < y → combined Over type (pos x) (pos y) ≡ Defined (pos (x / y))
over_is type x zero h g = absurd (absurd_lt g)
over_is type x (suc y) h g = ap (λ s. s >>= λ q. Defined (pos (x / suc y))) (settled_is type (x / suc y) (quotient_below x y (room type) h))

modulo_is : (type : CType) (x y : ℕ) → x < room type → 0 < y → combined Modulo type (pos x) (pos y) ≡ Defined (pos (x % y))
modulo_is type x zero h g = absurd (absurd_lt g)
modulo_is type x (suc y) h g = ap (λ s. s >>= λ q. Defined (pos (x % suc y))) (settled_is type (x / suc y) (quotient_below x y (room type) h))

pub quotient_is : (a b : CType) (x y : ℕ) → x < room a → y < room b → 0 < y →
    operated Over a b (pos x) (pos y) ≡ Defined (pos (x / y))
quotient_is a b x y h g positive =
    ap₂ (λ u v. combined Over (common a b) u v) (converted_is _ x (left_room a b x h)) (converted_is _ y (right_room a b y g))
    ∙ over_is (common a b) x y (left_room a b x h) positive

pub remainder_is : (a b : CType) (x y : ℕ) → x < room a → y < room b → 0 < y →
    operated Modulo a b (pos x) (pos y) ≡ Defined (pos (x % y))
remainder_is a b x y h g positive =
    ap₂ (λ u v. combined Modulo (common a b) u v) (converted_is _ x (left_room a b x h)) (converted_is _ y (right_room a b y g))
    ∙ modulo_is (common a b) x y (left_room a b x h) positive

-- a constant without a suffix has its number, if a long has
pub constant_below : (n : ℕ) → n < 2 ^ 63 → n < room (constant_type Bare n)
constant_below n h = by_test (nat_lt n (2 ^ 31)) refl
  where
    by_test : (b : Bool) → nat_lt n (2 ^ 31) ≡ b → n < room (if b then Int else Long)
    by_test true e = ltb-true n (2 ^ 31) e
    by_test false e = h
