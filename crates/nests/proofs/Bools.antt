-- Tests of two things that become tests of what these become, and what holds whatever a test says.
use Rattle.std.proofs.Common.{◌≡◌, Bool, true, false, ◌&&◌, refl}
use Rattle.std.specs.Prelude.{if◌then◌else◌}
use Rattle.std.proofs.lemmas.Bool.{and_from}
use Rattle.icode.proofs.Bools.{both_true}

-- both become others
pub both_kept : {a b c d : Bool} → (a ≡ true → c ≡ true) → (b ≡ true → d ≡ true) → (a && b) ≡ true → (c && d) ≡ true
both_kept {a} {b} {c} {d} f g h = let two = both_true a b h in and_from c d (f two.0) (g two.1)

-- the first stays
pub later_kept : {b d : Bool} (a : Bool) → (b ≡ true → d ≡ true) → (a && b) ≡ true → (a && d) ≡ true
later_kept {b} {d} a g h = let two = both_true a b h in and_from a d two.0 (g two.1)

-- what holds of either, where the test says so, holds of the one that is taken
pub by_test : {X : Type 0} (P : X → Type 0) (t : Bool) (x y : X) → (t ≡ true → P x) → (t ≡ false → P y) →
    P (if t then x else y)
by_test P true x y first second = first refl
by_test P false x y first second = second refl

-- tests of three things, and of four
pub three_true : (a b c : Bool) → (a && (b && c)) ≡ true → (a ≡ true) × (b ≡ true) × (c ≡ true)
three_true a b c h = let two = both_true a (b && c) h in let more = both_true b c two.1 in (two.0, more.0, more.1)

pub four_true : (a b c d : Bool) → (a && (b && (c && d))) ≡ true →
    (a ≡ true) × (b ≡ true) × (c ≡ true) × (d ≡ true)
four_true a b c d h =
    let two = both_true a (b && (c && d)) h in let more = three_true b c d two.1 in (two.0, more.0, more.1, more.2)
