-- The tests of room say what they test.
use Rattle.std.proofs.Common.{◌≡◌, refl, ℕ, ◌*◌, ◌<◌, ◌↔◌, Bool, true, false, arith}
use Rattle.std.specs.Prelude.{nat_lt, ◌&&◌}
use Rattle.std.proofs.lemmas.Bool.Decides.{nat_tests}
use Rattle.index_fn.specs.Mapping.{Same, Always, Line, Strided, ThomasIn, ThomasOut, ThomasBack, Listed, Paired, After}
use Rattle.perm_algebra.specs.Affine.{Sum, constant, variable, remainder, quotient}
use Rattle.perm_algebra.specs.Room.{HasTop, CanMix, has_top, can_mix, RoomDecided}

unit : (true ≡ true) ↔ Unit {0}
unit = (λ h. tt, λ h. refl)

below : (a b : ℕ) → (nat_lt a b ≡ true) ↔ (a < b)
below a b = (λ h. grind (arith, nat_tests), λ h. grind (arith, nat_tests))

both : (P Q : Type 0) (a b : Bool) → (a ≡ true) ↔ P → (b ≡ true) ↔ Q → ((a && b) ≡ true) ↔ (P × Q)
both P Q true b p q = (λ h. (p.0 refl, q.0 h), λ h. q.1 h.1)
both P Q false b p q = (λ h. absurd (cc), λ h. p.1 h.0)

three : (P Q R : Type 0) (a b c : Bool) → (a ≡ true) ↔ P → (b ≡ true) ↔ Q → (c ≡ true) ↔ R →
    ((a && (b && c)) ≡ true) ↔ (P × Q × R)
three P Q R a b c p q r =
    let inner = both Q R b c q r in
    let all = both P (Q × R) a (b && c) p inner in (λ h. let w = all.0 h in (w.0, w.1.0, w.1.1), λ h. all.1 (h.0, (h.1, h.2)))

four : (P Q R S : Type 0) (a b c d : Bool) → (a ≡ true) ↔ P → (b ≡ true) ↔ Q → (c ≡ true) ↔ R → (d ≡ true) ↔ S →
    ((a && (b && (c && d))) ≡ true) ↔ (P × Q × R × S)
four P Q R S a b c d p q r s =
    let inner = three Q R S b c d q r s in
    let all = both P (Q × R × S) a (b && (c && d)) p inner in
    (λ h. let w = all.0 h in (w.0, w.1.0, w.1.1, w.1.2), λ h. all.1 (h.0, (h.1, h.2, h.3)))

five : (P Q R S T : Type 0) (a b c d e : Bool) → (a ≡ true) ↔ P → (b ≡ true) ↔ Q → (c ≡ true) ↔ R → (d ≡ true) ↔ S →
    (e ≡ true) ↔ T → ((a && (b && (c && (d && e)))) ≡ true) ↔ (P × Q × R × S × T)
five P Q R S T a b c d e p q r s t =
    let inner = four Q R S T b c d e q r s t in
    let all = both P (Q × R × S × T) a (b && (c && (d && e))) p inner in
    (λ h. let w = all.0 h in (w.0, w.1.0, w.1.1, w.1.2, w.1.3), λ h. all.1 (h.0, (h.1, h.2, h.3, h.4)))

pub top_tested : (cs : ℕ → ℕ) (e : Sum) → (has_top cs e ≡ true) ↔ HasTop cs e
top_tested cs (constant c) = unit
top_tested cs (variable f d rest) = both _ _ _ _ (below _ _) (top_tested cs rest)
top_tested cs (remainder f of m rest) = both _ _ _ _ (below _ _) (top_tested cs rest)
top_tested cs (quotient f of m rest) = three _ _ _ _ _ _ (below _ _) (top_tested cs of) (top_tested cs rest)

mix_tested : (cs : ℕ → ℕ) (n a b : ℕ) (e g : Sum) → (can_mix cs n a b e g ≡ true) ↔ CanMix cs n a b e g
mix_tested cs n a b e g = four _ _ _ _ _ _ _ _ (below _ _) (below _ _) (below _ _) (top_tested cs _)

pub room_decided : RoomDecided
room_decided cs Same e = unit
room_decided cs (Always v) e = unit
room_decided cs (Line base by) e = both _ _ _ _ (below _ _) (below _ _)
room_decided cs (Strided r s) e = three _ _ _ _ _ _ (top_tested cs _) (below _ _) (below _ _)
room_decided cs (ThomasIn r s) e = both _ _ _ _ (top_tested cs _) (mix_tested cs (r * s) s r _ _)
room_decided cs (ThomasOut r s) e = four _ _ _ _ _ _ _ _ (top_tested cs _) (top_tested cs _) (below _ _) (below _ _)
room_decided cs (ThomasBack r s u v) e = both _ _ _ _ (top_tested cs _) (mix_tested cs (r * s) u v _ _)
room_decided cs (Listed ks) e = (λ h. absurd (cc), λ h. absurd h)
room_decided cs (Paired f c g d) e = five _ _ _ _ _ _ _ _ _ _ (top_tested cs _) (room_decided cs f _) (room_decided cs g _) (below _ _) (below _ _)
room_decided cs (After f g) e = both _ _ _ _ (room_decided cs g e) (room_decided cs f _)
