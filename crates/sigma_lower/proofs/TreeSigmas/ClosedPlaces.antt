-- A diagonal of one entry over all words takes every place to its first factor.
use Rattle.sigma_lower.proofs.Words.{◌≡◌, ℕ, ◌%◌, ◌<◌, Bool, true, false, List, [], ◌∷◌, ◌++◌, refl, sym, ap, ap₂, ◌∙◌}
use Rattle.sigma_lower.proofs.Words.{arith, subst, mod-lt, if◌then◌else◌, map, ◌==◌, ◌&&◌, nat_tests, and_from, Mapping}
use Rattle.sigma_lower.proofs.Words.{Sum, constant, variable, remainder, quotient, Divided, added, simplified, top}
use Rattle.sigma_lower.proofs.Words.{within, Blocks, Path, all_simplified, inner_of, nat_lt, list_all, carries_sum}
use Rattle.sigma_lower.proofs.Words.{is_limited}
use Rattle.sigma_spl.proofs.Carried.{carried-next, carried-room}
use Rattle.sigma_spl.proofs.Walk.{and-left, and-right}
use Rattle.perm_algebra.specs.Affine.{divided, head, rest_of}
use Rattle.perm_algebra.specs.Room.{can_add, can_scale, has_room, has_top}

-- where the diagonal stands, and the function that finds its entry
abbrev pub closing_path : ℕ → Path
closing_path n = within (Blocks n) []

abbrev pub closing_place : ℕ → Mapping
closing_place n = inner_of (closing_path n) 1

-- of one word there is but the place 0
abbrev pub AllAlone : ℕ → List Sum → Type 0
AllAlone n [] = Unit {0}
AllAlone n (e ∷ es) = (n ≡ 1 → e ≡ constant 0) × AllAlone n es

-- ---- by 1 no remainder is left

by-one : (f : ℕ) → (f % 1 == 0) ≡ true
by-one f = let low : f % 1 < 1 = mod-lt f (omega arith) in grind (arith, nat_tests)

rest-of-one : (e : Sum) → rest_of 1 e ≡ constant 0
rest-of-one (constant c) = ap constant (let low : c % 1 < 1 = mod-lt c (omega arith) in omega (arith, low))
rest-of-one (variable f d rest) =
    ap (λ b. if b then rest_of 1 rest else variable f d (rest_of 1 rest)) (by-one f) ∙ rest-of-one rest
rest-of-one (remainder f of m rest) =
    ap (λ b. if b then rest_of 1 rest else remainder f of m (rest_of 1 rest)) (by-one f) ∙ rest-of-one rest
rest-of-one (quotient f of m rest) =
    ap (λ b. if b then rest_of 1 rest else quotient f of m (rest_of 1 rest)) (by-one f) ∙ rest-of-one rest

module _ (cs : ℕ → ℕ) where
  rem-of-one : (e : Sum) → (divided cs 1 e).rem ≡ constant 0
  rem-of-one e =
      ap
      (λ r.
      let d : Divided =
      if nat_lt (top r cs) 1 then record { quot = head 1 e; rem = r }
      else record { quot = quotient 1 e 1 (constant 0); rem = remainder 1 e 1 (constant 0) } in
      d.rem)
      (rest-of-one e)

  -- ---- the function of the diagonal

  pub first-place : (n : ℕ) (e : Sum) → (n ≡ 1 → e ≡ constant 0) → simplified cs (closing_place n) e ≡ constant 0
  first-place n e alone = by (n == 1) refl
    where
      by : (b : Bool) → (n == 1) ≡ b → simplified cs (inner_of (if b then [] else Blocks n ∷ []) 1) e ≡ constant 0
      by true is = alone (grind (arith, nat_tests))
      by false is = ap (λ r. added (constant 0) r) (rem-of-one e)

  first-room : (n : ℕ) (e : Sum) → has_room cs (closing_place n) e ≡ true
  first-room n e = by (n == 1)
    where
      by : (b : Bool) → has_room cs (inner_of (if b then [] else Blocks n ∷ []) 1) e ≡ true
      by true = refl
      by false =
          ap₂ (λ r q. has_top cs r && (true && (true && (can_scale 0 (constant 0) && can_add (constant 0) q))))
          (rest-of-one e) (rem-of-one e)

  -- ---- sums that are within the limits stay so

  first-carried : (n : ℕ) (fs : List Mapping) (e : Sum) → carries_sum 64 n n cs fs e ≡ true →
      (n ≡ 1 → all_simplified cs fs e ≡ constant 0) → carries_sum 64 n 1 cs (fs ++ closing_place n ∷ []) e ≡ true
  first-carried n [] e carried alone =
      and_from _ _ carried
      (and_from _ _ (first-room n e)
      (subst (λ r. is_limited 64 1 cs r ≡ true) (sym (first-place n e alone)) refl))
  first-carried n (f ∷ fs) e carried alone =
      and_from _ _ (and-left (is_limited 64 n cs e) _ carried)
      (and_from _ _ (carried-room 64 n n cs f fs e carried)
      (first-carried n fs (simplified cs f e) (carried-next 64 n n cs f fs e carried) alone))

  pub all-carried : (n : ℕ) (fs : List Mapping) (es : List Sum) → list_all (carries_sum 64 n n cs fs) es ≡ true →
      AllAlone n (map (all_simplified cs fs) es) →
      list_all (carries_sum 64 n 1 cs (fs ++ closing_place n ∷ [])) es ≡ true
  all-carried n fs [] carried alone = refl
  all-carried n fs (e ∷ es) carried alone =
      and_from _ _ (first-carried n fs e (and-left (carries_sum 64 n n cs fs e) _ carried) alone.0)
      (all-carried n fs es (and-right (carries_sum 64 n n cs fs e) _ carried) alone.1)

  -- ---- and lead to the first entry

  last-one : (fs : List Mapping) (f : Mapping) (e : Sum) →
      all_simplified cs (fs ++ f ∷ []) e ≡ simplified cs f (all_simplified cs fs e)
  last-one [] f e = refl
  last-one (g ∷ fs) f e = last-one fs f (simplified cs g e)

  pub all-first : (n : ℕ) (fs : List Mapping) (es : List Sum) → AllAlone n (map (all_simplified cs fs) es) →
      map (all_simplified cs (fs ++ closing_place n ∷ [])) es ≡ map (λ _. constant 0) (map (all_simplified cs fs) es)
  all-first n fs [] alone = refl
  all-first n fs (e ∷ es) alone =
      ap₂ (λ y ys. y ∷ ys) (last-one fs (closing_place n) e ∙ first-place n (all_simplified cs fs e) alone.0)
      (all-first n fs es alone.1)
