-- Where each word is stored once, a pass leaves what its copies store.
use Rattle.std.proofs.Common.{◌≡◌, ◌≢◌, ℕ, zero, suc, ◌+◌, ◌%◌, ◌<◌, ◌≤◌, arith, refl, sym, ap, ap₂, ◌∙◌, List, [], ◌∷◌}
use Rattle.std.proofs.Common.{◌⊎◌, inl, inr, subst}
use Rattle.std.specs.Prelude.{slice_index, ◌==◌, if◌then◌else◌}
use Rattle.std.proofs.lemmas.Bool.{cases_eq, cases_lt}
use Rattle.std.proofs.lemmas.Bool.Decides.{nat_tests}
use Rattle.operators.specs.Sum.{sum_below}
use Rattle.operators.proofs.Lists.{at-list_below}
use Rattle.sigma_spl.specs.Copies.{loops_of, Copies, taken, stored, all_stored, hits, IsInside, AreInside}
use Rattle.sigma_spl.specs.Places.{IsAmong, PassStores}
use Rattle.sigma_spl.proofs.CopiesMerge.{loop-none}
use Rattle.operators.specs.Paths.Loop.{nest_sum, loop_at, IsOneToOne}
use Rattle.operators.specs.Paths.Tensors.{Path, count_of, AreInRange}
use Rattle.operators.proofs.PathLemmas.PathLoops.{loop_at-place}

-- ---- terms of a sum

sum-least : (n t : ℕ) (f : ℕ → ℕ) → t < n → f t ≤ sum_below n f
sum-least zero t f below = absurd (omega arith)
sum-least (suc n) t f below =
    elim (cases_lt t n) [
      | inl before ↦ let h = sum-least n t f before in omega (arith, h)
      | inr last ↦ let e : t ≡ n = omega arith in let h = ap f e in omega (arith, h)
    ]

sum-two : (n s t : ℕ) (f : ℕ → ℕ) → s < n → t < n → s ≢ t → f s + f t ≤ sum_below n f
sum-two zero s t f a b other = absurd (omega arith)
sum-two (suc n) s t f a b other =
    elim (cases_lt s n) [
      | inl first ↦
          elim (cases_lt t n) [
            | inl second ↦ let h = sum-two n s t f first second other in omega (arith, h)
            | inr last ↦ let e : t ≡ n = omega arith in let g = ap f e in let h = sum-least n s f first in omega (arith, h, g)
          ]
      | inr last ↦ let e : s ≡ n = omega arith in let g = ap f e in let before : t < n = omega (arith, e, other, b) in let h = sum-least n t f before in omega (arith, h, g)
    ]

pub nest-least : (path : Path) (f : List ℕ → ℕ) (vs : List ℕ) → AreInRange path vs → f vs ≤ nest_sum path f
nest-least [] f [] range = omega arith
nest-least [] f (v ∷ vs) range = absurd range
nest-least (t ∷ path) f [] range = absurd range
nest-least (t ∷ path) f (v ∷ vs) range =
    let inner = nest-least path (λ ws. f (v ∷ ws)) vs range.1 in
    let outer = sum-least (count_of t) v (λ u. nest_sum path (λ ws. f (u ∷ ws))) range.0 in omega (arith, inner, outer)

-- two different copies
nest-two : (path : Path) (f : List ℕ → ℕ) (vs ws : List ℕ) → AreInRange path vs → AreInRange path ws → vs ≢ ws →
    f vs + f ws ≤ nest_sum path f
nest-two [] f [] [] a b other = absurd (other refl)
nest-two [] f [] (w ∷ ws) a b other = absurd b
nest-two [] f (v ∷ vs) ws a b other = absurd a
nest-two (t ∷ path) f [] ws a b other = absurd a
nest-two (t ∷ path) f (v ∷ vs) [] a b other = absurd b
nest-two (t ∷ path) f (v ∷ vs) (w ∷ ws) a b other =
    elim (cases_eq v w) [
      | inl same ↦
          let apart : vs ≢ ws = λ e. other (ap₂ (λ x xs. x ∷ xs) same e) in
          let inner = nest-two path (λ us. f (v ∷ us)) vs ws a.1 b.1 apart in
          let outer = sum-least (count_of t) v (λ u. nest_sum path (λ us. f (u ∷ us))) a.0 in
          let turned : f (v ∷ ws) ≡ f (w ∷ ws) = ap (λ x. f (x ∷ ws)) same in omega (arith, inner, outer, turned)
      | inr differ ↦
          let one = nest-least path (λ us. f (v ∷ us)) vs a.1 in
          let two = nest-least path (λ us. f (w ∷ us)) ws b.1 in
          let outer = sum-two (count_of t) v w (λ u. nest_sum path (λ us. f (u ∷ us))) a.0 b.0 differ in omega (arith, one, two, outer)
    ]

-- two lists are equal or not
same-list : (vs ws : List ℕ) → (vs ≡ ws) ⊎ (vs ≢ ws)
same-list [] [] = inl refl
same-list [] (w ∷ ws) = inr (λ e. absurd (cc))
same-list (v ∷ vs) [] = inr (λ e. absurd (cc))
same-list (v ∷ vs) (w ∷ ws) =
    elim (cases_eq v w) [
      | inl same ↦
          elim (same-list vs ws) [
            | inl rest ↦ inl (ap₂ (λ x xs. x ∷ xs) same rest)
            | inr differ ↦ inr (λ e. differ (cc))
          ]
      | inr differ ↦ inr (λ e. differ (cc))
    ]

here-one : (p w : ℕ) → p ≡ w → ◌≡◌ {A = ℕ} (if p == w then 1 else 0) 1
here-one p w e = grind (arith, nat_tests)

-- an item at w is a hit
copy-least : (d : ℕ) (to : ℕ → ℕ) (w k : ℕ) → k < d → to k ≡ w → 1 ≤ sum_below d (λ j. if to j == w then 1 else 0)
copy-least d to w k below there = let h = sum-least d k (λ j. if to j == w then 1 else 0) below in omega (arith, h, here-one (to k) w there)

loop-least : (path : Path) (d : ℕ) (to : List ℕ → ℕ → ℕ) (w : ℕ) (vs : List ℕ) (k : ℕ) → AreInRange path vs → k < d →
    to vs k ≡ w → 1 ≤ loop_at path d to (λ _ _. 1) w
loop-least path d to w vs k range below there =
    let h = nest-least path (λ us. sum_below d (λ j. if to us j == w then 1 else 0)) vs range in omega (arith, h, copy-least d (to vs) w k below there)

-- where no place has two hits, the places are one to one
one-to-one : (path : Path) (d : ℕ) (to : List ℕ → ℕ → ℕ) → ((vs : List ℕ) (k : ℕ) → AreInRange path vs → k < d →
    loop_at path d to (λ _ _. 1) (to vs k) ≤ 1) → IsOneToOne path d to
one-to-one path d to h =
    record {
      values = λ vs ws k j a b below within e. decide vs ws k j a b below within e;
      places = λ vs k j a below within e.
          elim (cases_eq k j) [
            | inl same ↦ same
            | inr differ ↦
                let two = sum-two d k j (λ i. if to vs i == to vs k then 1 else 0) below within differ in
                let outer = nest-least path (λ us. sum_below d (λ i. if to us i == to vs k then 1 else 0)) vs a in
                absurd (omega (arith, two, outer, here-one (to vs k) (to vs k) refl, here-one (to vs j) (to vs k) (sym e), h vs k a below))
          ];
    } where
      decide : (vs ws : List ℕ) (k j : ℕ) → AreInRange path vs → AreInRange path ws → k < d → j < d →
          to vs k ≡ to ws j → vs ≡ ws
      decide vs ws k j a b below within e =
          elim (same-list vs ws) [
            | inl same ↦ same
            | inr differ ↦
                let two = nest-two path (λ us. sum_below d (λ i. if to us i == to vs k then 1 else 0)) vs ws a b differ in
                absurd (omega (arith, two, copy-least d (to vs) (to vs k) k below refl, copy-least d (to ws) (to vs k) j within (sym e), h vs k a below))
          ]

-- ---- passes

hits-least : (cs : List Copies) (c : Copies) (vs : List ℕ) (k w : ℕ) → IsAmong cs c →
    AreInRange (loops_of c.counts) vs → k < c.size → c.to vs k ≡ w → 1 ≤ hits cs w
hits-least [] c vs k w one range below there = absurd one
hits-least (d ∷ ds) c vs k w (inl same) range below there =
    let h = loop-least (loops_of c.counts) c.size c.to w vs k range below there in
    let e = ap (λ (z : Copies). loop_at (loops_of z.counts) z.size z.to (λ _ _. 1) w) same in omega (arith, h, e)
hits-least (d ∷ ds) c vs k w (inr later) range below there = let h = hits-least ds c vs k w later range below there in omega (arith, h)

-- with no hit there is nothing
none-stored : (cs : List Copies) (x : List ℕ) (w : ℕ) → hits cs w ≡ 0 → all_stored cs x w ≡ 0
none-stored [] x w none = refl
none-stored (d ∷ ds) x w none =
    let first = loop-none (loops_of d.counts) d.size d.to (λ vs k. slice_index (d.does vs (taken d vs x)) k) w (λ vs k range below e. let h = loop-least (loops_of d.counts) d.size d.to w vs k range below e in absurd (omega (arith, h, none))) in
    let rest = none-stored ds x w (omega (arith, none)) in omega (arith, first, rest)

loop-most : (cs : List Copies) (c : Copies) (w : ℕ) → IsAmong cs c → hits cs w ≤ 1 →
    loop_at (loops_of c.counts) c.size c.to (λ _ _. 1) w ≤ 1
loop-most [] c w one few = absurd one
loop-most (d ∷ ds) c w (inl same) few = let e = ap (λ (z : Copies). loop_at (loops_of z.counts) z.size z.to (λ _ _. 1) w) same in omega (arith, e, few)
loop-most (d ∷ ds) c w (inr later) few = loop-most ds c w later (omega (arith, few))

one-stored : (c : Copies) (x vs : List ℕ) (k : ℕ) → IsOneToOne (loops_of c.counts) c.size c.to →
    AreInRange (loops_of c.counts) vs → k < c.size → stored c x (c.to vs k) ≡ slice_index (c.does vs (taken c vs x)) k
one-stored c x vs k one range below = loop_at-place (loops_of c.counts) c.size c.to (λ us j. slice_index (c.does us (taken c us x)) j) one vs k range below

-- only the loop that the copy is of stores there
all-one : (cs : List Copies) (c : Copies) (x vs : List ℕ) (k : ℕ) → IsAmong cs c →
    IsOneToOne (loops_of c.counts) c.size c.to → AreInRange (loops_of c.counts) vs → k < c.size →
    hits cs (c.to vs k) ≤ 1 →
    all_stored cs x (c.to vs k) ≡ slice_index (c.does vs (taken c vs x)) k
all-one [] c x vs k one inj range below few = absurd one
all-one (d ∷ ds) c x vs k (inl same) inj range below few =
    let w = c.to vs k in
    let here = loop-least (loops_of c.counts) c.size c.to w vs k range below refl in
    let e = ap (λ (z : Copies). loop_at (loops_of z.counts) z.size z.to (λ _ _. 1) w) same in
    let others = none-stored ds x w (omega (arith, here, e, few)) in
    let mine = one-stored c x vs k inj range below in
    let turned = ap (λ (z : Copies). stored z x w) same in omega (arith, others, mine, turned)
all-one (d ∷ ds) c x vs k (inr later) inj range below few =
    let w = c.to vs k in
    let here = hits-least ds c vs k w later range below refl in
    let rest = all-one ds c x vs k later inj range below (omega (arith, few)) in
    let first = loop-none (loops_of d.counts) d.size d.to (λ us j. slice_index (d.does us (taken d us x)) j) w (λ us j in_range within e. let h = loop-least (loops_of d.counts) d.size d.to w us j in_range within e in absurd (omega (arith, h, here, few))) in
    omega (arith, first, rest)

inside-of : (n : ℕ) (cs : List Copies) (c : Copies) → IsAmong cs c → AreInside n cs → IsInside n c
inside-of n [] c one h = absurd one
inside-of n (d ∷ ds) c (inl same) h = subst (IsInside n) (sym same) h.0
inside-of n (d ∷ ds) c (inr later) h = inside-of n ds c later h.1

pub pass_stores : PassStores
pass_stores m n cs c vs k x one inside once range below =
    let within = inside-of n cs c one inside in
    let inj = one-to-one (loops_of c.counts) c.size c.to (λ us j in_range at_j. let h = once (c.to us j) (within.stores us j in_range at_j) in loop-most cs c (c.to us j) one (omega (arith, h))) in
    let w_below = within.stores vs k range below in
    let few = once (c.to vs k) w_below in
    at-list_below n _ (c.to vs k) w_below ∙ ap (λ s. s % m) (all-one cs c x vs k one inj range below (omega (arith, few)))
