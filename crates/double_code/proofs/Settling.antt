-- Reductions of registers until bounds are small enough.
use Rattle.std.proofs.Common.{◌≡◌, ℕ, zero, suc, ◌+◌, ◌*◌, ◌^◌, ◌<◌, ◌≤◌, ◌≢◌, ◌⊎◌, inl, inr, List, [], ◌∷◌}
use Rattle.std.proofs.Common.{length, map, refl, sym, ap, ◌∙◌, subst, arith, ⊎_elim, ℤ, pos}
use Rattle.std.proofs.Common.{get_or-set_same, get_or-set_other}
use Rattle.std.specs.Prelude.{nat_le, slice_set}
use Rattle.std.proofs.lemmas.Bool.{cases_eq, cond_both, leb-true, leb-false}
use Rattle.std.proofs.lemmas.List.{length-set, map-id, set-get_or}
use Rattle.icode.specs.Machine.{with_words}
use Rattle.double_code.specs.DoubleMachine.{numbers_at, with_numbers, numbers_of, reduction, reduce_one, reduce_all}
use Rattle.double_code.specs.Doubled.{bound_at, greater, Settled, then_settled, settled_to, reduced_bound}
use Rattle.double_code.specs.Reductions.{limit_of}
use Rattle.double_code.proofs.Bounds.{Bounds, Within, AreRegistersWithin, register_within, put_within}
use Rattle.double_code.proofs.Numbers.{residues, residues-with_numbers, Each, each_map, length-numbers_at}
use Rattle.double_code.proofs.Numbers.{length-mapped}
use Rattle.double_code.proofs.Single.{reduction_number}

-- writing what stands there
with_numbers-same : (n : ℕ) (xs : List ℤ) (i : ℕ) → with_numbers xs i (numbers_at n xs i) ≡ xs
with_numbers-same zero xs i = refl
with_numbers-same (suc n) xs i =
    ap (λ ys. with_numbers ys (i + 1) (numbers_at n xs (i + 1))) (set-get_or xs i (pos 0))
    ∙ with_numbers-same n xs (i + 1)

-- bounds that are set
pub set_bound : (m : ℕ) (bounds : List ℕ) (r v : ℕ) → v ≤ limit_of m → v ≤ bound_at m (slice_set bounds r v) r
set_bound m [] r v le = le
set_bound m (b ∷ bounds) zero v le = omega arith
set_bound m (b ∷ bounds) (suc r) v le = set_bound m bounds r v le

pub kept_bound : (m : ℕ) (bounds : List ℕ) (r v q : ℕ) → (q < r) ⊎ (r + 1 ≤ q) →
    bound_at m bounds q ≤ bound_at m (slice_set bounds r v) q
kept_bound m bounds r v q apart =
    let other : q ≢ r = λ e. elim apart [ inl lt ↦ omega (arith, lt, e) | inr gt ↦ omega (arith, gt, e) ] in
    let e : bound_at m (slice_set bounds r v) q ≡ bound_at m bounds q =
    get_or-set_other bounds r q v (limit_of m) other in
    omega (arith, e)

pub set_bound_here : (m : ℕ) (bounds : List ℕ) (r v q : ℕ) → v ≤ limit_of m → r ≤ q → q < r + 1 →
    v ≤ bound_at m (slice_set bounds r v) q
set_bound_here m bounds r v q le from to =
    let e : q ≡ r = omega arith in
    subst (λ k. v ≤ bound_at m (slice_set bounds r v) k) (sym e) (set_bound m bounds r v le)

pub set_sane : (m : ℕ) (bounds : List ℕ) (r v : ℕ) → v ≤ limit_of m → ((q : ℕ) → bound_at m bounds q ≤ limit_of m) →
    (q : ℕ) → bound_at m (slice_set bounds r v) q ≤ limit_of m
set_sane m [] r v le sane q = sane q
set_sane m (b ∷ bounds) zero v le sane zero = le
set_sane m (b ∷ bounds) zero v le sane (suc q) = sane (suc q)
set_sane m (b ∷ bounds) (suc r) v le sane zero = sane 0
set_sane m (b ∷ bounds) (suc r) v le sane (suc q) = set_sane m bounds r v le (λ k. sane (suc k)) q

-- what reductions keep and what they reach
pub record AreReductions (m lanes : ℕ) (b : Bounds) (rs : List ℕ) (c : Bounds) : Type 0 where
  pub same : (xs : List ℤ) → AreRegistersWithin lanes b xs → residues m (reduce_all m lanes rs xs) ≡ residues m xs
  pub within : (xs : List ℤ) → AreRegistersWithin lanes b xs → AreRegistersWithin lanes c (reduce_all m lanes rs xs)

pub no_reductions : (m lanes : ℕ) (b : Bounds) → AreReductions m lanes b [] b
no_reductions m lanes b = record { same = λ xs low. refl; within = λ xs low. low }

and_reductions : (m lanes : ℕ) (b c d : Bounds) (r : ℕ) (rs : List ℕ) → AreReductions m lanes b (r ∷ []) c →
    AreReductions m lanes c rs d → AreReductions m lanes b (r ∷ rs) d
and_reductions m lanes b c d r rs one rest =
    record {
      same = λ xs low. rest.same (reduce_one m lanes r xs) (one.within xs low) ∙ one.same xs low;
      within = λ xs low. rest.within (reduce_one m lanes r xs) (one.within xs low);
    }

-- a reduction's bound is within the limit
pub reduced_sane : (m : ℕ) → 0 < m → m < 2 ^ 50 → reduced_bound m ≤ limit_of m
reduced_sane m some below = omega arith

module _ (m lanes : ℕ) (some : 0 < m) (below : m < 2 ^ 50) where
  abbrev AreSane : List ℕ → Type 0
  AreSane bounds = (r : ℕ) → bound_at m bounds r ≤ limit_of m

  one_reduction : (r : ℕ) (bounds : List ℕ) → AreSane bounds →
      AreReductions m lanes (bound_at m bounds) (r ∷ []) (bound_at m (slice_set bounds r (reduced_bound m)))
  one_reduction r bounds sane = record { same = same; within = within }
    where
      made : (xs : List ℤ) → AreRegistersWithin lanes (bound_at m bounds) xs →
          (map (λ a. a) (residues m (numbers_of lanes xs r)) ≡ residues m (map (reduction m) (numbers_of lanes xs r)))
          × Each (Within (reduced_bound m)) (map (reduction m) (numbers_of lanes xs r))
      made xs low =
          each_map m (Within (bound_at m bounds r)) (Within (reduced_bound m)) (λ a. a) (reduction m)
          (λ a of_a. let up = sane r in reduction_number m a some below (omega (arith, up, of_a)))
          (numbers_of lanes xs r) (register_within lanes (bound_at m bounds) xs r low)

      same : (xs : List ℤ) → AreRegistersWithin lanes (bound_at m bounds) xs →
          residues m (with_numbers xs (r * lanes) (map (reduction m) (numbers_of lanes xs r))) ≡ residues m xs
      same xs low =
          sym (residues-with_numbers m (map (reduction m) (numbers_of lanes xs r)) xs (r * lanes))
          ∙ ap (with_words (residues m xs) (r * lanes))
          (sym (made xs low).0 ∙ map-id (residues m (numbers_of lanes xs r)))
          ∙ residues-with_numbers m (numbers_of lanes xs r) xs (r * lanes)
          ∙ ap (residues m) (with_numbers-same lanes xs (r * lanes))

      within : (xs : List ℤ) → AreRegistersWithin lanes (bound_at m bounds) xs →
          AreRegistersWithin lanes (bound_at m (slice_set bounds r (reduced_bound m)))
          (with_numbers xs (r * lanes) (map (reduction m) (numbers_of lanes xs r)))
      within xs low =
          let less = reduced_sane m some below in
          let one : 1 * lanes ≡ lanes = omega arith in
          put_within lanes 1 r (reduced_bound m) (bound_at m bounds)
          (bound_at m (slice_set bounds r (reduced_bound m))) xs
          (map (reduction m) (numbers_of lanes xs r)) low (made xs low).1
          (length-mapped (reduction m) (numbers_of lanes xs r) ∙ length-numbers_at lanes xs (r * lanes) ∙ sym one)
          (λ q from to. set_bound_here m bounds r (reduced_bound m) q less from to)
          (λ q apart. kept_bound m bounds r (reduced_bound m) q apart)

  -- what settling keeps and reaches
  pub record IsSettled (x y target : ℕ) (bounds : List ℕ) (s : Settled) : Type 0 where
    pub reductions : AreReductions m lanes (bound_at m bounds) s.before (bound_at m s.bounds)
    pub sane : (r : ℕ) → bound_at m s.bounds r ≤ limit_of m
    pub long : length s.bounds ≡ length bounds
    pub small : bound_at m s.bounds x + bound_at m s.bounds y ≤ target

  -- no more is needed
  not_settled : (x y target : ℕ) (bounds : List ℕ) → AreSane bounds →
      bound_at m bounds x + bound_at m bounds y ≤ target →
      IsSettled x y target bounds (record { before = []; bounds = bounds })
  not_settled x y target bounds sane small =
      record { reductions = no_reductions m lanes (bound_at m bounds); sane = sane; long = refl; small = small }

  abbrev next : ℕ → List ℕ → List ℕ
  next r bounds = slice_set bounds r (reduced_bound m)

  next_sane : (r : ℕ) (bounds : List ℕ) → AreSane bounds → AreSane (next r bounds)
  next_sane r bounds sane = set_sane m bounds r (reduced_bound m) (reduced_sane m some below) sane

  -- one more register is reduced
  and_settled : (x y target r : ℕ) (bounds : List ℕ) (rest : Settled) → AreSane bounds →
      IsSettled x y target (next r bounds) rest → IsSettled x y target bounds (then_settled r rest)
  and_settled x y target r bounds rest sane is =
      record {
        reductions = and_reductions m lanes (bound_at m bounds) (bound_at m (next r bounds)) (bound_at m rest.bounds) r
            rest.before (one_reduction r bounds sane) is.reductions;
        sane = is.sane;
        long = is.long ∙ length-set bounds r (reduced_bound m);
        small = is.small;
      }

  at_set : (r : ℕ) (bounds : List ℕ) → r < length bounds → bound_at m (next r bounds) r ≡ reduced_bound m
  at_set r bounds lt = get_or-set_same bounds r (reduced_bound m) (limit_of m) lt

  beside : (r q : ℕ) (bounds : List ℕ) → q ≢ r → bound_at m (next r bounds) q ≡ bound_at m bounds q
  beside r q bounds other = get_or-set_other bounds r q (reduced_bound m) (limit_of m) other

  -- another register stays, unless it is the same
  fallen : (r q : ℕ) (bounds : List ℕ) → r < length bounds →
      (bound_at m (next r bounds) q ≡ reduced_bound m) ⊎ (bound_at m (next r bounds) q ≡ bound_at m bounds q)
  fallen r q bounds lt =
      ⊎_elim
      (λ (same : q ≡ r). inl (ap (bound_at m (next r bounds)) same ∙ at_set r bounds lt))
      (λ (other : q ≢ r). inr (beside r q bounds other))
      (cases_eq q r)

  -- which of the two is reduced
  which : (x y : ℕ) (bounds : List ℕ) →
      ((greater m x y bounds ≡ x) × (bound_at m bounds y ≤ bound_at m bounds x))
      ⊎ ((greater m x y bounds ≡ y) × (bound_at m bounds x ≤ bound_at m bounds y))
  which x y bounds =
      cond_both (nat_le (bound_at m bounds y) (bound_at m bounds x)) x y
      (λ r. ((r ≡ x) × (bound_at m bounds y ≤ bound_at m bounds x))
      ⊎ ((r ≡ y) × (bound_at m bounds x ≤ bound_at m bounds y)))
      (λ le. inl (refl, leb-true (bound_at m bounds y) (bound_at m bounds x) le))
      (λ gt. let lt = leb-false (bound_at m bounds y) (bound_at m bounds x) gt in inr (refl, omega (arith, lt)))

  module _ (x y target : ℕ) (enough : 2 * reduced_bound m ≤ target) where
    -- the greater of two falls, and the other is low
    reached : (r q : ℕ) (bounds : List ℕ) → r < length bounds → bound_at m bounds q ≤ bound_at m bounds r →
        (bound_at m bounds r ≤ reduced_bound m) ⊎ (bound_at m bounds q ≤ reduced_bound m) →
        target < bound_at m bounds r + bound_at m bounds q →
        bound_at m (next r bounds) r + bound_at m (next r bounds) q ≤ target
    reached r q bounds lt less low over =
        let here = at_set r bounds lt in
        ⊎_elim
        (λ (first : bound_at m bounds r ≤ reduced_bound m). absurd (omega (arith, first, less, over, enough)))
        (λ (second : bound_at m bounds q ≤ reduced_bound m). ⊎_elim
        (λ (fell : bound_at m (next r bounds) q ≡ reduced_bound m). omega (arith, here, fell, enough))
        (λ (stays : bound_at m (next r bounds) q ≡ bound_at m bounds q). omega (arith, here, stays, second, enough))
        (fallen r q bounds lt))
        low

    -- one is reduced already
    one_left : (bounds : List ℕ) → AreSane bounds → x < length bounds → y < length bounds →
        (bound_at m bounds x ≤ reduced_bound m) ⊎ (bound_at m bounds y ≤ reduced_bound m) →
        IsSettled x y target bounds (settled_to m 1 x y target bounds)
    one_left bounds sane in_x in_y low =
        cond_both (nat_le (bound_at m bounds x + bound_at m bounds y) target) (record { before = []; bounds = bounds })
        (then_settled (greater m x y bounds) (settled_to m 0 x y target (next (greater m x y bounds) bounds)))
        (IsSettled x y target bounds)
        (λ small. not_settled x y target bounds sane
        (leb-true (bound_at m bounds x + bound_at m bounds y) target small))
        (λ large. and_settled x y target (greater m x y bounds) bounds _ sane
        (not_settled x y target (next (greater m x y bounds) bounds) (next_sane (greater m x y bounds) bounds sane)
        (end (leb-false (bound_at m bounds x + bound_at m bounds y) target large))))
      where
        end : target < bound_at m bounds x + bound_at m bounds y →
            bound_at m (next (greater m x y bounds) bounds) x + bound_at m (next (greater m x y bounds) bounds) y
            ≤ target
        end over =
            elim (which x y bounds) [
              | inl first ↦
                  subst (λ r. bound_at m (next r bounds) x + bound_at m (next r bounds) y ≤ target) (sym first.0)
                  (reached x y bounds in_x first.1 low over)
              | inr second ↦
                  let turned : (bound_at m bounds y ≤ reduced_bound m) ⊎ (bound_at m bounds x ≤ reduced_bound m) =
                  elim low [ inl a ↦ inr a | inr b ↦ inl b ] in
                  let sum = reached y x bounds in_y second.1 turned (omega (arith, over)) in
                  subst (λ r. bound_at m (next r bounds) x + bound_at m (next r bounds) y ≤ target) (sym second.0)
                  (omega (arith, sum))
            ]

    pub settles : (bounds : List ℕ) → AreSane bounds → x < length bounds → y < length bounds →
        IsSettled x y target bounds (settled_to m 2 x y target bounds)
    settles bounds sane in_x in_y =
        let r = greater m x y bounds in
        let long = length-set bounds r (reduced_bound m) in
        cond_both (nat_le (bound_at m bounds x + bound_at m bounds y) target) (record { before = []; bounds = bounds })
        (then_settled r (settled_to m 1 x y target (next r bounds)))
        (IsSettled x y target bounds)
        (λ small. not_settled x y target bounds sane
        (leb-true (bound_at m bounds x + bound_at m bounds y) target small))
        (λ large. and_settled x y target r bounds _ sane
        (one_left (next r bounds) (next_sane r bounds sane) (omega (arith, long, in_x)) (omega (arith, long, in_y))
        (elim (which x y bounds) [
          | inl first ↦
              let e = ap (λ q. bound_at m (next q bounds) x) first.0 ∙ at_set x bounds in_x in inl (omega (arith, e))
          | inr second ↦
              let e = ap (λ q. bound_at m (next q bounds) y) second.0 ∙ at_set y bounds in_y in inr (omega (arith, e))
        ])))
