-- What a loop over copies of one word stores, and that a program can be made of it.
use Rattle.std.proofs.Common.{◌≡◌, ℕ, zero, suc, ◌+◌, ◌*◌, ◌-◌, ◌<◌, ◌≤◌, true, sym, ap, ◌∙◌, arith, subst, List, []}
use Rattle.std.proofs.Common.{◌∷◌, None}
use Rattle.std.specs.Prelude.{◌==◌, ◌&&◌, if◌then◌else◌, slice_index}
use Rattle.std.proofs.lemmas.Bool.Decides.{nat_tests}
use Rattle.std.proofs.lemmas.List.Elements.{All-nil, All-cons, All-head}
use Rattle.loop_merge.specs.Coalescing.Copies.{copying_run}
use Rattle.sigma_spl.specs.PlainPasses.{IsPlainNest}
use Rattle.operators.specs.Sum.{sum_below}
use Rattle.operators.proofs.Sums.{sum_below-same}
use Rattle.sigma_spl.specs.Shared.Machine.{plain_machine}
use Rattle.sigma_spl.specs.Shared.Ready.{IsReadyNest}
use Rattle.sigma_spl.specs.Copies.{loops_of, stored}
use Rattle.sigma_spl.specs.Counts.{copies_in}
use Rattle.sigma_spl.specs.Merge.{is_limited, is_within, limits_of}
use Rattle.sigma_spl.specs.Nest.{PlainNest, copies_of, sum_value}
use Rattle.sigma_spl.specs.Work.{copy}
use Rattle.perm_algebra.specs.Affine.{Sum, constant, variable}
use Rattle.operators.specs.Paths.Loop.{loop_at, nest_sum}
use Rattle.operators.specs.Paths.Tensors.{AreInRange}

-- ---- copies of one word under no loop or one

-- where they begin at p
abbrev pub places_from : List ℕ → ℕ → List Sum
places_from [] p = constant p ∷ []
places_from (c ∷ counts) p = variable 1 0 (constant p) ∷ []

abbrev pub copies_from : List ℕ → ℕ → PlainNest
copies_from counts p = record { counts = counts; work = copy 1; gathers = places_from counts p; multiplier = None; scatters = places_from counts p }

-- the list has this length
abbrev pub AreCounted : List ℕ → ℕ → Type 0
AreCounted [] n = n ≡ 1
AreCounted (c ∷ []) n = c ≡ n
AreCounted (c ∷ d ∷ counts) n = ⊥

zero-plus : (a : ℕ) → 0 + a ≡ a
zero-plus a = omega arith

one-times : (v p : ℕ) → 1 * v + p ≡ p + v
one-times v p = omega arith

-- a sum over their places
loop-sum : (counts : List ℕ) (n p : ℕ) (g : ℕ → ℕ) → AreCounted counts n →
    nest_sum (loops_of counts) (λ vs. sum_below 1 (λ k. g (sum_value (places_from counts p) k vs)))
    ≡ sum_below n (λ i. g (p + i))
loop-sum [] n p g is = let same : p ≡ p + 0 = omega arith in subst (λ c. 0 + g p ≡ sum_below c (λ i. g (p + i))) (sym is) (ap (λ a. 0 + g a) same)
loop-sum (c ∷ []) n p g is =
    sum_below-same c (λ v. 0 + g (1 * v + p)) (λ i. g (p + i)) (λ v below. zero-plus (g (1 * v + p)) ∙ ap g (one-times v p))
    ∙ ap (λ k. sum_below k (λ i. g (p + i))) is
loop-sum (c ∷ d ∷ counts) n p g is = absurd is

abbrev pub word_at : List ℕ → ℕ → ℕ → ℕ
word_at x w i = if i == w then slice_index x i else 0

abbrev pub hit_at : ℕ → ℕ → ℕ
hit_at w i = if i == w then 1 else 0

pub loop-stored : (m : ℕ) (counts : List ℕ) (n p : ℕ) (x : List ℕ) (w : ℕ) → AreCounted counts n →
    stored (copies_of m (copies_from counts p)) x w ≡ sum_below n (λ i. word_at x w (p + i))
loop-stored m counts n p x w is = loop-sum counts n p (word_at x w) is

pub loop-hits : (counts : List ℕ) (n p w : ℕ) → AreCounted counts n →
    loop_at (loops_of counts) 1 (λ vs k. sum_value (places_from counts p) k vs) (λ vs k. 1) w
    ≡ sum_below n (λ i. hit_at w (p + i))
loop-hits counts n p w is = loop-sum counts n p (hit_at w) is

pub counted : (counts : List ℕ) (n : ℕ) → AreCounted counts n → copies_in counts ≡ n
counted [] n is = sym is
counted (c ∷ []) n is = omega (arith, is)
counted (c ∷ d ∷ counts) n is = absurd is

-- ---- programs of them

-- some words, of an array of `size`
pub record AreBelow (size n p : ℕ) : Type 0 where
  pub some : 1 ≤ n
  pub below : p + n ≤ size

pub words-below : (size m : ℕ) (counts : List ℕ) (n p : ℕ) → AreCounted counts n →
    IsPlainNest size m (copies_from counts p) → AreBelow size n p
words-below size m [] n p is h = let last : p < size = h.inside.stores [] 0 tt (omega arith) in record { some = omega (arith, is); below = omega (arith, is, last) }
words-below size m (c ∷ []) n p is h =
    let some : 1 ≤ c = (All-head (λ d. (1 ≤ d) × (d ≤ 1048576)) c [] h.ready.counts).0 in
    let last : 1 * (c - 1) + p < size = h.inside.stores ((c - 1) ∷ []) 0 (omega (arith, some), tt) (omega arith) in
    record { some = omega (arith, is, some); below = omega (arith, is, some, last) }
words-below size m (c ∷ d ∷ counts) n p is h = absurd is

module _ (size m n p : ℕ) (high : size ≤ 1048576) (several : 2 ≤ n) (fits : p + n ≤ size) where
  abbrev loop : PlainNest
  loop = copying_run (record { first = p; count = n })

  abbrev place : Sum
  place = variable 1 0 (constant p)

  below : (vs : List ℕ) (k : ℕ) → AreInRange (loops_of (n ∷ [])) vs → k < 1 → sum_value (place ∷ []) k vs < size
  below [] k range under = absurd range
  below (v ∷ []) zero range under = let low = range.0 in omega (arith, low, fits)
  below (v ∷ []) (suc k) range under = absurd (omega (arith, under))
  below (v ∷ w ∷ vs) k range under = absurd range.1

  limited : is_limited 64 size (limits_of loop) place ≡ true
  limited = grind (arith, nat_tests)

  within : is_within 64 size (loop ∷ []) ≡ true
  within = ap (λ b. (((b && true) && (b && true)) && true) && true) limited

  ready : IsReadyNest (plain_machine size m) loop
  ready =
      record {
        gathers = record { enough = omega arith; sound = (tt, tt) };
        scatters = record { enough = omega arith; sound = (tt, tt) };
        multiplier = λ d is. absurd (cc);
        alike = tt;
        small = tt;
        items = omega arith;
        shallow = omega arith;
        counts = All-cons (λ c. (1 ≤ c) × (c ≤ 1048576)) n [] (omega (arith, several), omega (arith, fits, high)) (All-nil (λ c. (1 ≤ c) × (c ≤ 1048576)));
      }

  pub loop-plain : IsPlainNest size m loop
  loop-plain =
      record {
        work = tt;
        inside = record { loads = below; stores = below };
        factors = λ d is. absurd (cc);
        residues = λ d is. absurd (cc);
        ready = ready;
        within = within;
      }
