-- Two runs of words that are together do what their one loop does, and so do all of a pass.
use Rattle.std.proofs.Common.{◌≡◌, ℕ, ◌+◌, ◌*◌, ◌≤◌, refl, sym, ap, ap₂, ◌∙◌, arith, subst, List, [], ◌∷◌, Option, Some}
use Rattle.std.proofs.Common.{None}
use Rattle.std.proofs.lemmas.List.Elements.{All-cons, All-head, All-tail}
use Rattle.loop_merge.specs.Coalescing.Copies.{PlainRun, run_of, together, copying_run, before, put_first}
use Rattle.loop_merge.specs.Coalescing.Copies.{with_copies_coalesced}
use Rattle.loop_merge.proofs.CoalescingLemmas.Alike.{AreAlike, same, then, behind}
use Rattle.loop_merge.proofs.CoalescingLemmas.Loops.{copies_from, AreCounted, word_at, hit_at, loop-stored, loop-hits}
use Rattle.loop_merge.proofs.CoalescingLemmas.Loops.{counted, words-below, loop-plain}
use Rattle.loop_merge.proofs.CoalescingLemmas.Words.{IsRun, run-is, together-are}
use Rattle.operators.specs.Sum.{sum_below}
use Rattle.operators.proofs.Sums.{sum_below-same, sum_below-append}
use Rattle.sigma_spl.specs.Copies.{hits, stored}
use Rattle.sigma_spl.specs.Counts.{CopiesAreFree, copies_in, pass_cost}
use Rattle.sigma_spl.specs.Nest.{PlainNest, copies_of}
use Rattle.sigma_spl.specs.Work.{PlainWork, copy}
use Rattle.sigma_spl.specs.PlainPasses.{IsPlainNest}

-- ---- two loops of k and of n words

sums-meet : (k n p : ℕ) (g : ℕ → ℕ) → sum_below (k + n) (λ i. g (p + i)) ≡ sum_below k (λ i. g (p + i))
    + sum_below n (λ i. g (p + k + i))
sums-meet k n p g =
    sum_below-append k n (λ i. g (p + i))
    ∙ ap (λ a. sum_below k (λ i. g (p + i)) + a) (sum_below-same n (λ i. g (p + (k + i))) (λ i. g (p + k + i)) (λ i low. let one : p + (k + i) ≡ p + k + i = omega arith in ap g one))

three : (a b c d rest : ℕ) → a ≡ d → b + c ≡ d → a + rest ≡ b + (c + rest)
three a b c d rest whole parts = omega (arith, whole, parts)

module _ (cs ds : List ℕ) (k n p : ℕ) (first : AreCounted cs k) (second : AreCounted ds n) where
  abbrev left : PlainNest
  left = copies_from cs p

  abbrev right : PlainNest
  right = copies_from ds (p + k)

  abbrev loop : PlainNest
  loop = copies_from ((k + n) ∷ []) p

  meets : (g : ℕ → ℕ) (a b c : ℕ) → a ≡ sum_below (k + n) (λ i. g (p + i)) → b ≡ sum_below k (λ i. g (p + i)) →
      c ≡ sum_below n (λ i. g (p + k + i)) → a ≡ b + c
  meets g a b c whole one other = whole ∙ sums-meet k n p g ∙ ap₂ (λ u v. u + v) (sym one) (sym other)

  stores : (m : ℕ) (x : List ℕ) (w : ℕ) → stored (copies_of m loop) x w ≡ stored (copies_of m left) x w
      + stored (copies_of m right) x w
  stores m x w = meets (word_at x w) _ _ _ (loop-stored m ((k + n) ∷ []) (k + n) p x w refl) (loop-stored m cs k p x w first) (loop-stored m ds n (p + k) x w second)

  reach : (m w : ℕ) → hits (copies_of m loop ∷ []) w ≡ hits (copies_of m left ∷ []) w + hits (copies_of m right ∷ []) w
  reach m w =
      let whole = loop-hits ((k + n) ∷ []) (k + n) p w refl in
      let one = loop-hits cs k p w first in
      let other = loop-hits ds n (p + k) w second in
      let all = meets (hit_at w) _ _ _ whole one other in omega (arith, all)

  copies : copies_in ((k + n) ∷ []) ≡ copies_in cs + copies_in ds
  copies = let one = counted cs k first in let other = counted ds n second in omega (arith, one, other)

  plain : (size m : ℕ) → size ≤ 1048576 → IsPlainNest size m left → IsPlainNest size m right → IsPlainNest size m loop
  plain size m high one other =
      let words = words-below size m cs k p first one in
      let more = words-below size m ds n (p + k) second other in
      let some = words.some in
      let others = more.some in
      let below = more.below in
      loop-plain size m (k + n) p high (omega (arith, some, others)) (omega (arith, below))

  pub coalesced-alike : (zs : List PlainNest) → AreAlike (loop ∷ zs) (left ∷ right ∷ zs)
  coalesced-alike zs =
      record {
        stores = λ m x w. let all = stores m x w in omega (arith, all);
        hit = λ m w. let all = reach m w in omega (arith, all);
        costs = λ weight cost free. three _ _ _ _ (pass_cost weight cost zs) (no-cost cost ((k + n) ∷ []) free) (none cost free);
        loads = let all = copies in omega (arith, all);
        tables = omega arith;
        plain = λ size m high all.
            let rest = All-tail (IsPlainNest size m) left (right ∷ zs) all in
            All-cons (IsPlainNest size m) loop zs (plain size m high (All-head (IsPlainNest size m) left (right ∷ zs) all) (All-head (IsPlainNest size m) right zs rest)) (All-tail (IsPlainNest size m) right zs rest);
      }
    where
      no-cost : (cost : PlainWork → ℕ) (counts : List ℕ) → CopiesAreFree cost →
          copies_in counts * (cost (copy 1) + 0) ≡ 0
      no-cost cost counts free = let none = free 1 in ap (λ a. copies_in counts * (a + 0)) none ∙ omega arith

      none : (cost : PlainWork → ℕ) → CopiesAreFree cost → copies_in cs * (cost (copy 1) + 0)
          + copies_in ds * (cost (copy 1) + 0) ≡ 0
      none cost free = let one = no-cost cost cs free in let other = no-cost cost ds free in omega (arith, one, other)

-- ---- lists of nests

coalesced-two : (z y : PlainNest) (zs : List PlainNest) (r s t : PlainRun) → IsRun z r → IsRun y s → t.first ≡ r.first →
    s.first ≡ r.first + r.count → t.count ≡ r.count + s.count →
    AreAlike (copying_run t ∷ zs) (z ∷ y ∷ zs)
coalesced-two z y zs r s t one other begins met whole =
    let both = coalesced-alike z.counts y.counts r.count s.count r.first one.counted other.counted zs in
    let loop : copying_run t ≡ copies_from ((r.count + s.count) ∷ []) r.first = ap₂ (λ c p. copies_from (c ∷ []) p) whole begins in
    let right : y ≡ copies_from y.counts (r.first + r.count) = other.is ∙ ap (copies_from y.counts) met in
    subst (λ a. AreAlike (a ∷ zs) (z ∷ y ∷ zs)) (sym loop)
    (subst (λ a. AreAlike (copies_from ((r.count + s.count) ∷ []) r.first ∷ zs) (a ∷ y ∷ zs)) (sym one.is)
    (subst (λ a. AreAlike (copies_from ((r.count + s.count) ∷ []) r.first ∷ zs) (copies_from z.counts r.first ∷ a ∷ zs)) (sym right) both))

put-before : (z y : PlainNest) (ys : List PlainNest) (o : Option PlainRun) → together (run_of z) (run_of y) ≡ o →
    AreAlike (before o z y ys) (z ∷ y ∷ ys)
put-before z y ys None is = same (z ∷ y ∷ ys)
put-before z y ys (Some t) is =
    let both = together-are (run_of z) (run_of y) t is in
    coalesced-two z y ys both.left both.right t (run-is z both.left both.first) (run-is y both.right both.second) both.begins both.meets both.whole

put-alike : (z : PlainNest) (ys : List PlainNest) → AreAlike (put_first z ys) (z ∷ ys)
put-alike z [] = same (z ∷ [])
put-alike z (y ∷ ys) = put-before z y ys (together (run_of z) (run_of y)) refl

pub all-alike : (zs : List PlainNest) → AreAlike (with_copies_coalesced zs) zs
all-alike [] = same []
all-alike (z ∷ zs) = then (put_first z (with_copies_coalesced zs)) (z ∷ with_copies_coalesced zs) (z ∷ zs) (put-alike z (with_copies_coalesced zs)) (behind z (with_copies_coalesced zs) zs (all-alike zs))
