-- A nest that is a run of words is a loop over copies of one word, and two that are together are one.
use Rattle.std.proofs.Common.{◌≡◌, ℕ, ◌+◌, ◌^◌, true, false, refl, sym, ap, ap₂, ◌∙◌, arith, subst, List, [], ◌∷◌}
use Rattle.std.proofs.Common.{Option, Some, None}
use Rattle.std.specs.Prelude.{◌==◌, ◌&&◌, nat_lt, Bool, if◌then◌else◌}
use Rattle.std.proofs.lemmas.Bool.Decides.{nat_tests}
use Rattle.loop_merge.specs.Coalescing.Copies.{PlainRun, words_at, same_words, is_word, run_of, together}
use Rattle.loop_merge.proofs.CoalescingLemmas.Loops.{places_from, copies_from, AreCounted}
use Rattle.sigma_spl.specs.Merge.{is_free}
use Rattle.sigma_spl.specs.Nest.{PlainMultiplier, PlainNest}
use Rattle.sigma_spl.specs.Work.{PlainWork, kernel, rows, horner, tile, copy}
use Rattle.perm_algebra.specs.Affine.{Sum, constant, variable, remainder, quotient}
use Rattle.sigma_spl.proofs.Walk.{free-none}

-- ---- the words of a nest

record AreWords (counts : List ℕ) (es : List Sum) (r : PlainRun) : Type 0 where
  places : es ≡ places_from counts r.first
  counted : AreCounted counts r.count

chosen-words : (one none : Bool) (f d p c : ℕ) (r : PlainRun) → (one ≡ true → f ≡ 1) → (none ≡ true → d ≡ 0) →
    ◌≡◌ {A = Option PlainRun} (if one && none then Some (record { first = p; count = c }) else None) (Some r) → AreWords (c ∷ []) (variable f d (constant p) ∷ []) r
chosen-words true true f d p c r factor number h =
    let is : record { first = p; count = c } ≡ r = cc in
    subst (AreWords (c ∷ []) (variable f d (constant p) ∷ [])) is (record { places = ap₂ (λ a b. variable a b (constant p) ∷ []) (factor refl) (number refl); counted = refl })
chosen-words true false f d p c r factor number h = absurd (cc)
chosen-words false none f d p c r factor number h = absurd (cc)

equal : (a b : ℕ) → (a == b) ≡ true → a ≡ b
equal a b h = grind (arith, nat_tests)

words-are : (counts : List ℕ) (es : List Sum) (r : PlainRun) → words_at counts es ≡ Some r → AreWords counts es r
words-are [] [] r h = absurd (cc)
words-are [] (constant p ∷ []) r h =
    let is : record { first = p; count = 1 } ≡ r = cc in
    subst (AreWords [] (constant p ∷ [])) is (record { places = refl; counted = refl })
words-are [] (constant p ∷ e ∷ es) r h = absurd (cc)
words-are [] (variable f d rest ∷ es) r h = absurd (cc)
words-are [] (remainder f of m rest ∷ es) r h = absurd (cc)
words-are [] (quotient f of m rest ∷ es) r h = absurd (cc)
words-are (c ∷ []) [] r h = absurd (cc)
words-are (c ∷ []) (constant p ∷ es) r h = absurd (cc)
words-are (c ∷ []) (variable f d (constant p) ∷ []) r h = chosen-words (f == 1) (d == 0) f d p c r (equal f 1) (equal d 0) h
words-are (c ∷ []) (variable f d (constant p) ∷ e ∷ es) r h = absurd (cc)
words-are (c ∷ []) (variable f d (variable g e rest) ∷ es) r h = absurd (cc)
words-are (c ∷ []) (variable f d (remainder g of m rest) ∷ es) r h = absurd (cc)
words-are (c ∷ []) (variable f d (quotient g of m rest) ∷ es) r h = absurd (cc)
words-are (c ∷ []) (remainder f of m rest ∷ es) r h = absurd (cc)
words-are (c ∷ []) (quotient f of m rest ∷ es) r h = absurd (cc)
words-are (c ∷ d ∷ counts) es r h = absurd (cc)

-- loads and stores of the same words
record AreBoth (a b : Option PlainRun) (r : PlainRun) : Type 0 where
  from : a ≡ Some r
  to : PlainRun
  stored : b ≡ Some to
  same : to.first ≡ r.first

chosen-both : (r s t : PlainRun) → ◌≡◌ {A = Option PlainRun} (if r.first == s.first then Some r else None) (Some t) → (r ≡ t) × (s.first ≡ r.first)
chosen-both r s t h = grind (arith, nat_tests)

both-are : (a b : Option PlainRun) (r : PlainRun) → same_words a b ≡ Some r → AreBoth a b r
both-are None b r h = absurd (cc)
both-are (Some r) None t h = absurd (cc)
both-are (Some r) (Some s) t h =
    let both = chosen-both r s t h in record { from = ap Some both.0; to = s; stored = refl; same = both.1 ∙ ap (λ (u : PlainRun). u.first) both.0 }

-- ---- nests of them

pub record IsRun (z : PlainNest) (r : PlainRun) : Type 0 where
  pub is : z ≡ copies_from z.counts r.first
  pub counted : AreCounted z.counts r.count

word-is : (w : PlainWork) → is_word w ≡ true → w ≡ copy 1
word-is (kernel trees) h = absurd (cc)
word-is (rows root size) h = absurd (cc)
word-is (horner root size) h = absurd (cc)
word-is (tile lanes) h = absurd (cc)
word-is (copy size) h = let one : size ≡ 1 = grind (arith, nat_tests) in ap copy one

chosen-run : (a b : Bool) (o : Option PlainRun) (r : PlainRun) → ◌≡◌ {A = Option PlainRun} (if a && b then o else None) (Some r) → (a ≡ true) × (b ≡ true) × (o ≡ Some r)
chosen-run true true o r h = (refl, refl, h)
chosen-run true false o r h = absurd (cc)
chosen-run false b o r h = absurd (cc)

nest-is : (counts : List ℕ) (w : PlainWork) (gs : List Sum) (o : Option PlainMultiplier) (ss : List Sum) (p : ℕ) →
    w ≡ copy 1 → gs ≡ places_from counts p → o ≡ None → ss ≡ places_from counts p →
    ◌≡◌ {A = PlainNest} (record { counts = counts; work = w; gathers = gs; multiplier = o; scatters = ss }) (copies_from counts p)
nest-is counts w gs o ss p work loads free stores = cc

pub run-is : (z : PlainNest) (r : PlainRun) → run_of z ≡ Some r → IsRun z r
run-is z r h =
    let parts = chosen-run (is_word z.work) (is_free z.multiplier) (same_words (words_at z.counts z.gathers) (words_at z.counts z.scatters)) r h in
    let both = both-are (words_at z.counts z.gathers) (words_at z.counts z.scatters) r parts.2 in
    let loads = words-are z.counts z.gathers r both.from in
    let stores = words-are z.counts z.scatters both.to both.stored in
    record {
      is = nest-is z.counts z.work z.gathers z.multiplier z.scatters r.first (word-is z.work parts.0) loads.places (free-none z.multiplier parts.1) (stores.places ∙ ap (places_from z.counts) both.same);
      counted = loads.counted;
    }

-- ---- two of them together

pub record AreTogether (a b : Option PlainRun) (t : PlainRun) : Type 0 where
  pub left : PlainRun
  pub right : PlainRun
  pub first : a ≡ Some left
  pub second : b ≡ Some right
  pub begins : t.first ≡ left.first
  pub meets : right.first ≡ left.first + left.count
  pub whole : t.count ≡ left.count + right.count

record AreChosen (r s t : PlainRun) : Type 0 where
  begins : t.first ≡ r.first
  meets : s.first ≡ r.first + r.count
  whole : t.count ≡ r.count + s.count

chosen-together : (meets low : Bool) (r s t : PlainRun) → (meets ≡ true → s.first ≡ r.first + r.count) →
    ◌≡◌ {A = Option PlainRun} (if meets && low then Some (record { first = r.first; count = r.count + s.count }) else None) (Some t) → AreChosen r s t
chosen-together true true r s t at h =
    let is : record { first = r.first; count = r.count + s.count } ≡ t = cc in
    subst (AreChosen r s) is (record { begins = refl; meets = at refl; whole = refl })
chosen-together true false r s t at h = absurd (cc)
chosen-together false low r s t at h = absurd (cc)

pub together-are : (a b : Option PlainRun) (t : PlainRun) → together a b ≡ Some t → AreTogether a b t
together-are None b t h = absurd (cc)
together-are (Some r) None t h = absurd (cc)
together-are (Some r) (Some s) t h =
    let chosen = chosen-together (r.first + r.count == s.first) (nat_lt (s.first + s.count) (2 ^ 32)) r s t (λ e. sym (equal (r.first + r.count) s.first e)) h in
    record { left = r; right = s; first = refl; second = refl; begins = chosen.begins; meets = chosen.meets; whole = chosen.whole }
