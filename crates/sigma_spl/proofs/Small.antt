-- Sums within the limits, under tensors and after other words.
use Rattle.std.proofs.Common.{◌≡◌, ℕ, zero, suc, ◌+◌, ◌*◌, ◌-◌, ◌/◌, ◌^◌, ◌<◌, ◌≤◌, true, arith, refl, sym, ap, ap₂}
use Rattle.std.proofs.Common.{◌∙◌, [], ◌∷◌, length, subst}
use Rattle.std.specs.Prelude.{nat_lt, max, ◌&&◌}
use Rattle.std.proofs.Math.Nat.{mul-le-mul}
use Rattle.std.proofs.lemmas.Bool.Decides.{nat_tests}
use Rattle.std.proofs.lemmas.Nat.{mul-add-lt}
use Rattle.std.proofs.lemmas.Bool.{and_from}
use Rattle.perm_algebra.specs.Affine.{Sum, constant, variable, remainder, quotient, top, peak, levels, parts, scaled}
use Rattle.perm_algebra.specs.Affine.{added}
use Rattle.perm_algebra.proofs.AffineLaws.{top-scaled, top-added}
use Rattle.perm_algebra.proofs.Sizes.{levels-scaled, levels-added, parts-scaled, parts-added}
use Rattle.sigma_spl.specs.Limits.{AreSeveral}
use Rattle.sigma_spl.specs.Merge.{total, is_divided, are_small, place_sum, renumbered}
use Rattle.sigma_spl.proofs.Walk.{and-left, and-right}
use Rattle.sigma_spl.proofs.Within.{IsSmall, small-true}
use Rattle.operators.specs.declared.paths.Tensor.TheVariants.{Blocks, Columns}
use Rattle.operators.specs.Paths.Tensors.{Path, count_of, size_under}

pub max-lt : (a b n : ℕ) → a < n → b < n → max a b < n
max-lt a b n h k = grind (arith, nat_tests)

pub max-left : (a b n : ℕ) → max a b < n → a < n
max-left a b n h = grind (arith, nat_tests)

pub max-right : (a b n : ℕ) → max a b < n → b < n
max-right a b n h = grind (arith, nat_tests)

-- ---- a number more

peak-more : (c n : ℕ) (cs : ℕ → ℕ) (e : Sum) → peak e < n → c + top e cs < n → peak (added (constant c) e) < n
peak-more c n cs (constant d) h t = t
peak-more c n cs (variable f d rest) h t = max-lt f _ n (max-left f (peak rest) n h) (peak-more c n cs rest (max-right f (peak rest) n h) (omega arith))
peak-more c n cs (remainder f of m rest) h t = max-lt f _ n (max-left f (peak rest) n h) (peak-more c n cs rest (max-right f (peak rest) n h) (omega arith))
peak-more c n cs (quotient f of m rest) h t = max-lt f _ n (max-left f (peak rest) n h) (peak-more c n cs rest (max-right f (peak rest) n h) (omega arith))

small-more : (c : ℕ) (cs : ℕ → ℕ) (e : Sum) → are_small cs e ≡ true → c + top e cs < 2 ^ 32 →
    are_small cs (added (constant c) e) ≡ true
small-more c cs (constant d) h t = small-true (c + d) t
small-more c cs (variable f d rest) h t = and_from _ _ (and-left (nat_lt f (2 ^ 32)) _ h) (small-more c cs rest (and-right (nat_lt f (2 ^ 32)) _ h) (omega arith))
small-more c cs (remainder f of m rest) h t =
    let outer = is_divided cs f of m in
    and_from _ _ (and-left outer _ h) (and_from _ _ (and-left (are_small cs of) _ (and-right outer _ h)) (small-more c cs rest (and-right (are_small cs of) _ (and-right outer _ h)) (omega arith)))
small-more c cs (quotient f of m rest) h t =
    let outer = is_divided cs f of m in
    and_from _ _ (and-left outer _ h) (and_from _ _ (and-left (are_small cs of) _ (and-right outer _ h)) (small-more c cs rest (and-right (are_small cs of) _ (and-right outer _ h)) (omega arith)))

-- ---- a variable at the end

peak-end : (v n : ℕ) (e : Sum) → peak e < n → 1 < n → peak (added e (variable 1 v (constant 0))) < n
peak-end v n (constant c) h two = max-lt 1 (c + 0) n two (omega arith)
peak-end v n (variable f d rest) h two = max-lt f _ n (max-left f (peak rest) n h) (peak-end v n rest (max-right f (peak rest) n h) two)
peak-end v n (remainder f of m rest) h two = max-lt f _ n (max-left f (peak rest) n h) (peak-end v n rest (max-right f (peak rest) n h) two)
peak-end v n (quotient f of m rest) h two = max-lt f _ n (max-left f (peak rest) n h) (peak-end v n rest (max-right f (peak rest) n h) two)

small-end : (cs : ℕ → ℕ) (v : ℕ) (e : Sum) → are_small cs e ≡ true →
    are_small cs (added e (variable 1 v (constant 0))) ≡ true
small-end cs v (constant c) h = let e : c + 0 ≡ c = omega arith in ap (λ d. nat_lt d (2 ^ 32)) e ∙ h
small-end cs v (variable f d rest) h = and_from _ _ (and-left (nat_lt f (2 ^ 32)) _ h) (small-end cs v rest (and-right (nat_lt f (2 ^ 32)) _ h))
small-end cs v (remainder f of m rest) h =
    let outer = is_divided cs f of m in
    and_from _ _ (and-left outer _ h) (and_from _ _ (and-left (are_small cs of) _ (and-right outer _ h)) (small-end cs v rest (and-right (are_small cs of) _ (and-right outer _ h))))
small-end cs v (quotient f of m rest) h =
    let outer = is_divided cs f of m in
    and_from _ _ (and-left outer _ h) (and_from _ _ (and-left (are_small cs of) _ (and-right outer _ h)) (small-end cs v rest (and-right (are_small cs of) _ (and-right outer _ h))))

-- ---- multiples

pub times-lt : (c f n : ℕ) → 0 < c → f < n → c * f < n * c
times-lt zero f n h k = absurd (omega arith)
times-lt (suc c) f n h k = let bound = mul-add-lt f (suc c) c n k (omega arith) in let e : suc c * f ≡ f * suc c = omega arith in omega (arith, bound, e)

pub peak-scaled : (c n : ℕ) (e : Sum) → 0 < c → peak e < n → peak (scaled c e) < n * c
peak-scaled c n (constant d) some h = times-lt c d n some h
peak-scaled c n (variable f d rest) some h = max-lt (c * f) _ (n * c) (times-lt c f n some (max-left f (peak rest) n h)) (peak-scaled c n rest some (max-right f (peak rest) n h))
peak-scaled c n (remainder f of m rest) some h = max-lt (c * f) _ (n * c) (times-lt c f n some (max-left f (peak rest) n h)) (peak-scaled c n rest some (max-right f (peak rest) n h))
peak-scaled c n (quotient f of m rest) some h = max-lt (c * f) _ (n * c) (times-lt c f n some (max-left f (peak rest) n h)) (peak-scaled c n rest some (max-right f (peak rest) n h))

pub above : (n : ℕ) → nat_lt 0 n ≡ true → 0 < n
above n h = grind (arith, nat_tests)

-- a part that divides, from its numbers
pub divided-true : (cs : ℕ → ℕ) (f : ℕ) (of : Sum) (m : ℕ) → 0 < f → f < 2 ^ 32 → 0 < m → m < 2 ^ 32 →
    total of < 2 ^ 32 → top of cs < 2 ^ 64 → is_divided cs f of m ≡ true
divided-true cs f of m a b c d t w = tests f m (total of) (top of cs) a b c d t w
  where
    tests : (f m t w : ℕ) → 0 < f → f < 2 ^ 32 → 0 < m → m < 2 ^ 32 → t < 2 ^ 32 → w < 2 ^ 64 →
        ((nat_lt 0 f && nat_lt f (2 ^ 32)) && ((nat_lt 0 m && nat_lt m (2 ^ 32))
        && (nat_lt t (2 ^ 32) && nat_lt w (2 ^ 64)))) ≡ true
    tests f m t w a b c d e g = grind (arith, nat_tests)

-- with another factor
divided-scaled : (cs : ℕ → ℕ) (c f n : ℕ) (of : Sum) (m : ℕ) → 0 < c → f < n → n * c ≤ 2 ^ 20 →
    is_divided cs f of m ≡ true → is_divided cs (c * f) of m ≡ true
divided-scaled cs c f n of m some h high s =
    let rest = (nat_lt 0 m && nat_lt m (2 ^ 32)) && (nat_lt (total of) (2 ^ 32) && nat_lt (top of cs) (2 ^ 64)) in
    let whole = nat_lt 0 f && nat_lt f (2 ^ 32) in
    let positive : 0 < f = above f (and-left (nat_lt 0 f) (nat_lt f (2 ^ 32)) (and-left whole rest s)) in
    let more : 1 * 1 ≤ c * f = mul-le-mul some positive in
    and_from _ _ (and_from _ _ (positive-true (c * f) (omega (arith, more))) (small-true (c * f) (omega (arith, times-lt c f n some h, high)))) (and-right whole rest s)
  where
    positive-true : (n : ℕ) → 0 < n → nat_lt 0 n ≡ true
    positive-true n h = grind (arith, nat_tests)

small-scaled : (cs : ℕ → ℕ) (c n : ℕ) (e : Sum) → 0 < c → peak e < n → n * c ≤ 2 ^ 20 → are_small cs e ≡ true →
    are_small cs (scaled c e) ≡ true
small-scaled cs c n (constant d) some h high s = small-true (c * d) (omega (arith, times-lt c d n some h))
small-scaled cs c n (variable f d rest) some h high s =
    and_from _ _ (small-true (c * f) (omega (arith, times-lt c f n some (max-left f (peak rest) n h)))) (small-scaled cs c n rest some (max-right f (peak rest) n h) high (and-right (nat_lt f (2 ^ 32)) _ s))
small-scaled cs c n (remainder f of m rest) some h high s =
    let outer = is_divided cs f of m in
    and_from _ _ (divided-scaled cs c f n of m some (max-left f (peak rest) n h) high (and-left outer _ s))
    (and_from _ _ (and-left (are_small cs of) _ (and-right outer _ s)) (small-scaled cs c n rest some (max-right f (peak rest) n h) high (and-right (are_small cs of) _ (and-right outer _ s))))
small-scaled cs c n (quotient f of m rest) some h high s =
    let outer = is_divided cs f of m in
    and_from _ _ (divided-scaled cs c f n of m some (max-left f (peak rest) n h) high (and-left outer _ s))
    (and_from _ _ (and-left (are_small cs of) _ (and-right outer _ s)) (small-scaled cs c n rest some (max-right f (peak rest) n h) high (and-right (are_small cs of) _ (and-right outer _ s))))

-- ---- under tensors

-- the variables from v on run below the path's counts
abbrev pub HasCounts : Path → ℕ → (ℕ → ℕ) → Type 0
HasCounts [] v cs = Unit {0}
HasCounts (t ∷ path) v cs = (cs v ≡ count_of t) × HasCounts path (v + 1) cs

pub size-positive : (path : Path) (d : ℕ) → AreSeveral path → 0 < d → 0 < size_under path d
size-positive [] d several h = h
size-positive (Blocks c ∷ path) d several h = let g = times-lt c 0 (size_under path d) (omega (arith, several.0)) (size-positive path d several.1 h) in let e : size_under path d * c ≡ c * size_under path d = omega arith in omega (arith, g, e)
size-positive (Columns c ∷ path) d several h = let g = times-lt c 0 (size_under path d) (omega (arith, several.0)) (size-positive path d several.1 h) in omega (arith, g)

more-than : (c n : ℕ) → 2 ≤ c → 0 < n → n < c * n
more-than c n two some = let g = times-lt c 1 (n + 1) (omega arith) (omega arith) in step c n two some where
  step : (c n : ℕ) → 2 ≤ c → 0 < n → n < c * n
  step zero n two some = absurd (omega arith)
  step (suc zero) n two some = absurd (omega arith)
  step (suc (suc c)) n two some = let e : suc (suc c) * n ≡ c * n + n + n = omega arith in omega (arith, e)

inner-high : (t : ℕ) (n c : ℕ) → 2 ≤ c → c * n ≤ 2 ^ 20 → n ≤ 2 ^ 20
inner-high t zero c two h = omega arith
inner-high t (suc n) c two h = let g = more-than c (suc n) two (omega arith) in omega (arith, g)

pub place-small : (path : Path) (r d v : ℕ) (e : Sum) (cs : ℕ → ℕ) → AreSeveral path → HasCounts path v cs → 0 < d →
    size_under path d ≤ 2 ^ 20 → IsSmall r d cs e → IsSmall (r + length path)
    (size_under path d) cs (place_sum path d v e)
place-small [] r d v e cs several counts some high h = record { parts = omega (arith, h.parts); levels = h.levels; top = h.top; peak = h.peak; small = h.small }
place-small (Blocks c ∷ path) r d v e cs several counts some high h =
    let n = size_under path d in
    let g = place_sum path d (v + 1) e in
    let positive = size-positive path d several.1 some in
    let low = inner-high 0 n c several.0 high in
    let inner : IsSmall (r + length path) n cs g = place-small path r d (v + 1) e cs several.1 counts.1 some low h in
    let first = scaled n (variable 1 v (constant 0)) in
    let larger = more-than c n several.0 positive in
    let none : n * 0 ≡ 0 = omega arith in
    let one : n * 1 ≡ n = omega arith in
    record {
      parts = omega (arith, parts-added first g, inner.parts);
      levels = levels-added first g 64 (omega arith) inner.levels;
      top = let bound = mul-add-lt (c - 1) n (top g cs) c (omega (arith, several.0)) inner.top in
          let count : cs v - 1 ≡ c - 1 = ap (λ z. z - 1) counts.0 in
          let whole : n * 1 * (cs v - 1) + n * 0 ≡ (c - 1) * n = ap (λ z. n * 1 * z + n * 0) count ∙ flat n (c - 1) in omega (arith, top-added first g cs, whole, bound);
      peak = max-lt (n * 1) _ (c * n) (omega (arith, larger, one)) (peak-more (n * 0) (c * n) cs g (omega (arith, inner.peak, larger)) (omega (arith, none, inner.top, larger)));
      small = and_from _ _ (small-true (n * 1) (omega (arith, one, low))) (small-more (n * 0) cs g inner.small (omega (arith, none, inner.top, low)));
    } where
      flat : (n b : ℕ) → n * 1 * b + n * 0 ≡ b * n
      flat n b = omega arith
place-small (Columns c ∷ path) r d v e cs several counts some high h =
    let n = size_under path d in
    let g = place_sum path d (v + 1) e in
    let positive = size-positive path d several.1 some in
    let turned : c * n ≡ n * c = omega arith in
    let low = inner-high 0 n c several.0 (omega (arith, turned, high)) in
    let inner : IsSmall (r + length path) n cs g = place-small path r d (v + 1) e cs several.1 counts.1 some low h in
    let last = variable 1 v (constant 0) in
    let larger = more-than c n several.0 positive in
    let count : cs v - 1 ≡ c - 1 = ap (λ z. z - 1) counts.0 in
    record {
      parts = omega (arith, parts-added (scaled c g) last, parts-scaled c g, inner.parts);
      levels = levels-added (scaled c g) last 64 (omega (arith, levels-scaled c g, inner.levels)) (omega arith);
      top = let bound = mul-add-lt (top g cs) c (c - 1) n inner.top (omega (arith, several.0)) in
          let swap : c * top g cs ≡ top g cs * c = omega arith in omega (arith, top-added (scaled c g) last cs, top-scaled c g cs, swap, count, bound);
      peak = peak-end v (n * c) (scaled c g) (peak-scaled c n g (omega (arith, several.0)) inner.peak) (omega (arith, larger, turned, positive));
      small = small-end cs v (scaled c g) (small-scaled cs c n g (omega (arith, several.0)) inner.peak high inner.small);
    }

-- ---- after other words

levels-more : (c : ℕ) (e : Sum) → levels e ≤ 64 → levels (added (constant c) e) ≤ 64
levels-more c e h = levels-added (constant c) e 64 (omega arith) h

parts-renumbered : (k : ℕ) (e : Sum) → parts (renumbered k e) ≡ parts e
parts-renumbered k (constant c) = refl
parts-renumbered k (variable f d rest) = ap (λ z. 1 + z) (parts-renumbered k rest)
parts-renumbered k (remainder f of m rest) = ap₂ (λ y z. 1 + y + z) (parts-renumbered k of) (parts-renumbered k rest)
parts-renumbered k (quotient f of m rest) = ap₂ (λ y z. 1 + y + z) (parts-renumbered k of) (parts-renumbered k rest)

levels-renumbered : (k : ℕ) (e : Sum) → levels (renumbered k e) ≡ levels e
levels-renumbered k (constant c) = refl
levels-renumbered k (variable f d rest) = levels-renumbered k rest
levels-renumbered k (remainder f of m rest) = ap₂ (λ y z. max (1 + y) z) (levels-renumbered k of) (levels-renumbered k rest)
levels-renumbered k (quotient f of m rest) = ap₂ (λ y z. max (1 + y) z) (levels-renumbered k of) (levels-renumbered k rest)

peak-renumbered : (k : ℕ) (e : Sum) → peak (renumbered k e) ≡ peak e
peak-renumbered k (constant c) = refl
peak-renumbered k (variable f d rest) = ap (max f) (peak-renumbered k rest)
peak-renumbered k (remainder f of m rest) = ap (max f) (peak-renumbered k rest)
peak-renumbered k (quotient f of m rest) = ap (max f) (peak-renumbered k rest)

top-renumbered : (k : ℕ) (e : Sum) (cs : ℕ → ℕ) → top (renumbered k e) cs ≡ top e (λ d. cs (d + k))
top-renumbered k (constant c) cs = refl
top-renumbered k (variable f d rest) cs = ap (λ z. f * (cs (d + k) - 1) + z) (top-renumbered k rest cs)
top-renumbered k (remainder f of m rest) cs = ap (λ z. f * (m - 1) + z) (top-renumbered k rest cs)
top-renumbered k (quotient f of m rest) cs = ap₂ (λ y z. f * (y / m) + z) (top-renumbered k of cs) (top-renumbered k rest cs)

total-renumbered : (k : ℕ) (e : Sum) → total (renumbered k e) ≡ total e
total-renumbered k (constant c) = refl
total-renumbered k (variable f d rest) = ap (λ z. f + z) (total-renumbered k rest)
total-renumbered k (remainder f of m rest) = ap (λ z. f + z) (total-renumbered k rest)
total-renumbered k (quotient f of m rest) = ap (λ z. f + z) (total-renumbered k rest)

module _ (k : ℕ) (cs ds : ℕ → ℕ) (same : (d : ℕ) → ds (d + k) ≡ cs d) where
  top-same : (e : Sum) → top (renumbered k e) ds ≡ top e cs
  top-same e = top-renumbered k e ds ∙ ap (top e) (λ t d. same d t)

  divided-same : (f : ℕ) (of : Sum) (m : ℕ) → is_divided ds f (renumbered k of) m ≡ is_divided cs f of m
  divided-same f of m =
      ap₂ (λ t w. (nat_lt 0 f && nat_lt f (2 ^ 32)) && ((nat_lt 0 m && nat_lt m (2 ^ 32)) && (nat_lt t (2 ^ 32) && nat_lt w (2 ^ 64)))) (total-renumbered k of) (top-same of)

  small-renumbered : (e : Sum) → are_small ds (renumbered k e) ≡ are_small cs e
  small-renumbered (constant c) = refl
  small-renumbered (variable f d rest) = ap (λ z. nat_lt f (2 ^ 32) && z) (small-renumbered rest)
  small-renumbered (remainder f of m rest) = ap₂ (λ x z. x && z) (divided-same f of m) (ap₂ (λ y z. y && z) (small-renumbered of) (small-renumbered rest))
  small-renumbered (quotient f of m rest) = ap₂ (λ x z. x && z) (divided-same f of m) (ap₂ (λ y z. y && z) (small-renumbered of) (small-renumbered rest))

pub renumbered-small : (k room n : ℕ) (cs ds : ℕ → ℕ) (e : Sum) → ((d : ℕ) → ds (d + k) ≡ cs d) → IsSmall room n cs e →
    IsSmall room n ds (renumbered k e)
renumbered-small k room n cs ds e same h =
    record {
      parts = omega (arith, parts-renumbered k e, h.parts);
      levels = omega (arith, levels-renumbered k e, h.levels);
      top = subst (λ z. z < n) (sym (top-renumbered k e ds ∙ ap (top e) (λ t d. same d t))) h.top;
      peak = omega (arith, peak-renumbered k e, h.peak);
      small = small-renumbered k cs ds same e ∙ h.small;
    }

pub behind-small : (before room k n : ℕ) (cs : ℕ → ℕ) (e : Sum) → before + k ≤ n → n ≤ 2 ^ 20 → IsSmall room k cs e →
    IsSmall room n cs (added (constant before) e)
behind-small before room k n cs e fits high h =
    record {
      parts = omega (arith, parts-added (constant before) e, h.parts);
      levels = levels-more before e h.levels;
      top = omega (arith, top-added (constant before) e cs, h.top);
      peak = peak-more before n cs e (omega (arith, h.peak)) (omega (arith, h.top));
      small = small-more before cs e h.small (omega (arith, h.top));
    }
