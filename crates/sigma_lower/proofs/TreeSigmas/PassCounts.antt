-- A layout has at least one pass, and few.
use Rattle.sigma_lower.proofs.Words.{◌≡◌, ℕ, ◌+◌, ◌*◌, ◌^◌, ◌≤◌, Bool, true, false, List, ◌∷◌, ◌++◌, length, map, suc}
use Rattle.sigma_lower.proofs.Words.{refl, sym, ap, ap₂, ◌∙◌, arith, subst, nat_le, length-map, mul-le, chosen, Counted}
use Rattle.sigma_lower.proofs.Words.{tiles, counted, passes_of, tiled_passes, twiddle_by, twiddle_last, whole_passes}
use Rattle.sigma_lower.proofs.Words.{PlainPass, Layout, work, by, layout_size, IsGoodLayout, Rule, Gt, Ct}
use Rattle.sigma_lower.proofs.Words.{length-append, pow-add}
use Rattle.sigma_lower.proofs.TreeSigmas.Loops.{weight-small}

-- ---- how many passes a layout has

abbrev number : Layout → ℕ
number (work w) = 1
number (by rule root a b) = number b + number a

length-twiddled : (ps : List Counted) → length (twiddle_last ps) ≡ length ps
length-twiddled (p ∷ q ∷ ps) = ap suc (length-twiddled (q ∷ ps))
length-twiddled _ = refl

length-by : (rule : Rule) (ps : List Counted) → length (twiddle_by rule ps) ≡ length ps
length-by Ct ps = length-twiddled ps
length-by _ ps = refl

length-passes : (n : ℕ) (l : Layout) → length (passes_of n l) ≡ number l
length-passes n (work w) = refl
length-passes n (by rule root a b) =
    length-append (twiddle_by rule (passes_of (n * layout_size a) b)) (passes_of (n * layout_size b) a)
    ∙ ap₂ (λ x y. x + y) (length-by rule (passes_of (n * layout_size a) b) ∙ length-passes (n * layout_size a) b)
    (length-passes (n * layout_size b) a)

number-some : (l : Layout) → 1 ≤ number l
number-some (work w) = omega arith
number-some (by rule root a b) = let some = number-some a in omega arith

-- each pass but the first at least doubles the size
number-few : (m : ℕ) (l : Layout) → IsGoodLayout m l → 2 ≤ layout_size l → 2 ^ number l ≤ layout_size l
number-few m (work w) h two = omega (arith, two)
number-few m (by rule root a b) h two =
    let x = number a in
    let y = number b in
    let both : 2 ^ x * 2 ^ y ≤ layout_size a * layout_size b =
    mul-le (2 ^ x) (2 ^ y) (layout_size a) (layout_size b) (number-few m a h.1 h.0.left)
    (number-few m b h.2 h.0.right) in
    let turned : x + y ≡ y + x = omega arith in
    subst (λ e. 2 ^ e ≤ layout_size a * layout_size b) turned
    (subst (λ n. n ≤ layout_size a * layout_size b) (sym (pow-add 2 x y)) both)

number-small : (m : ℕ) (l : Layout) → IsGoodLayout m l → layout_size l ≤ 1048576 → number l ≤ 20
number-small m (work w) h high = omega arith
number-small m (by rule root a b) h high =
    let n = layout_size a * layout_size b in
    let two : 2 * 2 ≤ n = mul-le 2 2 (layout_size a) (layout_size b) h.0.left h.0.right in
    weight-small (number b + number a) (omega (arith, number-few m (by rule root a b) h (omega (arith, two)), high))

-- ---- a layout of at most 1048576 words has at most 22 passes

-- the passes of both parts, and one over tiles between them
between : (a b : Layout) (t : Bool) →
    length (passes_of (layout_size a) b ++ (tiles t ∷ passes_of (layout_size b) a)) ≡ number b + suc (number a)
between a b t =
    length-append (passes_of (layout_size a) b) (tiles t ∷ passes_of (layout_size b) a)
    ∙ ap₂ (λ x y. x + suc y) (length-passes (layout_size a) b) (length-passes (layout_size b) a)

record AreFew (most : ℕ) (passes : List Counted) : Type 0 where
  some : 1 ≤ length passes
  few : length passes ≤ 2 + most

few-plain : (l : Layout) → AreFew (number l) (passes_of 1 l)
few-plain l =
    let is = length-passes 1 l in
    let some = number-some l in
    record { some = omega (arith, is, some); few = omega (arith, is) }

few-tiled : (l : Layout) → AreFew (number l) (tiled_passes l)
few-tiled (work w) = few-plain (work w)
few-tiled (by Gt root a b) = few-plain (by Gt root a b)
few-tiled (by Ct root a b) = let is = between a b true in record { some = omega (arith, is); few = omega (arith, is) }
few-tiled (by _ root a b) = let is = between a b false in record { some = omega arith; few = omega (arith, is) }

few-whole : (lanes : ℕ) (l : Layout) → AreFew (number l) (whole_passes lanes l)
few-whole lanes l =
    chosen (AreFew (number l)) (nat_le lanes 1) (passes_of 1 l) (tiled_passes l) (λ one. few-plain l) (few-tiled l)

-- the merged passes of a layout, which are as many
pub record AreFewMerged (ps : List PlainPass) : Type 0 where
  pub some : 1 ≤ length ps
  pub few : length ps ≤ 22

pub few_merged : (m lanes : ℕ) (l : Layout) (ps : List PlainPass) → IsGoodLayout m l → layout_size l ≤ 1048576 →
    map counted ps ≡ whole_passes lanes l → AreFewMerged ps
few_merged m lanes l ps h high counts =
    let all = few-whole lanes l in
    let some = all.some in
    let few = all.few in
    let low = number-small m l h high in
    let same = ap length counts in
    let long = length-map ps counted in
    record { some = omega (arith, some, same, long); few = omega (arith, few, low, same, long) }
