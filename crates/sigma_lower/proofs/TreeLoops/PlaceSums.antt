-- Natural places as sums: one tensor more, and permutations at them.
use Rattle.sigma_lower.proofs.Words.{◌≡◌, ℕ, ◌+◌, ◌*◌, ◌<◌, ◌≤◌, arith, refl, ap, ap₂, ◌∙◌, List, [], ◌∷◌, ◌++◌, length}
use Rattle.sigma_lower.proofs.Words.{mul-le-mul, Mapping, Sum, constant, variable, top, scaled, added, simplified}
use Rattle.sigma_lower.proofs.Words.{top-scaled, top-added, proper-added, proper-scaled, positive-product, Fits}
use Rattle.sigma_lower.proofs.Words.{place_sum, AreCounts, all_simplified, Tensor, Blocks, Columns, Path, count_of}
use Rattle.sigma_lower.proofs.Words.{grown, size_under, size_under-push}
use Rattle.std.proofs.lemmas.Nat.{mul-add-lt}
use Rattle.sigma_lower.proofs.TreeLoops.TameSums.{tame-scaled, tame-added, few-added}

-- the place under one tensor
abbrev pub tensor_sum : Tensor → ℕ → ℕ → Sum → Sum
tensor_sum (Blocks c) n d e = added (scaled n (variable 1 d (constant 0))) e
tensor_sum (Columns c) n d e = added (scaled c e) (variable 1 d (constant 0))

pub place_sum-push : (path : Path) (t : Tensor) (n d : ℕ) (e : Sum) →
    place_sum (path ++ t ∷ []) n d e ≡ place_sum path (grown t n) d (tensor_sum t n (d + length path) e)
place_sum-push [] (Blocks c) n d e = ap (λ i. added (scaled n (variable 1 i (constant 0))) e) (omega arith)
place_sum-push [] (Columns c) n d e = ap (λ i. added (scaled c e) (variable 1 i (constant 0))) (omega arith)
place_sum-push (Blocks c ∷ path) t n d e =
    let deeper : d + 1 + length path ≡ d + length (Blocks c ∷ path) = omega arith in
    ap₂ (λ size g. added (scaled size (variable 1 d (constant 0))) g) (size_under-push path t n)
    (place_sum-push path t n (d + 1) e ∙ ap (λ i. place_sum path (grown t n) (d + 1) (tensor_sum t n i e)) deeper)
place_sum-push (Columns c ∷ path) t n d e =
    let deeper : d + 1 + length path ≡ d + length (Columns c ∷ path) = omega arith in
    ap (λ g. added (scaled c g) (variable 1 d (constant 0)))
    (place_sum-push path t n (d + 1) e ∙ ap (λ i. place_sum path (grown t n) (d + 1) (tensor_sum t n i e)) deeper)

-- the counts of a longer path
pub record ArePushed (path : Path) (t : Tensor) (n d : ℕ) (cs : ℕ → ℕ) : Type 0 where
  pub before : AreCounts path (grown t n) d cs
  pub count : cs (d + length path) ≡ count_of t
  pub two : 2 ≤ count_of t
  pub positive : 0 < n

pub counts-push : (path : Path) (t : Tensor) (n d : ℕ) (cs : ℕ → ℕ) → AreCounts (path ++ t ∷ []) n d cs →
    ArePushed path t n d cs
counts-push [] (Blocks c) n d cs h =
    record { before = positive-product c n (omega (arith, h.1)) h.2; count = ap cs (omega arith) ∙ h.0; two = h.1; positive = h.2 }
counts-push [] (Columns c) n d cs h =
    record { before = positive-product n c h.2 (omega (arith, h.1)); count = ap cs (omega arith) ∙ h.0; two = h.1; positive = h.2 }
counts-push (Blocks c ∷ path) t n d cs h =
    let inner = counts-push path t n (d + 1) cs h.2 in
    record { before = (h.0, h.1, inner.before); count = ap cs (omega arith) ∙ inner.count; two = inner.two; positive = inner.positive }
counts-push (Columns c ∷ path) t n d cs h =
    let inner = counts-push path t n (d + 1) cs h.2 in
    record { before = (h.0, h.1, inner.before); count = ap cs (omega arith) ∙ inner.count; two = inner.two; positive = inner.positive }

pub size-positive : (path : Path) (n d : ℕ) (cs : ℕ → ℕ) → AreCounts path n d cs → 0 < size_under path n
size-positive [] n d cs h = h
size-positive (Blocks c ∷ path) n d cs h = positive-product c (size_under path n) (omega (arith, h.1)) (size-positive path n (d + 1) cs h.2)
size-positive (Columns c ∷ path) n d cs h = positive-product (size_under path n) c (size-positive path n (d + 1) cs h.2) (omega (arith, h.1))

pub variable-fits : (c d : ℕ) (cs : ℕ → ℕ) → cs d ≡ c → 2 ≤ c → Fits c (variable 1 d (constant 0)) cs
variable-fits c d cs e h = record { proper = (omega arith, omega arith, tt); small = omega arith; tame = tt; few = let four : 2 * 2 ≤ c * c = mul-le-mul h h in omega arith }

-- a multiple and a rest
pub parts-fit : (r s : ℕ) (a e : Sum) (cs : ℕ → ℕ) → 0 < s → Fits r a cs → Fits s e cs →
    Fits (r * s) (added (scaled s a) e) cs
parts-fit r s a e cs h f g =
    record {
      proper = proper-added (scaled s a) e cs (proper-scaled s a cs h f.proper) g.proper;
      small =
          let e1 = top-added (scaled s a) e cs in
          let e2 = top-scaled s a cs in
          let bound = mul-add-lt (top a cs) s (top e cs) r f.small g.small in omega arith;
      tame = tame-added cs (scaled s a) e (tame-scaled cs s a f.tame) g.tame;
      few = few-added r s a e f.few g.few;
    }

pub tensor_sum-fits : (t : Tensor) (n d : ℕ) (e : Sum) (cs : ℕ → ℕ) → cs d ≡ count_of t → 2 ≤ count_of t → 0 < n →
    Fits n e cs → Fits (grown t n) (tensor_sum t n d e) cs
tensor_sum-fits (Blocks c) n d e cs count two positive f = parts-fit c n (variable 1 d (constant 0)) e cs positive (variable-fits c d cs count two) f
tensor_sum-fits (Columns c) n d e cs count two positive f = parts-fit n c e (variable 1 d (constant 0)) cs (omega arith) f (variable-fits c d cs count two)

pub place_sum-fits : (path : Path) (n d : ℕ) (e : Sum) (cs : ℕ → ℕ) → AreCounts path n d cs → Fits n e cs →
    Fits (size_under path n) (place_sum path n d e) cs
place_sum-fits [] n d e cs h f = f
place_sum-fits (Blocks c ∷ path) n d e cs h f =
    tensor_sum-fits (Blocks c) (size_under path n) d (place_sum path n (d + 1) e) cs h.0 h.1 (size-positive path n (d + 1) cs h.2) (place_sum-fits path n (d + 1) e cs h.2 f)
place_sum-fits (Columns c ∷ path) n d e cs h f =
    tensor_sum-fits (Columns c) (size_under path n) d (place_sum path n (d + 1) e) cs h.0 h.1 (size-positive path n (d + 1) cs h.2) (place_sum-fits path n (d + 1) e cs h.2 f)

pub all_simplified-append : (cs : ℕ → ℕ) (fs : List Mapping) (f : Mapping) (e : Sum) →
    all_simplified cs (fs ++ f ∷ []) e ≡ simplified cs f (all_simplified cs fs e)
all_simplified-append cs [] f e = refl
all_simplified-append cs (g ∷ fs) f e = all_simplified-append cs fs f (simplified cs g e)
