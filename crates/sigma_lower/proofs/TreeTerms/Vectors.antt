-- Functions that keep vectors: v words side by side, from a multiple of v on, stay so. Under tensors they do where the
-- first columns are a multiple of v.
use Rattle.sigma_lower.proofs.Words.{◌≡◌, ℕ, ◌+◌, ◌*◌, ◌/◌, ◌%◌, ◌<◌, arith, sym, ap, ap₂, subst, ◌∙◌, [], ◌∷◌, ◌++◌}
use Rattle.sigma_lower.proofs.Words.{inl, inr, mod-lt, ◌==◌, div-add-mod', zero-mul, Mapping, at, row-of, column-of}
use Rattle.sigma_lower.proofs.Words.{place_below, wrapped, chosen, within, Blocks, Columns, Path, size_under, is-one}
use Rattle.std.proofs.Common.{eq-zero-or-pos}
use Rattle.std.proofs.Math.Nat.{div-zero, mod-zero}

-- ---- vectors in rows of m vectors

-- the word l of the vector a stands in the row a / m
pub record IsApart (a m v l : ℕ) : Type 0 where
  pub row : (a * v + l) / (m * v) ≡ a / m
  pub column : (a * v + l) % (m * v) ≡ a % m * v + l

apart-none : (a v l : ℕ) → IsApart a 0 v l
apart-none a v l = record {
  row = ap (λ k. (a * v + l) / k) (zero-mul v) ∙ div-zero (a * v + l) ∙ sym (div-zero a);
  column = ap (λ k. (a * v + l) % k) (zero-mul v) ∙ mod-zero (a * v + l) ∙ ap (λ k. k * v + l) (sym (mod-zero a));
}

apart-some : (a m v l : ℕ) → 0 < m → l < v → IsApart a m v l
apart-some a m v l positive below =
    let whole : a * v + l ≡ (a / m) * (m * v) + (a % m * v + l) = ap (λ n. n * v + l) (sym (div-add-mod' a m)) ∙ omega arith in
    let inside : a % m * v + l < m * v = place_below (a % m) l m v (mod-lt a positive) below in
    record {
      row = ap (λ n. n / (m * v)) whole ∙ row-of (a / m) (a % m * v + l) (m * v) inside;
      column = ap (λ n. n % (m * v)) whole ∙ column-of (a / m) (a % m * v + l) (m * v) inside;
    }

pub apart : (a m v l : ℕ) → l < v → IsApart a m v l
apart a m v l below =
    elim (eq-zero-or-pos m) [
      | inl none ↦ subst (λ k. IsApart a k v l) (sym none) (apart-none a v l)
      | inr positive ↦ apart-some a m v l positive below
    ]

-- ---- functions that keep vectors

abbrev pub KeepsVectors : ℕ → Mapping → Type 0
KeepsVectors v f = (a : ℕ) → (b : ℕ) × ((l : ℕ) → l < v → at f (a * v + l) ≡ b * v + l)

-- ---- paths that move vectors: their first columns are a multiple of v

abbrev pub HasVectors : ℕ → Path → Type 0
HasVectors v [] = v ≡ 1
HasVectors v (Blocks k ∷ path) = HasVectors v path
HasVectors v (Columns k ∷ path) = (m : ℕ) × (k ≡ m * v)

-- vectors of one word are moved by all
pub single-vectors : (v : ℕ) (path : Path) → v ≡ 1 → HasVectors v path
single-vectors v [] e = e
single-vectors v (Blocks k ∷ path) e = single-vectors v path e
single-vectors v (Columns k ∷ path) e = (k, sym (ap (λ n. k * n) e ∙ omega arith))

pub vectors-append : (v : ℕ) (path rest : Path) → HasVectors v path → HasVectors v (path ++ rest)
vectors-append v [] rest h = single-vectors v rest h
vectors-append v (Blocks k ∷ path) rest h = vectors-append v path rest h
vectors-append v (Columns k ∷ path) rest h = h

pub vectors-blocks : (v k : ℕ) (path : Path) → HasVectors v path → HasVectors v (within (Blocks k) path)
vectors-blocks v k path h = chosen (HasVectors v) (k == 1) path (Blocks k ∷ path) (λ one. h) h

pub vectors-columns : (v : ℕ) (path : Path) → HasVectors v (within (Columns v) path)
vectors-columns v path =
    chosen (HasVectors v) (v == 1) path (Columns v ∷ path) (λ one. single-vectors v path (is-one v one)) (1, omega arith)

-- the whole is a number of vectors
pub size-vectors : (v : ℕ) (path : Path) (n : ℕ) → HasVectors v path → (m : ℕ) × (size_under path n ≡ m * v)
size-vectors v [] n h = (n, sym (ap (λ k. n * k) h ∙ omega arith))
size-vectors v (Blocks k ∷ path) n h = let inner = size-vectors v path n h in (k * inner.0, ap (λ s. k * s) inner.1 ∙ omega arith)
size-vectors v (Columns k ∷ path) n h = let size = size_under path n in (size * h.0, ap (λ s. size * s) h.1 ∙ omega arith)

single-keeps : (v : ℕ) (f : Mapping) → v ≡ 1 → KeepsVectors v f
single-keeps v f e =
    subst (λ k. KeepsVectors k f) (sym e)
    (λ a. (at f (a * 1), λ l below. (let place : a * 1 + l ≡ a * 1 = omega (arith, below) in ap (at f) place ∙ omega (arith, below))))

pub keeps-wrapped : (v : ℕ) (path : Path) (n : ℕ) (f : Mapping) → HasVectors v path → KeepsVectors v (wrapped path n f)
keeps-wrapped v [] n f h = single-keeps v f h
keeps-wrapped v (Blocks k ∷ path) n f h =
    λ a.
    let whole = size-vectors v path n h in
    let m = whole.0 in
    let g = wrapped path n f in
    let inner = keeps-wrapped v path n f h (a % m) in (
      a / m * m + inner.0,
      λ l below.
          ap (λ s. (a * v + l) / s * s + at g ((a * v + l) % s)) whole.1
          ∙ ap₂ (λ x y. x * (m * v) + at g y) (apart a m v l below).row (apart a m v l below).column
          ∙ ap (λ y. a / m * (m * v) + y) (inner.1 l below)
          ∙ omega arith,
    )
keeps-wrapped v (Columns k ∷ path) n f h =
    λ a.
    let m = h.0 in
    let g = wrapped path n f in (
      at g (a / m) * m + a % m,
      λ l below.
          ap (λ s. at g ((a * v + l) / s) * s + (a * v + l) % s) h.1
          ∙ ap₂ (λ x y. at g x * (m * v) + y) (apart a m v l below).row (apart a m v l below).column
          ∙ omega arith,
    )
