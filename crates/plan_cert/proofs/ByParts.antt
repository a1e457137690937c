-- A request of several dimensions, by those for the first one and for the others.
use Rattle.std.proofs.Common.{◌≡◌, ◌≢◌, ℕ, zero, suc, ◌+◌, ◌≤◌, ◌⊎◌, [], ◌∷◌, refl, ap, inl, inr, arith}
use Rattle.matrix_meaning.specs.declared.Dimensions.{Dimensions}
use Rattle.matrix_meaning.specs.declared.Dimensions.TheVariants.{One, Two, Three, Four}
use Rattle.matrix_meaning.specs.declared.Request.{Request}
use Rattle.matrix_meaning.specs.Parts.{parts_in, parts_of, rest_in, rest_of}
use Rattle.matrix_meaning.specs.Valid.{IsInRange}
use Rattle.matrix_meaning.proofs.Parts.{rest_in_range}
use Rattle.plan_cert.specs.Verdict.{size_of_all}

-- of one size the one part is the request itself
pub one_part : (c : Request) → c.dimensions ≡ One → parts_of c ≡ c ∷ []
one_part c e = ap (parts_in c) e

size_of_rest_in : (c : Request) (ds : Dimensions) → ds ≢ One
    → size_of_all (parts_of (rest_in c ds)) ≡ (rest_in c ds).size
size_of_rest_in c One some = absurd (some refl)
size_of_rest_in c ds some = refl

-- the product of the others' sizes is the size of the request for them
pub size_of_rest : (c : Request) → c.dimensions ≢ One → size_of_all (parts_of (rest_of c)) ≡ (rest_of c).size
size_of_rest c some = size_of_rest_in c c.dimensions some

-- ---- induction on the dimensions

-- how many there are after the first
more : Dimensions → ℕ
more One = 0
more (Two p q) = 1
more (Three p q r) = 2
more (Four p q r s) = 3

one_or_more : (ds : Dimensions) → (ds ≡ One) ⊎ (ds ≢ One)
one_or_more One = inl refl
one_or_more ds = inr (λ e. absurd (cc))

fewer_in : (c : Request) (ds : Dimensions) → ds ≢ One → more (rest_in c ds).dimensions + 1 ≡ more ds
unfolding more
fewer_in c One some = absurd (some refl)
fewer_in c ds some = refl

-- what holds of one size, and of several dimensions where it holds of those after the first, holds of each request in
-- range
module _ (P : Request → Type 0) (one : (c : Request) → IsInRange c → c.dimensions ≡ One → P c)
    (several : (c : Request) → IsInRange c → c.dimensions ≢ One → P (rest_of c) → P c) where
  up_to : (n : ℕ) (c : Request) → more c.dimensions ≤ n → IsInRange c → (c.dimensions ≡ One) ⊎ (c.dimensions ≢ One)
      → P c
  up_to n c le h (inl e) = one c h e
  up_to zero c le h (inr some) = let count = fewer_in c c.dimensions some in absurd (omega (arith, count, le))
  up_to (suc n) c le h (inr some) =
      let count = fewer_in c c.dimensions some in
      several c h some
      (up_to n (rest_of c) (omega (arith, count, le)) (rest_in_range c h some) (one_or_more (rest_of c).dimensions))

  pub by_parts : (c : Request) → IsInRange c → P c
  by_parts c h = up_to (more c.dimensions) c (omega arith) h (one_or_more c.dimensions)
