-- The tensors in the term of a formula have several copies.
use Rattle.sigma_lower.proofs.Words.{◌≡◌, ℕ, zero, suc, ◌^◌, ◌≤◌, arith, sym, [], ◌∷◌, ◌++◌, inl, inr, subst, cases_eq}
use Rattle.sigma_lower.proofs.Words.{cases_lt, nat_tests, Dft, AreSeveral, kernel, horner, short, one_more, halvings}
use Rattle.sigma_lower.proofs.Words.{hadamard_term, fourier_term, term_of, Formula, Fourier, Hadamard, Permutation}
use Rattle.sigma_lower.proofs.Words.{Product, TensorLeft, TensorRight, DirectSum, Pending, IsShaped, Tensor, Blocks}
use Rattle.sigma_lower.proofs.Words.{Columns, Path, count_of, HasSeveral, several-push}
use Rattle.std.proofs.Common.{pow_pos}
use Rattle.sigma_spl.specs.Term.{nest}

several-more : (path : Path) (t : Tensor) → AreSeveral path → 1 ≤ count_of t → AreSeveral (one_more path t)
several-more path t h some =
    elim (cases_eq (count_of t) 1) [
      | inl one ↦ let is : one_more path t ≡ path = grind (arith, nat_tests) in subst AreSeveral (sym is) h
      | inr other ↦ let is : one_more path t ≡ path ++ t ∷ [] = grind (arith, nat_tests) in subst AreSeveral (sym is) (several-push path t h (omega (arith, some, other)))
    ]

hadamard-several : (path : Path) (k : ℕ) → AreSeveral path → HasSeveral (hadamard_term path k)
hadamard-several path zero h = tt
hadamard-several path (suc k) h = (hadamard-several (path ++ Blocks 2 ∷ []) k (several-push path (Blocks 2) h (omega arith)), (several-more path (Columns (2 ^ k)) h (omega (arith, pow_pos k)), tt))

fourier-several : (path : Path) (n w : ℕ) → AreSeveral path → HasSeveral (fourier_term path n w)
fourier-several path n w h =
    elim (cases_lt 8 n) [
      | inl long ↦ let is : fourier_term path n w ≡ nest path (horner w n) = grind (arith, nat_tests) in subst HasSeveral (sym is) (h, omega (arith, long))
      | inr few ↦ let is : fourier_term path n w ≡ nest path (kernel (short Dft w n)) = grind (arith, nat_tests) in subst HasSeveral (sym is) (h, tt)
    ]

pub term-several : (m : ℕ) (path : Path) (f : Formula) → AreSeveral path → IsShaped f → HasSeveral (term_of m path f)
term-several m path (Fourier n w) h shaped = fourier-several path n w h
term-several m path (Hadamard n) h shaped = hadamard-several path (halvings n n) h
term-several m path (Permutation k) h shaped = h
term-several m path (Product a b) h shaped = (term-several m path b h shaped.1, term-several m path a h shaped.0)
term-several m path (TensorLeft a k) h shaped = term-several m (one_more path (Columns k)) a (several-more path (Columns k) h shaped.1.0) shaped.0
term-several m path (TensorRight k a) h shaped = term-several m (one_more path (Blocks k)) a (several-more path (Blocks k) h shaped.0.0) shaped.1
term-several m path (DirectSum a b) h shaped = (h, term-several m [] a tt shaped.0, term-several m [] b tt shaped.1)
term-several m path (Pending a) h shaped = term-several m path a h shaped
term-several m path _ h shaped = tt
