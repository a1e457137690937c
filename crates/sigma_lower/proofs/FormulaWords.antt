-- The numbers of a formula's term are words.
use Rattle.sigma_lower.proofs.Words.{chosen, nat_le}
use Rattle.sigma_lower.proofs.Words.{◌≡◌, ℕ, zero, suc, ◌*◌, ◌/◌, ◌^◌, ◌≤◌, arith, refl, sym, ap, ◌∙◌, [], ◌∷◌, ◌++◌}
use Rattle.sigma_lower.proofs.Words.{inl, inr, subst, mul_comm, cases_lt, nat_tests, Strided, ThomasIn, ThomasOut, Dft}
use Rattle.sigma_lower.proofs.Words.{HasNumbers, kernel, horner, short, one_more, halvings, hadamard_term, fourier_term}
use Rattle.sigma_lower.proofs.Words.{term_of, wrapped, Formula, Fourier, Hadamard, Stride}
use Rattle.sigma_lower.proofs.Words.{GoodThomasIn, GoodThomasOut, Product, TensorLeft, TensorRight}
use Rattle.sigma_lower.proofs.Words.{DirectSum, Pending, size_of, IsShaped, size_is_size, Blocks, Columns, Path}
use Rattle.sigma_lower.proofs.Words.{size_under, lt-ltb, AreWords}
use Rattle.sigma_spl.specs.Term.{nest}
use Rattle.sigma_lower.proofs.Lowers.{coprime}
use Rattle.sigma_lower.proofs.Moves.{left_positive}
use Rattle.sigma_lower.proofs.Numbers.{numbers-wrapped, strided-closed, in-closed, out-closed}
use Rattle.sigma_lower.proofs.Parts.{size-more}

hadamard-words : (n : ℕ) (path : Path) (k : ℕ) → AreWords n (hadamard_term path k)
hadamard-words n path zero = tt
hadamard-words n path (suc k) = (hadamard-words n (path ++ Blocks 2 ∷ []) k, omega arith)

fourier-words : (size : ℕ) (path : Path) (n w : ℕ) → n ≤ 1048576 → AreWords size (fourier_term path n w)
fourier-words size path n w low =
    chosen (AreWords size) (nat_le n 8) (nest path (kernel (short Dft w n))) (nest path (horner w n))
    (λ few. omega (arith, low)) tt

pub term-words : (m : ℕ) (path : Path) (f : Formula) → size_under path (size_of f) ≤ 1048576 → IsShaped f →
    AreWords (size_under path (size_of f)) (term_of m path f)
term-words m path (Fourier n w) high shaped = let low = shaped.0.1 in fourier-words (size_under path n) path n w low
term-words m path (Hadamard n) high shaped = hadamard-words (size_under path n) path (halvings n n)
term-words m path (Stride n r) high shaped =
    let whole : r * (n / r) ≡ n = mul_comm r (n / r) ∙ shaped.2 in
    let count : 1 ≤ n / r = left_positive (n / r) r (omega (arith, shaped.2, shaped.0.0)) in
    let small : r * (n / r) ≤ 1048576 = omega (arith, whole, shaped.0.1) in
    let closed = strided-closed r (n / r) shaped.1.0 count small in
    let size : size_under path (r * (n / r)) ≡ size_under path n = ap (size_under path) whole in
    subst (λ z. HasNumbers z (wrapped path (r * (n / r)) (Strided r (n / r)))) size (numbers-wrapped path (r * (n / r)) (Strided r (n / r)) (omega (arith, size, high)) refl closed.0 closed.1)
term-words m path (GoodThomasIn r s) high shaped =
    let closed = in-closed r s (coprime r s shaped.1.first shaped.1.second shaped.1.coprime shaped.0.1) in
    numbers-wrapped path (r * s) (ThomasIn r s) high (let low = shaped.0.1 in lt-ltb (r * s) (2 ^ 32) (omega (arith, low))) closed.0 closed.1
term-words m path (GoodThomasOut r s) high shaped =
    let closed = out-closed r s (coprime r s shaped.1.first shaped.1.second shaped.1.coprime shaped.0.1) in
    numbers-wrapped path (r * s) (ThomasOut r s) high (let low = shaped.0.1 in lt-ltb (r * s) (2 ^ 32) (omega (arith, low))) closed.0 closed.1
term-words m path (Product a b) high shaped =
    let size : size_under path (size_of a) ≡ size_under path (size_of b) = ap (size_under path) shaped.2 in
    (subst (λ z. AreWords z (term_of m path b)) (sym size) (term-words m path b (omega (arith, size, high)) shaped.1), term-words m path a high shaped.0)
term-words m path (TensorLeft a k) high shaped =
    let size = size-more path (Columns k) (size_of a) in
    subst (λ z. AreWords z (term_of m (one_more path (Columns k)) a)) size (term-words m (one_more path (Columns k)) a (omega (arith, size, high)) shaped.0)
term-words m path (TensorRight k a) high shaped =
    let size = size-more path (Blocks k) (size_of a) in
    subst (λ z. AreWords z (term_of m (one_more path (Blocks k)) a)) size (term-words m (one_more path (Blocks k)) a (omega (arith, size, high)) shaped.1)
term-words m path (DirectSum a b) high shaped = (term-words m [] a (size_is_size a shaped.0).1 shaped.0, term-words m [] b (size_is_size b shaped.1).1 shaped.1)
term-words m path (Pending a) high shaped = term-words m path a high shaped
term-words m path _ high shaped = tt
