-- A formula with no part still to be rewritten has a spelling.
use Rattle.std.proofs.Common.{◌≡◌, ℕ, suc, ◌*◌, ◌^◌, ◌<◌, ◌≤◌, List, [], ◌∷◌, length, get_or, arith}
use Rattle.std.proofs.Math.Nat.{mul-le-mul_left}
use Rattle.std.proofs.lemmas.List.Elements.{All-get_or}
use Rattle.spl_ast.specs.Formula.{Formula, Identity, Fourier, Hadamard, Twiddles, Diagonal, Stride, Permutation}
use Rattle.spl_ast.specs.Formula.{GoodThomasIn, GoodThomasOut, Product, TensorLeft, TensorRight, DirectSum, Pending}
use Rattle.spl_ast.specs.Nesting.{IsComplete}
use Rattle.spl_ast.specs.Shape.{IsShaped, IsSize, IsRingValue}
use Rattle.spl_text.specs.Spelling.{IsFactor, AreValues, AreSomeValues, HasSpelling, spelling, spells}

factor_of : (n : ℕ) → IsSize n → IsFactor n
factor_of n h = (omega arith, omega arith)

are_values : (xs : List ℕ) → ((i : ℕ) → i < length xs → get_or xs i 0 < 2 ^ 62) → AreValues xs
are_values [] h = tt
are_values (x ∷ xs) h = (h 0 (omega arith), are_values xs (λ i l. h (suc i) (omega arith)))

some_values : (xs : List ℕ) → 1 ≤ length xs → ((i : ℕ) → i < length xs → get_or xs i 0 < 2 ^ 62) → AreSomeValues xs
some_values [] pos h = omega arith
some_values (x ∷ xs) pos h = (h 0 (omega arith), are_values xs (λ i l. h (suc i) (omega arith)))

factor_first : (r s : ℕ) → 2 ≤ r → 2 ≤ s → r * s ≤ 1048576 → IsFactor r
factor_first r s low_r low_s small =
    let more : r * 2 ≤ r * s = mul-le-mul_left r low_s in (omega arith, omega arith)

pub has_spelling : (f : Formula) → IsComplete f → IsShaped f → HasSpelling f
has_spelling (Identity n) c s = factor_of n s
has_spelling (Fourier n w) c s = (factor_of n s.0, s.1)
has_spelling (Hadamard n) c s = factor_of n s.0
has_spelling (Twiddles n r w) c s = (factor_of n s.0, factor_of r s.1, s.3)
has_spelling (Diagonal v) c s = some_values v s.0.0 (λ i l. All-get_or IsRingValue v i 0 l s.1)
has_spelling (Stride n r) c s = (factor_of n s.0, factor_of r s.1)
has_spelling (Permutation k) c s = some_values k s.0.0 (λ i l. omega (arith, s.1.below i l, s.0.1))
has_spelling (GoodThomasIn r t) c s = (factor_first r t s.1.first s.1.second s.0.1, factor_first t r s.1.second s.1.first (omega arith))
has_spelling (GoodThomasOut r t) c s = (factor_first r t s.1.first s.1.second s.0.1, factor_first t r s.1.second s.1.first (omega arith))
has_spelling (Product a b) c s = (has_spelling a c.0 s.0, has_spelling b c.1 s.1)
has_spelling (TensorLeft a k) c s = (has_spelling a c s.0, factor_of k s.1)
has_spelling (TensorRight k a) c s = (factor_of k s.0, has_spelling a c s.1)
has_spelling (DirectSum a b) c s = (has_spelling a c.0 s.0, has_spelling b c.1 s.1)
has_spelling (Pending a) c s = absurd c

pub printed : (f : Formula) (text : List ℕ) → IsComplete f → IsShaped f → text ≡ spelling f → spells text f
unfolding spells
printed f text c s e = (has_spelling f c s, e)
