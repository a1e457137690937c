-- What is wrong with a part of a text that spells a formula.
use Rattle.std.specs.Prelude.{ℕ, zero, suc, ◌%◌, List, [], ◌∷◌, ◌++◌, length, Bool, true, false, not, ◌&&◌, ◌||◌, nat_lt, ◌==◌, if◌then◌else◌, Option, Some, None}
use Rattle.std.specs.Int.{is_power_of_two}
use Rattle.std.specs.Option.{option_map}
use Rattle.operators.specs.Sizes.{max_size}
use Rattle.spl_ast.specs.Formula.{Formula, Identity, Fourier, Hadamard, Twiddles, Diagonal, Stride, Permutation, GoodThomasIn, GoodThomasOut, Product, TensorLeft, TensorRight, DirectSum, Pending, size_of}

-- a number from 2 to n divides both
unfoldable pub share_factor : ℕ → ℕ → ℕ → Bool
share_factor zero r s = false
share_factor (suc n) r s = (nat_lt 0 n && (r % suc n == 0 && s % suc n == 0)) || share_factor n r s

-- coprime, and neither is 1
abbrev pub are_coprime : ℕ → ℕ → Bool
are_coprime r s = nat_lt 1 r && (nat_lt 1 s && not (share_factor r r s))

abbrev pub is_among : ℕ → List ℕ → Bool
is_among k [] = false
is_among k (x ∷ xs) = x == k || is_among k xs

-- the first of the entries after those before that is n or more, or that stood before
unfoldable pub first_stray : ℕ → List ℕ → List ℕ → Option ℕ
first_stray n before [] = None
first_stray n before (k ∷ ks) = if nat_lt k n && not (is_among k before) then first_stray n (before ++ k ∷ []) ks else Some k

-- refused for these two numbers, or not
abbrev pub refused_if : Bool → ℕ → ℕ → Option (ℕ × ℕ)
refused_if true a b = Some (a, b)
refused_if false a b = None

-- the numbers for which a part of this kind is refused
abbrev pub misfit : Formula → Option (ℕ × ℕ)
misfit (Identity n) = None
misfit (Fourier n w) = None
misfit (Hadamard n) = refused_if (not (is_power_of_two n)) n 2
misfit (Twiddles n s w) = refused_if (not (n % s == 0)) n s
misfit (Diagonal c) = None
misfit (Stride n r) = refused_if (not (n % r == 0)) n r
misfit (Permutation k) = option_map (λ stray. (length k, stray)) (first_stray (length k) [] k)
misfit (GoodThomasIn r s) = refused_if (not (are_coprime r s)) r s
misfit (GoodThomasOut r s) = refused_if (not (are_coprime r s)) r s
misfit (Product a b) = refused_if (not (size_of a == size_of b)) (size_of a) (size_of b)
misfit (TensorLeft a k) = None
misfit (TensorRight k a) = None
misfit (DirectSum a b) = None
misfit (Pending a) = None

abbrev pub or_else : {A : Type 0} → Option A → Option A → Option A
or_else (Some x) other = Some x
or_else None other = other

-- the same, and then for its size
abbrev pub refusal : Formula → Option (ℕ × ℕ)
refusal f = or_else (misfit f) (refused_if (nat_lt max_size (size_of f)) (size_of f) max_size)

-- a fault that the text shows, at a place by how much of the text is left there
pub data TextFault : Type 0 where
  TooDeep : (left : ℕ) → TextFault
  Shape : (left first second : ℕ) → TextFault

-- the fault of a part that begins where so much is left
abbrev pub shape_fault : ℕ → Formula → Option TextFault
shape_fault left f = option_map (λ p. Shape left p.0 p.1) (refusal f)
