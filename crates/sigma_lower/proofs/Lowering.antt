-- Room for the paths of a formula, and the steps of a WHT.
use Rattle.sigma_lower.proofs.Words.{chosen, is-one, ◌==◌, ◌≡◌, ℕ, zero, suc, ◌*◌, ◌/◌, ◌^◌, ◌<◌, ◌≤◌, arith, refl, sym}
use Rattle.sigma_lower.proofs.Words.{ap, ◌∙◌, [], ◌∷◌, ◌++◌, subst, mul_comm, pow-succ', Wht, IsPowerOfTwo, same}
use Rattle.sigma_lower.proofs.Words.{product, kernel, short, one_more, halvings, hadamard_term, Formula, Stride}
use Rattle.sigma_lower.proofs.Words.{Product, TensorLeft, TensorRight, size_of, IsShaped, size_is_size, Tensor, Blocks}
use Rattle.sigma_lower.proofs.Words.{Columns, Path, count_of, grown, size_under-push, HasRoom, grown-one}
use Rattle.sigma_spl.specs.Term.{nest}
use Rattle.sigma_lower.proofs.Lowers.{halvings-power, power-above}

-- ---- room

room-push : (path : Path) (t : Tensor) (n : ℕ) → HasRoom path (grown t n) → n < 2 ^ 64 → HasRoom (path ++ t ∷ []) n
room-push [] t n h small = (h, small)
room-push (u ∷ path) t n h small = (subst (λ z. grown u z < 2 ^ 64) (sym (size_under-push path t n)) h.0, room-push path t n h.1 small)

room-more : (path : Path) (t : Tensor) (n : ℕ) → HasRoom path (grown t n) → n < 2 ^ 64 → HasRoom (one_more path t) n
room-more path t n h small =
    chosen (λ p. HasRoom p n) (count_of t == 1) path (path ++ t ∷ [])
    (λ one. subst (HasRoom path) (grown-one t n (is-one (count_of t) one)) h) (room-push path t n h small)

part-small : (a : Formula) → IsShaped a → size_of a < 2 ^ 64
part-small a h = let size = (size_is_size a h).1 in omega (arith, size)

pub room_left : (path : Path) (a : Formula) (k : ℕ) → IsShaped (TensorLeft a k) → HasRoom path (size_of a * k) →
    HasRoom (one_more path (Columns k)) (size_of a)
room_left path a k shaped h = room-more path (Columns k) (size_of a) h (part-small a shaped.0)

pub room_right : (path : Path) (k : ℕ) (a : Formula) → IsShaped (TensorRight k a) → HasRoom path (k * size_of a) →
    HasRoom (one_more path (Blocks k)) (size_of a)
room_right path k a shaped h = room-more path (Blocks k) (size_of a) h (part-small a shaped.1)

pub room_same : (path : Path) (a b : Formula) → IsShaped (Product a b) → HasRoom path (size_of a) →
    HasRoom path (size_of b)
room_same path a b shaped h = subst (HasRoom path) shaped.2 h

pub room_alone : (a : Formula) → IsShaped a → HasRoom [] (size_of a)
room_alone a shaped = part-small a shaped

pub room_stride : (path : Path) (n r : ℕ) → IsShaped (Stride n r) → HasRoom path n → HasRoom path (r * (n / r))
room_stride path n r shaped h = subst (HasRoom path) (sym (mul_comm r (n / r) ∙ shaped.2)) h

-- ---- WHT

pub hadamard_one : (path : Path) (n : ℕ) → n < 2 → hadamard_term path (halvings n n) ≡ same
hadamard_one path zero h = refl
hadamard_one path (suc zero) h = refl
hadamard_one path (suc (suc n)) h = absurd (omega arith)

half-of : (k n : ℕ) → n ≡ 2 ^ suc k → n / 2 ≡ 2 ^ k
half-of k n is = ap (λ z. z / 2) (is ∙ pow-succ' 2 k) ∙ omega arith

halvings-of : (k n : ℕ) → n ≡ 2 ^ k → halvings n n ≡ k
halvings-of k n is = ap (λ z. halvings z z) is ∙ halvings-power k (2 ^ k) (power-above k)

pub half_power : (n : ℕ) → 2 ≤ n → IsPowerOfTwo n → IsPowerOfTwo (n / 2)
half_power n two (zero, is) = absurd (omega (arith, is))
half_power n two (suc k, is) = (k, half-of k n is)

pub hadamard_more : (path : Path) (n : ℕ) → 2 ≤ n → IsPowerOfTwo n →
    hadamard_term path (halvings n n) ≡ product (hadamard_term (path ++ Blocks 2 ∷ []) (halvings (n / 2) (n / 2)))
    (nest (one_more path (Columns (n / 2))) (kernel (short Wht 0 2)))
hadamard_more path n two (zero, is) = absurd (omega (arith, is))
hadamard_more path n two (suc k, is) =
    let half : n / 2 ≡ 2 ^ k = half-of k n is in
    let inner : halvings (n / 2) (n / 2) ≡ k = halvings-of k (n / 2) half in
    ap (hadamard_term path) (halvings-of (suc k) n is)
    ∙ ap (λ h. product (hadamard_term (path ++ Blocks 2 ∷ []) k) (nest (one_more path (Columns h)) (kernel (short Wht 0 2)))) (sym half)
    ∙ ap (λ j. product (hadamard_term (path ++ Blocks 2 ∷ []) j) (nest (one_more path (Columns (n / 2))) (kernel (short Wht 0 2)))) (sym inner)
