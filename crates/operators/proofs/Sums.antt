-- The laws of `sum_below`, exact and modulo m.
use Rattle.std.proofs.Common.{◌≡◌, ℕ, zero, suc, ◌+◌, ◌*◌, ◌%◌, ◌<◌, arith, refl, sym, ap, ap₂, ◌∙◌, add-zero, mul-zero}
use Rattle.std.proofs.Common.{add-one, add-suc, suc-mul, add_assoc}
use Rattle.std.proofs.Math.Nat.{zero-mul, mod-mod, mul-add}
use Rattle.std.proofs.lemmas.Nat.{mul-mod_second}
use Rattle.ring_mod.proofs.Congruence.{same-add, same-mul}
use Rattle.operators.specs.Sum.{sum_below}

-- ---- exact

pub sum_below-same : (n : ℕ) (f g : ℕ → ℕ) → ((i : ℕ) → i < n → f i ≡ g i) → sum_below n f ≡ sum_below n g
sum_below-same zero f g h = refl
sum_below-same (suc n) f g h = ap₂ (λ x y. x + y) (sum_below-same n f g (λ i below. h i (omega arith))) (h n (omega arith))

pub sum_below-zeros : (n : ℕ) → sum_below n (λ _. 0) ≡ 0
sum_below-zeros zero = refl
sum_below-zeros (suc n) = omega (arith, sum_below-zeros n)

pub sum_below-add : (n : ℕ) (f g : ℕ → ℕ) → sum_below n (λ i. f i + g i) ≡ sum_below n f + sum_below n g
sum_below-add zero f g = refl
sum_below-add (suc n) f g = omega (arith, sum_below-add n f g)

-- a factor in front of a sum goes into it
pub mul-sum_below : (n c : ℕ) (f : ℕ → ℕ) → c * sum_below n f ≡ sum_below n (λ i. c * f i)
mul-sum_below zero c f = mul-zero c
mul-sum_below (suc n) c f = mul-add c (sum_below n f) (f n) ∙ ap (λ x. x + c * f n) (mul-sum_below n c f)

-- the order of two sums is free
pub sum_below-swap : (a b : ℕ) (f : ℕ → ℕ → ℕ) → sum_below a (λ i. sum_below b (f i))
    ≡ sum_below b (λ j. sum_below a (λ i. f i j))
sum_below-swap zero b f = sym (sum_below-zeros b)
sum_below-swap (suc a) b f =
    ap (λ x. x + sum_below b (f a)) (sum_below-swap a b f) ∙ sym (sum_below-add b (λ j. sum_below a (λ i. f i j)) (f a))

pub sum_below-append : (a b : ℕ) (f : ℕ → ℕ) → sum_below (a + b) f ≡ sum_below a f + sum_below b (λ i. f (a + i))
sum_below-append a zero f = ap (λ x. sum_below x f) (add-zero a) ∙ sym (add-zero (sum_below a f))
sum_below-append a (suc b) f =
    ap (λ x. sum_below x f) (add-suc a b) ∙ ap (λ x. x + f (a + b)) (sum_below-append a b f)
    ∙ add_assoc (sum_below a f) (sum_below b (λ i. f (a + i))) (f (a + b))

-- a sum over a * b numbers, by rows of b
pub sum_below-rows : (a b : ℕ) (f : ℕ → ℕ) → sum_below (a * b) f ≡ sum_below a (λ i. sum_below b (λ j. f (i * b + j)))
sum_below-rows zero b f = ap (λ x. sum_below x f) (zero-mul b)
sum_below-rows (suc a) b f =
    ap (λ x. sum_below x f) (suc-mul a b) ∙ sum_below-append (a * b) b f
    ∙ ap (λ x. x + sum_below b (λ j. f (a * b + j))) (sum_below-rows a b f)

-- ---- modulo m

pub same-sum_below : (m n : ℕ) (f g : ℕ → ℕ) → ((i : ℕ) → i < n → f i % m ≡ g i % m) →
    sum_below n f % m ≡ sum_below n g % m
same-sum_below m zero f g h = refl
same-sum_below m (suc n) f g h =
    same-add m (sum_below n f) (sum_below n g) (f n) (g n) (same-sum_below m n f g (λ i below. h i (omega arith))) (h n (omega arith))

-- two factors in front of a sum, each product reduced
pub same-mul_mul_sum_below : (m n c d : ℕ) (f : ℕ → ℕ) → (c * ((d * (sum_below n f % m)) % m)) % m
    ≡ sum_below n (λ j. c * (d * f j)) % m
same-mul_mul_sum_below m n c d f =
    mul-mod_second c (d * (sum_below n f % m)) m
    ∙ same-mul m c c (d * (sum_below n f % m)) (d * sum_below n f) refl (mul-mod_second d (sum_below n f) m)
    ∙ ap (λ x. (c * x) % m) (mul-sum_below n d f)
    ∙ ap (λ x. x % m) (mul-sum_below n c (λ j. d * f j))

-- one more term of a sum modulo m
pub sum_below_more : (m n sum term : ℕ) (f : ℕ → ℕ) → sum ≡ sum_below n f % m → term ≡ f n % m →
    (sum + term) % m ≡ sum_below (n + 1) f % m
sum_below_more m n sum term f p q =
    ap₂ (λ x y. (x + y) % m) p q
    ∙ same-add m (sum_below n f % m) (sum_below n f) (f n % m) (f n) (mod-mod (sum_below n f) m) (mod-mod (f n) m)
    ∙ ap (λ k. sum_below k f % m) (sym (add-one n))

-- a running sum of products, after one more of them
pub product_sum_more : (m modulus n sum e x term total : ℕ) (f : ℕ → ℕ) → modulus ≡ m → sum ≡ sum_below n f % m →
    term ≡ (e * x) % modulus → e * x ≡ f n → total ≡ (sum + term) % modulus → total ≡ sum_below (n + 1) f % m
product_sum_more m modulus n sum e x term total f same sum_is term_is product_is total_is =
    total_is ∙ ap (λ k. (sum + term) % k) same
    ∙ sum_below_more m n sum term f sum_is (term_is ∙ ap₂ (λ y k. y % k) product_is same)
