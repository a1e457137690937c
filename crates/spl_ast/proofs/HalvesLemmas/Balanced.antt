-- Halves of what was taken away.
use Rattle.std.proofs.Common.{◌≡◌, ℕ, zero, suc, ◌-◌, ◌/◌, ◌≤◌, nat_le, if◌then◌else◌, List, [], ◌∷◌, ◌++◌, false, take}
use Rattle.std.proofs.Common.{drop, length, length-append, append_assoc, refl, sym, ap, ap₂, ◌∙◌, arith, Box, Global}
use Rattle.std.proofs.lemmas.Bool.Decides.{nat_tests}
use Rattle.spl_ast.specs.Formula.{Formula, DirectSum}
use Rattle.spl_ast.specs.Views.{formula_of}
use Rattle.spl_ast.specs.declared.Node.{Node}
use Rattle.spl_ast.specs.declared.Node.TheVariants as node
use Rattle.spl_ast.specs.declared.Spl.{Spl}
use Rattle.spl_ast.specs.Halves.Balanced.{halved, balanced, balanced_summands}
use Rattle.spl_ast.specs.Halves.Summands.{sum_of}
use Rattle.spl_ast.specs.Halves.Taken.{IsTakenFrom}

front : (xs ys : List Formula) → take (length xs) (xs ++ ys) ≡ xs
front [] ys = refl
front (x ∷ xs) ys = ap (λ zs. x ∷ zs) (front xs ys)

behind : (xs ys : List Formula) → drop (length xs) (xs ++ ys) ≡ ys
behind [] ys = refl
behind (x ∷ xs) ys = behind xs ys

-- one formula is its sum
one-halved : (g : Formula) (depth : ℕ) → halved depth (g ∷ []) ≡ g
one-halved g zero = refl
one-halved g (suc depth) = refl

-- of more than one, the halves are
two-halved : (xs ys : List Formula) (depth : ℕ) → 2 ≤ length (xs ++ ys) → length xs ≡ length (xs ++ ys) / 2 →
    halved (suc depth) (xs ++ ys) ≡ DirectSum (halved depth xs) (halved depth ys)
two-halved xs ys depth some half =
    let many : nat_le (length (xs ++ ys)) 1 ≡ false = grind (arith, nat_tests) in
    ap (λ b. if b then sum_of (xs ++ ys) else DirectSum (halved depth (take (length (xs ++ ys) / 2) (xs ++ ys))) (halved depth (drop (length (xs ++ ys) / 2) (xs ++ ys)))) many
    ∙ ap (λ n. DirectSum (halved depth (take n (xs ++ ys))) (halved depth (drop n (xs ++ ys)))) (sym half)
    ∙ ap₂ (λ zs vs. DirectSum (halved depth zs) (halved depth vs)) (front xs ys) (behind xs ys)

-- the last formula alone was taken away
pub single_taken : (old new : List Formula) (g : Formula) → old ≡ new ++ g ∷ [] → IsTakenFrom 1 old new g
single_taken old new g whole = record { taken = g ∷ []; whole = whole; counted = refl; sum = λ depth _. one-halved g depth }

halves-sum : (count half : ℕ) (xs ys : List Formula) (a b : Formula) → 2 ≤ count → half ≡ count / 2 → length xs ≡ half →
    length ys ≡ count - half →
    ((depth : ℕ) → half ≤ depth → halved depth xs ≡ a) → ((depth : ℕ) → count - half ≤ depth → halved depth ys ≡ b) →
    (depth : ℕ) → count ≤ depth → halved depth (xs ++ ys) ≡ DirectSum a b
halves-sum count half xs ys a b some is first second left right zero low = absurd (omega (arith, some, low))
halves-sum count half xs ys a b some is first second left right (suc depth) low =
    let whole : length (xs ++ ys) ≡ count = length-append xs ys ∙ omega (arith, first, second, is) in
    two-halved xs ys depth (omega (arith, whole, some)) (first ∙ is ∙ sym (ap (λ n. n / 2) whole))
    ∙ ap₂ DirectSum (left depth (omega (arith, is, low, some))) (right depth (omega (arith, is, low, some)))

-- the second half was taken away, and then the first
pub halves_taken : (count half : ℕ) (old mid new : List Formula) (a b : Formula) → 2 ≤ count → half ≡ count / 2 →
    IsTakenFrom (count - half) old mid b → IsTakenFrom half mid new a →
    IsTakenFrom count old new (DirectSum a b)
halves_taken count half old mid new a b some is second first = record {
  taken = first.taken ++ second.taken;
  whole = second.whole ∙ ap (λ fs. fs ++ second.taken) first.whole ∙ append_assoc new first.taken second.taken;
  counted = length-append first.taken second.taken ∙ omega (arith, first.counted, second.counted, is);
  sum = halves-sum count half first.taken second.taken a b some is first.counted second.counted first.sum second.sum;
}

-- all summands were taken away
pub all_halved : (made rest : List Formula) (f g : Formula) (count : ℕ) → made ≡ balanced_summands f →
    count ≡ length made → length rest ≡ 0 → IsTakenFrom count made rest g → g ≡ balanced f
all_halved made [] f g count is counted none taken =
    let same : taken.taken ≡ balanced_summands f = sym taken.whole ∙ is in
    sym (taken.sum (length made) (omega (arith, counted)))
    ∙ ap₂ halved (ap length is) same
all_halved made (e ∷ rest) f g count is counted none taken = absurd (omega (arith, none))

-- a node without parts is its own summand
pub leaf_alone : (n : Node) → ((a b : Box Spl Global) → n ≡ node.Compose a b → ⊥) →
    ((a : Box Spl Global) (k : ℕ) → n ≡ node.TensorLeft a k → ⊥) →
    ((k : ℕ) (a : Box Spl Global) → n ≡ node.TensorRight k a → ⊥) →
    ((a b : Box Spl Global) → n ≡ node.DirectSum a b → ⊥) → ((a : Box Spl Global) → n ≡ node.Todo a → ⊥) →
    balanced_summands (formula_of n) ≡ formula_of n ∷ []
leaf_alone (node.I n) p l r s t = refl
leaf_alone (node.Dft n w) p l r s t = refl
leaf_alone (node.Wht n) p l r s t = refl
leaf_alone (node.Twiddle n q w) p l r s t = refl
leaf_alone (node.Diag c) p l r s t = refl
leaf_alone (node.L n q) p l r s t = refl
leaf_alone (node.Perm k) p l r s t = refl
leaf_alone (node.GtIn q c) p l r s t = refl
leaf_alone (node.GtOut q c) p l r s t = refl
leaf_alone (node.Compose a b) p l r s t = absurd (p a b refl)
leaf_alone (node.TensorLeft a k) p l r s t = absurd (l a k refl)
leaf_alone (node.TensorRight k a) p l r s t = absurd (r k a refl)
leaf_alone (node.DirectSum a b) p l r s t = absurd (s a b refl)
leaf_alone (node.Todo a) p l r s t = absurd (t a refl)
