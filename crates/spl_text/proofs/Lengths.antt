-- A text has at least as many bytes as its formula has parts.
use Rattle.std.proofs.Common.{ℕ, ◌+◌, ◌≤◌, List, ◌++◌, length, codes, decimal, subst, sym, ap, arith}
use Rattle.std.proofs.lemmas.List.{length-append}
use Rattle.spl_ast.specs.Formula.{Formula, Identity, Fourier, Hadamard, Twiddles, Diagonal, Stride, Permutation}
use Rattle.spl_ast.specs.Formula.{GoodThomasIn, GoodThomasOut, Product, TensorLeft, TensorRight, DirectSum, Pending}
use Rattle.spl_ast.specs.Formula.{parts_of}
use Rattle.spl_text.specs.Spelling.{spelling, HasSpelling, spells, spells_line}

both_at_least : (m n : ℕ) (a b : List ℕ) → m ≤ length a → n ≤ length b → m + n ≤ length (a ++ b)
both_at_least m n a b h g = omega (arith, length-append a b, h, g)

-- a head, a part, a comma, another part and a parenthesis
two_parts : (m n : ℕ) (head a b : List ℕ) → 1 ≤ length head → m ≤ length a → n ≤ length b →
    m + n + 1 ≤ length (head ++ (a ++ (codes "," ++ (b ++ codes ")"))))
two_parts m n head a b one h g =
    let behind : n + 0 ≤ length (b ++ codes ")") = both_at_least n 0 b (codes ")") g (omega arith) in
    let second : 0 + (n + 0) ≤ length (codes "," ++ (b ++ codes ")")) = both_at_least 0 (n + 0) (codes ",") (b ++ codes ")") (omega arith) behind in
    let first : m + (0 + (n + 0)) ≤ length (a ++ (codes "," ++ (b ++ codes ")"))) = both_at_least m (0 + (n + 0)) a (codes "," ++ (b ++ codes ")")) h second in
    let whole = both_at_least 1 (m + (0 + (n + 0))) head (a ++ (codes "," ++ (b ++ codes ")"))) one first in
    omega (arith, whole)

parts_spelt : (f : Formula) → HasSpelling f → parts_of f ≤ length (spelling f)
parts_spelt (Identity n) h = omega arith
parts_spelt (Fourier n w) h = omega arith
parts_spelt (Hadamard n) h = omega arith
parts_spelt (Twiddles n s w) h = omega arith
parts_spelt (Diagonal c) h = omega arith
parts_spelt (Stride n r) h = omega arith
parts_spelt (Permutation k) h = omega arith
parts_spelt (GoodThomasIn r s) h = omega arith
parts_spelt (GoodThomasOut r s) h = omega arith
parts_spelt (Product a b) h = two_parts (parts_of a) (parts_of b) (codes "TIMES(") (spelling a) (spelling b) (omega arith) (parts_spelt a h.0) (parts_spelt b h.1)
parts_spelt (TensorLeft a k) h =
    let whole = two_parts (parts_of a) 0 (codes "LEFT(") (spelling a) (decimal k) (omega arith) (parts_spelt a h.0) (omega arith) in omega (arith, whole)
parts_spelt (TensorRight k a) h =
    let whole = two_parts 0 (parts_of a) (codes "RIGHT(") (decimal k) (spelling a) (omega arith) (omega arith) (parts_spelt a h.1) in omega (arith, whole)
parts_spelt (DirectSum a b) h = two_parts (parts_of a) (parts_of b) (codes "SUM(") (spelling a) (spelling b) (omega arith) (parts_spelt a h.0) (parts_spelt b h.1)
parts_spelt (Pending a) h = absurd h

pub few_parts : (text : List ℕ) (f : Formula) → spells_line text f → parts_of f ≤ length text
unfolding spells
few_parts text f s =
    let here : parts_of s.spelt ≤ length s.front = subst (λ t. parts_of s.spelt ≤ length t) (sym s.begins.1) (parts_spelt s.spelt s.begins.0) in
    omega (arith, here, ap parts_of s.ends.ends.1, ap length s.whole, length-append s.front s.rest)
