-- The steps of loops that print a list, or test what is left of it.
use Rattle.std.proofs.Common.{◌≡◌, ℕ, suc, ◌+◌, ◌<◌, Bool, true, ◌&&◌, List, ◌∷◌, ◌++◌, length, get_or, drop, sym, ap}
use Rattle.std.proofs.Common.{◌∙◌, append_assoc, arith}
use Rattle.std.proofs.Math.Seq.{drop-cons}
use Rattle.std.proofs.lemmas.Bool.{and_parts}

-- what is left of a list begins with this item
left_is : {A : Type 0} (xs : List A) (i : ℕ) (x : A) → i < length xs → x ≡ get_or xs i x →
    drop i xs ≡ x ∷ drop (i + 1) xs
left_is xs i x lt is =
    let next : suc i ≡ i + 1 = omega arith in
    drop-cons xs i x lt ∙ ap (λ y. y ∷ drop (suc i) xs) (sym is) ∙ ap (λ n. x ∷ drop n xs) next

-- one item more is printed; the text of what is left may depend on its place
pub printed_more : {A : Type 0} (text : ℕ → List A → List ℕ) (one : A → List ℕ) (xs : List A) (i : ℕ) (x : A)
    (out new whole : List ℕ) → i < length xs → x ≡ get_or xs i x
    → text i (x ∷ drop (i + 1) xs) ≡ one x ++ text (i + 1) (drop (i + 1) xs) → new ≡ out ++ one x →
    out ++ text i (drop i xs) ≡ whole → new ++ text (i + 1) (drop (i + 1) xs) ≡ whole
printed_more text one xs i x out new whole lt is parts put so_far =
    let rest = text (i + 1) (drop (i + 1) xs) in
    ap (λ y. y ++ rest) put ∙ append_assoc out (one x) rest ∙ ap (λ y. out ++ y) (sym parts)
    ∙ ap (λ ys. out ++ text i ys) (sym (left_is xs i x lt is)) ∙ so_far

-- a test that passed on what is left passes on the next item, and on what is left after it
pub tested_more : {A : Type 0} (test : List A → Bool) (one : A → Bool) (xs : List A) (i : ℕ) (x : A) → i < length xs →
    x ≡ get_or xs i x → test (x ∷ drop (i + 1) xs) ≡ (one x && test (drop (i + 1) xs)) → test (drop i xs) ≡ true →
    (one x ≡ true) × (test (drop (i + 1) xs) ≡ true)
tested_more test one xs i x lt is parts so_far =
    and_parts (one x) (test (drop (i + 1) xs)) (sym parts ∙ ap test (sym (left_is xs i x lt is)) ∙ so_far)

-- three texts, one after the other
pub three_put : (out a b c : List ℕ) → ((out ++ a) ++ b) ++ c ≡ out ++ (a ++ b ++ c)
three_put out a b c = simp append_assoc
