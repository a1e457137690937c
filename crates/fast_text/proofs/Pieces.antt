-- How pieces of text are put together, one after the other.
use Rattle.std.proofs.Common.{◌≡◌, ℕ, suc, ◌+◌, ◌-◌, ◌<◌, ◌≢◌, List, [], ◌++◌, append_assoc, codes, ap, sym, ◌∙◌, arith}
use Rattle.listing_text.specs.Numbers.{numbered_text}
use Rattle.fast_text.specs.FunctionText.{each_from}
use Rattle.fast_text.specs.WordText.{becomes_text, sources_text, targets_text}

pub three_pieces : (old a b c : List ℕ) → ((old ++ a) ++ b) ++ c ≡ old ++ (a ++ b ++ c)
three_pieces old a b c = simp append_assoc

pub four_pieces : (old a b c d : List ℕ) → (((old ++ a) ++ b) ++ c) ++ d ≡ old ++ (a ++ b ++ c ++ d)
four_pieces old a b c d = simp append_assoc

pub five_pieces : (old a b c d e : List ℕ) → ((((old ++ a) ++ b) ++ c) ++ d) ++ e ≡ old ++ (a ++ b ++ c ++ d ++ e)
five_pieces old a b c d e = simp append_assoc

pub eight_pieces : (old a b c d e f g h : List ℕ)
    → (((((((old ++ a) ++ b) ++ c) ++ d) ++ e) ++ f) ++ g) ++ h ≡ old ++ (a ++ b ++ c ++ d ++ e ++ f ++ g ++ h)
eight_pieces old a b c d e f g h = simp append_assoc

-- two pieces between two
pub pieces_between : (old a b c d : List ℕ) → (((old ++ a) ++ b) ++ c) ++ d ≡ old ++ (a ++ (b ++ c) ++ d)
pieces_between old a b c d = simp append_assoc

-- four pieces from nothing, one after the other
pub four_parts : (a b c d start one two three four : List ℕ) → start ≡ [] → one ≡ start ++ a → two ≡ one ++ b →
    three ≡ two ++ c → four ≡ three ++ d → four ≡ a ++ b ++ c ++ d
four_parts a b c d start one two three four nothing first second third fourth =
    fourth ∙ ap (λ o. o ++ d) (third ∙ ap (λ o. o ++ c) (second ∙ ap (λ o. o ++ b) (first ∙ ap (λ o. o ++ a) nothing)))
    ∙ four_pieces [] a b c d

-- five pieces from nothing
pub five_parts : (a b c d e start one two three four five : List ℕ) → start ≡ [] → one ≡ start ++ a → two ≡ one ++ b →
    three ≡ two ++ c → four ≡ three ++ d → five ≡ four ++ e → five ≡ a ++ b ++ c ++ d ++ e
five_parts a b c d e start one two three four five nothing first second third fourth fifth =
    fifth
    ∙ ap (λ o. o ++ e) (fourth ∙ ap (λ o. o ++ d) (third ∙ ap (λ o. o ++ c) (second ∙ ap (λ o. o ++ b)
    (first ∙ ap (λ o. o ++ a) nothing))))
    ∙ five_pieces [] a b c d e

next_one : (text : ℕ → List ℕ) (count number : ℕ) → number < count →
    each_from text (count - number) number ≡ text number ++ each_from text (count - (number + 1)) (number + 1)
next_one text count number lt =
    let k : count - number ≡ suc (count - (number + 1)) = omega (arith, lt) in
    ap (λ n. each_from text n number) k

-- the text of one number more
pub one_more : (text : ℕ → List ℕ) (out out' start : List ℕ) (count number : ℕ) → number < count →
    out ++ each_from text (count - number) number ≡ start
    → out' ≡ out ++ text number → out' ++ each_from text (count - (number + 1)) (number + 1) ≡ start
one_more text out out' start count number lt so_far more =
    let rest = each_from text (count - (number + 1)) (number + 1) in
    ap (λ o. o ++ rest) more ∙ append_assoc out (text number) rest ∙ ap (λ l. out ++ l) (sym (next_one text count number lt)) ∙ so_far

counted : (count : ℕ) → count ≢ 0 → count ≡ suc (count - 1)
counted count some = omega (arith, some)

-- one register more of those that a tile takes
pub sources_on : (out out' : List ℕ) (count register : ℕ) → count ≢ 0 →
    out' ≡ out ++ numbered_text (codes "r") register (codes ",")
    → out' ++ sources_text (count - 1) (register + 1) ≡ out ++ sources_text count register
sources_on out out' count register some more =
    let one = numbered_text (codes "r") register (codes ",") in
    let rest = sources_text (count - 1) (register + 1) in
    ap (λ o. o ++ rest) more ∙ append_assoc out one rest ∙ ap (λ n. out ++ sources_text n register) (sym (counted count some))

-- and of those that it gives
pub targets_on : (out out' out'' : List ℕ) (count register k : ℕ) → count ≢ 0 → out' ≡ out ++ becomes_text register →
    out'' ≡ out' ++ numbered_text (codes "b[") k (codes "]; ")
    → out'' ++ targets_text (count - 1) (register + 1) (k + 1) ≡ out ++ targets_text count register k
targets_on out out' out'' count register k some first second =
    let one = becomes_text register in
    let two = numbered_text (codes "b[") k (codes "]; ") in
    let rest = targets_text (count - 1) (register + 1) (k + 1) in
    ap (λ o. o ++ rest) (second ∙ ap (λ o. o ++ two) first) ∙ three_pieces out one two rest ∙ ap (λ n. out ++ targets_text n register k) (sym (counted count some))
