-- Behind the comment of a text of one lane stands the text.
use Rattle.std.proofs.Common.{◌≡◌, ◌≢◌, ℕ, zero, suc, ◌+◌, ◌/◌, ◌%◌, ◌≤◌, Bool, true, false, List, [], ◌∷◌, ◌++◌, refl}
use Rattle.std.proofs.Common.{sym, ap, ap₂, ◌∙◌, append_assoc, arith, ne_eqb}
use Rattle.std.specs.Prelude.{◌==◌, ◌&&◌, not, nat_lt, codes, decimal, if◌then◌else◌}
use Rattle.std.specs.List.{list_all}
use Rattle.std.specs.Fmt.{digits, digits_onto, digit_glyph}
use Rattle.std.proofs.lemmas.Bool.{and_parts}
use Rattle.std.proofs.lemmas.List.Folds.{list_all-append}
use Rattle.loop_lanes.specs.declared.obstacles.NestFault.{NestFault}
use Rattle.loop_lanes.specs.declared.obstacles.NestFault.TheVariants as nest
use Rattle.word_code.specs.WordProgram.{PlainWordProgram}
use Rattle.fast_text.specs.TextForm.{TextForm, with_arrays, named_function, named_header, named_product}
use Rattle.fast_text.specs.TextForm.{named_product_header}
use Rattle.fast_text.specs.WordText.{words_text}
use Rattle.fast_main.specs.declared.status.Status.{Status}
use Rattle.fast_main.specs.declared.status.Status.TheVariants.{OneLane, OneLaneOfRegisters, Success}
use Rattle.fast_main.specs.FirstLine.{first_line, behind_line, without_comment}
use Rattle.fast_main.specs.Rows.{before_line, why}

-- ---- texts without the end of a line

abbrev is_inside : ℕ → Bool
is_inside byte = not (byte == 10)

abbrev are_inside : List ℕ → Bool
are_inside text = list_all is_inside text

above_ten : (n : ℕ) → 11 ≤ n → is_inside n ≡ true
above_ten n more = ap not (ne_eqb n 10 (λ e. omega (arith, more, e)))

glyph_inside : (d : ℕ) → is_inside (digit_glyph false d) ≡ true
glyph_inside d = by_test (nat_lt d 10)
  where
    by_test : (b : Bool) → is_inside (if b then 48 + d else (if false then 55 + d else 87 + d)) ≡ true
    by_test true = above_ten (48 + d) (omega arith)
    by_test false = above_ten (87 + d) (omega arith)

inside_if : (b : Bool) (x y : List ℕ) → are_inside x ≡ true → are_inside y ≡ true →
    are_inside (if b then x else y) ≡ true
inside_if true x y p q = p
inside_if false x y p q = q

digits_inside : (k n : ℕ) (acc : List ℕ) → are_inside acc ≡ true → are_inside (digits_onto k 10 false n acc) ≡ true
digits_inside zero n acc e = e
digits_inside (suc k) n acc e =
    let glyph = digit_glyph false (n % 10) in
    let more : are_inside (glyph ∷ acc) ≡ true = ap₂ (λ a b. a && b) (glyph_inside (n % 10)) e in
    inside_if (n / 10 == 0) (glyph ∷ acc) (digits_onto k 10 false (n / 10) (glyph ∷ acc)) more
    (digits_inside k (n / 10) (glyph ∷ acc) more)

decimal_inside : (n : ℕ) → are_inside (decimal n) ≡ true
unfolding digits
decimal_inside n = digits_inside 64 n [] refl

both_inside : (x y : List ℕ) → are_inside x ≡ true → are_inside y ≡ true → are_inside (x ++ y) ≡ true
both_inside x y p q = list_all-append is_inside x y ∙ ap₂ (λ a b. a && b) p q

-- ---- what stands behind a line

behind : (line text : List ℕ) → are_inside line ≡ true → behind_line (line ++ 10 ∷ text) ≡ text
behind [] text e = refl
behind (byte ∷ line) text e =
    let parts = and_parts (is_inside byte) (are_inside line) e in
    by_test (byte == 10) (line ++ 10 ∷ text) (behind_line (line ++ 10 ∷ text)) parts.0 (behind line text parts.1)
  where
    by_test : (b : Bool) (x y : List ℕ) → not b ≡ true → y ≡ text → (if b then x else y) ≡ text
    by_test true x y other e = absurd (cc)
    by_test false x y other e = e

behind_comment : (line text : List ℕ) → are_inside line ≡ true →
    behind_line (32 ∷ ((line ++ codes "\n") ++ text)) ≡ text
behind_comment line text e =
    ap (λ t. behind_line (32 ∷ t)) (append_assoc line (codes "\n") text) ∙ behind (32 ∷ line) text e

before_inside : (fault : NestFault) → are_inside (before_line fault) ≡ true
before_inside nest.NoLoop = refl
before_inside _ = refl

why_inside : (fault : NestFault) → are_inside (why fault) ≡ true
why_inside nest.NoLoop = refl
why_inside nest.Loops = refl
why_inside nest.Stores = refl
why_inside nest.Rounds = refl
why_inside nest.Registers = refl
why_inside nest.Places = refl

-- a text begins with another comment
not_commented : (form : TextForm) (fresh : Bool) (words : PlainWordProgram) →
    without_comment (words_text form fresh words) ≡ words_text form fresh words
not_commented with_arrays fresh words = refl
not_commented (named_function name) fresh words = refl
not_commented (named_header name) fresh words = refl
not_commented (named_product name) fresh words = refl
not_commented (named_product_header name) fresh words = refl

pub behind_first_line : (status : Status) (form : TextForm) (fresh : Bool) (words : PlainWordProgram) →
    without_comment (first_line status ++ words_text form fresh words) ≡ words_text form fresh words
behind_first_line (OneLane line fault) form fresh words =
    behind_comment ((before_line fault ++ decimal line) ++ (why fault ++ [])) (words_text form fresh words)
    (both_inside (before_line fault ++ decimal line) (why fault ++ [])
    (both_inside (before_line fault) (decimal line) (before_inside fault) (decimal_inside line))
    (both_inside (why fault) [] (why_inside fault) refl))
behind_first_line OneLaneOfRegisters form fresh words =
    behind_comment (codes "one lane: more than 349525 registers" ++ []) (words_text form fresh words) refl
behind_first_line _ form fresh words = not_commented form fresh words
