-- What a loop over the lines of a text keeps.
use Rattle.std.proofs.Common.{◌≡◌, ◌≢◌, ℕ, zero, suc, ◌+◌, ◌<◌, ◌≤◌, Bool, true, false, cond, eqb, List, [], ◌∷◌, ◌++◌}
use Rattle.std.proofs.Common.{length, take, get_or, Option, Some, None, Result, Err, refl, sym, ap, subst, ◌∙◌, arith}
use Rattle.std.proofs.lemmas.Bool.{ne_eqb}
use Rattle.std.proofs.lemmas.List.{length-append}
use Rattle.listing_text.specs.Lines.{is_open, IsLine, later, taken, read_lines}
use Rattle.listing_text.proofs.LineReaders.{read_line, later-one}

-- one more byte that ends no line
open_one_more : (text : List ℕ) (at : ℕ) → at < length text → get_or text at 0 ≢ 10 → is_open (take at text) ≡ true →
    is_open (take (suc at) text) ≡ true
open_one_more [] at lt ne h = absurd (omega arith)
open_one_more (b ∷ text) zero lt ne h = let other : eqb b 10 ≡ false = ne_eqb b 10 ne in rw other refl
open_one_more (b ∷ text) (suc at) lt ne h = cases (eqb b 10) (open_one_more text at (omega arith) ne) h
  where
    cases : (k : Bool) → (is_open (take at text) ≡ true → is_open (take (suc at) text) ≡ true) →
        cond k false (is_open (take at text)) ≡ true → cond k false (is_open (take (suc at) text)) ≡ true
    cases true again h = absurd cc
    cases false again h = again h

pub open_more : (text : List ℕ) (at : ℕ) → at < length text → get_or text at 0 ≢ 10 → is_open (take at text) ≡ true →
    is_open (take (at + 1) text) ≡ true
open_more text at lt ne h = let k : suc at ≡ at + 1 = omega arith in subst (λ n. is_open (take n text) ≡ true) k (open_one_more text at lt ne h)

length-line : (line : List ℕ) → IsLine line → 0 < length line
length-line line l = omega (arith, ap length l.whole, length-append l.front (10 ∷ []))

-- a line that is not taken
pub line_fails : {T A : Type 0} (step : T → List ℕ → Option T) (finish : T → Option A) (s : T)
    (rest line after : List ℕ) (lines : ℕ) (total : Result A ℕ) → IsLine line → rest ≡ line ++ after →
    step s line ≡ None
    → later lines (read_lines step finish s [] rest) ≡ total → total ≡ Err lines
line_fails step finish s rest line after lines total l e f so_far =
    let k : lines + 0 ≡ lines = omega arith in
    sym so_far ∙ ap (λ r. later lines (read_lines step finish s [] r)) e ∙ ap (later lines) (read_line step finish s line after l ∙ ap (λ t. taken t (λ next. read_lines step finish next [] after)) f) ∙ ap (λ n. Err n) k

-- a line that is taken
pub line_taken : {T A : Type 0} (step : T → List ℕ → Option T) (finish : T → Option A) (s t : T)
    (rest line after : List ℕ) (lines : ℕ) (total : Result A ℕ) → IsLine line → rest ≡ line ++ after →
    step s line ≡ Some t
    → later lines (read_lines step finish s [] rest) ≡ total →
    later (lines + 1) (read_lines step finish t [] after) ≡ total
line_taken step finish s t rest line after lines total l e f so_far =
    sym (later-one lines (read_lines step finish t [] after)) ∙ ap (later lines) (sym (ap (λ r. read_lines step finish s [] r) e ∙ read_line step finish s line after l ∙ ap (λ t. taken t (λ next. read_lines step finish next [] after)) f)) ∙ so_far

pub line_counted : (rest line after : List ℕ) (lines most : ℕ) → IsLine line → rest ≡ line ++ after →
    lines + length rest ≤ most → lines + 1 + length after ≤ most
line_counted rest line after lines most l e within = omega (arith, within, ap length e, length-append line after, length-line line l)
