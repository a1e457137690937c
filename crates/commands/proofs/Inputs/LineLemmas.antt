-- Where the first line of an input ends.
use Rattle.std.proofs.Common.{◌≡◌, ◌≤◌, ◌+◌, ℕ, true, false, not, ◌||◌, List, [], ◌∷◌, ◌++◌, length}
use Rattle.std.proofs.Common.{take, drop, cond, refl, sym, ap, ◌∙◌, arith, append_assoc, append-nil, length-append}
use Rattle.std.proofs.Common.{add-zero, zero-add, inl, inr}
use Rattle.std.proofs.Math.Seq.{take-append_seam, take-append-add, drop-append-add}
use Rattle.std.proofs.lemmas.List.{take_all}
use Rattle.std.proofs.lemmas.List.Folds.{list_any-append}
use Rattle.std.proofs.lemmas.Bool.{cases_Bool, or_parts}
use Rattle.std.specs.List.{before_first, after_first, list_any, position_or_len}
use Rattle.commands.specs.Input.Line.{IsWhole}
use Rattle.commands.specs.Equations.Front.{is_line_end, line, HasEnded}
use Rattle.commands.proofs.Inputs.FrontLemmas.{IsFront}

-- the first line, and what comes after its end
abbrev first_line : List ℕ → List ℕ
first_line bytes = before_first is_line_end bytes

abbrev data_of : List ℕ → List ℕ
data_of bytes = after_first is_line_end bytes

-- the first line goes past bytes that have no line end
pub goes_past : (text more : List ℕ) → list_any is_line_end text ≡ false →
    position_or_len is_line_end (text ++ more) ≡ length text + position_or_len is_line_end more
goes_past [] more h = sym (zero-add (position_or_len is_line_end more))
goes_past (x ∷ text) more h =
    let parts = or_parts (is_line_end x) (list_any is_line_end text) h in
    let rest = goes_past text more parts.1 in
    ap (λ t. cond (not t) (1 + position_or_len is_line_end (text ++ more)) 0) parts.0 ∙ omega arith

-- a byte more without a line end
pub unended_push : (text : List ℕ) (byte : ℕ) → list_any is_line_end text ≡ false → is_line_end byte ≡ false →
    list_any is_line_end (text ++ byte ∷ []) ≡ false
unended_push text byte h other =
    list_any-append is_line_end text (byte ∷ []) ∙ ap (λ t. t || (is_line_end byte || false)) h ∙ ap (λ t. t || false) other

-- a line and its end
pub line_ended : (most : ℕ) (text : List ℕ) (byte : ℕ) (ended : Type 0) → list_any is_line_end text ≡ false →
    is_line_end byte ≡ true → IsWhole (line most) (text ++ byte ∷ []) ended text
line_ended most text byte ended h end more none =
    let all : (text ++ byte ∷ []) ++ more ≡ text ++ byte ∷ more = append_assoc text (byte ∷ []) more in
    let at : position_or_len is_line_end (text ++ byte ∷ more) ≡ length text =
    goes_past text (byte ∷ more) h ∙ ap (λ t. length text + cond (not t) (1 + position_or_len is_line_end more) 0) end ∙ add-zero (length text) in (
      ap first_line all ∙ ap (λ n. take n (text ++ byte ∷ more)) at ∙ take-append_seam text (byte ∷ more),
      ap data_of all ∙ ap (λ n. drop (n + 1) (text ++ byte ∷ more)) at ∙ drop-append-add text (byte ∷ more) 1,
    )

-- a line that the input ends
pub line_cut : (most : ℕ) (text : List ℕ) (ended : Type 0) → list_any is_line_end text ≡ false → ended →
    IsWhole (line most) text ended text
line_cut most text ended h end more none =
    let all : text ++ more ≡ text = ap (λ l. text ++ l) (none end) ∙ append-nil text in
    let at : position_or_len is_line_end text ≡ length text = ap (position_or_len is_line_end) (sym (append-nil text)) ∙ goes_past text [] h ∙ add-zero (length text) in (
      ap first_line all ∙ ap (λ n. take n text) at ∙ take_all (length text) text (omega arith),
      ap data_of all ∙ ap (λ n. drop (n + 1) text) at ∙ ap (drop (length text + 1)) (sym (append-nil text)) ∙ drop-append-add text [] 1 ∙ sym (none end),
    )

-- bytes without a line end are a part of the first line
pub line_longer : (text more : List ℕ) → list_any is_line_end text ≡ false →
    length text ≤ length (first_line (text ++ more))
line_longer text more h =
    let k = position_or_len is_line_end more in
    let same : first_line (text ++ more) ≡ text ++ take k more = ap (λ n. take n (text ++ more)) (goes_past text more h) ∙ take-append-add text more k in
    let count : length (first_line (text ++ more)) ≡ length text + length (take k more) = ap length same ∙ length-append text (take k more) in
    omega arith

-- the first line has ended where what comes after it is known, whatever follows
line_there : (most : ℕ) (read rest : List ℕ) → ((more : List ℕ) → (rest ≡ [] → more ≡ []) →
    data_of (read ++ more) ≡ more) → HasEnded (line most) read (rest ≡ [])
line_there most read [] behind = inr refl
line_there most read (x ∷ rest) behind =
    elim (cases_Bool (list_any is_line_end read)) [
      | inl there ↦ inl there
      | inr none ↦
          let zero_behind : data_of (read ++ 0 ∷ []) ≡ 0 ∷ [] = behind (0 ∷ []) (λ e. absurd (cc)) in
          let cut = line_cut most (read ++ 0 ∷ []) (Unit {0}) (unended_push read 0 none refl) tt [] (λ _. refl) in
          let nothing : data_of (read ++ 0 ∷ []) ≡ [] = ap data_of (sym (append-nil (read ++ 0 ∷ []))) ∙ cut.1 in
          absurd (cc)
    ]

pub line_is_front : (most : ℕ) → IsFront (line most)
line_is_front most = record {
  kept = λ read more there. list_any-append is_line_end read more ∙ ap (λ b. b || list_any is_line_end more) there;
  there = line_there most;
}
