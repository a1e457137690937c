-- The table of lines, line by line.
use Rattle.std.proofs.Common.{◌≡◌, ℕ, zero, suc, ◌+◌, ◌-◌, ◌*◌, ◌/◌, ◌<◌, ◌≤◌, List, [], ◌∷◌, Bool, length, get_or}
use Rattle.std.proofs.Common.{refl, sym, ap, ◌∙◌, arith, mul_assoc, div-lt_iff_lt-mul}
use Rattle.std.specs.Prelude.{slice_index_or, slice_set}
use Rattle.std.specs.List.{range_with_len}
use Rattle.icode.specs.Machine.{lines_of}
use Rattle.code_check.specs.declared.lines.LineUse.{LineUse}
use Rattle.code_check.specs.Uses.{unused, touched_by, touched_all}

-- the line of a word is in the table
pub line_inside : (c line address lanes lane : ℕ) → 1 ≤ line → address + lanes ≤ 4 * (c * line) → lane < lanes →
    (address + lane) / line < 4 * c
line_inside c line address lanes lane pos fits lt =
    let e : 4 * (c * line) ≡ 4 * c * line = sym (mul_assoc 4 c line) in
    (div-lt_iff_lt-mul pos).1 (let h : address + lane < 4 * c * line = omega (arith, e) in h)

entry_is : (table : List LineUse) (k : ℕ) (d e : LineUse) → k < length table → get_or table k d ≡ get_or table k e
entry_is [] k d e lt = absurd (omega arith)
entry_is (x ∷ xs) zero d e lt = refl
entry_is (x ∷ xs) (suc k) d e lt = entry_is xs k d e (omega arith)

-- one lane more
pub touched_more : (q : ℕ) (writes : Bool) (line address lanes lane k : ℕ) (d use_after : LineUse)
    (table : List LineUse) → lane < lanes → k ≡ (address + lane) / line → k < length table →
    use_after ≡ touched_by q writes (get_or table k d) → touched_all q writes
    (lines_of line (range_with_len (address + (lane + 1)) (lanes - (lane + 1)))) (slice_set table k use_after)
    ≡ touched_all q writes (lines_of line (range_with_len (address + lane) (lanes - lane))) table
touched_more q writes line address lanes lane k d use_after table lt ek inside eu =
    let n : ℕ = lanes - (lane + 1) in
    let left : lanes - lane ≡ suc n = omega arith in
    let next : address + lane + 1 ≡ address + (lane + 1) = omega arith in
    let entry : use_after ≡ touched_by q writes (slice_index_or table k unused) = eu ∙ ap (touched_by q writes) (entry_is table k d unused inside) in
    let here : slice_set table k use_after ≡ slice_set table ((address + lane) / line) (touched_by q writes (slice_index_or table ((address + lane) / line) unused)) =
    ap (slice_set table k) entry ∙ ap (λ j. slice_set table j (touched_by q writes (slice_index_or table j unused))) ek in
    ap (touched_all q writes (lines_of line (range_with_len (address + (lane + 1)) n))) here
    ∙ (ap (λ a. touched_all q writes (lines_of line (range_with_len a n)) (slice_set table ((address + lane) / line) (touched_by q writes (slice_index_or table ((address + lane) / line) unused)))) (sym next)
    ∙ ap (λ m. touched_all q writes (lines_of line (range_with_len (address + lane) m)) table) (sym left))

pub touched_end : (q : ℕ) (writes : Bool) (line address lanes lane : ℕ) (table : List LineUse) → lanes ≤ lane →
    table ≡ touched_all q writes (lines_of line (range_with_len (address + lane) (lanes - lane))) table
touched_end q writes line address lanes lane table past =
    let none : lanes - lane ≡ 0 = omega arith in
    sym (ap (λ m. touched_all q writes (lines_of line (range_with_len (address + lane) m)) table) none)
