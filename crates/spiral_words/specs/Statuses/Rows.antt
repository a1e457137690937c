-- The table of statuses: of each its number, and its line after `spiral: `.
use Rattle.std.specs.Prelude.{[], ◌∷◌, None, Some, codes}
use Rattle.request_text.specs.Fields.{field_word}
use Rattle.io_edge.specs.Status.Rows.{PlainRow, row}
use Rattle.spiral_words.specs.declared.statuses.status.Status.{Status}
use Rattle.spiral_words.specs.declared.statuses.status.Status.TheVariants.{Success, Usage, Syntax, Range, Shape, LanesLine, NotUnit, Turn, Root, NotPrincipal, NoDivide, OverBudget, BadNumber, Truncated, ReadFault, WriteFault, NoMemory, TooLong, Unread, Wrong, FormulaShape, TooDeep, ListingSyntax, Address, Register, LineShared, OverSteps}

abbrev pub row_of : Status → PlainRow
row_of Success = row 0 []
row_of Usage = row 2 ((codes "usage: spiral plan|formula|code|c|run|trace|cert|check|sample|compile|apply|exec|convolve [--schedule WORD] [--seed NUMBER] [--mod NUMBER] [--buffers] [--code]", None) ∷ [])
row_of (Syntax at) = row 3 ((codes "syntax at byte ", Some at) ∷ [])
row_of (Range field value) =
    row 4 ((field_word field, None) ∷ (codes " ", Some value) ∷ (codes " is out of range", None) ∷ [])
row_of (Shape size) = row 4 ((codes "wht size ", Some size) ∷ (codes " is not a power of two", None) ∷ [])
row_of (LanesLine lanes line) = row 4 ((codes "lanes ", Some lanes) ∷ (codes " do not divide line ", Some line) ∷ [])
row_of (Turn q p) = row 5 ((codes "turn names processor ", Some q) ∷ (codes " of ", Some p) ∷ [])
row_of (Root power) = row 6 ((codes "root to the size is ", Some power) ∷ (codes ", not 1", None) ∷ [])
row_of NoDivide = row 7 ((codes "no split fits procs, line and lanes", None) ∷ [])
row_of (OverBudget cost budget) =
    row 8 ((codes "least cost ", Some cost) ∷ (codes " is over budget ", Some budget) ∷ [])
row_of (BadNumber token) = row 9 ((codes "token ", Some token) ∷ (codes " is not a number", None) ∷ [])
row_of (Truncated have need) =
    row 9 ((codes "input ends with ", Some have) ∷ (codes " of ", Some need) ∷ (codes " numbers", None) ∷ [])
row_of ReadFault = row 10 ((codes "read failed", None) ∷ [])
row_of WriteFault = row 11 ((codes "write failed", None) ∷ [])
row_of NoMemory = row 12 ((codes "out of memory", None) ∷ [])
row_of (TooLong limit) = row 13 ((codes "more than ", Some limit) ∷ (codes " bytes", None) ∷ [])
row_of Unread = row 14 ((codes "certificate unreadable", None) ∷ [])
row_of (Wrong size given found) =
    row 14 ((codes "certificate row ", Some size) ∷ (codes " gives ", Some given)
    ∷ (codes ", found ", Some found) ∷ [])
row_of (NotUnit gcd) = row 15 ((codes "size and modulus share the factor ", Some gcd) ∷ [])
row_of (FormulaShape at left right) =
    row 16 ((codes "formula shape at byte ", Some at) ∷ (codes ": ", Some left) ∷ (codes " and ", Some right) ∷ [])
row_of (TooDeep at) = row 17 ((codes "formula too deep at byte ", Some at) ∷ [])
row_of (ListingSyntax line) = row 18 ((codes "listing syntax at line ", Some line) ∷ [])
row_of (Address phase proc action) =
    row 19 ((codes "bad place in phase ", Some phase) ∷ (codes ", processor ", Some proc)
    ∷ (codes ", action ", Some action) ∷ [])
row_of (Register phase proc action) =
    row 20 ((codes "bad register in phase ", Some phase) ∷ (codes ", processor ", Some proc)
    ∷ (codes ", action ", Some action) ∷ [])
row_of (LineShared phase line a b) =
    row 21 ((codes "phase ", Some phase) ∷ (codes " line ", Some line)
    ∷ (codes " is shared by ", Some a) ∷ (codes " and ", Some b) ∷ [])
row_of (OverSteps limit) = row 22 ((codes "more than ", Some limit) ∷ (codes " actions", None) ∷ [])
row_of (NotPrincipal k) = row 23 ((codes "power sum ", Some k) ∷ (codes " is not zero", None) ∷ [])
