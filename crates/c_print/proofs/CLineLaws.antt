-- Reading a line of a phase in C answers for its text.
use Rattle.std.proofs.Common.{◌≡◌, ℕ, ◌≤◌, List, ◌++◌, codes, decimal, Ok, Err, refl, sym, ap, ◌∙◌, append_assoc}
use Rattle.grammar.specs.declared.token.ReadError.{ReadError}
use Rattle.grammar.specs.declared.token.ReadError.TheVariants as errors
use Rattle.grammar.specs.Cursor.{TellsAll}
use Rattle.grammar.specs.Reading.{whole}
use Rattle.listing_text.specs.Reading.{above_all}
use Rattle.listing_text.specs.Wording.{PlainAct, Open, Close, Do}
use Rattle.listing_text.specs.Acts.{plain_act, ActFits}
use Rattle.listing_text.proofs.ActsBack.{IsActWithin}
use Rattle.c_print.specs.CText.{loop_text}
use Rattle.c_print.specs.CLines.{c_line_at}
use Rattle.c_print.specs.CText.{c_line_text}
use Rattle.c_print.specs.CLineTexts.{MayStand, IsLineOf}
use Rattle.c_print.proofs.CSpelt.{ended_text, c_line_spelt}
use Rattle.c_print.proofs.CBack.{c_line_back}

shape_end : (a x b y c z d w e end : List ℕ) → (a ++ x ++ b ++ y ++ c ++ z ++ d ++ w ++ e) ++ end ≡ a ++ x ++ b ++ y
    ++ c ++ z ++ d ++ w ++ (e ++ end)
shape_end a x b y c z d w e end = simp append_assoc

pub line_text_is : (act : PlainAct) → ended_text act ≡ c_line_text act
unfolding loop_text
line_text_is (Open depth count) =
    shape_end (codes "for (uint64_t v") (decimal depth) (codes " = 0; v") (decimal depth) (codes " < ") (decimal count) (codes "; v") (decimal depth) (codes "++) {") (codes "\n")
line_text_is Close = refl
line_text_is (Do op) = refl

pub line_is_read : (line : List ℕ) (act : PlainAct) → whole c_line_at line ≡ Ok act →
    ActFits act × (line ≡ c_line_text act)
line_is_read line act e = let spelt = c_line_spelt line act e in (spelt.0, spelt.1 ∙ line_text_is act)

within : (modulus loops : ℕ) (act : PlainAct) → MayStand modulus loops act → IsActWithin modulus loops act
within modulus loops (Open depth count) h = h
within modulus loops Close h = h
within modulus loops (Do op) h = h

-- a line that may stand there
pub act_line_back : (modulus loops : ℕ) (act : PlainAct) → modulus ≤ above_all → loops ≤ 64 →
    IsActWithin modulus loops act → whole c_line_at (c_line_text act) ≡ Ok act
act_line_back modulus loops act below few w = ap (λ text. whole c_line_at text) (sym (line_text_is act)) ∙ c_line_back modulus loops act below few w

line_reads : (line : List ℕ) (act : PlainAct) → IsLineOf line act → whole c_line_at line ≡ Ok act
line_reads line act (modulus, loops, below, few, stands, e) =
    ap (λ text. whole c_line_at text) e ∙ act_line_back modulus loops act below few (within modulus loops act stands)

pub same_read : (line : List ℕ) (act other : PlainAct) → whole c_line_at line ≡ Ok act → IsLineOf line other →
    act ≡ other
same_read line act other e l = let same = sym e ∙ line_reads line other l in cc

pub only_memory : (line : List ℕ) (error : ReadError) (act : PlainAct) →
    TellsAll plain_act (Err error) (whole c_line_at line) → IsLineOf line act → error ≡ errors.NoMemory
only_memory line (errors.Stuck stuck) act h l = let same = sym h ∙ line_reads line act l in absurd cc
only_memory line errors.NoMemory act h l = refl
