-- What makes a language one whose texts are read back.
use Rattle.std.proofs.Common.{◌≡◌, ℕ, ◌<◌, ◌≤◌, Bool, true, ltb, List, [], length, Ok, Err}
use Rattle.std.specs.List.{list_all}
use Rattle.icode.specs.Plain.{PlainBody}
use Rattle.icode.specs.Limits.{IsHeaderWithin}
use Rattle.grammar.specs.Reading.{word_in, whole}
use Rattle.listing_text.specs.declared.draft.Header.{Header}
use Rattle.listing_text.specs.Lines.{IsLine}
use Rattle.listing_text.specs.Reading.{above_all}
use Rattle.listing_text.specs.Wording.{PlainAct, Wording}
use Rattle.listing_text.specs.Progress.{Grammar, begin_text}
use Rattle.listing_text.proofs.ActsBack.{IsActWithin}
use Rattle.listing_text.proofs.OpenLines.{HasLines, HasFirst}

-- each line is read as what it is the text of, and tables are those that pass the test
pub record IsLanguage (w : Wording) (g : Grammar) (test : List ℕ → Bool) : Type 0 where
  pub header_is : (line : List ℕ) (h : Header) → whole g.header line ≡ Ok h → line ≡ w.header h
  pub header_back : (h : Header) → IsHeaderWithin h.size h.modulus h.procs h.line h.lanes h.regs
      → whole g.header (w.header h) ≡ Ok h
  pub header_line : (h : Header) → IsLine (w.header h)
  pub front_lines : (h : Header) → HasLines (w.front h)
  pub table_is : (most : ℕ) (line : List ℕ) (table : ℕ × List ℕ) → whole (g.table most) line ≡ Ok table
      → (table.0 < above_all) × (0 < length table.1) × (test table.1 ≡ true) × (line ≡ w.table table.0 table.1)
  pub table_back : (number : ℕ) (entries : List ℕ) → number < above_all → 0 < length entries → test entries ≡ true
      → list_all (λ c. ltb c above_all) entries ≡ true
      → whole (g.table (length (w.table number entries))) (w.table number entries) ≡ Ok (number, entries)
  pub table_line : (number : ℕ) (entries : List ℕ) → IsLine (w.table number entries)
  -- no table's line is the first of a phase
  pub table_only : (number : ℕ) (entries : List ℕ) (h : Header)
      → (left : ℕ) × (word_in (w.table number entries) (begin_text w h []) ≡ Err left)
  pub begin_lines : (h : Header) (phases : List PlainBody) → HasFirst (begin_text w h phases)
  pub act_is : (line : List ℕ) (act : PlainAct) → whole g.act line ≡ Ok act → line ≡ w.line act
  pub act_back : (m loops : ℕ) (act : PlainAct) → m ≤ above_all → loops ≤ 64 → IsActWithin m loops act
      → whole g.act (w.line act) ≡ Ok act
  pub act_line : (act : PlainAct) → IsLine (w.line act)
