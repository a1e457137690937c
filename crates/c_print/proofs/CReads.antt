-- Every C text is read, and nothing else.
use Rattle.std.proofs.Common.{◌≡◌, ℕ, ◌^◌, Bool, ltb, List, [], ◌++◌, length, drop, Result, Err, None, refl}
use Rattle.std.proofs.lemmas.Bool.{ltb-true, lt-ltb}
use Rattle.icode.specs.Machine.{whole_lines}
use Rattle.icode.specs.Plain.{PlainProgram}
use Rattle.grammar.specs.Reading.{word_in}
use Rattle.listing_text.specs.Lines.{read_lines, Judges}
use Rattle.listing_text.specs.Progress.{step, finish}
use Rattle.listing_text.specs.Wording.{program_of}
use Rattle.listing_text.proofs.Languages.{IsLanguage}
use Rattle.listing_text.proofs.ProgressReads.{judges}
use Rattle.c_print.specs.CText.{c_header_text, c_table_text, add_text, sub_text, mul_text, functions_text}
use Rattle.c_print.specs.CText.{phase_start_text, c_wording}
use Rattle.c_print.specs.CGrammar.{c_grammar}
use Rattle.c_print.specs.CTexts.{is_c_text}
use Rattle.c_print.proofs.CLineLaws.{line_is_read, act_line_back}
use Rattle.c_print.proofs.CTableLaws.{table_is_read, table_reads}
use Rattle.c_print.proofs.CHeaderLaws.{header_is_read, header_reads}
use Rattle.c_print.proofs.COpenLines.{act_is_line, header_is_line, table_is_line, front_has_lines, begin_first}

abbrev is_short : List ℕ → Bool
is_short entries = ltb (length entries) (2 ^ 64)

-- a table's line is no function's
no_function : (number : ℕ) (entries rest : List ℕ)
    → word_in (c_table_text number entries) (functions_text ++ rest) ≡ Err (length (drop 7 (functions_text ++ rest)))
unfolding c_table_text functions_text add_text sub_text mul_text
no_function number entries rest = refl

laws : IsLanguage c_wording c_grammar is_short
laws = record {
  header_is = header_is_read;
  header_back = λ h within. header_reads (c_header_text h) (program_of h [] []) (within, refl);
  header_line = header_is_line;
  front_lines = λ h. front_has_lines h.modulus h.lanes (whole_lines h.size h.line);
  table_is = λ most line table e. let is = table_is_read most line table e in
      (is.0.0, is.0.1, lt-ltb (length table.1) (2 ^ 64) is.0.2, is.1);
  table_back = λ number entries fits some short all.
      table_reads (c_table_text number entries) number entries
      (fits, some, ltb-true (length entries) (2 ^ 64) short, all, refl);
  table_line = table_is_line;
  table_only = λ number entries h.
      let rest = phase_start_text h.regs 0 in
      (length (drop 7 (functions_text ++ rest)), no_function number entries rest);
  begin_lines = begin_first;
  act_is = λ line act e. (line_is_read line act e).1;
  act_back = act_line_back;
  act_line = act_is_line;
}

pub c_text_judges : (text : List ℕ) (r : Result PlainProgram ℕ)
    → read_lines (step c_wording c_grammar) finish None [] text ≡ r → Judges is_c_text text r
c_text_judges text r e = judges c_wording c_grammar is_short laws is_c_text (λ text p t. t) (λ text p t. t) text r e
