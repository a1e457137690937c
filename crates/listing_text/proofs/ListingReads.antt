-- Every listing is read, and nothing else.
use Rattle.std.proofs.Common.{◌≡◌, ℕ, Bool, true, List, [], ◌∷◌, length, codes, Result, None, refl}
use Rattle.std.specs.List.{list_all}
use Rattle.icode.specs.Plain.{PlainBody, PlainProgram}
use Rattle.listing_text.specs.declared.draft.Header.{Header}
use Rattle.listing_text.specs.Lines.{read_lines, Judges}
use Rattle.listing_text.specs.Listing.{listing_wording}
use Rattle.listing_text.specs.ListingGrammar.{listing_grammar}
use Rattle.listing_text.specs.Progress.{begin_text, step, finish}
use Rattle.listing_text.specs.Texts.{is_listing}
use Rattle.listing_text.proofs.ActsSpelt.{line_spelt}
use Rattle.listing_text.proofs.ActsBack.{line_back}
use Rattle.listing_text.proofs.OutsideLines.{header_is, header_back, table_is, table_back}
use Rattle.listing_text.proofs.OpenLines.{literal, act_is_line, table_open, header_open, HasFirst}
use Rattle.listing_text.proofs.Languages.{IsLanguage}
use Rattle.listing_text.proofs.ProgressReads.{judges}

any_table : List ℕ → Bool
any_table entries = true

all_any : (tables : List (List ℕ)) → list_all any_table tables ≡ true
unfolding any_table
all_any [] = refl
all_any (entries ∷ tables) = all_any tables

phase_first : HasFirst (codes "phase\n")
phase_first = record { first = codes "phase\n"; others = []; whole = refl; is = record { front = codes "phase"; whole = refl; open_front = refl }; are = tt }

begin_first : (h : Header) (phases : List PlainBody) → HasFirst (begin_text listing_wording h phases)
begin_first h [] = phase_first
begin_first h (b ∷ phases) = phase_first

laws : IsLanguage listing_wording listing_grammar any_table
unfolding any_table
laws = record {
  header_is = header_is (codes "program size ") (codes "\n");
  header_back = header_back (codes "program size ") (codes "\n") refl;
  header_line = λ h. header_open (codes "program size ") [] h (literal (codes "program size ") refl) (literal [] refl);
  front_lines = λ h. record { lines = []; whole = refl; are = tt };
  table_is = λ most line table e. let is = table_is most line table e in (is.0.0, is.0.1, refl, is.1);
  table_back = λ number entries fits some passed all. table_back number entries fits some all;
  table_line = table_open;
  table_only = λ number entries h. (length (codes "phase\n"), refl);
  begin_lines = begin_first;
  act_is = λ line act e. (line_spelt line act e).1;
  act_back = line_back;
  act_line = act_is_line;
}

pub listing_judges : (text : List ℕ) (r : Result PlainProgram ℕ)
    → read_lines (step listing_wording listing_grammar) finish None [] text ≡ r → Judges is_listing text r
listing_judges text r e =
    judges listing_wording listing_grammar any_table laws is_listing
    (λ text p t. (t.0, t.1, t.3)) (λ text p l. (l.0, l.1, all_any p.tables, l.2)) text r e
