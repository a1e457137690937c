-- Reading the first line of a C text answers for it.
use Rattle.std.proofs.Common.{◌≡◌, ℕ, List, codes, Result, Ok, Err, refl, sym, ap, ◌∙◌}
use Rattle.icode.specs.Plain.{PlainProgram}
use Rattle.grammar.specs.declared.token.Stuck.{Stuck}
use Rattle.grammar.specs.Reading.{whole}
use Rattle.listing_text.specs.declared.draft.Header.{Header}
use Rattle.listing_text.specs.Wording.{header_of}
use Rattle.listing_text.proofs.OutsideLines.{header_is, header_back}
use Rattle.c_print.specs.CText.{c_header_text}
use Rattle.c_print.specs.CHeaders.{c_header_at, IsHeaderOf}

pub header_is_read : (line : List ℕ) (h : Header) → whole c_header_at line ≡ Ok h → line ≡ c_header_text h
header_is_read line h e = header_is (codes "/* program size ") (codes " */\n") line h e

pub header_reads : (line : List ℕ) (p : PlainProgram) → IsHeaderOf line p → whole c_header_at line ≡ Ok (header_of p)
header_reads line p (w, e) = ap (λ text. whole c_header_at text) e ∙ header_back (codes "/* program size ") (codes " */\n") refl (header_of p) w

pub same_header : (line : List ℕ) (h : Header) (p : PlainProgram) → whole c_header_at line ≡ Ok h → IsHeaderOf line p → (let found : Result Header Stuck = Ok h in found ≡ Ok (header_of p))
same_header line h p e l = let same : h ≡ header_of p = same_value h (header_of p) (sym e ∙ header_reads line p l) in ap (λ x. Ok x) same
  where
    same_value : (x y : Header) → (let read : Result Header ℕ = Ok x in read ≡ Ok y) → x ≡ y
    same_value x y same = cc

pub not_stuck : (line : List ℕ) (stuck : Stuck) (p : PlainProgram) → whole c_header_at line ≡ Err stuck.left →
    IsHeaderOf line p → ⊥
not_stuck line stuck p e l = different (header_of p) (sym (header_reads line p l) ∙ e)
  where
    different : (x : Header) → (let read : Result Header ℕ = Ok x in read ≡ Err stuck.left) → ⊥
    different x same = cc
