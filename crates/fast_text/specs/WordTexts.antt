-- Which programs on words are read back from their texts.
use Rattle.std.specs.Prelude.{◌≡◌, ℕ, List, [], Bool, true, ◌&&◌, ◌==◌, nat_lt, Ok, IsTrue}
use Rattle.std.specs.List.{list_all}
use Rattle.icode.specs.Limits.{IsWithinLimits}
use Rattle.icode.specs.Plain.{PlainOp, Sub, Neg, MulConst}
use Rattle.grammar.specs.Reading.{whole}
use Rattle.listing_text.specs.Reading.{above_all}
use Rattle.word_code.specs.declared.program.Reduction.{Reduction}
use Rattle.word_code.specs.Bare.{bare}
use Rattle.word_code.specs.WordProgram.{Note, WordStmt, WordBody, PlainWordProgram, Loop, Do, NoStmts, AndStmts}
use Rattle.fast_text.specs.TextForm.{TextForm, named_header, named_product, named_product_header}
use Rattle.fast_text.specs.WordReading.{words_at}
use Rattle.fast_text.specs.WordText.{words_text}

abbrev pub is_word : ℕ → Bool
is_word n = nat_lt n above_all

abbrev pub is_reduction_of_words : Reduction → Bool
is_reduction_of_words r = is_word r.register && is_word r.amount

-- only differences have a bias, and only products by a constant have a quotient
abbrev pub is_note_of : PlainOp → Note → Bool
is_note_of (Sub register left right) note = is_word note.bias && (note.quotient == 0)
is_note_of (Neg register source) note = is_word note.bias && (note.quotient == 0)
is_note_of (MulConst register source factor) note = (note.bias == 0) && is_word note.quotient
is_note_of op note = (note.bias == 0) && (note.quotient == 0)

abbrev mutual
  pub has_notes_of_words : WordStmt → Bool
  has_notes_of_words (Loop count body) = have_notes_of_words body
  has_notes_of_words (Do note op) = list_all is_reduction_of_words note.before && is_note_of op note

  pub have_notes_of_words : WordBody → Bool
  have_notes_of_words NoStmts = true
  have_notes_of_words (AndStmts stmt rest) = has_notes_of_words stmt && have_notes_of_words rest

abbrev pub are_tables_of_words : List (List ℕ) → Bool
are_tables_of_words tables = list_all (λ entries. list_all is_word entries) tables

-- the operations are those of a program within its limits, and all that serves the words is words
pub record IsSpellable (p : PlainWordProgram) : Type 0 where
  pub within : IsWithinLimits (bare p)
  pub frame : p.frame.phases ≡ []
  pub half : IsTrue (is_word p.width.half)
  pub quotients : IsTrue (are_tables_of_words p.quotients)
  pub notes : IsTrue (list_all have_notes_of_words p.phases)

-- The text of this form is read as the program, and as saying whether arrays may hold any words. A header has no
-- statements of the program, nor has a product.
abbrev pub IsReadAs : TextForm → Bool → List ℕ → PlainWordProgram → Type 0
IsReadAs (named_header name) fresh text p = Unit {0}
IsReadAs (named_product name) fresh text p = Unit {0}
IsReadAs (named_product_header name) fresh text p = Unit {0}
IsReadAs form fresh text p = whole (words_at form) text ≡ Ok (fresh, p)

abbrev pub HasStatements : TextForm → Type 0
HasStatements (named_header name) = ⊥
HasStatements (named_product name) = ⊥
HasStatements (named_product_header name) = ⊥
HasStatements form = Unit {0}

-- two programs on words with the same text are the same, and what it says of their arrays is the same
abbrev pub TextsDetermineWords : Type 0
TextsDetermineWords =
    (form : TextForm) → HasStatements form → (fresh other : Bool) (p q : PlainWordProgram) → IsSpellable p →
    IsSpellable q → words_text form fresh p ≡ words_text form other q → (fresh ≡ other) × (p ≡ q)
