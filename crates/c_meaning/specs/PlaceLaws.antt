-- What places mean in C.
use Rattle.std.specs.Prelude.{◌≡◌, ℕ, ◌^◌, ◌<◌, ◌⊎◌, List, length, Bool, true, false, ◌||◌, slice_index, pos}
use Rattle.icode.specs.Plain.{PlainExpr, PlainParts, PlainPart, Sum, NoParts, AndParts, Proc, Var, Product, Rem, Quot}
use Rattle.icode.specs.Expression.{sum_numbers}
use Rattle.icode.specs.Limits.{is_sum_within}
use Rattle.listing_text.specs.Listing.{sum_text}
use Rattle.c_meaning.specs.Types.{Word}
use Rattle.c_meaning.specs.Syntax.{is_read_so}
use Rattle.c_meaning.specs.Numbers.{Defined}
use Rattle.c_meaning.specs.Scopes.{Scope, Words}
use Rattle.c_meaning.specs.Expressions.{value_of}
use Rattle.c_meaning.specs.Spelling.{expr_text}
use Rattle.c_meaning.specs.PlaceTrees.{processor, loop_variable, place_tree}

-- the text of a place is that of its tree, and C's grammar reads it so
abbrev pub PlacesAreTrees : Type 0
PlacesAreTrees =
    (place : PlainExpr) → (sum_text place ≡ expr_text (place_tree place)) × (is_read_so (place_tree place) ≡ true)

-- the variables are those of the processor and of the open loops, the outermost first, and are words
pub record Knows (s : Scope) (vs : List ℕ) (q : ℕ) : Type 0 where
  pub processor_type : s.type processor ≡ Word
  pub processor_value : s.value processor ≡ Defined (pos q)
  pub processor_below : q < 2 ^ 64
  pub loop_type : (depth : ℕ) → depth < length vs → s.type (loop_variable depth) ≡ Word
  pub loop_value : (depth : ℕ) → depth < length vs →
      s.value (loop_variable depth) ≡ Defined (pos (slice_index vs depth))
  pub loop_below : (depth : ℕ) → depth < length vs → slice_index vs depth < 2 ^ 64

-- the place names the processor or a loop
abbrev mutual
  pub is_named : PlainExpr → Bool
  is_named (Sum constant parts) = is_one_named parts

  pub is_one_named : PlainParts → Bool
  is_one_named NoParts = false
  is_one_named (AndParts part rest) = is_part_named part || is_one_named rest

  pub is_part_named : PlainPart → Bool
  is_part_named (Proc factor) = true
  is_part_named (Var depth factor) = true
  is_part_named (Product outer inner factor) = true
  is_part_named (Rem of divisor factor) = is_named of
  is_part_named (Quot of divisor factor) = is_named of

-- each remainder and each quotient in it is of a place that does
abbrev mutual
  pub AreNamed : PlainExpr → Type 0
  AreNamed (Sum constant parts) = AreAllNamed parts

  pub AreAllNamed : PlainParts → Type 0
  AreAllNamed NoParts = Unit {0}
  AreAllNamed (AndParts part rest) = IsDeepNamed part × AreAllNamed rest

  pub IsDeepNamed : PlainPart → Type 0
  IsDeepNamed (Proc factor) = Unit {0}
  IsDeepNamed (Var depth factor) = Unit {0}
  IsDeepNamed (Product outer inner factor) = Unit {0}
  IsDeepNamed (Rem of divisor factor) = (is_named of ≡ true) × AreNamed of
  IsDeepNamed (Quot of divisor factor) = (is_named of ≡ true) × AreNamed of

-- A place within its limits has no undefined step in C, and the value that it has. The numbers on the way to it have
-- to be below 2 ^ 31, since a remainder or a quotient of constants is computed in int; where there is none, it is
-- enough that they are words
abbrev pub PlacesHaveValues : Type 0
PlacesHaveValues =
    (s : Scope) (words : Words) (vs : List ℕ) (q : ℕ) (place : PlainExpr) → Knows s vs q →
    is_sum_within place (length vs) ≡ true →
    ((sum_numbers place vs q).peak < 2 ^ 31) ⊎ (AreNamed place × ((sum_numbers place vs q).peak < 2 ^ 64)) →
    value_of s words (place_tree place) ≡ Defined (pos (sum_numbers place vs q).value)
