-- The texts of places are those of their trees.
use Rattle.std.proofs.Common.{◌≡◌, ℕ, Bool, true, false, ◌&&◌, List, ◌++◌, codes, decimal, refl, sym, ap, ◌∙◌, append_assoc}
use Rattle.std.proofs.lemmas.List.{append-nil}
use Rattle.std.specs.Prelude.{nat_le, nat_lt}
use Rattle.icode.specs.Plain.{PlainExpr, PlainParts, PlainPart, Sum, NoParts, AndParts, Proc, Var, Product, Rem, Quot}
use Rattle.listing_text.specs.Listing.{sum_text, parts_text, part_text}
use Rattle.c_meaning.specs.Syntax.{Plus, Tight, CExpr, Constant, Two, is_read_so, level}
use Rattle.c_meaning.specs.Types.{Bare}
use Rattle.c_meaning.specs.Spelling.{expr_text}
use Rattle.c_meaning.specs.PlaceTrees.{place_tree, with_parts, part_tree}
use Rattle.c_meaning.specs.PlaceLaws.{PlacesAreTrees}

one_more : (left tree part rest : List ℕ) → codes "+" ++ tree ≡ part → (left ++ (codes "+" ++ tree)) ++ rest ≡ left ++ (part ++ rest)
one_more left tree part rest e = append_assoc left (codes "+" ++ tree) rest ∙ ap (λ t. left ++ (t ++ rest)) e

loop_is : (depth factor : List ℕ) → codes "+" ++ ((codes "v" ++ depth) ++ (codes "*" ++ factor)) ≡ codes "+v" ++ depth ++ codes "*" ++ factor
loop_is depth factor = simp append_assoc

product_is : (outer inner factor : List ℕ) → codes "+" ++ (((codes "v" ++ outer) ++ (codes "*" ++ (codes "v" ++ inner))) ++ (codes "*" ++ factor))
    ≡ codes "+v" ++ outer ++ codes "*v" ++ inner ++ codes "*" ++ factor
product_is outer inner factor = simp append_assoc

group_shape : (plus opened sum closed by divisor times factor : List ℕ) → plus ++ ((opened ++ sum ++ closed) ++ (by ++ divisor) ++ (times ++ factor))
    ≡ (plus ++ opened) ++ sum ++ (closed ++ by) ++ divisor ++ times ++ factor
group_shape plus opened sum closed by divisor times factor = simp append_assoc

group_is : (inner sum by divisor factor : List ℕ) → inner ≡ sum → codes "+" ++ ((codes "(" ++ inner ++ codes ")") ++ (by ++ divisor) ++ (codes "*" ++ factor))
    ≡ codes "+(" ++ sum ++ (codes ")" ++ by) ++ divisor ++ codes "*" ++ factor
group_is inner sum by divisor factor e =
    ap (λ t. codes "+" ++ ((codes "(" ++ t ++ codes ")") ++ (by ++ divisor) ++ (codes "*" ++ factor))) e
    ∙ group_shape (codes "+") (codes "(") sum (codes ")") by divisor (codes "*") factor

mutual
  place_is : (place : PlainExpr) → expr_text (place_tree place) ≡ sum_text place
  place_is (Sum constant parts) = parts_are parts _

  parts_are : (parts : PlainParts) (left : CExpr) → expr_text (with_parts left parts) ≡ expr_text left ++ parts_text parts
  parts_are NoParts left = sym (append-nil (expr_text left))
  parts_are (AndParts part rest) left =
      parts_are rest (Two Plus Tight left (part_tree part))
      ∙ one_more (expr_text left) (expr_text (part_tree part)) (part_text part) (parts_text rest) (part_is part)

  part_is : (part : PlainPart) → codes "+" ++ expr_text (part_tree part) ≡ part_text part
  part_is (Proc factor) = refl
  part_is (Var depth factor) = loop_is (decimal depth) (decimal factor)
  part_is (Product outer inner factor) = product_is (decimal outer) (decimal inner) (decimal factor)
  part_is (Rem of divisor factor) = group_is _ (sum_text of) (codes "%") (decimal divisor) (decimal factor) (place_is of)
  part_is (Quot of divisor factor) = group_is _ (sum_text of) (codes "/") (decimal divisor) (decimal factor) (place_is of)

-- a sum, and a product, as an operand on the left and on the right
tight_enough : (a b c d : Bool) → a ≡ true → b ≡ true → c ≡ true → d ≡ true → ((a && b) && (c && d)) ≡ true
tight_enough true true true true h g i j = refl
tight_enough false b c d h g i j = h
tight_enough true false c d h g i j = g
tight_enough true true false d h g i j = i
tight_enough true true true false h g i j = j

mutual
  place_read : (place : PlainExpr) → is_read_so (place_tree place) ≡ true
  place_read (Sum constant parts) = parts_read parts (Constant constant Bare) refl refl

  parts_read : (parts : PlainParts) (left : CExpr) → nat_le 12 (level left) ≡ true → is_read_so left ≡ true → is_read_so (with_parts left parts) ≡ true
  parts_read NoParts left h g = g
  parts_read (AndParts part rest) left h g =
      parts_read rest (Two Plus Tight left (part_tree part)) refl (tight_enough _ _ _ _ h (part_above part) g (part_read part))

  part_above : (part : PlainPart) → nat_lt 12 (level (part_tree part)) ≡ true
  part_above (Proc factor) = refl
  part_above _ = refl

  part_read : (part : PlainPart) → is_read_so (part_tree part) ≡ true
  part_read (Proc factor) = refl
  part_read (Var depth factor) = refl
  part_read (Product outer inner factor) = refl
  part_read (Rem of divisor factor) = tight_enough true true _ true refl refl (tight_enough true true _ true refl refl (place_read of) refl) refl
  part_read (Quot of divisor factor) = tight_enough true true _ true refl refl (tight_enough true true _ true refl refl (place_read of) refl) refl

pub places_are_trees : PlacesAreTrees
places_are_trees place = (sym (place_is place), place_read place)
