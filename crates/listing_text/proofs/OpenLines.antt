-- No line ends inside the text of a line.
use Rattle.std.proofs.Common.{◌≡◌, ℕ, zero, suc, ◌+◌, ◌/◌, ◌%◌, ◌<◌, Bool, true, false, cond, eqb, List, [], ◌∷◌, ◌++◌}
use Rattle.std.proofs.Common.{flat_map, codes, decimal, refl, sym, ap, subst, ◌∙◌, append_assoc, arith}
use Rattle.std.specs.Fmt.{digits, digits_onto, digit_glyph}
use Rattle.std.proofs.lemmas.Bool.{ne_eqb, lt-ltb}
use Rattle.icode.specs.declared.program.Array.{Array}
use Rattle.icode.specs.declared.program.Array.TheVariants as arrays
use Rattle.icode.specs.Plain.{PlainExpr, PlainPart, PlainParts, PlainOp, Sum, NoParts, AndParts, Proc, Var, Product}
use Rattle.icode.specs.Plain.{Rem, Quot, Load, Store, Zero, Add, Sub, Neg, MulConst, MulTable, Tile}
use Rattle.listing_text.specs.Lines.{is_open, IsLine}
use Rattle.listing_text.specs.declared.draft.Header.{Header}
use Rattle.listing_text.specs.Wording.{PlainAct, Open, Close, Do}
use Rattle.listing_text.proofs.OutsideLines.{header_line}
use Rattle.listing_text.specs.Listing.{sum_text, parts_text, part_text, array_text, place_text, op_text, act_text}
use Rattle.listing_text.specs.Listing.{line_text}

-- texts in which no line ends
pub record IsOpen (text : List ℕ) : Type 0 where
  pub is : is_open text ≡ true

open_cases : (b : ℕ) (u v : List ℕ) (k : Bool) → eqb b 10 ≡ k → cond k false (is_open u) ≡ true →
    (is_open u ≡ true → is_open (u ++ v) ≡ true) → cond k false (is_open (u ++ v)) ≡ true
open_cases b u v true e h again = absurd cc
open_cases b u v false e h again = again h

both_open : (u v : List ℕ) → is_open u ≡ true → is_open v ≡ true → is_open (u ++ v) ≡ true
both_open [] v h k = k
both_open (b ∷ u) v h k = open_cases b u v (eqb b 10) refl h (λ o. both_open u v o k)

infixl 20 ◌&◌
pub ◌&◌ : {u v : List ℕ} → IsOpen u → IsOpen v → IsOpen (u ++ v)
◌&◌ {u = u} {v = v} a b = record { is = both_open u v a.is b.is }

digit_open : (d : ℕ) (text : List ℕ) → d < 10 → is_open text ≡ true → is_open (digit_glyph false d ∷ text) ≡ true
digit_open d text lt h =
    let small = lt-ltb d 10 lt in
    let other : eqb (48 + d) 10 ≡ false = ne_eqb (48 + d) 10 (λ same. omega (arith, same)) in
    rw (small, other) h

digits_cases : (k n : ℕ) (text : List ℕ) (last : Bool) → is_open (digit_glyph false (n % 10) ∷ text) ≡ true →
    (is_open (digit_glyph false (n % 10) ∷ text) ≡ true → is_open
    (digits_onto k 10 false (n / 10) (digit_glyph false (n % 10) ∷ text)) ≡ true)
    → is_open (cond last (digit_glyph false (n % 10) ∷ text)
    (digits_onto k 10 false (n / 10) (digit_glyph false (n % 10) ∷ text))) ≡ true
digits_cases k n text true h again = h
digits_cases k n text false h again = again h

-- the digits that are left, however long the number is
digits_open : (k n : ℕ) (text : List ℕ) → is_open text ≡ true → is_open (digits_onto k 10 false n text) ≡ true
digits_open zero n text h = h
digits_open (suc k) n text h = digits_cases k n text (eqb (n / 10) 0) (digit_open (n % 10) text (omega arith) h) (λ o. digits_open k (n / 10) (digit_glyph false (n % 10) ∷ text) o)

pub number_open : (n : ℕ) → IsOpen (decimal n)
unfolding digits
number_open n = record { is = digits_open 64 n [] refl }

pub literal : (text : List ℕ) → is_open text ≡ true → IsOpen text
literal text h = record { is = h }

mutual
  pub sum_open : (e : PlainExpr) → IsOpen (sum_text e)
  sum_open (Sum constant ps) = number_open constant & parts_open ps

  parts_open : (ps : PlainParts) → IsOpen (parts_text ps)
  parts_open NoParts = literal [] refl
  parts_open (AndParts x ps) = part_open x & parts_open ps

  part_open : (x : PlainPart) → IsOpen (part_text x)
  part_open (Proc factor) = literal (codes "+q*") refl & number_open factor
  part_open (Var depth factor) = literal (codes "+v") refl & number_open depth & literal (codes "*") refl & number_open factor
  part_open (Product outer inner factor) = literal (codes "+v") refl & number_open outer & literal (codes "*v") refl & number_open inner & literal (codes "*") refl & number_open factor
  part_open (Rem of divisor factor) = literal (codes "+(") refl & sum_open of & literal (codes ")%") refl & number_open divisor & literal (codes "*") refl & number_open factor
  part_open (Quot of divisor factor) = literal (codes "+(") refl & sum_open of & literal (codes ")/") refl & number_open divisor & literal (codes "*") refl & number_open factor

pub array_open : (a : Array) → IsOpen (array_text a)
array_open arrays.X = literal (codes "X") refl
array_open arrays.Y = literal (codes "Y") refl
array_open arrays.A = literal (codes "A") refl
array_open arrays.B = literal (codes "B") refl

place_open : (a : Array) (e : PlainExpr) → IsOpen (place_text a e)
place_open a e = array_open a & literal (codes "[") refl & sum_open e & literal (codes "]") refl

op_open : (op : PlainOp) → IsOpen (op_text op)
op_open (Load register array place) = literal (codes "ld r") refl & number_open register & literal (codes " ") refl & place_open array place
op_open (Store array place register) = literal (codes "st ") refl & place_open array place & literal (codes " r") refl & number_open register
op_open (Zero register) = literal (codes "zero r") refl & number_open register
op_open (Add register left right) = literal (codes "add r") refl & number_open register & literal (codes " r") refl & number_open left & literal (codes " r") refl & number_open right
op_open (Sub register left right) = literal (codes "sub r") refl & number_open register & literal (codes " r") refl & number_open left & literal (codes " r") refl & number_open right
op_open (Neg register source) = literal (codes "neg r") refl & number_open register & literal (codes " r") refl & number_open source
op_open (MulConst register source factor) = literal (codes "mul r") refl & number_open register & literal (codes " r") refl & number_open source & literal (codes " ") refl & number_open factor
op_open (MulTable register source table place step) =
    literal (codes "mul r") refl & number_open register & literal (codes " r") refl & number_open source & literal (codes " t") refl & number_open table & literal (codes "[") refl & sum_open place & literal (codes "] step ") refl & number_open step
op_open (Tile register source) = literal (codes "tile r") refl & number_open register & literal (codes " r") refl & number_open source

act_open : (act : PlainAct) → IsOpen (act_text act)
act_open (Open depth count) = literal (codes "for v") refl & number_open depth & literal (codes " ") refl & number_open count
act_open Close = literal (codes "end") refl
act_open (Do op) = op_open op

pub ends_line : (text : List ℕ) → IsOpen text → IsLine (text ++ codes "\n")
ends_line text h = record { front = text; whole = refl; open_front = h.is }

pub act_is_line : (act : PlainAct) → IsLine (line_text act)
act_is_line act = ends_line (act_text act) (act_open act)

-- ---- the other lines

pub numbers_open : (separator : List ℕ) → IsOpen separator → (entries : List ℕ) →
    IsOpen (flat_map (λ c. separator ++ decimal c) entries)
numbers_open separator h [] = literal [] refl
numbers_open separator h (c ∷ entries) = h & number_open c & numbers_open separator h entries

pub table_open : (number : ℕ) (entries : List ℕ) → IsLine (codes "table " ++ decimal number ++ codes " values"
    ++ flat_map (λ c. codes " " ++ decimal c) entries ++ codes "\n")
table_open number entries = ends_line _ (literal (codes "table ") refl & number_open number & literal (codes " values") refl & numbers_open (codes " ") (literal (codes " ") refl) entries)

pub header_open : (before behind : List ℕ) (h : Header) → IsOpen before → IsOpen behind →
    IsLine (header_line before (behind ++ codes "\n") h)
header_open before behind h first last =
    subst IsLine (append_assoc _ behind (codes "\n"))
    (ends_line _
    (first & number_open h.size & literal (codes " mod ") refl & number_open h.modulus & literal (codes " procs ") refl & number_open h.procs & literal (codes " line ") refl & number_open h.line & literal (codes " lanes ") refl & number_open h.lanes
    & literal (codes " regs ") refl & number_open h.regs & last))

-- ---- texts of whole lines

abbrev pub joined : List (List ℕ) → List ℕ
joined [] = []
joined (line ∷ lines) = line ++ joined lines

abbrev pub AreLines : List (List ℕ) → Type 0
AreLines [] = Unit {0}
AreLines (line ∷ lines) = IsLine line × AreLines lines

-- the text is these lines, or none
pub record HasLines (text : List ℕ) : Type 0 where
  pub lines : List (List ℕ)
  pub whole : text ≡ joined lines
  pub are : AreLines lines

-- the text is this line and others
pub record HasFirst (text : List ℕ) : Type 0 where
  pub first : List ℕ
  pub others : List (List ℕ)
  pub whole : text ≡ first ++ joined others
  pub is : IsLine first
  pub are : AreLines others

joined-append : (xs ys : List (List ℕ)) → joined (xs ++ ys) ≡ joined xs ++ joined ys
joined-append [] ys = refl
joined-append (x ∷ xs) ys = ap (λ y. x ++ y) (joined-append xs ys) ∙ sym (append_assoc x (joined xs) (joined ys))

are-append : (xs ys : List (List ℕ)) → AreLines xs → AreLines ys → AreLines (xs ++ ys)
are-append [] ys a b = b
are-append (x ∷ xs) ys a b = (a.0, are-append xs ys a.1 b)

-- one text after another
pub first_behind : (text more : List ℕ) → HasFirst text → HasFirst more → HasFirst (text ++ more)
first_behind text more h k = record {
  first = h.first;
  others = h.others ++ k.first ∷ k.others;
  whole = ap (λ y. y ++ more) h.whole ∙ append_assoc h.first (joined h.others) more
      ∙ ap (λ y. h.first ++ y) (ap (λ y. joined h.others ++ y) k.whole ∙ sym (joined-append h.others (k.first ∷ k.others)));
  is = h.is;
  are = are-append h.others (k.first ∷ k.others) h.are (k.is, k.are);
}
