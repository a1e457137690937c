-- How lines of a phase begin, and how their texts are put together.
use Rattle.std.proofs.Common.{◌≡◌, ℕ, ◌<◌, ◌≤◌, Bool, true, false, eqb, List, [], ◌∷◌, ◌++◌, codes, decimal, Ok, refl}
use Rattle.std.proofs.Common.{arith}
use Rattle.std.proofs.Common.{append_assoc, inl, inr}
use Rattle.std.proofs.lemmas.Bool.{ne_eqb}
use Rattle.icode.specs.Limits.{is_expr_within}
use Rattle.icode.specs.Plain.{PlainExpr}
use Rattle.icode.specs.declared.program.Array.{Array}
use Rattle.icode.specs.declared.program.Array.TheVariants as arrays
use Rattle.grammar.specs.Grammar.{one_of}
use Rattle.grammar.specs.Reading.{Place, begins, placed, one_of_in, one_of_at}
use Rattle.grammar.proofs.Parts.{Anything, one_of_reader}
use Rattle.grammar.proofs.Whole.{again}
use Rattle.listing_text.specs.Listing.{array_text}
use Rattle.listing_text.specs.Reading.{above_all}
use Rattle.listing_text.proofs.ReadBack.{Back, first_digit, goes_on, sum_back}
use Rattle.fast_text.specs.WordReading.{LineHead, ForHead, EndHead, RegisterHead, StoreHead, TileHead, line_heads}
use Rattle.fast_text.specs.WordReading.{ValueHead, ZeroHead, LoadHead, AddHead, SubHead, NegHead, MulHead}
use Rattle.fast_text.specs.WordReading.{ReducedHead, index_at}
use Rattle.fast_text.specs.WordText.{index_text}
use Rattle.fast_text.specs.WordReading.{value_heads, array_heads, factor_heads, splat_heads}

-- ---- heads

pub line_key : (w : List ℕ) (head : LineHead) (place : Place ℕ) (rest : List ℕ) → one_of line_heads w head →
    place.rest ≡ w ++ rest → Back (one_of_at line_heads) head place rest
line_key w head place rest l e =
    again Anything (one_of line_heads) (one_of_at line_heads)
    (one_of_reader Anything (codes "for (uint64_t v", ForHead)
    ((codes "}\n", EndHead) ∷ (codes "r", RegisterHead) ∷ (codes "store(", StoreHead) ∷
    (codes "{ vec b[] = {r", TileHead) ∷ []) refl)
    place w rest head l tt e

pub value_key : (w : List ℕ) (head : ValueHead) (place : Place ℕ) (rest : List ℕ) → one_of value_heads w head →
    place.rest ≡ w ++ rest → Back (one_of_at value_heads) head place rest
value_key w head place rest l e =
    again Anything (one_of value_heads) (one_of_at value_heads)
    (one_of_reader Anything (codes "splat(0);\n", ZeroHead)
    ((codes "load(", LoadHead) ∷ (codes "add(r", AddHead) ∷ (codes "sub(r", SubHead) ∷ (codes "neg(r", NegHead)
    ∷ (codes "mul(r", MulHead) ∷ (codes "reduced(r", ReducedHead) ∷ []) refl)
    place w rest head l tt e

pub array_spells : (array : Array) → one_of array_heads (array_text array ++ codes " + ") array
array_spells arrays.X = inl (refl, refl)
array_spells arrays.Y = inr (inl (refl, refl))
array_spells arrays.A = inr (inr (inl (refl, refl)))
array_spells arrays.B = inr (inr (inr (inl (refl, refl))))

pub array_back : (array : Array) (place : Place ℕ) (rest : List ℕ) →
    place.rest ≡ (array_text array ++ codes " + ") ++ rest → Back (one_of_at array_heads) array place rest
array_back array place rest e =
    again Anything (one_of array_heads) (one_of_at array_heads)
    (one_of_reader Anything (codes "X + ", arrays.X)
    ((codes "Y + ", arrays.Y) ∷ (codes "A + ", arrays.A) ∷ (codes "B + ", arrays.B) ∷ []) refl)
    place (array_text array ++ codes " + ") rest array (array_spells array) tt e

pub factor_key : (w : List ℕ) (is_row : Bool) (place : Place ℕ) (rest : List ℕ) → one_of factor_heads w is_row →
    place.rest ≡ w ++ rest → Back (one_of_at factor_heads) is_row place rest
factor_key w is_row place rest l e =
    again Anything (one_of factor_heads) (one_of_at factor_heads)
    (one_of_reader Anything (codes ", splat(", false) ((codes ", load(t", true) ∷ []) refl) place w rest is_row l tt e

-- a constant is no entry of a table
pub no_entry : (n : ℕ) (rest : List ℕ) (far : ℕ) → n < above_all →
    placed far (one_of_in splat_heads (decimal n ++ rest)) ≡ Ok (false, record { rest = decimal n ++ rest; far = far })
no_entry n rest far fits =
    let first = first_digit n fits in
    let other : eqb 116 first.digit ≡ false = ne_eqb 116 first.digit (λ same. omega (arith, first.high, same)) in
    rw first.whole (rw other refl)

-- ---- places

-- a place, with the mark after each constant
pub index_back : (e : PlainExpr) (open_loops : ℕ) → is_expr_within e open_loops ≡ true → open_loops ≤ 64 →
    (place : Place ℕ) (rest : List ℕ) → place.rest ≡ index_text e ++ rest → begins goes_on rest ≡ false →
    Back index_at e place rest
index_back = sum_back (codes "ULL") (λ rest none. refl)

-- ---- shapes

pub shape_open : (f d z lt c v e rest : List ℕ) → ((f ++ d ++ z) ++ (d ++ lt) ++ (c ++ v) ++ (d ++ e)) ++ rest ≡ f
    ++ ((d ++ z ++ d) ++ (lt ++ (c ++ ((v ++ d ++ e) ++ rest))))
shape_open f d z lt c v e rest = simp append_assoc

pub shape_zero : (r d is f rest : List ℕ) → (((r ++ d) ++ is) ++ f) ++ rest ≡ r ++ (d ++ (is ++ (f ++ rest)))
shape_zero r d is f rest = simp append_assoc

pub shape_reduced : (r d is f comma a e rest : List ℕ) →
    (((r ++ d) ++ is) ++ f ++ (r ++ d) ++ (comma ++ a ++ e)) ++ rest
    ≡ r
    ++ (d ++ (is ++ ((f ++ r) ++ (d ++ (comma ++ (a ++ (e ++ rest)))))))
shape_reduced r d is f comma a e rest = simp append_assoc

pub shape_load : (r d is f a plus i e rest : List ℕ) → (((r ++ d) ++ is) ++ f ++ a ++ plus ++ i ++ e) ++ rest ≡ r
    ++ (d ++ (is ++ (f ++ ((a ++ plus) ++ (i ++ (e ++ rest))))))
shape_load r d is f a plus i e rest = simp append_assoc

pub shape_store : (f a plus i comma r x e rest : List ℕ) → (f ++ a ++ plus ++ i ++ comma ++ (r ++ x) ++ e) ++ rest ≡ f
    ++ ((a ++ plus) ++ (i ++ ((comma ++ r) ++ (x ++ (e ++ rest)))))
shape_store f a plus i comma r x e rest = simp append_assoc

pub shape_add : (r d is f x comma y e rest : List ℕ) →
    (((r ++ d) ++ is) ++ f ++ (r ++ x) ++ comma ++ (r ++ y) ++ e) ++ rest ≡ r
    ++ (d ++ (is ++ ((f ++ r) ++ (x ++ ((comma ++ r) ++ (y ++ (e ++ rest)))))))
shape_add r d is f x comma y e rest = simp append_assoc

pub shape_sub : (r d is f x comma y b e rest : List ℕ) →
    (((r ++ d) ++ is) ++ f ++ (r ++ x) ++ comma ++ (r ++ y) ++ (comma ++ b ++ e)) ++ rest ≡ r
    ++ (d ++ (is ++ ((f ++ r) ++ (x ++ ((comma ++ r) ++ (y ++ (comma ++ (b ++ (e ++ rest)))))))))
shape_sub r d is f x comma y b e rest = simp append_assoc

pub shape_neg : (r d is f x comma b e rest : List ℕ) →
    (((r ++ d) ++ is) ++ f ++ (r ++ x) ++ (comma ++ b ++ e)) ++ rest ≡ r
    ++ (d ++ (is ++ ((f ++ r) ++ (x ++ (comma ++ (b ++ (e ++ rest)))))))
shape_neg r d is f x comma b e rest = simp append_assoc

pub shape_constant : (r d is f x s c e q g rest : List ℕ) →
    (((r ++ d) ++ is) ++ f ++ (r ++ x) ++ (s ++ c ++ e) ++ (s ++ q ++ g)) ++ rest ≡ r
    ++ (d ++ (is ++ ((f ++ r) ++ (x ++ (s ++ (c ++ ((e ++ s) ++ (q ++ (g ++ rest)))))))))
shape_constant r d is f x s c e q g rest = simp append_assoc

pub shape_entry : (r d is f x comma s t n b i e u g rest : List ℕ) →
    (((r ++ d) ++ is) ++ f ++ (r ++ x) ++ comma ++ (s ++ t ++ n ++ b ++ i ++ e) ++ comma ++ u ++ g) ++ rest ≡ r
    ++ (d ++ (is ++ ((f ++ r) ++ (x ++ ((comma ++ s) ++ (t ++
    (n ++ (b ++ (i ++ (e ++ ((comma ++ u ++ g) ++ rest)))))))))))
shape_entry r d is f x comma s t n b i e u g rest = simp append_assoc

pub shape_row : (r d is f x comma s t n b i e u g rest : List ℕ) →
    (((r ++ d) ++ is) ++ f ++ (r ++ x) ++ comma ++ (s ++ t ++ n ++ b ++ i ++ e) ++ comma ++ u ++ g) ++ rest ≡ r
    ++ (d ++ (is ++ ((f ++ r) ++ (x ++ ((comma ++ s ++ t) ++
    (n ++ (b ++ (i ++ (e ++ ((comma ++ u ++ g) ++ rest))))))))))
shape_row r d is f x comma s t n b i e u g rest = simp append_assoc

pub shape_tile : (o r s c ss t d is b z e ts f rest : List ℕ) →
    (o ++ ((r ++ s ++ c) ++ ss) ++ t ++ (((r ++ d) ++ is) ++ (b ++ z ++ e) ++ ts) ++ f) ++ rest ≡ (o ++ r)
    ++ (s ++ ((c ++ ss ++ (t ++ r)) ++ (d ++ ((((is ++ b) ++ z ++ e) ++ ts ++ f) ++ rest))))
shape_tile o r s c ss t d is b z e ts f rest = simp append_assoc
