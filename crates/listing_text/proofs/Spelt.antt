-- What is read of a place stands in the text.
use Rattle.std.proofs.Common.{◌≡◌, ℕ, zero, suc, ◌<◌, ◌≤◌, Bool, true, false, List, [], ◌∷◌, ◌++◌, codes, decimal}
use Rattle.std.proofs.Common.{Option, Some, None, Result, Ok, Err, refl, sym, ap, ◌∙◌, append_assoc, arith, inl}
use Rattle.std.proofs.Common.{inr}
use Rattle.icode.specs.Plain.{PlainExpr, PlainPart, parts_of}
use Rattle.icode.specs.Limits.{sum_depth, parts_depth, part_depth}
use Rattle.grammar.specs.Grammar.{word, one_of, number, named_number}
use Rattle.grammar.specs.Reading.{Place, and_then, placed, word_in, word_at, one_of_in, one_of_at, number_at}
use Rattle.grammar.specs.Reading.{named_number_at, valued, or_else}
use Rattle.grammar.proofs.Tokens as tokens
use Rattle.grammar.proofs.Words.{word_token}
use Rattle.grammar.proofs.Numbers.{NoDigit}
use Rattle.grammar.proofs.Parts.{Anything, word_reader, number_reader, named_number_reader}
use Rattle.grammar.proofs.Places.{Answers}
use Rattle.listing_text.specs.declared.reading.Head.TheVariants as heads
use Rattle.listing_text.specs.Listing.{sum_text, parts_text, part_text}
use Rattle.listing_text.specs.Reading.{above_all, others_of, up_to_at, part_heads, second_heads, division_words}
use Rattle.listing_text.specs.Reading.{variable_at, divided, part_by, part_at, sum_by, inner_at, marked_inner_at, sum_at}

-- The value fits, and its text stands at the front
abbrev pub Spelt : {A : Type 0} → (A → Type 0) → (A → List ℕ) → List ℕ → Result (A × Place ℕ) ℕ → Type 0
Spelt fits text start (Ok x) = fits x.0 × (start ≡ text x.0 ++ x.1.rest)
Spelt fits text start (Err left) = Unit {0}

pub spelt_then : {A B : Type 0} (fits : A → Type 0) (text : A → List ℕ) (fits' : B → Type 0) (text' : B → List ℕ)
    (middle start : List ℕ) (r : Result (A × Place ℕ) ℕ) (next : A → Place ℕ → Result (B × Place ℕ) ℕ)
    → Spelt fits text middle r → ((x : A) (q : Place ℕ) → fits x → middle ≡ text x ++ q.rest →
    Spelt fits' text' start (next x q)) → Spelt fits' text' start (and_then r next)
spelt_then fits text fits' text' middle start (Ok x) next h k = k x.0 x.1 h.0 h.1
spelt_then fits text fits' text' middle start (Err left) next h k = tt

abbrev pub Any : {A : Type 0} → A → Type 0
Any x = Unit {0}

pub reader_cases : {A B : Type 0} (C : List ℕ → Type 0) (L : List ℕ → A → Type 0) (fits : B → Type 0)
    (text : B → List ℕ) (start : List ℕ) (place : Place ℕ) (r : Result (A × Place ℕ) ℕ)
    (next : A → Place ℕ → Result (B × Place ℕ) ℕ)
    → Answers C L place r → ((x : A) (q : Place ℕ) (t : List ℕ) → place.rest ≡ t ++ q.rest → L t x →
    Spelt fits text start (next x q)) → Spelt fits text start (and_then r next)
reader_cases C L fits text start place (Ok x) next p k = k x.0 x.1 p.text p.whole p.spelt
reader_cases C L fits text start place (Err left) next p k = tt

pub word_then : {B : Type 0} (fits : B → Type 0) (text : B → List ℕ) (start : List ℕ) (w : List ℕ) (place : Place ℕ)
    (next : Unit {0} → Place ℕ → Result (B × Place ℕ) ℕ)
    → ((x : Unit {0}) (q : Place ℕ) → place.rest ≡ w ++ q.rest → Spelt fits text start (next x q)) →
    Spelt fits text start (and_then (word_at w place) next)
word_then fits text start w place next k =
    reader_cases Anything (word w) fits text start place (word_at w place) next ((word_reader Anything w).each place) (λ x q t e l. k x q (e ∙ ap (λ y. y ++ q.rest) l))

pub number_then : {B : Type 0} (fits : B → Type 0) (text : B → List ℕ) (start : List ℕ) (place : Place ℕ)
    (next : ℕ → Place ℕ → Result (B × Place ℕ) ℕ)
    → ((n : ℕ) (q : Place ℕ) → place.rest ≡ decimal n ++ q.rest → Spelt fits text start (next n q)) →
    Spelt fits text start (and_then (number_at above_all place) next)
number_then fits text start place next k =
    reader_cases NoDigit (number above_all) fits text start place (number_at above_all place) next ((number_reader above_all (omega arith) (omega arith)).each place) (λ x q t e l. k x q (e ∙ ap (λ y. y ++ q.rest) l.1))

pub named_below_then : {B : Type 0} (fits : B → Type 0) (text : B → List ℕ) (start : List ℕ) (w : List ℕ)
    (place : Place ℕ) (next : ℕ → Place ℕ → Result (B × Place ℕ) ℕ)
    → ((n : ℕ) (q : Place ℕ) → n < above_all → place.rest ≡ w ++ (decimal n ++ q.rest) →
    Spelt fits text start (next n q)) → Spelt fits text start (and_then (named_number_at w above_all place) next)
named_below_then fits text start w place next k =
    reader_cases NoDigit (named_number w above_all) fits text start place (named_number_at w above_all place) next ((named_number_reader w above_all (omega arith) (omega arith)).each place)
    (λ x q t e l. k x q l.ends.0 (e ∙ ap (λ y. y ++ q.rest) (l.whole ∙ ap (λ y. y ++ l.rest) l.begins ∙ ap (λ y. w ++ y) l.ends.1) ∙ append_assoc w (decimal x) q.rest))

pub named_then : {B : Type 0} (fits : B → Type 0) (text : B → List ℕ) (start : List ℕ) (w : List ℕ) (place : Place ℕ)
    (next : ℕ → Place ℕ → Result (B × Place ℕ) ℕ)
    → ((n : ℕ) (q : Place ℕ) → place.rest ≡ w ++ (decimal n ++ q.rest) → Spelt fits text start (next n q)) →
    Spelt fits text start (and_then (named_number_at w above_all place) next)
named_then fits text start w place next k = named_below_then fits text start w place next (λ n q below e. k n q e)

-- ---- one of several words

abbrev Found : {A : Type 0} → List (List ℕ × A) → List ℕ → Result (A × List ℕ) ℕ → Type 0
Found ws text (Ok x) = (t : List ℕ) × (text ≡ t ++ x.1) × one_of ws t x.0
Found ws text (Err left) = Unit {0}

or_found : {A : Type 0} (w : List ℕ × A) (ws : List (List ℕ × A)) (text : List ℕ) (first : Result (Unit {0} × List ℕ) ℕ)
    (others : Result (A × List ℕ) ℕ) → tokens.Answers Anything (word w.0) text first → Found ws text others →
    Found (w ∷ ws) text (or_else (valued w.1 first) others)
or_found w ws text (Ok r) others p q = (p.text, p.whole, inl (p.spelt, refl))
or_found w ws text (Err left) (Ok x) p q = (q.0, q.1, inr q.2)
or_found w ws text (Err left) (Err other) p q = tt

found : {A : Type 0} (ws : List (List ℕ × A)) (text : List ℕ) → Found ws text (one_of_in ws text)
found [] text = tt
found (w ∷ ws) text = or_found w ws text (word_in w.0 text) (one_of_in ws text) ((word_token Anything w.0).each text) (found ws text)

key_cases : {A B : Type 0} (ws : List (List ℕ × A)) (fits : B → Type 0) (text : B → List ℕ) (start : List ℕ)
    (place : Place ℕ) (r : Result (A × List ℕ) ℕ) (next : A → Place ℕ → Result (B × Place ℕ) ℕ)
    → Found ws place.rest r → ((x : A) (q : Place ℕ) (t : List ℕ) → place.rest ≡ t ++ q.rest → one_of ws t x →
    Spelt fits text start (next x q)) → Spelt fits text start (and_then (placed place.far r) next)
key_cases ws fits text start place (Ok x) next p k = k x.0 (record { rest = x.1; far = place.far }) p.0 p.1 p.2
key_cases ws fits text start place (Err left) next p k = tt

pub key_then : {A B : Type 0} (ws : List (List ℕ × A)) (fits : B → Type 0) (text : B → List ℕ) (start : List ℕ)
    (place : Place ℕ) (next : A → Place ℕ → Result (B × Place ℕ) ℕ)
    → ((x : A) (q : Place ℕ) (t : List ℕ) → place.rest ≡ t ++ q.rest → one_of ws t x → Spelt fits text start (next x q))
    → Spelt fits text start (and_then (one_of_at ws place) next)
key_then ws fits text start place next k = key_cases ws fits text start place (one_of_in ws place.rest) next (found ws place.rest) k

abbrev AllWords : {A : Type 0} → (List ℕ → A → Type 0) → List (List ℕ × A) → Type 0
AllWords P [] = Unit {0}
AllWords P (w ∷ ws) = P w.0 w.1 × AllWords P ws

-- what holds of each word with its value
pub record Each {A : Type 0} (P : List ℕ → A → Type 0) (ws : List (List ℕ × A)) : Type 0 where
  pub all : AllWords P ws

pub none : {A : Type 0} {P : List ℕ → A → Type 0} → Each P []
none = record { all = tt }

infixr 20 ◌also◌
pub ◌also◌ : {A : Type 0} {P : List ℕ → A → Type 0} {w : List ℕ × A} {ws : List (List ℕ × A)} → P w.0 w.1 →
    Each P ws → Each P (w ∷ ws)
p also ps = record { all = (p, ps.all) }

pub each_is : {A : Type 0} (P : List ℕ → A → Type 0) (ws : List (List ℕ × A)) (t : List ℕ) (x : A) → Each P ws →
    one_of ws t x → P t x
each_is P [] t x ps l = absurd l
each_is P (w ∷ ws) t x ps (inl l) = rw (l.0, l.1) ps.all.0
each_is P (w ∷ ws) t x ps (inr l) = each_is P ws t x (record { all = ps.all.1 }) l

-- the same, with what follows each of the words
pub words_then : {A B : Type 0} (ws : List (List ℕ × A)) (fits : B → Type 0) (text : B → List ℕ) (start : List ℕ)
    (place : Place ℕ) (next : A → Place ℕ → Result (B × Place ℕ) ℕ)
    → Each (λ t x. (q : Place ℕ) → place.rest ≡ t ++ q.rest → Spelt fits text start (next x q)) ws →
    Spelt fits text start (and_then (one_of_at ws place) next)
words_then ws fits text start place next ps =
    key_then ws fits text start place next (λ x q t e l. each_is (λ t x. (q : Place ℕ) → place.rest ≡ t ++ q.rest → Spelt fits text start (next x q)) ws t x ps l q e)

-- ---- places

abbrev part_or_none_text : Option PlainPart → List ℕ
part_or_none_text None = []
part_or_none_text (Some part) = part_text part

abbrev PartFits : ℕ → Option PlainPart → Type 0
PartFits depth None = Unit {0}
PartFits depth (Some part) = part_depth part ≤ depth

abbrev SumFits : ℕ → PlainExpr → Type 0
SumFits depth e = suc (sum_depth e) ≤ depth

product_spelt : (depth outer : ℕ) (start : List ℕ) (q : Place ℕ) →
    start ≡ codes "+v" ++ (decimal outer ++ (codes "*v" ++ q.rest)) →
    Spelt (PartFits depth) part_or_none_text start (variable_at outer true q)
product_spelt depth outer start q e =
    number_then (PartFits depth) part_or_none_text start q _ (λ inner q1 e1.
    named_then (PartFits depth) part_or_none_text start (codes "*") q1 _ (λ factor q2 e2. (
      omega arith,
      e ∙ ap (λ y. codes "+v" ++ (decimal outer ++ (codes "*v" ++ y))) (e1 ∙ ap (λ y. decimal inner ++ y) e2) ∙ simp append_assoc,
    )))

variable_spelt : (depth outer : ℕ) (start : List ℕ) (q : Place ℕ) →
    start ≡ codes "+v" ++ (decimal outer ++ (codes "*" ++ q.rest)) →
    Spelt (PartFits depth) part_or_none_text start (variable_at outer false q)
variable_spelt depth outer start q e =
    number_then (PartFits depth) part_or_none_text start q _ (λ factor q1 e1. (
      omega arith,
      e ∙ ap (λ y. codes "+v" ++ (decimal outer ++ (codes "*" ++ y))) e1 ∙ simp append_assoc,
    ))

divided_text : (of : PlainExpr) (is_remainder : Bool) (t : List ℕ) (divisor factor : ℕ) →
    one_of division_words t is_remainder → part_text (divided of is_remainder divisor factor) ≡ codes "+("
    ++ sum_text of ++ t ++ decimal divisor ++ codes "*" ++ decimal factor
divided_text of is_remainder t divisor factor l =
    each_is (λ t k. part_text (divided of k divisor factor) ≡ codes "+(" ++ sum_text of ++ t ++ decimal divisor ++ codes "*" ++ decimal factor) division_words t is_remainder (refl also refl also none) l

divided_fits : (depth : ℕ) (of : PlainExpr) (is_remainder : Bool) (divisor factor : ℕ) → SumFits depth of →
    PartFits depth (Some (divided of is_remainder divisor factor))
divided_fits depth of true divisor factor h = omega (arith, h)
divided_fits depth of false divisor factor h = omega (arith, h)

module _ (depth : ℕ) (inner : Place ℕ → Result (PlainExpr × Place ℕ) ℕ)
    (inner_is : (place : Place ℕ) → Spelt (SumFits depth) sum_text place.rest (inner place)) where
  inner_part_spelt : (start : List ℕ) (q : Place ℕ) → start ≡ codes "+(" ++ q.rest →
      Spelt (PartFits depth) part_or_none_text start (part_by inner heads.Inner q)
  inner_part_spelt start q e =
      spelt_then (SumFits depth) sum_text (PartFits depth) part_or_none_text q.rest start (inner q) _ (inner_is q) (λ of q1 f1 e1.
      key_then division_words (PartFits depth) part_or_none_text start q1 _ (λ is_remainder q2 t2 e2 l2.
      number_then (PartFits depth) part_or_none_text start q2 _ (λ divisor q3 e3.
      named_then (PartFits depth) part_or_none_text start (codes "*") q3 _ (λ factor q4 e4.
      let joined : start ≡ (codes "+(" ++ sum_text of ++ t2 ++ decimal divisor ++ codes "*" ++ decimal factor) ++ q4.rest =
      e ∙ ap (λ y. codes "+(" ++ y) (e1 ∙ ap (λ y. sum_text of ++ y) (e2 ∙ ap (λ y. t2 ++ y) (e3 ∙ ap (λ y. decimal divisor ++ y) e4))) ∙ simp append_assoc in (
        divided_fits depth of is_remainder divisor factor f1,
        joined ∙ ap (λ y. y ++ q4.rest) (sym (divided_text of is_remainder t2 divisor factor l2)),
      )))))

  part_spelt : (place : Place ℕ) → Spelt (PartFits depth) part_or_none_text place.rest (part_at inner place)
  part_spelt place =
      let start : List ℕ = place.rest in
      words_then part_heads (PartFits depth) part_or_none_text start place _
      ((λ q e. number_then (PartFits depth) part_or_none_text start q _ (λ factor q1 e1. (omega arith, e ∙ ap (λ y. codes "+q*" ++ y) e1 ∙ simp append_assoc)))
      also (λ q e.
      number_then (PartFits depth) part_or_none_text start q _ (λ outer q1 e1.
      word_then (PartFits depth) part_or_none_text start (codes "*") q1 _ (λ w q2 e2.
      let so_far : start ≡ codes "+v" ++ (decimal outer ++ (codes "*" ++ q2.rest)) = e ∙ ap (λ y. codes "+v" ++ y) (e1 ∙ ap (λ y. decimal outer ++ y) e2) in
      words_then second_heads (PartFits depth) part_or_none_text start q2 _
      ((λ q3 e3. product_spelt depth outer start q3 (so_far ∙ ap (λ y. codes "+v" ++ (decimal outer ++ (codes "*" ++ y))) e3))
      also (λ q3 e3. variable_spelt depth outer start q3 (so_far ∙ ap (λ y. codes "+v" ++ (decimal outer ++ (codes "*" ++ y))) e3)) also none))))
      also inner_part_spelt start also (λ q e. (tt, e)) also none)

  others_spelt : (start : List ℕ) (first : Option PlainPart) (more : Place ℕ → Result (List PlainPart × Place ℕ) ℕ)
      (q : Place ℕ) → PartFits depth first → start ≡ part_or_none_text first ++ q.rest
      → Spelt (λ parts. parts_depth (parts_of parts) ≤ depth) (λ parts. parts_text (parts_of parts)) q.rest (more q) →
      Spelt (λ parts. parts_depth (parts_of parts) ≤ depth) (λ parts. parts_text (parts_of parts)) start
      (others_of first more q)
  others_spelt start None more q f e h = (omega arith, e)
  others_spelt start (Some part) more q f e h =
      spelt_then (λ parts. parts_depth (parts_of parts) ≤ depth) (λ parts. parts_text (parts_of parts)) (λ parts. parts_depth (parts_of parts) ≤ depth) (λ parts. parts_text (parts_of parts)) q.rest start (more q) _ h (λ parts q1 f1 e1. (
        omega (arith, f, f1),
        e ∙ ap (λ y. part_text part ++ y) e1 ∙ sym (append_assoc (part_text part) (parts_text (parts_of parts)) q1.rest),
      ))

  parts_spelt : (count : ℕ) (place : Place ℕ) → Spelt (λ parts. parts_depth (parts_of parts) ≤ depth)
      (λ parts. parts_text (parts_of parts)) place.rest (up_to_at count (part_at inner) place)
  unfolding up_to_at
  parts_spelt zero place = (omega arith, refl)
  parts_spelt (suc count) place =
      spelt_then (PartFits depth) part_or_none_text (λ parts. parts_depth (parts_of parts) ≤ depth) (λ parts. parts_text (parts_of parts)) place.rest place.rest (part_at inner place) _ (part_spelt place)
      (λ first q f e. others_spelt place.rest first (up_to_at count (part_at inner)) q f e (parts_spelt count q))

  pub sum_spelt : (place : Place ℕ) → Spelt (λ e. sum_depth e ≤ depth) sum_text place.rest (sum_by [] inner place)
  sum_spelt place =
      number_then (λ e. sum_depth e ≤ depth) sum_text place.rest place _ (λ constant q e.
      spelt_then (λ parts. parts_depth (parts_of parts) ≤ depth) (λ parts. parts_text (parts_of parts)) (λ e. sum_depth e ≤ depth) sum_text q.rest place.rest (up_to_at 64 (part_at inner) q) _ (parts_spelt 64 q)
      (λ parts q1 f1 e1. (f1, e ∙ ap (λ y. decimal constant ++ y) e1 ∙ sym (append_assoc (decimal constant) (parts_text (parts_of parts)) q1.rest))))

deeper : (depth : ℕ) (start : List ℕ) (r : Result (PlainExpr × Place ℕ) ℕ) →
    Spelt (λ e. sum_depth e ≤ depth) sum_text start r → Spelt (SumFits (suc depth)) sum_text start r
deeper depth start (Ok x) h = (omega (arith, h.0), h.1)
deeper depth start (Err left) h = tt

inner_spelt : (depth : ℕ) (place : Place ℕ) → Spelt (SumFits depth) sum_text place.rest (inner_at depth place)
unfolding marked_inner_at
inner_spelt zero place = tt
inner_spelt (suc depth) place = deeper depth place.rest (sum_by [] (inner_at depth) place) (sum_spelt depth (inner_at depth) (inner_spelt depth) place)

-- a place is read as its text, with no more parentheses open
pub place_spelt : (depth : ℕ) (place : Place ℕ) → Spelt (λ e. sum_depth e ≤ depth) sum_text place.rest
    (sum_at depth place)
place_spelt depth place = sum_spelt depth (inner_at depth) (inner_spelt depth) place
