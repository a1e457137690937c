-- What is read of a phase's line is its text.
use Rattle.std.proofs.Common.{◌≡◌, ℕ, ◌≤◌, true, false, List, [], ◌∷◌, ◌++◌, codes, decimal, Result, Ok, Err}
use Rattle.std.proofs.Common.{refl, sym, ap, subst, ◌∙◌, append_assoc}
use Rattle.std.proofs.lemmas.List.{append-nil}
use Rattle.icode.specs.declared.program.Array.{Array}
use Rattle.icode.specs.Plain.{PlainExpr, PlainOp, Add, Sub, Neg, Tile}
use Rattle.icode.specs.Limits.{sum_depth}
use Rattle.grammar.specs.Grammar.{one_of}
use Rattle.grammar.specs.Reading.{Place, ◌>>=◌, pure_at, start, ended, to_end, whole, number_at, named_number_at}
use Rattle.listing_text.specs.declared.acts.Word.TheVariants as words
use Rattle.listing_text.specs.Listing.{sum_text, array_text, place_text, op_text, act_text, line_text}
use Rattle.listing_text.specs.Reading.{above_all, sum_at}
use Rattle.listing_text.specs.Wording.{PlainAct, Do}
use Rattle.listing_text.specs.Acts.{OpFits, ActFits, act_words, array_words, factor_words, factor_at, operands_at, act_at}
use Rattle.listing_text.specs.Acts.{act_line_at}
use Rattle.listing_text.proofs.Spelt.{Spelt, ◌also◌, none, spelt_then, word_then, number_then, named_then, key_then}
use Rattle.listing_text.proofs.Spelt.{each_is, words_then, place_spelt}

array_is : (t : List ℕ) (array : Array) → one_of array_words t array → t ≡ array_text array ++ codes "["
array_is t array l = each_is (λ t array. t ≡ array_text array ++ codes "[") array_words t array (record { all = (refl, (refl, (refl, (refl, tt)))) }) l

for_spelt : (s : List ℕ) (q : Place ℕ) → s ≡ codes "for v" ++ q.rest →
    Spelt ActFits act_text s (operands_at words.For q)
for_spelt s q e =
    number_then ActFits act_text s q _ (λ depth q1 e1.
    named_then ActFits act_text s (codes " ") q1 _ (λ count q2 e2. (tt, e ∙ ap (λ y. codes "for v" ++ y) (e1 ∙ ap (λ y. decimal depth ++ y) e2) ∙ simp append_assoc)))

place_left : (array : Array) (at : PlainExpr) (rest : List ℕ) →
    (array_text array ++ codes "[") ++ (sum_text at ++ (codes "]" ++ rest)) ≡ place_text array at ++ rest
place_left array at rest = simp append_assoc

load_left : (register : ℕ) (place rest : List ℕ) → codes "ld r" ++ (decimal register ++ (codes " " ++ (place ++ rest)))
    ≡ (codes "ld r" ++ decimal register ++ codes " " ++ place) ++ rest
load_left register place rest = simp append_assoc

load_spelt : (s : List ℕ) (q : Place ℕ) → s ≡ codes "ld r" ++ q.rest →
    Spelt ActFits act_text s (operands_at words.Load q)
load_spelt s q e =
    number_then ActFits act_text s q _ (λ register q1 e1.
    word_then ActFits act_text s (codes " ") q1 _ (λ w q2 e2.
    key_then array_words ActFits act_text s q2 _ (λ array q3 t3 e3 l3.
    spelt_then (λ x. sum_depth x ≤ 64) sum_text ActFits act_text q3.rest s (sum_at 64 q3) _ (place_spelt 64 q3) (λ at q4 f4 e4.
    word_then ActFits act_text s (codes "]") q4 _ (λ w q5 e5. (
      f4,
      e ∙ ap (λ y. codes "ld r" ++ y)
          (e1 ∙ ap (λ y. decimal register ++ y)
          (e2 ∙ ap (λ y. codes " " ++ y)
          (e3 ∙ ap (λ y. y ++ q3.rest) (array_is t3 array l3) ∙ ap (λ y. (array_text array ++ codes "[") ++ y) (e4 ∙ ap (λ y. sum_text at ++ y) e5)
          ∙ place_left array at q5.rest)))
          ∙ load_left register (place_text array at) q5.rest,
    ))))))

store_spelt : (s : List ℕ) (q : Place ℕ) → s ≡ codes "st " ++ q.rest →
    Spelt ActFits act_text s (operands_at words.Store q)
store_spelt s q e =
    key_then array_words ActFits act_text s q _ (λ array q3 t3 e3 l3.
    spelt_then (λ x. sum_depth x ≤ 64) sum_text ActFits act_text q3.rest s (sum_at 64 q3) _ (place_spelt 64 q3) (λ at q4 f4 e4.
    named_then ActFits act_text s (codes "] r") q4 _ (λ register q5 e5. (
      f4,
      e ∙ ap (λ y. codes "st " ++ y) (e3 ∙ ap (λ y. y ++ q3.rest) (array_is t3 array l3) ∙ ap (λ y. (array_text array ++ codes "[") ++ y) (e4 ∙ ap (λ y. sum_text at ++ y) e5)) ∙ simp append_assoc,
    ))))

zero_spelt : (s : List ℕ) (q : Place ℕ) → s ≡ codes "zero r" ++ q.rest →
    Spelt ActFits act_text s (operands_at words.Zero q)
zero_spelt s q e = number_then ActFits act_text s q _ (λ register q1 e1. (tt, e ∙ ap (λ y. codes "zero r" ++ y) e1 ∙ simp append_assoc))

abbrev pub pair_at : (ℕ → ℕ → PlainOp) → Place ℕ → Result (PlainAct × Place ℕ) ℕ
pair_at op = do
  register ← number_at above_all
  source ← named_number_at (codes " r") above_all
  pure_at (Do (op register source))

abbrev pub triple_at : (ℕ → ℕ → ℕ → PlainOp) → Place ℕ → Result (PlainAct × Place ℕ) ℕ
triple_at op = do
  register ← number_at above_all
  left ← named_number_at (codes " r") above_all
  right ← named_number_at (codes " r") above_all
  pure_at (Do (op register left right))

-- an operation on one register, and on two
pair_spelt : (s w : List ℕ) (op : ℕ → ℕ → PlainOp) → ((register source : ℕ) → OpFits (op register source)
    × (op_text (op register source) ≡ w ++ decimal register ++ codes " r" ++ decimal source)) → (q : Place ℕ) →
    s ≡ w ++ q.rest → Spelt ActFits act_text s (pair_at op q)
pair_spelt s w op is q e =
    number_then ActFits act_text s q _ (λ register q1 e1.
    named_then ActFits act_text s (codes " r") q1 _ (λ source q2 e2.
    let text = is register source in
    let joined : s ≡ (w ++ decimal register ++ codes " r" ++ decimal source) ++ q2.rest = e ∙ ap (λ y. w ++ y) (e1 ∙ ap (λ y. decimal register ++ y) e2) ∙ simp append_assoc in
    (text.0, joined ∙ ap (λ y. y ++ q2.rest) (sym text.1))))

triple_spelt : (s w : List ℕ) (op : ℕ → ℕ → ℕ → PlainOp) → ((register left right : ℕ) → OpFits (op register left right)
    × (op_text (op register left right) ≡ w ++ decimal register ++ codes " r" ++ decimal left ++ codes " r"
    ++ decimal right)) → (q : Place ℕ) → s ≡ w ++ q.rest → Spelt ActFits act_text s (triple_at op q)
triple_spelt s w op is q e =
    number_then ActFits act_text s q _ (λ register q1 e1.
    named_then ActFits act_text s (codes " r") q1 _ (λ left q2 e2.
    named_then ActFits act_text s (codes " r") q2 _ (λ right q3 e3.
    let text = is register left right in
    let joined : s ≡ (w ++ decimal register ++ codes " r" ++ decimal left ++ codes " r" ++ decimal right) ++ q3.rest =
    e ∙ ap (λ y. w ++ y) (e1 ∙ ap (λ y. decimal register ++ y) (e2 ∙ ap (λ y. codes " r" ++ (decimal left ++ y)) e3)) ∙ simp append_assoc in
    (text.0, joined ∙ ap (λ y. y ++ q3.rest) (sym text.1)))))

-- the start of a product, up to its factor
abbrev product_start : ℕ → ℕ → List ℕ → List ℕ
product_start register source rest = codes "mul r" ++ (decimal register ++ (codes " r" ++ (decimal source ++ rest)))

table_spelt : (s : List ℕ) (register source : ℕ) (q : Place ℕ) →
    s ≡ product_start register source (codes " t" ++ q.rest) →
    Spelt ActFits act_text s (factor_at register source true q)
table_spelt s register source q e =
    number_then ActFits act_text s q _ (λ table q1 e1.
    word_then ActFits act_text s (codes "[") q1 _ (λ w q2 e2.
    spelt_then (λ x. sum_depth x ≤ 64) sum_text ActFits act_text q2.rest s (sum_at 64 q2) _ (place_spelt 64 q2) (λ at q3 f3 e3.
    named_then ActFits act_text s (codes "] step ") q3 _ (λ step q4 e4. (
      f3,
      e ∙ ap (λ y. product_start register source (codes " t" ++ y)) (e1 ∙ ap (λ y. decimal table ++ y) (e2 ∙ ap (λ y. codes "[" ++ y) (e3 ∙ ap (λ y. sum_text at ++ y) e4))) ∙ simp append_assoc,
    )))))

constant_spelt : (s : List ℕ) (register source : ℕ) (q : Place ℕ) →
    s ≡ product_start register source (codes " " ++ q.rest) →
    Spelt ActFits act_text s (factor_at register source false q)
constant_spelt s register source q e =
    number_then ActFits act_text s q _ (λ factor q1 e1. (tt, e ∙ ap (λ y. product_start register source (codes " " ++ y)) e1 ∙ simp append_assoc))

mul_spelt : (s : List ℕ) (q : Place ℕ) → s ≡ codes "mul r" ++ q.rest →
    Spelt ActFits act_text s (operands_at words.Mul q)
mul_spelt s q e =
    number_then ActFits act_text s q _ (λ register q1 e1.
    named_then ActFits act_text s (codes " r") q1 _ (λ source q2 e2.
    let so_far : s ≡ product_start register source q2.rest = e ∙ ap (λ y. codes "mul r" ++ y) (e1 ∙ ap (λ y. decimal register ++ y) e2) in
    words_then factor_words ActFits act_text s q2 _
    ((λ q3 e3. table_spelt s register source q3 (so_far ∙ ap (λ y. product_start register source y) e3))
    also (λ q3 e3. constant_spelt s register source q3 (so_far ∙ ap (λ y. product_start register source y) e3)) also none)))

act_spelt : (place : Place ℕ) → Spelt ActFits act_text place.rest (act_at place)
unfolding act_at
act_spelt place =
    let s : List ℕ = place.rest in
    words_then act_words ActFits act_text s place _
    (for_spelt s also (λ q e. (tt, e)) also load_spelt s also store_spelt s also zero_spelt s
    also triple_spelt s (codes "add r") Add (λ register left right. (tt, refl))
    also triple_spelt s (codes "sub r") Sub (λ register left right. (tt, refl))
    also pair_spelt s (codes "neg r") Neg (λ register source. (tt, refl)) also mul_spelt s
    also pair_spelt s (codes "tile r") Tile (λ register source. (tt, refl)) also none)

-- ---- a whole line

pub whole_spelt : {A : Type 0} (fits : A → Type 0) (text : A → List ℕ) (line : List ℕ) (r : Result (A × Place ℕ) ℕ)
    (x : A) → Spelt fits text line r → to_end r ≡ Ok x → fits x × (line ≡ text x)
whole_spelt {A} fits text line (Ok y) x h e = cases (y.1.rest) e h.1
  where
    cases : (rest : List ℕ) → ended y.0 rest y.1.far ≡ Ok x → line ≡ text y.0 ++ rest → fits x × (line ≡ text x)
    cases [] e w = let same : y.0 ≡ x = cc in (subst fits same h.0, w ∙ append-nil (text y.0) ∙ ap text same)
    cases (b ∷ rest) e w = absurd cc
whole_spelt fits text line (Err left) x h e = absurd cc

act_line_spelt : (place : Place ℕ) → Spelt ActFits line_text place.rest (act_line_at place)
unfolding act_line_at
act_line_spelt place =
    spelt_then ActFits act_text ActFits line_text place.rest place.rest (act_at place) _ (act_spelt place) (λ act q f e.
    word_then ActFits line_text place.rest (codes "\n") q _ (λ w q1 e1. (f, e ∙ ap (λ y. act_text act ++ y) e1 ∙ sym (append_assoc (act_text act) (codes "\n") q1.rest))))

pub line_spelt : (line : List ℕ) (act : PlainAct) → whole act_line_at line ≡ Ok act →
    ActFits act × (line ≡ line_text act)
line_spelt line act e = whole_spelt ActFits line_text line (act_line_at (start line)) act (act_line_spelt (start line)) e
