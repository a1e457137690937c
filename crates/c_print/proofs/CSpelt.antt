-- What is read of a line in C is its text.
use Rattle.std.proofs.Common.{◌≡◌, ℕ, ◌≤◌, Bool, true, false, eqb, ◌&&◌, List, ◌++◌, codes, decimal, Some, None, Result}
use Rattle.std.proofs.Common.{Ok, refl, sym, ap, ◌∙◌, append_assoc}
use Rattle.std.proofs.lemmas.Bool.{and_parts, eqb-true}
use Rattle.icode.specs.declared.program.Array.{Array}
use Rattle.icode.specs.declared.program.Array.TheVariants as arrays
use Rattle.icode.specs.Limits.{sum_depth}
use Rattle.icode.specs.Plain.{PlainOp, Add, Sub}
use Rattle.grammar.specs.Reading.{Place, ◌>>=◌, and_then, pure_at, start, whole, word_at, one_of_at, number_at, named_number_at}
use Rattle.listing_text.specs.Listing.{sum_text, array_text}
use Rattle.listing_text.specs.Reading.{above_all, sum_at}
use Rattle.listing_text.specs.Wording.{PlainAct, Open, Close, Do}
use Rattle.listing_text.specs.Acts.{OpFits, ActFits}
use Rattle.listing_text.proofs.Spelt.{Spelt, ◌also◌, none, spelt_then, word_then, number_then, named_then, words_then}
use Rattle.listing_text.proofs.Spelt.{place_spelt}
use Rattle.listing_text.proofs.ActsSpelt.{whole_spelt}
use Rattle.c_print.specs.declared.lines.Word.TheVariants as words
use Rattle.c_print.specs.declared.lines.Value.TheVariants as values
use Rattle.c_print.specs.CText.{lane_loop, tile_loops, lane_text, becomes_text, c_op_text}
use Rattle.c_print.specs.CLines.{c_words, target_words, value_words, factor_words, same_loop, loop_at, tile_at}
use Rattle.c_print.specs.CLines.{c_factor_at, value_at, target_at, c_operands_at, c_act_at, c_line_at}

abbrev pub c_act_text : PlainAct → List ℕ
c_act_text (Open depth count) = codes "for (uint64_t v" ++ decimal depth ++ codes " = 0; v" ++ decimal depth ++ codes " < " ++ decimal count ++ codes "; v" ++ decimal depth ++ codes "++) {"
c_act_text Close = codes "}"
c_act_text (Do op) = c_op_text op

abbrev pub ended_text : PlainAct → List ℕ
ended_text act = c_act_text act ++ codes "\n"

-- ---- shapes

pub shape_loop : (a x b y c z d w e rest : List ℕ) → a ++ (x ++ (b ++ (y ++ (c ++ (z ++ (d ++ (w ++ (e ++ rest))))))))
    ≡ (a ++ x ++ b ++ y ++ c ++ z ++ d ++ w ++ e) ++ rest
shape_loop a x b y c z d w e rest = simp append_assoc

pub shape_becomes : (loop r x lane is rest : List ℕ) → loop ++ (r ++ (x ++ (lane ++ (is ++ rest))))
    ≡ (loop ++ (r ++ x ++ lane) ++ is) ++ rest
shape_becomes loop r x lane is rest = simp append_assoc

pub shape_call : (b f r x lane comma y end rest : List ℕ) → b
    ++ (f ++ (r ++ (x ++ (lane ++ (comma ++ (r ++ (y ++ (lane ++ (end ++ rest)))))))))
    ≡ (b ++ f ++ (r ++ x ++ lane) ++ comma ++ (r ++ y ++ lane) ++ end) ++ rest
shape_call b f r x lane comma y end rest = simp append_assoc

pub shape_one : (b f r x lane end rest : List ℕ) → b ++ (f ++ (r ++ (x ++ (lane ++ (end ++ rest)))))
    ≡ (b ++ f ++ (r ++ x ++ lane) ++ end) ++ rest
shape_one b f r x lane end rest = simp append_assoc

pub shape_constant : (b f r x lane comma y end rest : List ℕ) →
    b ++ (f ++ (r ++ (x ++ (lane ++ (comma ++ (y ++ (end ++ rest)))))))
    ≡ (b ++ f ++ (r ++ x ++ lane) ++ comma ++ y ++ end) ++ rest
shape_constant b f r x lane comma y end rest = simp append_assoc

pub shape_table : (b f r x lane comma t bracket e plus s end rest : List ℕ)
    → b ++ (f ++ (r ++ (x ++ (lane ++ (comma ++ (t ++ (bracket ++ (e ++ (plus ++ (s ++ (end ++ rest)))))))))))
    ≡ (b ++ f ++ (r ++ x ++ lane) ++ comma ++ t ++ bracket ++ e ++ plus ++ s ++ end) ++ rest
shape_table b f r x lane comma t bracket e plus s end rest = simp append_assoc

pub shape_load : (b a bracket e end rest : List ℕ) → b ++ ((a ++ bracket) ++ (e ++ (end ++ rest)))
    ≡ (b ++ a ++ bracket ++ e ++ end) ++ rest
shape_load b a bracket e end rest = simp append_assoc

pub shape_store : (loop a bracket e is r x lane end rest : List ℕ) →
    loop ++ ((a ++ bracket) ++ (e ++ (is ++ (r ++ (x ++ (lane ++ (end ++ rest)))))))
    ≡ (loop ++ a ++ bracket ++ e ++ is ++ (r ++ x ++ lane) ++ end) ++ rest
shape_store loop a bracket e is r x lane end rest = simp append_assoc

pub shape_tile : (loops r x k y end rest : List ℕ) → loops ++ (r ++ (x ++ (k ++ (y ++ (end ++ rest)))))
    ≡ (loops ++ r ++ x ++ k ++ y ++ end) ++ rest
shape_tile loops r x k y end rest = simp append_assoc

-- ---- loops and tiles

same_spelt : (s : List ℕ) (first second count third : ℕ) (q : Place ℕ) (k : Bool) →
    (eqb first second && eqb first third) ≡ k
    → s ≡ codes "for (uint64_t v" ++ (decimal first ++ (codes " = 0; v" ++ (decimal second ++ (codes " < " ++ (decimal count ++ (codes "; v" ++ (decimal third ++ (codes "++) {" ++ q.rest))))))))
    → Spelt ActFits c_act_text s (same_loop first second count third q)
same_spelt s first second count third q true k e =
    let both = and_parts (eqb first second) (eqb first third) k in
    let a : second ≡ first = sym (eqb-true first second both.0) in
    let b : third ≡ first = sym (eqb-true first third both.1) in
    rw k (
      tt,
      e
          ∙ ap (λ n. codes "for (uint64_t v" ++ (decimal first ++ (codes " = 0; v" ++ (decimal n ++ (codes " < " ++ (decimal count ++ (codes "; v" ++ (decimal third ++ (codes "++) {" ++ q.rest))))))))) a
          ∙ ap (λ n. codes "for (uint64_t v" ++ (decimal first ++ (codes " = 0; v" ++ (decimal first ++ (codes " < " ++ (decimal count ++ (codes "; v" ++ (decimal n ++ (codes "++) {" ++ q.rest))))))))) b
          ∙ shape_loop (codes "for (uint64_t v") (decimal first) (codes " = 0; v") (decimal first) (codes " < ") (decimal count) (codes "; v") (decimal first) (codes "++) {") q.rest,
    )
same_spelt s first second count third q false k e = rw k tt

loop_spelt : (s : List ℕ) (q : Place ℕ) → s ≡ codes "for (uint64_t v" ++ q.rest → Spelt ActFits c_act_text s (loop_at q)
loop_spelt s q e =
    number_then ActFits c_act_text s q _ (λ first q1 e1.
    named_then ActFits c_act_text s (codes " = 0; v") q1 _ (λ second q2 e2.
    named_then ActFits c_act_text s (codes " < ") q2 _ (λ count q3 e3.
    named_then ActFits c_act_text s (codes "; v") q3 _ (λ third q4 e4.
    word_then ActFits c_act_text s (codes "++) {") q4 _ (λ w q5 e5.
    same_spelt s first second count third q5 (eqb first second && eqb first third) refl
    (e ∙ ap (λ y. codes "for (uint64_t v" ++ y) (e1 ∙ ap (λ y. decimal first ++ y) (e2 ∙ ap (λ y. codes " = 0; v" ++ (decimal second ++ y)) (e3 ∙ ap (λ y. codes " < " ++ (decimal count ++ y)) (e4 ∙ ap (λ y. codes "; v" ++ (decimal third ++ y)) e5))))))))))

tile_spelt : (s : List ℕ) (q : Place ℕ) → s ≡ codes "for (int k = 0; k < V; k++) for (int l = 0; l < V; l++) r[" ++ q.rest → Spelt ActFits c_act_text s (tile_at q)
unfolding c_op_text tile_loops
tile_spelt s q e =
    number_then ActFits c_act_text s q _ (λ register q1 e1.
    named_then ActFits c_act_text s (codes " + k][l] = r[") q1 _ (λ source q2 e2.
    word_then ActFits c_act_text s (codes " + l][k];") q2 _ (λ w q3 e3. (
      tt,
      e ∙ ap (λ y. codes "for (int k = 0; k < V; k++) for (int l = 0; l < V; l++) r[" ++ y) (e1 ∙ ap (λ y. decimal register ++ y) (e2 ∙ ap (λ y. codes " + k][l] = r[" ++ (decimal source ++ y)) e3))
          ∙ shape_tile tile_loops (codes "r[") (decimal register) (codes " + k][l] = r[") (decimal source) (codes " + l][k];") q3.rest,
    ))))

-- ---- what a register becomes

abbrev pub call_at : ℕ → (ℕ → ℕ → ℕ → PlainOp) → Place ℕ → Result (PlainAct × Place ℕ) ℕ
call_at register op = do
  left ← number_at above_all
  right ← named_number_at (codes "][l], r[") above_all
  _ ← word_at (codes "][l]);")
  pure_at (Do (op register left right))

module _ (s : List ℕ) (register : ℕ) where
  zero_spelt : (q : Place ℕ) → s ≡ becomes_text register ++ (codes "0;" ++ q.rest) →
      Spelt ActFits c_act_text s (value_at register values.Zero q)
  unfolding c_op_text
  zero_spelt q e = (tt, e ∙ sym (append_assoc (becomes_text register) (codes "0;") q.rest))

  -- a function of two registers
  call_spelt : (name : List ℕ) (op : ℕ → ℕ → ℕ → PlainOp) → ((left right : ℕ) → OpFits (op register left right)
      × (c_op_text (op register left right) ≡ becomes_text register ++ name ++ lane_text left ++ codes ", "
      ++ lane_text right ++ codes ");")) → (q : Place ℕ) → s ≡ becomes_text register ++ ((name ++ codes "r[") ++ q.rest) →
      Spelt ActFits c_act_text s (call_at register op q)
  call_spelt name op is q e =
      number_then ActFits c_act_text s q _ (λ left q1 e1.
      named_then ActFits c_act_text s (codes "][l], r[") q1 _ (λ right q2 e2.
      word_then ActFits c_act_text s (codes "][l]);") q2 _ (λ w q3 e3.
      let text = is left right in
      let joined : s ≡ (becomes_text register ++ name ++ lane_text left ++ codes ", " ++ lane_text right ++ codes ");") ++ q3.rest =
      e ∙ ap (λ y. becomes_text register ++ ((name ++ codes "r[") ++ y)) (e1 ∙ ap (λ y. decimal left ++ y) (e2 ∙ ap (λ y. codes "][l], r[" ++ (decimal right ++ y)) e3))
      ∙ ap (λ y. becomes_text register ++ y) (append_assoc name (codes "r[") (decimal left ++ (codes "][l], r[" ++ (decimal right ++ (codes "][l]);" ++ q3.rest)))))
      ∙ shape_call (becomes_text register) name (codes "r[") (decimal left) (codes "][l]") (codes ", ") (decimal right) (codes ");") q3.rest in
      (text.0, joined ∙ ap (λ y. y ++ q3.rest) (sym text.1)))))

  neg_spelt : (q : Place ℕ) → s ≡ becomes_text register ++ (codes "sub(0, r[" ++ q.rest) →
      Spelt ActFits c_act_text s (value_at register values.Neg q)
  unfolding c_op_text
  neg_spelt q e =
      number_then ActFits c_act_text s q _ (λ source q1 e1.
      word_then ActFits c_act_text s (codes "][l]);") q1 _ (λ w q2 e2. (
        tt,
        e ∙ ap (λ y. becomes_text register ++ (codes "sub(0, r[" ++ y)) (e1 ∙ ap (λ y. decimal source ++ y) e2)
            ∙ shape_one (becomes_text register) (codes "sub(0, ") (codes "r[") (decimal source) (codes "][l]") (codes ");") q2.rest,
      )))

  load_spelt : (array : Array) (q : Place ℕ) → s ≡ becomes_text register
      ++ ((array_text array ++ codes "[") ++ q.rest) → Spelt ActFits c_act_text s
      (value_at register (values.Load array) q)
  unfolding c_op_text
  load_spelt array q e =
      spelt_then (λ x. sum_depth x ≤ 64) sum_text ActFits c_act_text q.rest s (sum_at 64 q) _ (place_spelt 64 q) (λ at q1 f1 e1.
      word_then ActFits c_act_text s (codes " + l];") q1 _ (λ w q2 e2. (
        f1,
        e ∙ ap (λ y. becomes_text register ++ ((array_text array ++ codes "[") ++ y)) (e1 ∙ ap (λ y. sum_text at ++ y) e2)
            ∙ shape_load (becomes_text register) (array_text array) (codes "[") (sum_text at) (codes " + l];") q2.rest,
      )))

  constant_spelt : (source : ℕ) (q : Place ℕ) → s ≡ becomes_text register
      ++ (codes "mul(r[" ++ (decimal source ++ (codes "][l], " ++ q.rest))) →
      Spelt ActFits c_act_text s (c_factor_at register source false q)
  unfolding c_op_text
  constant_spelt source q e =
      number_then ActFits c_act_text s q _ (λ factor q1 e1.
      word_then ActFits c_act_text s (codes ");") q1 _ (λ w q2 e2. (
        tt,
        e ∙ ap (λ y. becomes_text register ++ (codes "mul(r[" ++ (decimal source ++ (codes "][l], " ++ y)))) (e1 ∙ ap (λ y. decimal factor ++ y) e2)
            ∙ shape_constant (becomes_text register) (codes "mul(") (codes "r[") (decimal source) (codes "][l]") (codes ", ") (decimal factor) (codes ");") q2.rest,
      )))

  table_spelt : (source : ℕ) (q : Place ℕ) → s ≡ becomes_text register
      ++ (codes "mul(r[" ++ (decimal source ++ (codes "][l], t" ++ q.rest))) →
      Spelt ActFits c_act_text s (c_factor_at register source true q)
  unfolding c_op_text
  table_spelt source q e =
      number_then ActFits c_act_text s q _ (λ table q1 e1.
      word_then ActFits c_act_text s (codes "[") q1 _ (λ w q2 e2.
      spelt_then (λ x. sum_depth x ≤ 64) sum_text ActFits c_act_text q2.rest s (sum_at 64 q2) _ (place_spelt 64 q2) (λ at q3 f3 e3.
      named_then ActFits c_act_text s (codes " + ") q3 _ (λ step q4 e4.
      word_then ActFits c_act_text s (codes " * l]);") q4 _ (λ w q5 e5. (
        f3,
        e ∙ ap (λ y. becomes_text register ++ (codes "mul(r[" ++ (decimal source ++ (codes "][l], t" ++ y))))
            (e1 ∙ ap (λ y. decimal table ++ y) (e2 ∙ ap (λ y. codes "[" ++ y) (e3 ∙ ap (λ y. sum_text at ++ y) (e4 ∙ ap (λ y. codes " + " ++ (decimal step ++ y)) e5))))
            ∙ shape_table (becomes_text register) (codes "mul(") (codes "r[") (decimal source) (codes "][l]") (codes ", t") (decimal table) (codes "[") (sum_text at) (codes " + ") (decimal step) (codes " * l]);") q5.rest,
      ))))))

  mul_spelt : (q : Place ℕ) → s ≡ becomes_text register ++ (codes "mul(r[" ++ q.rest) →
      Spelt ActFits c_act_text s (value_at register values.Mul q)
  mul_spelt q e =
      number_then ActFits c_act_text s q _ (λ source q1 e1.
      word_then ActFits c_act_text s (codes "][l], ") q1 _ (λ w q2 e2.
      let so_far : s ≡ becomes_text register ++ (codes "mul(r[" ++ (decimal source ++ (codes "][l], " ++ q2.rest))) = e ∙ ap (λ y. becomes_text register ++ (codes "mul(r[" ++ y)) (e1 ∙ ap (λ y. decimal source ++ y) e2) in
      let join : (y z : List ℕ) → y ≡ z → becomes_text register ++ (codes "mul(r[" ++ (decimal source ++ (codes "][l], " ++ y))) ≡ becomes_text register ++ (codes "mul(r[" ++ (decimal source ++ (codes "][l], " ++ z))) =
      λ y z e. ap (λ y. becomes_text register ++ (codes "mul(r[" ++ (decimal source ++ (codes "][l], " ++ y)))) e in
      words_then factor_words ActFits c_act_text s q2 _
      ((λ q3 e3. table_spelt source q3 (so_far ∙ join _ _ e3)) also (λ q3 e3. constant_spelt source q3 (so_far ∙ join _ _ e3)) also none)))

  value_spelt : (q : Place ℕ) → s ≡ becomes_text register ++ q.rest →
      Spelt ActFits c_act_text s (and_then (one_of_at value_words q) (value_at register))
  unfolding c_op_text
  value_spelt q e =
      let join : (y z : List ℕ) → y ≡ z → becomes_text register ++ y ≡ becomes_text register ++ z = λ y z e. ap (λ y. becomes_text register ++ y) e in
      words_then value_words ActFits c_act_text s q _
      ((λ q1 e1. zero_spelt q1 (e ∙ join _ _ e1))
      also (λ q1 e1. call_spelt (codes "add(") Add (λ left right. (tt, refl)) q1 (e ∙ join _ _ e1))
      also (λ q1 e1. neg_spelt q1 (e ∙ join _ _ e1))
      also (λ q1 e1. call_spelt (codes "sub(") Sub (λ left right. (tt, refl)) q1 (e ∙ join _ _ e1))
      also (λ q1 e1. mul_spelt q1 (e ∙ join _ _ e1))
      also (λ q1 e1. load_spelt arrays.X q1 (e ∙ join _ _ e1)) also (λ q1 e1. load_spelt arrays.Y q1 (e ∙ join _ _ e1))
      also (λ q1 e1. load_spelt arrays.A q1 (e ∙ join _ _ e1)) also (λ q1 e1. load_spelt arrays.B q1 (e ∙ join _ _ e1)) also none)

-- ---- what the lanes go to

register_spelt : (s : List ℕ) (q : Place ℕ) → s ≡ lane_loop ++ (codes "r[" ++ q.rest) →
    Spelt ActFits c_act_text s (target_at None q)
register_spelt s q e =
    number_then ActFits c_act_text s q _ (λ register q1 e1.
    word_then ActFits c_act_text s (codes "][l] = ") q1 _ (λ w q2 e2.
    value_spelt s register q2
    (e ∙ ap (λ y. lane_loop ++ (codes "r[" ++ y)) (e1 ∙ ap (λ y. decimal register ++ y) e2) ∙ shape_becomes lane_loop (codes "r[") (decimal register) (codes "][l]") (codes " = ") q2.rest)))

store_spelt : (s : List ℕ) (array : Array) (q : Place ℕ) → s ≡ lane_loop
    ++ ((array_text array ++ codes "[") ++ q.rest) → Spelt ActFits c_act_text s (target_at (Some array) q)
unfolding c_op_text
store_spelt s array q e =
    spelt_then (λ x. sum_depth x ≤ 64) sum_text ActFits c_act_text q.rest s (sum_at 64 q) _ (place_spelt 64 q) (λ at q1 f1 e1.
    named_then ActFits c_act_text s (codes " + l] = r[") q1 _ (λ register q2 e2.
    word_then ActFits c_act_text s (codes "][l];") q2 _ (λ w q3 e3. (
      f1,
      e ∙ ap (λ y. lane_loop ++ ((array_text array ++ codes "[") ++ y)) (e1 ∙ ap (λ y. sum_text at ++ y) (e2 ∙ ap (λ y. codes " + l] = r[" ++ (decimal register ++ y)) e3))
          ∙ shape_store lane_loop (array_text array) (codes "[") (sum_text at) (codes " + l] = ") (codes "r[") (decimal register) (codes "][l]") (codes ";") q3.rest,
    ))))

lanes_spelt : (s : List ℕ) (q : Place ℕ) → s ≡ codes "for (int l = 0; l < V; l++) " ++ q.rest → Spelt ActFits c_act_text s (c_operands_at words.Lanes q)
unfolding lane_loop
lanes_spelt s q e =
    let join : (y : List ℕ) → q.rest ≡ y → s ≡ lane_loop ++ y = λ y e1. e ∙ ap (λ y. codes "for (int l = 0; l < V; l++) " ++ y) e1 in
    words_then target_words ActFits c_act_text s q _
    ((λ q1 e1. register_spelt s q1 (join _ e1)) also (λ q1 e1. store_spelt s arrays.X q1 (join _ e1)) also (λ q1 e1. store_spelt s arrays.Y q1 (join _ e1))
    also (λ q1 e1. store_spelt s arrays.A q1 (join _ e1)) also (λ q1 e1. store_spelt s arrays.B q1 (join _ e1)) also none)

-- ---- a line

act_spelt : (place : Place ℕ) → Spelt ActFits c_act_text place.rest (c_act_at place)
unfolding c_act_at
act_spelt place =
    let s : List ℕ = place.rest in
    words_then c_words ActFits c_act_text s place _ (loop_spelt s also tile_spelt s also lanes_spelt s also (λ q e. (tt, e)) also none)

line_spelt_at : (place : Place ℕ) → Spelt ActFits ended_text place.rest (c_line_at place)
unfolding c_line_at
line_spelt_at place =
    spelt_then ActFits c_act_text ActFits ended_text place.rest place.rest (c_act_at place) _ (act_spelt place) (λ act q f e.
    word_then ActFits ended_text place.rest (codes "\n") q _ (λ w q1 e1. (f, e ∙ ap (λ y. c_act_text act ++ y) e1 ∙ sym (append_assoc (c_act_text act) (codes "\n") q1.rest))))

pub c_line_spelt : (line : List ℕ) (act : PlainAct) → whole c_line_at line ≡ Ok act →
    ActFits act × (line ≡ ended_text act)
c_line_spelt line act e = whole_spelt ActFits ended_text line (c_line_at (start line)) act (line_spelt_at (start line)) e
