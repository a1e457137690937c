-- Where the reading of a part stops, and so that of a formula.
use Rattle.std.proofs.Common.{◌≡◌, ℕ, zero, suc, ◌+◌, ◌≤◌, ◌⊎◌, inl, [], ◌∷◌, ◌++◌, length, codes}
use Rattle.std.proofs.Common.{Result, Ok, Err, Option, Some, None, refl, sym, ap, subst, ◌∙◌, append_assoc, arith}
use Rattle.std.proofs.Common.{⊎_elim}
use Rattle.std.specs.Option.{option_map}
use Rattle.std.proofs.lemmas.List.{append-nil}
use Rattle.grammar.specs.Grammar.{one_of, Begins}
use Rattle.grammar.specs.Reading.{Place, one_of_in, one_of_at}
use Rattle.grammar.specs.Stops.{Stop, Lost, Fault, and_go_on, passed, tested_at}
use Rattle.grammar.proofs.Parts.{Anything}
use Rattle.grammar.proofs.Places as places
use Rattle.grammar.proofs.Stops.{Answers}
use Rattle.spl_ast.specs.Formula.{Formula}
use Rattle.spl_ast.specs.Nesting.{nesting_of}
use Rattle.spl_text.specs.declared.reading.Head.{Head}
use Rattle.spl_text.specs.Answer.{closed, IsShallow}
use Rattle.spl_text.specs.Fault.{TextFault, TooDeep, Shape, refusal, shape_fault}
use Rattle.spl_text.specs.Reading.{heads, plain, arguments_by}
use Rattle.spl_text.specs.Reading.{too_deep, formula_at}
use Rattle.spl_text.specs.Spelling.{spells, spelling}
use Rattle.spl_text.proofs.Fitted.{fitted_flat, has_front}
use Rattle.spl_text.proofs.Heads.{head_word, opening, some_arguments}
use Rattle.spl_text.proofs.Heads.{from_heads}
use Rattle.spl_text.proofs.Nested.{go_ok, formula_nesting, arguments_nesting}
use Rattle.spl_text.proofs.Parentheses.{shallow_by_count, within_shallow}
use Rattle.spl_text.proofs.Passing.{InStep, lost_flat, heads_last}
use Rattle.spl_text.proofs.Passing.{token_in_step, plain_ok, part_keeps, formula_keeps}
use Rattle.spl_text.proofs.Readers.{heads_reader, Exposes, part_reader, formula_reader}
use Rattle.spl_text.proofs.Stopping.{Stops, lost, same_stop, ok_not_err, stops, head_took, arguments_stop}

head_lost : (depth left : ℕ) (place : Place ℕ) → InStep place → one_of_at heads place ≡ Err left →
    Stops depth place.rest (Lost left)
head_lost depth left place step e =
    let l = lost_flat (one_of heads) heads_last place left step
    (subst (λ r. places.Answers Anything (one_of heads) place r) e (heads_reader.each place)) in
    record {
      met = l.good;
      after = l.bad;
      whole = l.whole;
      shallow = shallow_by_count depth l.good (omega (arith, l.opens));
      fitted = fitted_flat l.good l.closes;
      shown = l.long;
    }

first_stop : (place : Place ℕ) (stop : Stop TextFault) (r : Result (Head × Place ℕ) ℕ) → InStep place →
    one_of_at heads place ≡ r →
    too_deep r ≡ Err stop → Stops 0 place.rest stop
first_stop place stop (Err left) step is e = subst (Stops 0 place.rest) (same_stop (Lost left) stop e)
    (head_lost 0 left place step is)
first_stop place stop (Ok x) step is e =
    let took = head_took place x is in
    let o = opening x.0 in
    let some = some_arguments x.0 (head_word x.0) took.0 in
    let front : Begins spells (head_word x.0) = (
      some.0,
      some.1,
      from_heads (head_word x.0 ++ some.0) some.1 record {
        front = head_word x.0;
        rest = some.0;
        spelt = x.0;
        whole =
            refl;
        begins = took.0;
        ends = some.2;
      },
    ) in
    let none : closed o.0 ≡ 0 = omega (arith, o.2, o.3) in
    subst (Stops 0 place.rest) (same_stop (Fault (TooDeep (length x.1.rest + 1))) stop e) record {
      met = o.0;
      after = 40 ∷ x.1.rest;
      whole = took.1 ∙ ap (λ z. z ++ x.1.rest) o.1 ∙ append_assoc o.0 (40 ∷ []) x.1.rest;
      shallow = shallow_by_count 0 o.0 (omega (arith, o.3));
      fitted = fitted_flat o.0 none;
      shown = record {
        more = x.1.rest;
        next = refl;
        long = omega arith;
        level = o.2;
        begins = subst
            (λ z. Begins spells z) o.1 front;
      };
    }

-- the test refuses what was read, or it was not read
refused : (o : Option (ℕ × ℕ)) (n : ℕ) (x : Formula × Place ℕ) (stop : Stop TextFault) →
    passed (option_map (λ p. Shape n p.0 p.1) o) x ≡ Err stop → (p : ℕ × ℕ) × (o ≡ Some p) ×
    (Fault (Shape n p.0 p.1) ≡ stop)
refused None n x stop e = absurd (ok_not_err x stop e)
refused (Some p) n x stop e = (p, refl, same_stop (Fault (Shape n p.0 p.1)) stop e)

part_refused : (depth : ℕ) (place : Place ℕ) (x : Formula × Place ℕ) (stop : Stop TextFault) →
    and_go_on (plain (one_of_at heads) place) (arguments_by (formula_at depth)) ≡ Ok x
    → passed (shape_fault (length place.rest) x.0) x ≡ Err stop → Stops (suc depth) place.rest stop
unfolding spells
part_refused depth place x stop is e =
    let r = refused (refusal x.0) (length place.rest) x stop e in
    let took = subst (λ r. Answers Exposes Anything spells place r) is
    ((part_reader (formula_at depth) (formula_reader depth)).each place) in
    let g = go_ok (plain (one_of_at heads) place) (arguments_by (formula_at depth)) x is in
    let low : nesting_of x.0 ≤ depth + 1 = arguments_nesting depth (formula_at depth)
    (formula_nesting depth) g.0.0 g.0.1 x g.2 in
    let fits = (part_keeps (formula_at depth) (formula_keeps depth) place x is).0 in
    let all = has_front x.0 took.spelt.0 fits in
    let text : place.rest ≡ spelling x.0 ++ x.1.rest = took.whole ∙ ap (λ z. z ++ x.1.rest) took.spelt.1 in
    let shallow : IsShallow (suc depth) (spelling x.0) = within_shallow (suc depth) x.0
    (omega (arith, low)) took.spelt.0 in
    subst (Stops (suc depth) place.rest) r.2 record {
      met = all.front;
      after = codes ")" ++ x.1.rest;
      whole = text ∙ ap (λ z. z ++ x.1.rest) all.whole ∙ append_assoc all.front (codes ")") x.1.rest;
      shallow = λ y z f. shallow y (z ++ codes ")")
          (all.whole ∙ ap (λ u. u ++ codes ")") f ∙ append_assoc y z (codes ")"));
      fitted = all.fitted;
      shown = record {
        before = [];
        part = spelling x.0;
        more = x.1.rest;
        value = x.0;
        whole = sym all.whole;
        next = refl;
        long = ap length text;
        behind = inl refl;
        spelt = (took.spelt.0, refl);
        refused = r.1;
        begins = ([], x.0, (took.spelt.0, append-nil (all.front ++ codes ")") ∙ sym all.whole));
      };
    }

tested_stops : (depth : ℕ) (place : Place ℕ) (stop : Stop TextFault) (r : Result (Formula × Place ℕ) (Stop TextFault)) →
    and_go_on (plain (one_of_at heads) place) (arguments_by (formula_at depth)) ≡ r
    → (r ≡ Err stop → Stops (suc depth) place.rest stop) → tested_at (length place.rest) shape_fault r ≡ Err stop →
    Stops (suc depth) place.rest stop
tested_stops depth place stop (Ok x) is inner e = part_refused depth place x stop is e
tested_stops depth place stop (Err s) is inner e = inner e

pub formula_stops : (depth : ℕ) (place : Place ℕ) (stop : Stop TextFault) → InStep place → formula_at depth place
    ≡ Err stop →
    Stops depth place.rest stop
unfolding formula_at
formula_stops zero place stop step e = first_stop place stop (one_of_at heads place) step refl e
formula_stops (suc depth) place stop step e =
    tested_stops depth place stop _ refl
    (λ here.
    ⊎_elim
    (λ first. let l = lost (one_of_at heads place) stop first in subst (Stops (suc depth) place.rest) l.2
    (head_lost (suc depth) l.0 place step l.1))
    (λ x.
    let is = plain_ok (one_of_at heads place) x.0 x.1 in
    arguments_stop depth (formula_stops depth) x.0.0 stop place.rest x.0.1
    (token_in_step Anything (one_of heads) (one_of_in heads) heads_reader place x.0 is step)
    (head_took place x.0 is).1 x.2)
    (stops (plain (one_of_at heads) place) (arguments_by (formula_at depth)) stop here)) e
