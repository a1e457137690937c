-- Where reading stops. The front up to that place opens no more parentheses than there may be, and each that it
-- closes ends a part that is not refused. There the text shows the fault: reading is lost, or a parenthesis is one
-- too many, or one ends a part that is refused.
use Rattle.std.proofs.Common.{◌≡◌, ℕ, suc, ◌+◌, ◌≤◌, ◌⊎◌, inl, inr, List, ◌∷◌, ◌++◌, length, codes, decimal}
use Rattle.std.proofs.Common.{Result, Ok, Err, Some, refl, sym, ap, subst, ◌∙◌, append_assoc, arith}
use Rattle.std.proofs.Common.{⊎_elim}
use Rattle.grammar.specs.Grammar.{one_of, positive, word, Begins}
use Rattle.grammar.specs.Reading.{Place, word_in, pure_at, one_of_at}
use Rattle.grammar.specs.Stops.{Stop, Lost, Fault, and_go_on, spelling_only}
use Rattle.grammar.proofs.Numbers.{NoDigit}
use Rattle.grammar.proofs.Parts.{Anything}
use Rattle.grammar.proofs.Places as places
use Rattle.grammar.proofs.Stops.{Answers}
use Rattle.spl_ast.specs.Formula.{Formula, Identity, Fourier, Hadamard, Twiddles, Diagonal, Stride, Permutation}
use Rattle.spl_ast.specs.Formula.{GoodThomasIn, GoodThomasOut, Product, TensorLeft, TensorRight, DirectSum}
use Rattle.spl_ast.specs.Nesting.{nesting_of}
use Rattle.spl_text.specs.declared.reading.Head.{Head}
use Rattle.spl_text.specs.declared.reading.Head.TheVariants as head
use Rattle.spl_text.specs.Answer.{opened, closed, IsShallow, EndsWith, IsBeforePart}
use Rattle.spl_text.specs.Arguments.{factor_at, comma_at, close_at, one_size_at, two_sizes_at, size_value_at}
use Rattle.spl_text.specs.Arguments.{sizes_value_at, values_at}
use Rattle.spl_text.specs.Fault.{TextFault, TooDeep, Shape, refusal}
use Rattle.spl_text.specs.Reading.{heads, plain, made_at, arguments_by, two_formulas_by, tensor_left_by}
use Rattle.spl_text.specs.Reading.{tensor_right_by, formula_at}
use Rattle.spl_text.specs.Spelling.{spells, spelling, IsFactor, HasSpelling}
use Rattle.spl_text.proofs.Fitted.{IsFitted, Fits, fitted_both, fitted_flat, fitted_more, part_behind}
use Rattle.spl_text.proofs.Fitted.{spelling_fitted, size_closes}
use Rattle.spl_text.proofs.Heads.{head_word, word_of_head, opening, one, one_spelt, one_factor}
use Rattle.spl_text.proofs.Heads.{one_size, two_sizes, size_value, sizes_value, values}
use Rattle.spl_text.proofs.Nested.{pair_by, formula_nesting}
use Rattle.spl_text.proofs.Parentheses.{Opens, one_deeper, then_balanced, size_balanced}
use Rattle.spl_text.proofs.Parentheses.{spelling_balanced, shallow_by_count, shallow_both, within_shallow}
use Rattle.spl_text.proofs.Passing.{InStep, IsFlat, HaveEnd, lost_flat, word_lasts, factor_flat, end_lasts}
use Rattle.spl_text.proofs.Passing.{one_size_ends, two_sizes_ends, size_value_ends, sizes_value_ends, values_ends}
use Rattle.spl_text.proofs.Passing.{token_in_step, plain_ok, factor_keeps, formula_keeps}
use Rattle.spl_text.proofs.Readers.{heads_reader, factors, close, commas, Exposes, formula_reader}
use Rattle.spl_text.proofs.Readers.{part_sizes}
use Rattle.spl_text.proofs.Readers.{one_size_reader, two_sizes_reader, size_value_reader, sizes_value_reader}
use Rattle.spl_text.proofs.Readers.{values_reader}

-- the next byte ends a part that is refused
pub record Misfits (left first second : ℕ) (met after : List ℕ) : Type 0 where
  pub before : List ℕ
  pub part : List ℕ
  pub more : List ℕ
  pub value : Formula
  pub whole : met ++ codes ")" ≡ before ++ part
  pub next : after ≡ 41 ∷ more
  pub long : left ≡ length (part ++ more)
  pub behind : IsBeforePart before
  pub spelt : spells part value
  pub refused : refusal value ≡ Some (first, second)
  pub begins : Begins spells (met ++ codes ")")

-- the next byte opens a parenthesis too many
pub record IsTooDeep (depth left : ℕ) (met after : List ℕ) : Type 0 where
  pub more : List ℕ
  pub next : after ≡ 40 ∷ more
  pub long : left ≡ length after
  pub level : Opens depth met
  pub begins : Begins spells (met ++ codes "(")

-- what the text shows behind what was met, where so many parentheses may be opened in it
abbrev pub Shown : ℕ → Stop TextFault → List ℕ → List ℕ → Type 0
Shown depth (Lost left) met after = left ≡ length after
Shown depth (Fault (TooDeep left)) met after = IsTooDeep depth left met after
Shown depth (Fault (Shape left first second)) met after = Misfits left first second met after

pub record Stops (depth : ℕ) (text : List ℕ) (stop : Stop TextFault) : Type 0 where
  pub met : List ℕ
  pub after : List ℕ
  pub whole : text ≡ met ++ after
  pub shallow : IsShallow depth met
  pub fitted : IsFitted met
  pub shown : Shown depth stop met after

-- ---- steps that stop

pub same_stop : {A : Type 0} (s t : Stop TextFault) → (let r : Result A (Stop TextFault) = Err s in r ≡ Err t) → s ≡ t
same_stop s t e = cc

pub ok_not_err : {A : Type 0} (x : A) (s : Stop TextFault) → (let r : Result A (Stop TextFault) = Ok x in r ≡ Err s) → ⊥
ok_not_err x s e = cc

pub stops : {A B : Type 0} (r : Result (A × Place ℕ) (Stop TextFault))
    (next : A → Place ℕ → Result (B × Place ℕ) (Stop TextFault)) (s : Stop TextFault) → and_go_on r next ≡ Err s
    → (r ≡ Err s) ⊎ ((x : A × Place ℕ) × (r ≡ Ok x) × (next x.0 x.1 ≡ Err s))
stops (Ok x) next s e = inr (x, refl, e)
stops (Err t) next s e = inl (ap (λ u. Err u) (same_stop t s e))

-- a step that can only be lost
pub lost : {A : Type 0} (r : Result (A × Place ℕ) ℕ) (s : Stop TextFault) → spelling_only r ≡ Err s →
    (left : ℕ) × (r ≡ Err left) × (Lost left ≡ s)
lost (Ok x) s e = absurd (ok_not_err x s e)
lost (Err left) s e = (left, refl, same_stop (Lost left) s e)

-- ---- in a part

-- what stands in front of a piece of a part: it opens the part's parenthesis
record IsOpening (depth : ℕ) (front : List ℕ) : Type 0 where
  one : Opens 1 front
  shallow : IsShallow (suc depth) front
  fitted : IsFitted front

opening_word : (depth : ℕ) (w : List ℕ) → opened w ≡ 1 → closed w ≡ 0 → IsOpening depth w
opening_word depth w count none = record {
  one = omega (arith, count, none);
  shallow = shallow_by_count (suc depth) w (omega (arith, count));
  fitted = fitted_flat w none;
}

opening_flat : (depth : ℕ) (front xs : List ℕ) → IsOpening depth front → opened xs ≡ 0 → closed xs ≡ 0 →
    IsOpening depth (front ++ xs)
opening_flat depth front xs f opens closes = record {
  one = then_balanced 1 front xs f.one (omega (arith, opens, closes));
  shallow = shallow_both 1 0 (suc depth) front xs f.one f.shallow (shallow_by_count 0 xs (omega (arith, opens)))
      (omega arith);
  fitted = fitted_more front xs f.fitted closes;
}

opening_part : (depth : ℕ) (front : List ℕ) (f : Formula) → IsOpening depth front → IsBeforePart front → HasSpelling f →
    nesting_of f ≤ depth → Fits f → IsOpening depth (front ++ spelling f)
opening_part depth front f o b spelt low fits = record {
  one = then_balanced 1 front (spelling f) o.one (spelling_balanced f spelt);
  shallow = shallow_both 1 depth (suc depth) front (spelling f) o.one o.shallow (within_shallow depth f low spelt)
      (omega arith);
  fitted = fitted_both front (spelling f) o.fitted b (spelling_fitted f spelt fits);
}

-- lost in a piece with no parenthesis
lost_in : (depth left : ℕ) (front text rest : List ℕ) → IsOpening depth front → text ≡ front ++ rest →
    IsFlat rest left →
    Stops (suc depth) text (Lost left)
lost_in depth left front text rest f t l =
    let o = opening_flat depth front l.good f l.opens l.closes in
    record {
      met = front ++ l.good;
      after = l.bad;
      whole = t ∙ ap (λ z. front ++ z) l.whole ∙ sym (append_assoc front l.good l.bad);
      shallow = o.shallow;
      fitted = o.fitted;
      shown = l.long;
    }

-- a formula inside another one
begins_inside : (front back text : List ℕ) (make : Formula → Formula) →
    ((g : Formula) → HasSpelling g → HasSpelling (make g))
    → ((g : Formula) → spelling (make g) ≡ front ++ (spelling g ++ back)) → Begins spells text →
    Begins spells (front ++ text)
unfolding spells
begins_inside front back text make has spell b = (
  b.0 ++ back,
  make b.1,
  (
    has b.1 b.2.0,
    append_assoc front text (b.0 ++ back) ∙ ap (λ z. front ++ z)
        (sym (append_assoc text b.0 back) ∙ ap (λ z. z ++ back) b.2.1) ∙ sym (spell b.1),
  ),
)

module _ (depth : ℕ) (front back : List ℕ) (make : Formula → Formula) (opens : IsOpening depth front)
    (behind : IsBeforePart front)
    (has : (g : Formula) → HasSpelling g → HasSpelling (make g))
    (spell : (g : Formula) → spelling (make g) ≡ front ++ (spelling g ++ back)) where
  shown_inside : (stop : Stop TextFault) (met after : List ℕ) → Shown depth stop met after → Shown (suc depth) stop
      (front ++ met) after
  shown_inside (Lost left) met after h = h
  shown_inside (Fault (TooDeep left)) met after h = record {
    more = h.more;
    next = h.next;
    long = h.long;
    level = one_deeper depth front met opens.one h.level;
    begins = subst (λ z. Begins spells z) (sym (append_assoc front met (codes "(")))
        (begins_inside front back (met ++ codes "(") make has spell h.begins);
  }
  shown_inside (Fault (Shape left first second)) met after h = record {
    before = front ++ h.before;
    part = h.part;
    more = h.more;
    value = h.value;
    whole = append_assoc front met (codes ")") ∙ ap (λ z. front ++ z) h.whole ∙ sym
        (append_assoc front h.before h.part);
    next = h.next;
    long = h.long;
    behind = part_behind front h.before behind h.behind;
    spelt = h.spelt;
    refused = h.refused;
    begins = subst (λ z. Begins spells z) (sym (append_assoc front met (codes ")")))
        (begins_inside front back (met ++ codes ")") make has spell h.begins);
  }

  inside : (stop : Stop TextFault) (text rest : List ℕ) → text ≡ front ++ rest → Stops depth rest stop → Stops
      (suc depth) text stop
  inside stop text rest e d = record {
    met = front ++ d.met;
    after = d.after;
    whole = e ∙ ap (λ z. front ++ z) d.whole ∙ sym (append_assoc front d.met d.after);
    shallow = shallow_both 1 depth (suc depth) front d.met opens.one opens.shallow d.shallow (omega arith);
    fitted = fitted_both front d.met opens.fitted behind d.fitted;
    shown = shown_inside stop d.met d.after d.shown;
  }

-- ---- what was taken

factor_took : (place : Place ℕ) (x : ℕ × Place ℕ) → plain factor_at place ≡ Ok x →
    IsFactor x.0 × (place.rest ≡ decimal x.0 ++ x.1.rest)
factor_took place x e =
    let took = subst (λ r. Answers Exposes NoDigit (positive 1048577) place r) e (part_sizes.each place) in
    ((took.spelt.0, took.spelt.1), took.whole ∙ ap (λ z. z ++ x.1.rest) took.spelt.2)

pub head_took : (place : Place ℕ) (x : Head × Place ℕ) → one_of_at heads place ≡ Ok x →
    one_of heads (head_word x.0) x.0 × (place.rest ≡ head_word x.0 ++ x.1.rest)
head_took place x e =
    let took = subst (λ r. places.Answers Anything (one_of heads) place r) e (heads_reader.each place) in
    let is = word_of_head took.text x.0 took.spelt in
    (subst (λ z. one_of heads z x.0) is took.spelt, took.whole ∙ ap (λ z. z ++ x.1.rest) is)

comma_took : (place : Place ℕ) (x : Unit {0} × Place ℕ) → comma_at place ≡ Ok x → place.rest ≡ codes "," ++ x.1.rest
comma_took place x e =
    let took = subst (λ r. places.Answers Anything (word (codes ",")) place r) e (commas.each place) in took.whole
    ∙ ap (λ z. z ++ x.1.rest) took.spelt

pub formula_took : (depth : ℕ) (place : Place ℕ) (x : Formula × Place ℕ) → formula_at depth place ≡ Ok x →
    HasSpelling x.0 × (place.rest ≡ spelling x.0 ++ x.1.rest)
unfolding spells
formula_took depth place x e =
    let took = subst (λ r. Answers Exposes Anything spells place r) e ((formula_reader depth).each place) in
    (took.spelt.0, took.whole ∙ ap (λ z. z ++ x.1.rest) took.spelt.1)

comma_lost : (place : Place ℕ) (left : ℕ) → InStep place → comma_at place ≡ Err left → IsFlat place.rest left
comma_lost place left step e =
    lost_flat (word (codes ",")) (word_lasts 44) place left step
    (subst (λ r. places.Answers Anything (word (codes ",")) place r) e (commas.each place))

end_lost : (place : Place ℕ) (left : ℕ) → InStep place → close_at place ≡ Err left → IsFlat place.rest left
end_lost place left step e =
    lost_flat (word (codes ")")) (word_lasts 41) place left step
    (subst (λ r. places.Answers Anything (word (codes ")")) place r) e (close.each place))

factor_lost : (place : Place ℕ) (left : ℕ) → InStep place → factor_at place ≡ Err left → IsFlat place.rest left
factor_lost place left step e =
    factor_flat place left step (subst (λ r. places.Answers NoDigit (positive 1048577) place r) e (factors.each place))

-- ---- behind a head

further : (text front xs rest next : List ℕ) → text ≡ front ++ rest → rest ≡ xs ++ next → text ≡ (front ++ xs) ++ next
further text front xs rest next t e = t ∙ ap (λ z. front ++ z) e ∙ sym (append_assoc front xs next)

-- a piece of a part: what it gives, in a part, where it is read or where it stops
record IsPiece {A : Type 0} (depth : ℕ) (read : Place ℕ → Result (A × Place ℕ) (Stop TextFault)) (text : A → List ℕ)
    (Good : A → Type 0) : Type 0 where
  took : (place : Place ℕ) (x : A × Place ℕ) → read place ≡ Ok x → Good x.0 × (place.rest ≡ text x.0 ++ x.1.rest)
  kept : (place : Place ℕ) (x : A × Place ℕ) → read place ≡ Ok x → InStep place → InStep x.1
  opens : (front : List ℕ) (a : A) → IsOpening depth front → IsBeforePart front → Good a → IsOpening depth
      (front ++ text a)

abbrev IsPart : ℕ → Formula → Type 0
IsPart depth f = HasSpelling f × (nesting_of f ≤ depth) × Fits f

formula_piece : (depth : ℕ) → IsPiece depth (formula_at depth) spelling (IsPart depth)
formula_piece depth = record {
  took = λ place x e.
      let t = formula_took depth place x e in (
        (
          t.0,
          formula_nesting depth place x e,
          (formula_keeps depth place x e).0,
        ),
        t.1,
      );
  kept = λ place x e. (formula_keeps depth place x e).1;
  opens = λ front f o b p. opening_part depth front f o b p.0 p.1 p.2;
}

factor_piece : (depth : ℕ) → IsPiece depth (plain factor_at) decimal IsFactor
factor_piece depth = record {
  took = factor_took;
  kept = λ place x e. (factor_keeps place x e).1;
  opens = λ front n o b h. opening_flat depth front (decimal n) o (size_opens n h) (size_closes n h);
}
  where
    size_opens : (n : ℕ) → IsFactor n → opened (decimal n) ≡ 0
    size_opens n h = omega (arith, size_balanced n h, size_closes n h)

module _ {A B : Type 0} (depth : ℕ) (read : Place ℕ → Result (A × Place ℕ) (Stop TextFault))
    (read' : Place ℕ → Result (B × Place ℕ) (Stop TextFault)) (text : A → List ℕ) (text' : B → List ℕ)
    (Good : A → Type 0)
    (Good' : B → Type 0) (first : IsPiece depth read text Good) (second : IsPiece depth read' text' Good') (w : List ℕ)
    (count : opened w ≡ 1) (none : closed w ≡ 0) (opening : EndsWith 40 w) (make : A → B → Formula)
    (stop : Stop TextFault)
    (first_stops : (whole : List ℕ) (place : Place ℕ) → InStep place → whole ≡ w ++ place.rest → read place ≡ Err stop →
    Stops (suc depth) whole stop)
    (second_stops : (whole : List ℕ) (a : A) (place : Place ℕ) → InStep place → Good a →
    IsOpening depth ((w ++ text a) ++ codes ",") → whole ≡ ((w ++ text a) ++ codes ",") ++ place.rest → read' place
    ≡ Err stop →
    Stops (suc depth) whole stop) where
  pair_stops : (whole : List ℕ) (place : Place ℕ) → InStep place → whole ≡ w ++ place.rest →
      pair_by read read' make place ≡ Err stop →
      Stops (suc depth) whole stop
  pair_stops whole place step t e =
      ⊎_elim (λ here. first_stops whole place step t here)
      (λ a.
      let x = a.0 in
      let took = first.took place x a.1 in
      let o : IsOpening depth (w ++ text x.0) = first.opens w x.0 (opening_word depth w count none)
      (inr (inl opening)) took.0 in
      let step1 : InStep x.1 = first.kept place x a.1 step in
      let t1 : whole ≡ (w ++ text x.0) ++ x.1.rest = further whole w (text x.0) place.rest x.1.rest t took.1 in
      ⊎_elim
      (λ here.
      let l = lost (comma_at x.1) stop here in
      subst (Stops (suc depth) whole) l.2 (lost_in depth l.0 (w ++ text x.0) whole x.1.rest o t1
      (comma_lost x.1 l.0 step1 l.1)))
      (λ c.
      let next = c.0.1 in
      let is = plain_ok (comma_at x.1) c.0 c.1 in
      let o2 : IsOpening depth ((w ++ text x.0) ++ codes ",") = opening_flat depth (w ++ text x.0)
      (codes ",") o refl refl in
      let step2 : InStep next = token_in_step Anything (word (codes ","))
      (word_in (codes ",")) commas x.1 c.0 is step1 in
      let t2 : whole ≡ ((w ++ text x.0) ++ codes ",") ++ next.rest =
      further whole (w ++ text x.0) (codes ",") x.1.rest next.rest t1 (comma_took x.1 c.0 is) in
      ⊎_elim (λ here. second_stops whole x.0 next step2 took.0 o2 t2 here)
      (λ b.
      let y = b.0 in
      let took' = second.took next y b.1 in
      let o3 : IsOpening depth (((w ++ text x.0) ++ codes ",") ++ text' y.0) =
      second.opens ((w ++ text x.0) ++ codes ",") y.0 o2 (inr (inr (w ++ text x.0, refl))) took'.0 in
      let step3 : InStep y.1 = second.kept next y b.1 step2 in
      let t3 : whole ≡ (((w ++ text x.0) ++ codes ",") ++ text' y.0) ++ y.1.rest =
      further whole ((w ++ text x.0) ++ codes ",") (text' y.0) next.rest y.1.rest t2 took'.1 in
      ⊎_elim
      (λ here.
      let l = lost (close_at y.1) stop here in
      subst (Stops (suc depth) whole) l.2
      (lost_in depth l.0 (((w ++ text x.0) ++ codes ",") ++ text' y.0) whole y.1.rest o3 t3
      (end_lost y.1 l.0 step3 l.1)))
      (λ d. absurd (ok_not_err (make x.0 y.0, d.0.1) stop d.2)) (stops (plain close_at y.1) _ stop b.2))
      (stops (read' next) _ stop c.2)) (stops (plain comma_at x.1) _ stop a.2))
      (stops (read place) _ stop e)

-- numbers behind a head
made_stops : {A : Type 0} (L : List ℕ → A → Type 0) (read : Place ℕ → Result (A × Place ℕ) ℕ) →
    places.IsReader Anything L read →
    HaveEnd L
    → (make : A → Formula) (depth : ℕ) (w text : List ℕ) → opened w ≡ 1 → closed w ≡ 0 → (place : Place ℕ)
    (stop : Stop TextFault) →
    InStep place → text ≡ w ++ place.rest → made_at read make place ≡ Err stop → Stops (suc depth) text stop
made_stops L read reader ends make depth w text count none place stop step t e =
    ⊎_elim
    (λ here.
    let l = lost (read place) stop here in
    let flat = lost_flat L (end_lasts L ends) place l.0 step
    (subst (λ r. places.Answers Anything L place r) l.1 (reader.each place)) in
    subst (Stops (suc depth) text) l.2 (lost_in depth l.0 w text place.rest (opening_word depth w count none) t flat))
    (λ x. absurd (ok_not_err (make x.0.0, x.0.1) stop x.2))
    (stops (plain read place) (λ x. plain (pure_at (make x))) stop e)

module _ (depth : ℕ) (inner : (place : Place ℕ) (stop : Stop TextFault) → InStep place → formula_at depth place
    ≡ Err stop →
    Stops depth place.rest stop) where
  -- in a formula behind another piece and a comma
  behind_comma : (w part : List ℕ) (make : Formula → Formula) → IsOpening depth ((w ++ part) ++ codes ",") →
      ((g : Formula) → HasSpelling g → HasSpelling (make g))
      → ((g : Formula) → spelling (make g) ≡ w ++ (part ++ (codes "," ++ (spelling g ++ codes ")")))) →
      (stop : Stop TextFault)
      (whole : List ℕ) (place : Place ℕ)
      → InStep place → whole ≡ ((w ++ part) ++ codes ",") ++ place.rest → formula_at depth place ≡ Err stop →
      Stops (suc depth) whole stop
  behind_comma w part make o has spell stop whole place step t e =
      inside depth ((w ++ part) ++ codes ",") (codes ")") make o (inr (inr (w ++ part, refl))) has
      (λ g. spell g ∙ sym (append_assoc w part (codes "," ++ (spelling g ++ codes ")"))) ∙ sym
      (append_assoc (w ++ part) (codes ",") (spelling g ++ codes ")")))
      stop whole place.rest t (inner place stop step e)

  two_stop : (w : List ℕ) (make : Formula → Formula → Formula) → opened w ≡ 1 → closed w ≡ 0 → EndsWith 40 w →
      ((a b : Formula) → HasSpelling a → HasSpelling b → HasSpelling (make a b))
      → ((a b : Formula) → spelling (make a b) ≡ w ++ (spelling a ++ (codes "," ++ (spelling b ++ codes ")"))))
      → (stop : Stop TextFault) (text : List ℕ) (place : Place ℕ) → InStep place → text ≡ w ++ place.rest →
      two_formulas_by (formula_at depth) make place ≡ Err stop → Stops (suc depth) text stop
  two_stop w make count none opening has spell stop text place step t e =
      pair_stops depth (formula_at depth) (formula_at depth) spelling spelling (IsPart depth) (IsPart depth)
      (formula_piece depth)
      (formula_piece depth) w count none opening make stop
      (λ whole p s u here.
      inside depth w (codes "," ++ (spelling one ++ codes ")")) (λ g. make g one) (opening_word depth w count none)
      (inr (inl opening))
      (λ g h. has g one h one_spelt) (λ g. spell g one) stop whole p.rest u (inner p stop s here))
      (λ whole a p s good o u here.
      behind_comma w (spelling a) (make a) o (λ g h. has a g good.0 h) (spell a) stop whole p s u here)
      text place step t e

  left_stop : (stop : Stop TextFault) (text : List ℕ) (place : Place ℕ) → InStep place → text
      ≡ codes "LEFT(" ++ place.rest →
      tensor_left_by (formula_at depth) place ≡ Err stop → Stops (suc depth) text stop
  left_stop stop text place step t e =
      pair_stops depth (formula_at depth) (plain factor_at) spelling decimal (IsPart depth) IsFactor
      (formula_piece depth)
      (factor_piece depth) (codes "LEFT(") refl refl (codes "LEFT", refl) TensorLeft stop
      (λ whole p s u here.
      inside depth (codes "LEFT(") (codes "," ++ (decimal 1 ++ codes ")")) (λ g. TensorLeft g 1)
      (opening_word depth (codes "LEFT(") refl refl) (inr (inl (codes "LEFT", refl))) (λ g h. (h, one_factor))
      (λ g. refl) stop whole
      p.rest u (inner p stop s here))
      (λ whole a p s good o u here.
      let l = lost (factor_at p) stop here in
      subst (Stops (suc depth) whole) l.2
      (lost_in depth l.0 ((codes "LEFT(" ++ spelling a) ++ codes ",") whole p.rest o u (factor_lost p l.0 s l.1)))
      text place step t e

  right_stop : (stop : Stop TextFault) (text : List ℕ) (place : Place ℕ) → InStep place → text
      ≡ codes "RIGHT(" ++ place.rest →
      tensor_right_by (formula_at depth) place ≡ Err stop → Stops (suc depth) text stop
  right_stop stop text place step t e =
      pair_stops depth (plain factor_at) (formula_at depth) decimal spelling IsFactor (IsPart depth)
      (factor_piece depth)
      (formula_piece depth) (codes "RIGHT(") refl refl (codes "RIGHT", refl) TensorRight stop
      (λ whole p s u here.
      let l = lost (factor_at p) stop here in
      subst (Stops (suc depth) whole) l.2
      (lost_in depth l.0 (codes "RIGHT(") whole p.rest (opening_word depth (codes "RIGHT(") refl refl) u
      (factor_lost p l.0 s l.1)))
      (λ whole k p s good o u here.
      behind_comma (codes "RIGHT(") (decimal k) (TensorRight k) o (λ g h. (good, h)) (λ g. refl) stop whole p s u here)
      text place step t e

  pub arguments_stop : (h : Head) (stop : Stop TextFault) (text : List ℕ) (place : Place ℕ) → InStep place →
      text ≡ head_word h ++ place.rest → arguments_by (formula_at depth) h place ≡ Err stop → Stops
      (suc depth) text stop
  arguments_stop head.I stop text place step t e =
      made_stops one_size one_size_at one_size_reader one_size_ends Identity depth
      (codes "I(") text refl refl place stop step t e
  arguments_stop head.Dft stop text place step t e =
      made_stops size_value size_value_at size_value_reader size_value_ends (λ x. Fourier x.0 x.1) depth
      (codes "DFT(") text refl refl place stop step t e
  arguments_stop head.Wht stop text place step t e =
      made_stops one_size one_size_at one_size_reader one_size_ends Hadamard depth
      (codes "WHT(") text refl refl place stop step t e
  arguments_stop head.T stop text place step t e =
      made_stops sizes_value sizes_value_at sizes_value_reader sizes_value_ends (λ x. Twiddles x.0 x.1 x.2) depth
      (codes "T(") text refl refl place stop step t e
  arguments_stop head.Diag stop text place step t e =
      made_stops values values_at values_reader values_ends Diagonal depth
      (codes "DIAG(") text refl refl place stop step t e
  arguments_stop head.L stop text place step t e =
      made_stops two_sizes two_sizes_at two_sizes_reader two_sizes_ends (λ x. Stride x.0 x.1) depth
      (codes "L(") text refl refl place stop step t e
  arguments_stop head.Perm stop text place step t e =
      made_stops values values_at values_reader values_ends Permutation depth
      (codes "PERM(") text refl refl place stop step t e
  arguments_stop head.GtIn stop text place step t e =
      made_stops two_sizes two_sizes_at two_sizes_reader two_sizes_ends (λ x. GoodThomasIn x.0 x.1) depth
      (codes "GTIN(") text refl refl place stop step t e
  arguments_stop head.GtOut stop text place step t e =
      made_stops two_sizes two_sizes_at two_sizes_reader two_sizes_ends (λ x. GoodThomasOut x.0 x.1) depth
      (codes "GTOUT(") text refl refl place stop step t e
  arguments_stop head.Times stop text place step t e =
      two_stop (codes "TIMES(") Product refl refl (codes "TIMES", refl) (λ a b h k. (h, k))
      (λ a b. refl) stop text place step t e
  arguments_stop head.Left stop text place step t e = left_stop stop text place step t e
  arguments_stop head.Right stop text place step t e = right_stop stop text place step t e
  arguments_stop head.Sum stop text place step t e =
      two_stop (codes "SUM(") DirectSum refl refl (codes "SUM", refl) (λ a b h k. (h, k))
      (λ a b. refl) stop text place step t e
