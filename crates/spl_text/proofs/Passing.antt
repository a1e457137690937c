-- What a reader has passed: no part of a formula that is read is refused, and nothing was tried further on than
-- what is read. Where reading is lost, the front up to that place has no parenthesis of its own.
use Rattle.std.proofs.Common.{◌≡◌, ℕ, zero, suc, ◌≤◌, List, [], ◌∷◌, ◌++◌, length, codes, decimal, Option, Some, None}
use Rattle.std.proofs.Common.{Result, Ok, Err, refl, sym, ap, subst, ◌∙◌, append_assoc, arith}
use Rattle.std.specs.Option.{option_map}
use Rattle.std.proofs.lemmas.List.{append-nil, length-append}
use Rattle.grammar.specs.Grammar.{one_of, positive, word}
use Rattle.grammar.specs.Reading.{Place, placed, token, word_in, one_of_in, positive_in, pure_at, one_of_at}
use Rattle.grammar.specs.Stops.{Stop, and_go_on, spelling_only, passed, tested_at}
use Rattle.grammar.proofs.Numbers.{NoDigit}
use Rattle.grammar.proofs.Parts.{Anything}
use Rattle.grammar.proofs.Places as places
use Rattle.grammar.proofs.Places.{Reaches, Took}
use Rattle.grammar.proofs.Tokens.{same_head_refl, split_twice}
use Rattle.spl_ast.specs.Formula.{Formula, Identity, Fourier, Hadamard, Twiddles, Diagonal, Stride, Permutation}
use Rattle.spl_ast.specs.Formula.{GoodThomasIn, GoodThomasOut, Product, TensorLeft, TensorRight, DirectSum}
use Rattle.spl_text.specs.declared.reading.Head.{Head}
use Rattle.spl_text.specs.declared.reading.Head.TheVariants as head
use Rattle.spl_text.specs.Answer.{opened, closed}
use Rattle.spl_text.specs.Arguments.{factor_at, comma_at, close_at, one_size_at, two_sizes_at, size_value_at}
use Rattle.spl_text.specs.Arguments.{sizes_value_at, values_at}
use Rattle.spl_text.specs.Fault.{TextFault, Shape, refusal, shape_fault}
use Rattle.spl_text.specs.Reading.{heads, plain, made_at, arguments_by, too_deep, formula_at}
use Rattle.spl_text.specs.Spelling.{values_text, IsFactor, IsValue}
use Rattle.spl_text.proofs.Fitted.{PartsFit, Fits, two, two_closed, size_closes, value_closes, none_closed}
use Rattle.spl_text.proofs.Heads.{one_size, two_sizes, size_value, sizes_value, values, HasTexts, one_size_texts}
use Rattle.spl_text.proofs.Heads.{two_sizes_texts, size_value_texts, sizes_value_texts, values_texts, word_of_head}
use Rattle.spl_text.proofs.Heads.{opening}
use Rattle.spl_text.proofs.Nested.{go_ok, pair_by}
use Rattle.spl_text.proofs.Parentheses.{opened_both, closed_both, values_balanced, values_open_none, size_opens_none}
use Rattle.spl_text.proofs.Parentheses.{decimal_opens_none}
use Rattle.spl_text.proofs.Readers.{heads_reader, factors, close, commas, one_size_reader, two_sizes_reader}
use Rattle.spl_text.proofs.Readers.{size_value_reader, sizes_value_reader, values_reader}

-- nothing was tried further on than this place
abbrev pub InStep : Place ℕ → Type 0
InStep place = length place.rest ≤ place.far

-- a front with no parenthesis, before what is left
pub record IsFlat (text : List ℕ) (left : ℕ) : Type 0 where
  pub good : List ℕ
  pub bad : List ℕ
  pub whole : text ≡ good ++ bad
  pub long : left ≡ length bad
  pub opens : opened good ≡ 0
  pub closes : closed good ≡ 0

-- ---- pieces whose last byte is their only parenthesis

-- all of the text but its last byte has none
pub record HasLast (text : List ℕ) : Type 0 where
  pub front : List ℕ
  pub last : ℕ
  pub whole : text ≡ front ++ last ∷ []
  pub opens : opened front ≡ 0
  pub closes : closed front ≡ 0

abbrev pub HaveLast : {A : Type 0} → (List ℕ → A → Type 0) → Type 0
HaveLast {A} L = (u : List ℕ) (a : A) → L u a → HasLast u

-- a proper front of such a text
proper_front : (good rest u : List ℕ) → (rest ≡ [] → ⊥) → u ≡ good ++ rest → HasLast u → (opened good ≡ 0) ×
    (closed good ≡ 0)
proper_front good [] u some e h = absurd (some refl)
proper_front good (x ∷ rest) u some e h =
    let m = split_twice h.front (h.last ∷ []) good (x ∷ rest) (sym h.whole ∙ e) (omega arith) in (
      omega (arith, h.opens, ap opened m.1, opened_both good m.0),
      omega
          (arith, h.closes, ap closed m.1, closed_both good m.0),
    )

pub lost_flat : {A : Type 0} (L : List ℕ → A → Type 0) → HaveLast L → (place : Place ℕ) (left : ℕ) → InStep place →
    Reaches Anything L (λ u b. ⊥) place.rest place.far left → IsFlat place.rest left
lost_flat L last place left step p =
    let some : p.viable.0 ≡ [] → ⊥ =
    λ none. p.only (p.good ++ p.viable.0) p.viable.1 p.bad p.bad p.viable.2 tt (same_head_refl p.bad)
    (ap (λ z. z ++ p.bad) (ap (λ z. p.good ++ z) none ∙ append-nil p.good)) in
    let flat = proper_front p.good p.viable.0 (p.good ++ p.viable.0) some refl
    (last (p.good ++ p.viable.0) p.viable.1 p.viable.2) in
    record {
      good = p.good;
      bad = p.bad;
      whole = p.whole;
      long = omega (arith, p.far_is, step, ap length p.whole, length-append p.good p.bad);
      opens = flat.0;
      closes = flat.1;
    }

pub word_lasts : (b : ℕ) → HaveLast {A = Unit {0}} (word (b ∷ []))
word_lasts b u a l = record { front = []; last = b; whole = l; opens = refl; closes = refl }

pub heads_last : HaveLast (one_of heads)
heads_last u h l =
    let o = opening h in
    record { front = o.0; last = 40; whole = word_of_head u h l ∙ o.1; opens = o.3; closes = omega (arith, o.2, o.3) }

-- ---- a size

pub factor_flat : (place : Place ℕ) (left : ℕ) → InStep place →
    Reaches NoDigit (positive 1048577) (λ u b. ⊥) place.rest place.far left → IsFlat place.rest left
factor_flat place left step p =
    let number = p.viable.2 in
    let size : IsFactor p.viable.1 = (number.0, number.1) in
    record {
      good = p.good;
      bad = p.bad;
      whole = p.whole;
      long = omega (arith, p.far_is, step, ap length p.whole, length-append p.good p.bad);
      opens = omega (arith, size_opens_none p.viable.1 size, ap opened number.2, opened_both p.good p.viable.0);
      closes = omega (arith, size_closes p.viable.1 size, ap closed number.2, closed_both p.good p.viable.0);
    }

-- ---- the numbers behind a head end with the only parenthesis

pub record HasEnd (text : List ℕ) : Type 0 where
  pub front : List ℕ
  pub whole : text ≡ front ++ codes ")"
  pub opens : opened front ≡ 0
  pub closes : closed front ≡ 0

abbrev pub HaveEnd : {A : Type 0} → (List ℕ → A → Type 0) → Type 0
HaveEnd {A} L = (u : List ℕ) (a : A) → L u a → HasEnd u

pub end_lasts : {A : Type 0} (L : List ℕ → A → Type 0) → HaveEnd L → HaveLast L
end_lasts L ends u a l =
    let e = ends u a l in record { front = e.front; last = 41; whole = e.whole; opens = e.opens; closes = e.closes }

of_texts : {A B : Type 0} {L : List ℕ → B → Type 0} {make : A → B} {P : A → Type 0} {text : A → List ℕ} →
    HasTexts L make P text → ((a : A) → P a → HasEnd (text a)) → HaveEnd L
of_texts {A} {B} {L} {make} {P} {text} t ends u b l = let x = t.from u b l in subst HasEnd (sym x.3) (ends x.0 x.1)

value_opens : (w : ℕ) → IsValue w → opened (decimal w) ≡ 0
value_opens w h = decimal_opens_none w (omega (arith, h))

two_opened : (a b : List ℕ) → opened a ≡ 0 → opened b ≡ 0 → opened (a ++ (codes "," ++ b)) ≡ 0
two_opened a b h g = omega (arith, h, g, opened_both a (codes "," ++ b), opened_both (codes ",") b)

pub one_size_ends : HaveEnd one_size
one_size_ends = of_texts one_size_texts (λ n h. record {
  front = decimal n;
  whole = refl;
  opens =
      size_opens_none n h;
  closes = size_closes n h;
})

pub two_sizes_ends : HaveEnd two_sizes
two_sizes_ends = of_texts two_sizes_texts (λ x h. record {
  front = decimal x.0 ++ (codes "," ++ decimal x.1);
  whole = two (decimal x.0) (decimal x.1);
  opens = two_opened (decimal x.0) (decimal x.1) (size_opens_none x.0 h.0) (size_opens_none x.1 h.1);
  closes = two_closed (decimal x.0) (decimal x.1) (size_closes x.0 h.0) (size_closes x.1 h.1);
})

pub size_value_ends : HaveEnd size_value
size_value_ends = of_texts size_value_texts (λ x h. record {
  front = decimal x.0 ++ (codes "," ++ decimal x.1);
  whole = two (decimal x.0) (decimal x.1);
  opens = two_opened (decimal x.0) (decimal x.1) (size_opens_none x.0 h.0) (value_opens x.1 h.1);
  closes = two_closed (decimal x.0) (decimal x.1) (size_closes x.0 h.0) (value_closes x.1 h.1);
})

pub sizes_value_ends : HaveEnd sizes_value
sizes_value_ends = of_texts sizes_value_texts (λ x h. record {
  front = decimal x.0 ++ (codes "," ++ (decimal x.1.0 ++ (codes "," ++ decimal x.1.1)));
  whole = ap (λ z. decimal x.0 ++ (codes "," ++ z)) (two (decimal x.1.0) (decimal x.1.1)) ∙ two (decimal x.0)
      (decimal x.1.0 ++ (codes "," ++ decimal x.1.1));
  opens = two_opened (decimal x.0) (decimal x.1.0 ++ (codes "," ++ decimal x.1.1)) (size_opens_none x.0 h.0)
      (two_opened (decimal x.1.0) (decimal x.1.1) (size_opens_none x.1.0 h.1.0) (value_opens x.1.1 h.1.1));
  closes = two_closed (decimal x.0) (decimal x.1.0 ++ (codes "," ++ decimal x.1.1)) (size_closes x.0 h.0)
      (two_closed (decimal x.1.0) (decimal x.1.1) (size_closes x.1.0 h.1.0) (value_closes x.1.1 h.1.1));
})

pub values_ends : HaveEnd values
values_ends = of_texts values_texts (λ c h. record {
  front = values_text c;
  whole = refl;
  opens = values_open_none c h;
  closes = none_closed (values_text c) (values_balanced c h) (values_open_none c h);
})

-- ---- nothing is tried further on

longer_front : (ahead rest front other text : List ℕ) → text ≡ front ++ codes ")" → text ++ (ahead ++ rest)
    ≡ other ++ codes ")" →
    closed other ≡ 0 → length ahead ≡ 0
longer_front [] rest front other text e both none = refl
longer_front (x ∷ ahead) rest front other text e both none =
    let m = split_twice other (codes ")") text ((x ∷ ahead) ++ rest) (sym both) (omega arith) in
    absurd (omega (arith, none, ap closed m.1, closed_both text m.0, ap closed e, closed_both front (codes ")")))

pub took_in_step : {A : Type 0} (L : List ℕ → A → Type 0) → HaveEnd L → (place next : Place ℕ) (a : A) →
    Took Anything L place a next → InStep place → InStep next
took_in_step L ends place next a p step =
    let here = ends p.text a p.spelt in
    let there = ends (p.reach.good ++ p.reach.viable.0) p.reach.viable.1 p.reach.viable.2 in
    let both : p.text ++ (p.ahead ++ p.reach.viable.0) ≡ there.front ++ codes ")" =
    sym (append_assoc p.text p.ahead p.reach.viable.0) ∙ ap (λ z. z ++ p.reach.viable.0) (sym p.front) ∙ there.whole in
    let none : length p.ahead ≡ 0 =
    longer_front p.ahead p.reach.viable.0 here.front there.front p.text here.whole both there.closes in
    omega (
      arith,
      none,
      step,
      p.reach.far_is,
      ap length p.whole,
      length-append p.text next.rest,
      ap length p.reach.whole,
      length-append p.reach.good p.reach.bad,
      ap length p.front,
      length-append p.text p.ahead,
    )

same_place : {A : Type 0} (x y : A × Place ℕ) → (let r : Result (A × Place ℕ) ℕ = Ok x in r ≡ Ok y) → x ≡ y
same_place x y e = cc

token_far : {A : Type 0} (far : ℕ) (r : Result (A × List ℕ) ℕ) (x : A × Place ℕ) → placed far r ≡ Ok x → x.1.far ≡ far
token_far {A} far (Ok y) x e =
    sym (ap (λ (z : A × Place ℕ). z.1.far) (same_place (y.0, record { rest = y.1; far = far }) x e))
token_far far (Err left) x e = absurd cc

pub token_in_step : {A : Type 0} (C : List ℕ → Type 0) (L : List ℕ → A → Type 0)
    (read : List ℕ → Result (A × List ℕ) ℕ) →
    places.IsReader C L (token read) → (place : Place ℕ) (x : A × Place ℕ) → token read place ≡ Ok x → InStep place →
    InStep x.1
token_in_step C L read reader place x e step =
    let took = subst (λ r. places.Answers C L place r) e (reader.each place) in
    omega (
      arith,
      step,
      token_far place.far
          (read place.rest) x e,
      ap length took.whole,
      length-append took.text x.1.rest,
    )

pub plain_ok : {A : Type 0} (r : Result (A × Place ℕ) ℕ) (x : A × Place ℕ) →
    (let s : Result (A × Place ℕ) (Stop TextFault) = spelling_only r in s ≡ Ok x) → r ≡ Ok x
plain_ok (Ok y) x e = let same : y ≡ x = cc in ap (λ z. Ok z) same
plain_ok (Err left) x e = absurd cc

-- ---- formulas

abbrev Keeps : {A : Type 0} → (A → Type 0) → (Place ℕ → Result (A × Place ℕ) (Stop TextFault)) → Type 0
Keeps {A} P read = (place : Place ℕ) (x : A × Place ℕ) → read place ≡ Ok x → P x.0 × (InStep place → InStep x.1)

leaf_keeps : {A : Type 0} (L : List ℕ → A → Type 0) (read : Place ℕ → Result (A × Place ℕ) ℕ) →
    places.IsReader Anything L read →
    HaveEnd L → (make : A → Formula) → ((a : A) → PartsFit (make a)) → Keeps PartsFit (made_at read make)
leaf_keeps {A} L read reader ends make fit place y e =
    let g = go_ok (plain read place) (λ x. plain (pure_at (make x))) y e in
    let took = subst (λ r. places.Answers Anything L place r) (plain_ok (read place) g.0 g.1) (reader.each place) in
    let same : (make g.0.0, g.0.1) ≡ y = same_stop (make g.0.0, g.0.1) y g.2 in
    subst (λ (z : Formula × Place ℕ). PartsFit z.0 × (InStep place → InStep z.1)) same
    (fit g.0.0, took_in_step L ends place g.0.1 g.0.0 took)
  where
    same_stop : (x y : Formula × Place ℕ) → (let r : Result (Formula × Place ℕ) (Stop TextFault) = Ok x in r ≡ Ok y) →
        x ≡ y
    same_stop x y e = cc

pair_keeps : {A B : Type 0} (P : A → Type 0) (Q : B → Type 0) (make : A → B → Formula) →
    ((a : A) (b : B) → P a → Q b → PartsFit (make a b))
    → (read : Place ℕ → Result (A × Place ℕ) (Stop TextFault)) → Keeps P read
    → (read' : Place ℕ → Result (B × Place ℕ) (Stop TextFault)) → Keeps Q read' → Keeps PartsFit
    (pair_by read read' make)
pair_keeps P Q make fit read first read' second place y e =
    let g1 = go_ok (read place) _ y e in
    let g2 = go_ok (plain comma_at g1.0.1) _ y g1.2 in
    let g3 = go_ok (read' g2.0.1) _ y g2.2 in
    let g4 = go_ok (plain close_at g3.0.1) _ y g3.2 in
    let p = first place g1.0 g1.1 in
    let q = second g2.0.1 g3.0 g3.1 in
    let comma : InStep g1.0.1 → InStep g2.0.1 =
    token_in_step Anything (word (codes ",")) (word_in (codes ",")) commas g1.0.1 g2.0
    (plain_ok (comma_at g1.0.1) g2.0 g2.1) in
    let closing : InStep g3.0.1 → InStep g4.0.1 =
    token_in_step Anything (word (codes ")")) (word_in (codes ")")) close g3.0.1 g4.0
    (plain_ok (close_at g3.0.1) g4.0 g4.1) in
    let same : (make g1.0.0 g3.0.0, g4.0.1) ≡ y = same_stop (make g1.0.0 g3.0.0, g4.0.1) y g4.2 in
    subst (λ (z : Formula × Place ℕ). PartsFit z.0 × (InStep place → InStep z.1)) same
    (fit g1.0.0 g3.0.0 p.0 q.0, λ step. closing (q.1 (comma (p.1 step))))
  where
    same_stop : (x y : Formula × Place ℕ) → (let r : Result (Formula × Place ℕ) (Stop TextFault) = Ok x in r ≡ Ok y) →
        x ≡ y
    same_stop x y e = cc

pub factor_keeps : Keeps (λ (n : ℕ). Unit {0}) (plain factor_at)
factor_keeps place x e = (
  tt,
  token_in_step NoDigit (positive 1048577) (positive_in 1048577) factors place x
      (plain_ok (factor_at place) x e),
)

pub arguments_keep : (read : Place ℕ → Result (Formula × Place ℕ) (Stop TextFault)) → Keeps Fits read → (h : Head) →
    Keeps PartsFit (arguments_by read h)
arguments_keep read inner head.I = leaf_keeps one_size one_size_at one_size_reader one_size_ends Identity (λ x. tt)
arguments_keep read inner head.Dft = leaf_keeps size_value size_value_at size_value_reader size_value_ends
    (λ x. Fourier x.0 x.1) (λ x. tt)
arguments_keep read inner head.Wht = leaf_keeps one_size one_size_at one_size_reader one_size_ends Hadamard (λ x. tt)
arguments_keep read inner head.T =
    leaf_keeps sizes_value sizes_value_at sizes_value_reader sizes_value_ends (λ x. Twiddles x.0 x.1 x.2) (λ x. tt)
arguments_keep read inner head.Diag = leaf_keeps values values_at values_reader values_ends Diagonal (λ x. tt)
arguments_keep read inner head.L = leaf_keeps two_sizes two_sizes_at two_sizes_reader two_sizes_ends
    (λ x. Stride x.0 x.1) (λ x. tt)
arguments_keep read inner head.Perm = leaf_keeps values values_at values_reader values_ends Permutation (λ x. tt)
arguments_keep read inner head.GtIn =
    leaf_keeps two_sizes two_sizes_at two_sizes_reader two_sizes_ends (λ x. GoodThomasIn x.0 x.1) (λ x. tt)
arguments_keep read inner head.GtOut =
    leaf_keeps two_sizes two_sizes_at two_sizes_reader two_sizes_ends (λ x. GoodThomasOut x.0 x.1) (λ x. tt)
arguments_keep read inner head.Times = pair_keeps Fits Fits Product (λ a b p q. (p, q)) read inner read inner
arguments_keep read inner head.Left = pair_keeps Fits (λ (n : ℕ). Unit {0}) TensorLeft (λ a k p q. p) read inner
    (plain factor_at) factor_keeps
arguments_keep read inner head.Right = pair_keeps (λ (n : ℕ). Unit {0}) Fits TensorRight (λ k a p q. q)
    (plain factor_at) factor_keeps read inner
arguments_keep read inner head.Sum = pair_keeps Fits Fits DirectSum (λ a b p q. (p, q)) read inner read inner

-- behind a head
pub part_keeps : (read : Place ℕ → Result (Formula × Place ℕ) (Stop TextFault)) → Keeps Fits read →
    Keeps PartsFit (λ place. and_go_on (plain (one_of_at heads) place) (arguments_by read))
part_keeps read inner place y e =
    let g = go_ok (plain (one_of_at heads) place) (arguments_by read) y e in
    let p = arguments_keep read inner g.0.0 g.0.1 y g.2 in (
      p.0,
      λ step. p.1 (token_in_step Anything (one_of heads) (one_of_in heads) heads_reader place g.0
          (plain_ok (one_of_at heads place) g.0 g.1) step),
    )

-- what passes the test is what was read
passes_test : (o : Option (ℕ × ℕ)) (n : ℕ) (x y : Formula × Place ℕ) → passed (option_map (λ p. Shape n p.0 p.1) o) x
    ≡ Ok y →
    (o ≡ None) × (x ≡ y)
passes_test None n x y e = (refl, cc)
passes_test (Some p) n x y e = absurd cc

tested_keeps : (n : ℕ) (step : Type 0) (r : Result (Formula × Place ℕ) (Stop TextFault)) (y : Formula × Place ℕ) →
    ((x : Formula × Place ℕ) → r ≡ Ok x → PartsFit x.0 × (step → InStep x.1))
    → tested_at n shape_fault r ≡ Ok y → Fits y.0 × (step → InStep y.1)
tested_keeps n step (Ok x) y keeps e =
    let t = passes_test (refusal x.0) n x y e in
    let k = keeps x refl in
    subst (λ (z : Formula × Place ℕ). Fits z.0 × (step → InStep z.1)) t.1 ((t.0, k.0), k.1)
tested_keeps n step (Err s) y keeps e = absurd cc

none_at_depth : (r : Result (Head × Place ℕ) ℕ) (y : Formula × Place ℕ) → too_deep r ≡ Ok y → ⊥
none_at_depth (Ok x) y e = cc
none_at_depth (Err left) y e = cc

pub formula_keeps : (depth : ℕ) → Keeps Fits (formula_at depth)
unfolding formula_at
formula_keeps zero place y e = absurd (none_at_depth (one_of_at heads place) y e)
formula_keeps (suc depth) place y e =
    tested_keeps (length place.rest) (InStep place) _ y (part_keeps (formula_at depth) (formula_keeps depth) place) e
