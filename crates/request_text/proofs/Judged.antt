-- What the tests of the request that a line spells say is the answer for the line.
use Rattle.std.proofs.Common.{◌≡◌, ℕ, ◌*◌, ◌%◌, Bool, true, false, cond, eqb, leb, List, [], ◌∷◌, Result, Ok}
use Rattle.std.proofs.Common.{Err, sym, subst}
use Rattle.std.specs.Int.{is_power_of_two}
use Rattle.std.specs.Prelude.{IfOk}
use Rattle.matrix_meaning.specs.declared.Dimension.{Dimension}
use Rattle.matrix_meaning.specs.declared.Kind.{Kind}
use Rattle.matrix_meaning.specs.declared.Kind.TheVariants.{Dft, Wht, Idft}
use Rattle.matrix_meaning.specs.declared.Request.{Request}
use Rattle.matrix_meaning.specs.Convolving.{IsConvRequest}
use Rattle.matrix_meaning.specs.Dimensions.{dims_of}
use Rattle.matrix_meaning.specs.Valid.{IsInRange}
use Rattle.operators.specs.Sizes.{max_size}
use Rattle.request_text.specs.Answer.{Answers, AnswersBy, ConvAnswers}
use Rattle.request_text.specs.ConvLine.{conv_line}
use Rattle.request_text.specs.declared.fault.Field.TheVariants.{Size, Mod, Root, Procs, Line, Lanes, Unroll, Budget}
use Rattle.request_text.specs.declared.fault.Field.TheVariants.{Weight}
use Rattle.request_text.specs.declared.fault.RequestFault.{RequestFault}
use Rattle.request_text.specs.declared.fault.RequestFault.TheVariants.{Syntax, Range, Shape, LanesLine, NotUnit}
use Rattle.request_text.specs.Limits.{◌>>◌, between, within, below, sizes_within, products_within, sized, roots_below}
use Rattle.request_text.specs.Limits.{shaped}
use Rattle.request_text.specs.Limits.{divided, common_factor, coprime, divisible, limited, tested, judged, judged_conv}
use Rattle.request_text.specs.Line.{request_line}
use Rattle.request_text.proofs.Limits.{coprime_is, in_range, passed, passes}
use Rattle.request_text.proofs.Said.{IsSaid, conv_said, request_said}

-- ---- which faults the tests find

abbrev Only : {A : Type 0} → Result A RequestFault → Type 0
Only (Ok x) = Unit {0}
Only (Err (Syntax at)) = ⊥
Only (Err (Range field value)) = Unit {0}
Only (Err (Shape size)) = Unit {0}
Only (Err (LanesLine lanes line)) = Unit {0}
Only (Err (NotUnit gcd)) = Unit {0}

then_only : {A B : Type 0} (t : Result A RequestFault) (n : Result B RequestFault) → Only t → Only n → Only (t >> n)
then_only (Ok x) n a b = b
then_only (Err (Syntax at)) n a b = a
then_only (Err (Range field value)) n a b = tt
then_only (Err (Shape size)) n a b = tt
then_only (Err (LanesLine lanes line)) n a b = tt
then_only (Err (NotUnit gcd)) n a b = tt

guard_only : (b : Bool) (f : RequestFault) → Only {A = Unit {0}} (Err f) → Only (cond b passed (Err f))
guard_only true f h = tt
guard_only false f h = h

sizes_only : (ds : List Dimension) → Only (sizes_within ds)
sizes_only [] = tt
sizes_only (d ∷ ds) = then_only (between Size d.size 2 max_size) (sizes_within ds) (guard_only _ _ tt) (sizes_only ds)

products_only : (before : ℕ) (ds : List Dimension) → Only (products_within before ds)
products_only before [] = tt
products_only before (d ∷ ds) =
    then_only (between Size (before * d.size) 2 max_size) (products_within (before * d.size) ds) (guard_only _ _ tt)
    (products_only (before * d.size) ds)

sized_only : (ds : List Dimension) → Only (sized ds)
sized_only [] = tt
sized_only (d ∷ []) = then_only (within Size d.size) (Ok d.size) (guard_only _ _ tt) tt
sized_only (d ∷ e ∷ ds) =
    then_only (sizes_within (d ∷ e ∷ ds)) (products_within 1 (d ∷ e ∷ ds)) (sizes_only (d ∷ e ∷ ds))
    (products_only 1 (d ∷ e ∷ ds))

roots_only : (m : ℕ) (ds : List Dimension) → Only (roots_below m ds)
roots_only m [] = tt
roots_only m (d ∷ ds) = then_only (below Root d.root m) (roots_below m ds) (guard_only _ _ tt) (roots_only m ds)

shaped_only : (kind : Kind) (size : ℕ) → Only (shaped kind size)
shaped_only Dft size = tt
shaped_only Wht size = guard_only (is_power_of_two size) (Shape size) tt
shaped_only Idft size = tt

divided_only : (procs line lanes : ℕ) → Only (divided procs line lanes)
divided_only procs line lanes = cases (leb procs 1)
  where
    cases : (k : Bool) → Only (cond k passed (cond (eqb (line % lanes) 0) passed (Err (LanesLine lanes line))))
    cases true = tt
    cases false = guard_only (eqb (line % lanes) 0) (LanesLine lanes line) tt

coprime_only : (size modulus : ℕ) → Only (coprime size modulus)
coprime_only size modulus = guard_only (eqb (common_factor size modulus) 1) (NotUnit (common_factor size modulus)) tt

divisible_only : (kind : Kind) (size modulus : ℕ) → Only (divisible kind size modulus)
divisible_only Dft size modulus = tt
divisible_only Wht size modulus = tt
divisible_only Idft size modulus = coprime_only size modulus

limited_only : (r : Request) → Only (limited r)
unfolding limited
limited_only r =
    then_only (within Mod r.modulus) _ (guard_only _ _ tt)
    (then_only (roots_below r.modulus (dims_of r)) _ (roots_only r.modulus (dims_of r))
    (then_only (within Procs r.procs) _ (guard_only _ _ tt)
    (then_only (within Line r.line) _ (guard_only _ _ tt)
    (then_only (within Lanes r.lanes) _ (guard_only _ _ tt)
    (then_only (within Unroll r.unroll) _ (guard_only _ _ tt)
    (then_only (within Budget r.budget) _ (guard_only _ _ tt)
    (then_only (within Weight r.weight) _ (guard_only _ _ tt)
    (then_only (shaped r.kind r.size) _ (shaped_only r.kind r.size)
    (then_only (divided r.procs r.line r.lanes) _ (divided_only r.procs r.line r.lanes)
    (divisible_only r.kind r.size r.modulus))))))))))

tested_only : (r : Request) → Only (tested r)
tested_only r = then_only (sized (dims_of r)) (limited r) (sized_only (dims_of r)) (limited_only r)

judged_only : (r : Request) → Only (judged r)
judged_only r = then_only (tested r) (Ok r) (tested_only r) tt

judged_conv_only : (r : Request) → Only (judged_conv r)
judged_conv_only r =
    then_only (tested r) (coprime r.size r.modulus >> Ok r) (tested_only r)
    (then_only (coprime r.size r.modulus) (Ok r) (coprime_only r.size r.modulus) tt)

-- ---- the answer for a line

-- what a test of a request says is the answer for a line that spells it
answers_by : (spells : List ℕ → Request → Type 0) (judge : Request → Result Request RequestFault) (text : List ℕ)
    (r : Request) (out : Result Request RequestFault)
    → spells text r → Only (judge r) → ((q : Request) → judge r ≡ Ok q → r ≡ q) → judge r ≡ out
    → AnswersBy spells judge text out
answers_by spells judge text r (Ok q) l only same e =
    subst (λ x. spells text x × (judge x ≡ Ok q)) (same q e) (l, e)
answers_by spells judge text r (Err (Syntax at)) l only same e = absurd (subst Only e only)
answers_by spells judge text r (Err (Range field value)) l only same e = (r, l, e)
answers_by spells judge text r (Err (Shape size)) l only same e = (r, l, e)
answers_by spells judge text r (Err (LanesLine lanes line)) l only same e = (r, l, e)
answers_by spells judge text r (Err (NotUnit gcd)) l only same e = (r, l, e)

judged_same : (r q : Request) → judged r ≡ Ok q → r ≡ q
judged_same r q e =
    let s = passes (tested r) (Ok r) q e in
    let same : r ≡ q = cc in
    same

pub judged_answers : (text : List ℕ) (r : Request) (out : Result Request RequestFault) → request_line text r
    → judged r ≡ out → Answers text out
judged_answers text r out l e = answers_by request_line judged text r out l (judged_only r) (judged_same r) e

conv_same : (r q : Request) → judged_conv r ≡ Ok q → r ≡ q
conv_same r q e =
    let s = passes (tested r) (coprime r.size r.modulus >> Ok r) q e in
    let t = passes (coprime r.size r.modulus) (Ok r) q s.1 in
    let same : r ≡ q = cc in
    same

pub conv_judged_answers : (text : List ℕ) (r : Request) (out : Result Request RequestFault) → conv_line text r
    → judged_conv r ≡ out → ConvAnswers text out
conv_judged_answers text r out l e =
    answers_by conv_line judged_conv text r out l (judged_conv_only r) (conv_same r) e

-- ---- what has no fault is in range

pub passed_in_range : (text : List ℕ) (r : Request) → request_line text r → judged r ≡ Ok r → IsInRange r
passed_in_range text r l e = in_range r (request_said text r l) (passes (tested r) (Ok r) r e).0

pub conv_in_range : (text : List ℕ) (r : Request) → conv_line text r → judged_conv r ≡ Ok r → IsConvRequest r
conv_in_range text r l e =
    let a = conv_said text r l in
    let s = passes (tested r) (coprime r.size r.modulus >> Ok r) r e in
    let t = passes (coprime r.size r.modulus) (Ok r) r s.1 in
    let v = in_range r (subst (IsSaid r) (sym a.dimensions) tt) s.0 in record {
      in_range = v;
      kind = a.kind;
      dimensions = a.dimensions;
      procs = a.procs;
      line = a.line;
      lanes = a.lanes;
      unit = coprime_is r.size r.modulus v.size.0 t.0;
    }

pub answered_in_range : (text : List ℕ) (out : Result Request RequestFault) → Answers text out → IfOk out IsInRange
answered_in_range text (Ok r) p = passed_in_range text r p.0 p.1
answered_in_range text (Err fault) p = tt

pub conv_answered_in_range : (text : List ℕ) (out : Result Request RequestFault) → ConvAnswers text out
    → IfOk out IsConvRequest
conv_answered_in_range text (Ok r) p = conv_in_range text r p.0 p.1
conv_answered_in_range text (Err fault) p = tt
