-- A text has one verdict.
use Rattle.std.proofs.Common.{◌≡◌, ℕ, ◌+◌, ◌≤◌, List, [], ◌∷◌, get_or, Option, None, Some, refl, sym, ap, ap₂, ◌∙◌}
use Rattle.std.proofs.Common.{subst, inl, inr, arith}
use Rattle.std.proofs.lemmas.Bool.{cases_order}
use Rattle.serde_json.specs.Data.{Data, Items, no_items, item}
use Rattle.serde_json.specs.Find.{as_array}
use Rattle.matrix_meaning.specs.declared.Dimensions.{Dimensions}
use Rattle.matrix_meaning.specs.declared.Dimensions.TheVariants.{One}
use Rattle.matrix_meaning.specs.declared.Request.{Request}
use Rattle.matrix_meaning.specs.Parts.{forward_of, parts_of}
use Rattle.tree_model.specs.Chosen.{closing_cost}
use Rattle.plan_cert.specs.declared.certificate.Row.{Row}
use Rattle.plan_cert.specs.declared.certificate.WrongRow.{WrongRow}
use Rattle.plan_cert.specs.declared.verdict.Verdict.{Verdict}
use Rattle.plan_cert.specs.declared.verdict.Verdict.TheVariants.{Least, Unread, Wrong}
use Rattle.plan_cert.specs.Found.{closing_at, IsFound, IsRowCost}
use Rattle.plan_cert.specs.Certificate.{cost_at, IsRightRow, IsWrong, HasFirstWrong}
use Rattle.plan_cert.specs.Document.{IsCertificate, IsJson}
use Rattle.plan_cert.specs.Laws.{VerdictsAreOne}
use Rattle.plan_cert.specs.Verdict.{combined, size_of_all, IsItemsVerdict, IsOptionVerdict, IsRightCertificate}
use Rattle.plan_cert.specs.Verdict.{IsTextVerdict, IsValueVerdict, IsWholeVerdict, IsWrongCertificate}
use Rattle.plan_cert.proofs.RightRows.{blank}

found_once : (c : Request) (costs : ℕ → ℕ) (d x y : ℕ) → IsFound c costs d x → IsFound c costs d y → x ≡ y
found_once c costs d x y h k =
    let one : x ≤ y = h.bound y k.reached in
    let other : y ≤ x = k.bound x h.reached in
    omega arith

cost_once : (c : Request) (closing : ℕ) (costs : ℕ → ℕ) (d x y : ℕ) → IsRowCost c closing costs d x
    → IsRowCost c closing costs d y → x ≡ y
cost_once c closing costs d x y (a, h, e) (b, k, f) =
    e ∙ ap (λ n. n + closing_at c closing d) (found_once c costs d a b h k) ∙ sym f

not_both : (c : Request) (closing : ℕ) (costs : ℕ → ℕ) (row : Row) (w : WrongRow) → IsWrong c closing costs row w
    → IsRightRow c closing costs row → ⊥
not_both c closing costs row w (size, given, other, inl found) h =
    other (cost_once c closing costs row.size w.found row.cost found h.found)
not_both c closing costs row w (size, given, other, inr (found, e)) h = other (e ∙ h.chosen)

found_same : (c : Request) (closing : ℕ) (costs : ℕ → ℕ) (row : Row) (v w : WrongRow)
    → IsWrong c closing costs row v → IsWrong c closing costs row w → v.found ≡ w.found
found_same c closing costs row v w (_, _, other_v, inl f) (_, _, other_w, inl g) =
    cost_once c closing costs row.size v.found w.found f g
found_same c closing costs row v w (_, _, other_v, inl f) (_, _, other_w, inr (g, e)) =
    absurd (other_v (cost_once c closing costs row.size v.found row.cost f g))
found_same c closing costs row v w (_, _, other_v, inr (f, e)) (_, _, other_w, inl g) =
    absurd (other_w (cost_once c closing costs row.size w.found row.cost g f))
found_same c closing costs row v w (_, _, other_v, inr (f, e)) (_, _, other_w, inr (g, k)) = e ∙ sym k

abbrev wrong_row : ℕ → ℕ → ℕ → WrongRow
wrong_row size given found = record { size = size; given = given; found = found }

same_wrong : (v w : WrongRow) → v.size ≡ w.size → v.given ≡ w.given → v.found ≡ w.found → v ≡ w
same_wrong v w e f g =
    ap (λ (n : ℕ). wrong_row n v.given v.found) e ∙ ap (λ (n : ℕ). wrong_row w.size n v.found) f ∙ ap (λ (n : ℕ). wrong_row w.size w.given n) g

first_once : (c : Request) (closing : ℕ) (rows : List Row) (v w : WrongRow) → HasFirstWrong c closing rows v
    → HasFirstWrong c closing rows w → v ≡ w
first_once c closing rows v w (i, h) (j, k) = elim (cases_order i j) [
  | inl same ↦
      let wrong : IsWrong c closing (cost_at rows) (get_or rows i blank) w =
      subst (λ (n : ℕ). IsWrong c closing (cost_at rows) (get_or rows n blank) w) (sym same) (k.here blank) in
      let right = h.here blank in
      same_wrong v w (right.0 ∙ sym wrong.0) (right.1 ∙ sym wrong.1)
      (found_same c closing (cost_at rows) (get_or rows i blank) v w right wrong)
  | inr (inl before) ↦
      absurd (not_both c closing (cost_at rows) (get_or rows i blank) v (h.here blank) (k.before i blank before))
  | inr (inr after) ↦
      absurd (not_both c closing (cost_at rows) (get_or rows j blank) w (k.here blank) (h.before j blank after))
]

rows_once : (c : Request) (d : Data) (rows others : List Row) → IsCertificate c d rows → IsCertificate c d others →
    rows ≡ others
rows_once c d rows others h k = let same : Some rows ≡ Some others = sym h.reads ∙ k.reads in cc

right_not_wrong : (c : Request) (d : Data) (cost : ℕ) (w : WrongRow) (rows others : List Row) →
    IsRightCertificate c d cost rows → IsWrongCertificate c d w others → ⊥
right_not_wrong c d cost w rows others h k =
    let first : HasFirstWrong (forward_of c) (closing_cost c) rows w =
    subst (λ (r : List Row). HasFirstWrong (forward_of c) (closing_cost c) r w)
    (sym (rows_once c d rows others h.certificate k.certificate)) k.first in
    not_both (forward_of c) (closing_cost c) (cost_at rows) (get_or rows first.0 blank) w (first.1.here blank)
    (h.right first.0 blank first.1.within)

-- the verdict on a wrong row
abbrev wrong_of : WrongRow → Verdict
wrong_of w = Wrong w.size w.given w.found

pub value_verdict : (c : Request) (d : Data) (v w : Verdict) → IsValueVerdict c d v → IsValueVerdict c d w → v ≡ w
value_verdict c d (Least x) (Least y) (rows, h) (others, k) =
    let same = rows_once c d rows others h.certificate k.certificate in
    ap Least (h.whole ∙ ap (λ (r : List Row). cost_at r c.size) same ∙ sym k.whole)
value_verdict c d (Least x) Unread (rows, h) k = absurd (k rows h.certificate)
value_verdict c d (Least x) (Wrong n y z) (rows, h) (others, k) = absurd (right_not_wrong c d x (wrong_row n y z) rows others h k)
value_verdict c d Unread (Least y) h (rows, k) = absurd (h rows k.certificate)
value_verdict c d Unread Unread h k = refl
value_verdict c d Unread (Wrong n y z) h (rows, k) = absurd (h rows k.certificate)
value_verdict c d (Wrong n x z) (Least y) (rows, h) (others, k) = absurd (right_not_wrong c d y (wrong_row n x z) others rows k h)
value_verdict c d (Wrong n y z) Unread (rows, h) k = absurd (k rows h.certificate)
value_verdict c d (Wrong n y z) (Wrong n' y' z') (rows, h) (others, k) =
    ap wrong_of (first_once (forward_of c) (closing_cost c) rows (wrong_row n y z) (wrong_row n' y' z') h.first
    (subst (λ (r : List Row). HasFirstWrong (forward_of c) (closing_cost c) r (wrong_row n' y' z'))
    (sym (rows_once c d rows others h.certificate k.certificate)) k.first))

-- a text is one value
json_once : (text : List ℕ) (x y : Data) → IsJson text x → IsJson text y → x ≡ y
json_once text x y h k = let same : Some x ≡ Some y = sym h.reads ∙ k.reads in cc

-- the verdict on a text's value is the text's
pub verdict_of_json : (judged : Data → Verdict → Type 0) (text : List ℕ) (d : Data) (v : Verdict) → IsJson text d →
    judged d v → IsTextVerdict judged text v
verdict_of_json judged text d (Least x) h k = (d, h, k)
verdict_of_json judged text d Unread h k = λ e other. subst (λ (x : Data). judged x Unread) (json_once text d e h other) k
verdict_of_json judged text d (Wrong n y z) h k = (d, h, k)

-- where a value has one verdict, so has a text
module _ (judged : Data → Verdict → Type 0) (once : (d : Data) (v w : Verdict) → judged d v → judged d w → v ≡ w)
    (text : List ℕ) where
  -- what the text's verdict says of its value
  of_value : (v : Verdict) (d : Data) → IsJson text d → IsTextVerdict judged text v → judged d v
  of_value (Least x) d h (e, k, p) = subst (λ y. judged y (Least x)) (json_once text e d k h) p
  of_value Unread d h k = k d h
  of_value (Wrong n y z) d h (e, k, p) = subst (λ x. judged x (Wrong n y z)) (json_once text e d k h) p

  pub text_verdict : (v w : Verdict) → IsTextVerdict judged text v → IsTextVerdict judged text w → v ≡ w
  text_verdict (Least x) w (d, h, p) k = once d (Least x) w p (of_value w d h k)
  text_verdict (Wrong n y z) w (d, h, p) k = once d (Wrong n y z) w p (of_value w d h k)
  text_verdict Unread (Least x) h (d, k, p) = once d Unread (Least x) (h d k) p
  text_verdict Unread Unread h k = refl
  text_verdict Unread (Wrong n y z) h (d, k, p) = once d Unread (Wrong n y z) (h d k) p

-- ---- of several dimensions

items_verdict : (ps : List Request) (xs : Items) (v w : Verdict) → IsItemsVerdict ps xs v → IsItemsVerdict ps xs w
    → v ≡ w
items_verdict [] no_items v w e f = e ∙ sym f
items_verdict [] (item x xs) v w e f = e ∙ sym f
items_verdict (p ∷ ps) no_items v w e f = e ∙ sym f
items_verdict (p ∷ ps) (item x xs) v w (a, b, h, k, e) (a', b', h', k', f) =
    e ∙ ap₂ (combined p.size (size_of_all ps)) (value_verdict p x a a' h h') (items_verdict ps xs b b' k k') ∙ sym f

option_verdict : (ps : List Request) (o : Option Items) (v w : Verdict) → IsOptionVerdict ps o v
    → IsOptionVerdict ps o w → v ≡ w
option_verdict ps None v w e f = e ∙ sym f
option_verdict ps (Some xs) v w h k = items_verdict ps xs v w h k

whole_verdict : (c : Request) (ds : Dimensions) (d : Data) (v w : Verdict) → IsWholeVerdict c ds d v
    → IsWholeVerdict c ds d w → v ≡ w
whole_verdict c One d v w h k = value_verdict c d v w h k
whole_verdict c ds d v w h k = option_verdict (parts_of c) (as_array d) v w h k

pub one_verdict : VerdictsAreOne
one_verdict c text v w h k = text_verdict (IsWholeVerdict c c.dimensions) (whole_verdict c c.dimensions) text v w h k
