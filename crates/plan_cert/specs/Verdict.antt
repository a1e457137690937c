-- What is to be said of a certificate.
use Rattle.std.specs.Prelude.{◌≡◌, ℕ, ◌+◌, ◌*◌, List, [], ◌∷◌, Option, Some, None, All, map}
use Rattle.serde_json.specs.Data.{Data, Items, no_items, item}
use Rattle.serde_json.specs.Find.{as_array}
use Rattle.matrix_meaning.specs.declared.Dimensions.{Dimensions}
use Rattle.matrix_meaning.specs.declared.Dimensions.TheVariants.{One}
use Rattle.matrix_meaning.specs.declared.Request.{Request}
use Rattle.matrix_meaning.specs.Dimensions.{product_of}
use Rattle.matrix_meaning.specs.Parts.{forward_of, parts_of}
use Rattle.tree_model.specs.Chosen.{closing_cost}
use Rattle.plan_cert.specs.declared.certificate.Row.{Row}
use Rattle.plan_cert.specs.declared.certificate.WrongRow.{WrongRow}
use Rattle.plan_cert.specs.declared.verdict.Verdict.{Verdict}
use Rattle.plan_cert.specs.declared.verdict.Verdict.TheVariants.{Least, Unread, Wrong}
use Rattle.plan_cert.specs.Certificate.{cost_at, IsRightRow, HasFirstWrong}
use Rattle.plan_cert.specs.Document.{IsCertificate, IsJson}

-- ---- of one size

-- every row is right, and cost is that of the size
pub record IsRightCertificate (c : Request) (d : Data) (cost : ℕ) (rows : List Row) : Type 0 where
  pub certificate : IsCertificate c d rows
  pub right : All (IsRightRow (forward_of c) (closing_cost c) (cost_at rows)) rows
  pub whole : cost ≡ cost_at rows c.size

-- of the rows this is the first wrong one
pub record IsWrongCertificate (c : Request) (d : Data) (wrong : WrongRow) (rows : List Row) : Type 0 where
  pub certificate : IsCertificate c d rows
  pub first : HasFirstWrong (forward_of c) (closing_cost c) rows wrong

-- the verdict on a value
abbrev pub IsValueVerdict : Request → Data → Verdict → Type 0
IsValueVerdict c d (Least cost) = (rows : List Row) × IsRightCertificate c d cost rows
IsValueVerdict c d Unread = (rows : List Row) → IsCertificate c d rows → ⊥
IsValueVerdict c d (Wrong size given found) =
    (rows : List Row) × IsWrongCertificate c d (record { size = size; given = given; found = found }) rows

-- ---- of several dimensions

-- The verdict on a dimension of size r and others of size s, by the verdicts on each: all are to be read, then the
-- first wrong
-- row counts, and else the sum of the least costs, each for all places of the other
abbrev pub combined : ℕ → ℕ → Verdict → Verdict → Verdict
combined r s Unread v = Unread
combined r s u Unread = Unread
combined r s (Wrong size given found) v = Wrong size given found
combined r s (Least x) (Wrong size given found) = Wrong size given found
combined r s (Least x) (Least y) = Least (s * x + r * y)

-- the product of the sizes
abbrev pub size_of_all : List Request → ℕ
size_of_all ps = product_of (map (λ (p : Request). p.size) ps)

-- the verdict on the members of a list, one for each of these requests
abbrev pub IsItemsVerdict : List Request → Items → Verdict → Type 0
IsItemsVerdict [] no_items v = v ≡ Least 0
IsItemsVerdict (p ∷ ps) (item x xs) v =
    (a b : Verdict) × IsValueVerdict p x a × IsItemsVerdict ps xs b × (v ≡ combined p.size (size_of_all ps) a b)
IsItemsVerdict ps xs v = v ≡ Unread

-- the same where there may be no list
abbrev pub IsOptionVerdict : List Request → Option Items → Verdict → Type 0
IsOptionVerdict ps None v = v ≡ Unread
IsOptionVerdict ps (Some xs) v = IsItemsVerdict ps xs v

-- the verdict on a value that is to be a list of certificates, one for each dimension
abbrev pub IsListVerdict : Request → Data → Verdict → Type 0
IsListVerdict c d v = IsOptionVerdict (parts_of c) (as_array d) v

-- ---- of any request

abbrev pub IsWholeVerdict : Request → Dimensions → Data → Verdict → Type 0
IsWholeVerdict c One d v = IsValueVerdict c d v
IsWholeVerdict c several d v = IsListVerdict c d v

-- the verdict on a text is that on its value; a text that is no JSON is unread
abbrev pub IsTextVerdict : (Data → Verdict → Type 0) → List ℕ → Verdict → Type 0
IsTextVerdict judged text Unread = (d : Data) → IsJson text d → judged d Unread
IsTextVerdict judged text v = (d : Data) × IsJson text d × judged d v

abbrev pub IsVerdict : Request → List ℕ → Verdict → Type 0
IsVerdict c text v = IsTextVerdict (IsWholeVerdict c c.dimensions) text v
