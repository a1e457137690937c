-- What holds of certificates and of verdicts.
use Rattle.std.specs.Prelude.{◌≡◌, ℕ, List}
use Rattle.matrix_meaning.specs.declared.Dimensions.TheVariants.{One}
use Rattle.matrix_meaning.specs.declared.Request.{Request}
use Rattle.matrix_meaning.specs.Parts.{forward_of}
use Rattle.matrix_meaning.specs.Valid.{IsInRange, IsValid}
use Rattle.tree_model.specs.Chosen.{CanDivideWhole, IsWholeLeast, closing_cost}
use Rattle.plan_cert.specs.declared.verdict.Verdict.{Verdict}
use Rattle.plan_cert.specs.Found.{IsRight}
use Rattle.plan_cert.specs.Table.{IsTableText}
use Rattle.plan_cert.specs.Verdict.{IsVerdict}

-- where costs are right, each by the costs of smaller nodes, that of the size is the request's by its cheapest trees
abbrev pub RightCostsAreLeast : Type 0
RightCostsAreLeast =
    (c : Request) (costs : ℕ → ℕ) → c.dimensions ≡ One →
    IsRight (forward_of c) (closing_cost c) costs → IsWholeLeast c (costs c.size)

-- a text has one verdict
abbrev pub VerdictsAreOne : Type 0
VerdictsAreOne = (c : Request) (text : List ℕ) (v w : Verdict) → IsVerdict c text v → IsVerdict c text w → v ≡ w

-- a request has one certificate
abbrev pub CertificatesAreOne : Type 0
CertificatesAreOne = (c : Request) (text other : List ℕ) → IsTableText c text → IsTableText c other → text ≡ other

-- each text has one
abbrev pub VerdictsExist : Type 0
VerdictsExist = (c : Request) (text : List ℕ) → IsInRange c → (v : Verdict) × IsVerdict c text v

-- each valid request that admits a tree has one
abbrev pub CertificatesExist : Type 0
CertificatesExist = (c : Request) → IsValid c → CanDivideWhole c → (text : List ℕ) × IsTableText c text
