-- What `check` answers for the bytes after the first line.
use Rattle.std.specs.Prelude.{◌≡◌, ℕ, ◌<◌, List, [], ◌∷◌, length, codes, decimal}
use Rattle.std.specs.List.{concat}
use Rattle.plan_cert.specs.declared.verdict.Verdict.{Verdict}
use Rattle.plan_cert.specs.declared.verdict.Verdict.TheVariants as verdict
use Rattle.spiral_words.specs.declared.statuses.status.Status.{Status}
use Rattle.spiral_words.specs.declared.statuses.status.Status.TheVariants.{Success, TooLong, Unread, Wrong}

-- how many bytes a certificate has at most
abbrev pub certificate_limit : ℕ
certificate_limit = 65536

abbrev pub status_of_verdict : Verdict → Status
status_of_verdict (verdict.Least cost) = Success
status_of_verdict verdict.Unread = Unread
status_of_verdict (verdict.Wrong size given found) = Wrong size given found

abbrev pub least_line : ℕ → List ℕ
least_line cost = concat (codes "least " ∷ decimal cost ∷ codes "\n" ∷ [])

-- only a right certificate has a text: the line of its cost
abbrev pub verdict_text : Verdict → List ℕ
verdict_text (verdict.Least cost) = least_line cost
verdict_text _ = []

-- bytes that are no certificate by their number alone
abbrev pub IsOverlong : List ℕ → Status → List ℕ → Type 0
IsOverlong bytes status text = (certificate_limit < length bytes) × (status ≡ TooLong certificate_limit) × (text ≡ [])
