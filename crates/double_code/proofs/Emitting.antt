-- Settling as the code does it, turn by turn.
use Rattle.std.proofs.Common.{◌≡◌, ℕ, zero, suc, ◌+◌, ◌<◌, ◌≤◌, List, [], ◌∷◌, ◌++◌, true, false, cond}
use Rattle.std.proofs.Common.{refl, sym, ap, ap₂, ◌∙◌, arith, append_assoc}
use Rattle.std.specs.Prelude.{nat_le, slice_set}
use Rattle.std.proofs.lemmas.Bool.Decides.{nat_tests}
use Rattle.std.proofs.lemmas.List.{append-nil}
use Rattle.double_code.specs.Doubled.{bound_at, greater, Settled, then_settled, settled_to, reduced_bound}

-- what is settled once these are reduced
abbrev pub behind : List ℕ → Settled → Settled
behind rs s = record { before = rs ++ s.before; bounds = s.bounds }

-- a turn of the loop
pub turn : (m times less x y target register : ℕ) (bounds next : List ℕ) (old new : List ℕ) (whole : Settled) →
    times ≡ suc less → target < bound_at m bounds x + bound_at m bounds y → register ≡ greater m x y bounds →
    next ≡ slice_set bounds register (reduced_bound m) → new ≡ old ++ register ∷ [] →
    whole ≡ behind old (settled_to m times x y target bounds) → whole ≡ behind new (settled_to m less x y target next)
turn m times less x y target register bounds next old new whole count over which is was all =
    let r = greater m x y bounds in
    let stay : Settled = record { before = []; bounds = bounds } in
    let no : nat_le (bound_at m bounds x + bound_at m bounds y) target ≡ false = grind (arith, nat_tests) in
    let rest = settled_to m less x y target next in
    let front : List ℕ → Settled = λ rs. record { before = rs; bounds = rest.bounds } in
    all
    ∙ ap (λ n. behind old (settled_to m n x y target bounds)) count
    ∙ ap (λ b. behind old (cond b stay
    (then_settled r (settled_to m less x y target (slice_set bounds r (reduced_bound m)))))) no
    ∙ ap₂ (λ q ns. behind old (then_settled q (settled_to m less x y target ns))) (sym which)
    (ap (λ q. slice_set bounds q (reduced_bound m)) (sym which) ∙ sym is)
    ∙ ap front (sym (append_assoc old (register ∷ []) rest.before))
    ∙ ap (λ rs. behind rs rest) (sym was)

-- no more is needed
pub over : (m times x y target : ℕ) (bounds done : List ℕ) (whole : Settled) →
    bound_at m bounds x + bound_at m bounds y ≤ target →
    whole ≡ behind done (settled_to m times x y target bounds) → whole ≡ record { before = done; bounds = bounds }
over m times x y target bounds done whole le all =
    all ∙ ap (behind done) (stays times)
    ∙ ap (λ rs. let s : Settled = record { before = rs; bounds = bounds } in s) (append-nil done)
  where
    stays : (n : ℕ) → settled_to m n x y target bounds ≡ record { before = []; bounds = bounds }
    stays zero = refl
    stays (suc n) =
        let r = greater m x y bounds in
        let yes : nat_le (bound_at m bounds x + bound_at m bounds y) target ≡ true = grind (arith, nat_tests) in
        ap (λ b. cond b (record { before = []; bounds = bounds })
        (then_settled r (settled_to m n x y target (slice_set bounds r (reduced_bound m))))) yes
