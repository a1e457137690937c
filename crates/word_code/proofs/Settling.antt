-- One step of settling, as the code does it.
use Rattle.std.proofs.Common.{◌≡◌, ℕ, zero, suc, ◌+◌, ◌-◌, ◌*◌, ◌<◌, ◌≤◌, List, [], ◌∷◌, ◌++◌, Bool, true, false, cond}
use Rattle.std.proofs.Common.{refl, subst, sym, ap, ap₂, ◌∙◌, ◌/◌, arith, append_assoc}
use Rattle.std.specs.Prelude.{nat_le, slice_set}
use Rattle.std.proofs.lemmas.Bool.Decides.{nat_tests}
use Rattle.std.proofs.lemmas.List.{append-nil}
use Rattle.word_code.specs.declared.program.Reduction.{Reduction}
use Rattle.word_code.proofs.Reduce.{set_lower, half_under}
use Rattle.word_code.specs.Quicken.{bound_at, half_up, greater, Settled, then_settled, settled}

settled_goes : (m limit times x y target : ℕ) (bounds : List ℕ) → 0 < times →
    target < bound_at limit bounds x + bound_at limit bounds y →
    settled m limit times x y target bounds
    ≡ then_settled (record { register = greater limit x y bounds; amount = half_up (bound_at limit bounds (greater limit x y bounds)) * m })
    (settled m limit (times - 1) x y target (slice_set bounds (greater limit x y bounds) (half_up (bound_at limit bounds (greater limit x y bounds)))))
settled_goes m limit zero x y target bounds some over = absurd (omega arith)
settled_goes m limit (suc n) x y target bounds some over =
    let no : nat_le (bound_at limit bounds x + bound_at limit bounds y) target ≡ false = grind (arith, nat_tests) in
    let stay : Settled = record { reductions = []; bounds = bounds } in
    let r = greater limit x y bounds in
    let h = half_up (bound_at limit bounds r) in
    let one : suc n - 1 ≡ n = omega arith in
    ap (λ b. cond b stay (then_settled (record { register = r; amount = h * m }) (settled m limit n x y target (slice_set bounds r h)))) no
    ∙ ap (λ k. then_settled (record { register = r; amount = h * m }) (settled m limit k x y target (slice_set bounds r h))) (sym one)

-- what is settled once the reductions so far are done
abbrev pub behind : List Reduction → Settled → Settled
behind rs s = record { reductions = rs ++ s.reductions; bounds = s.bounds }

-- a turn of the loop
module _ (m limit times x y target of_left of_right register b : ℕ) (bounds next : List ℕ) (some : 0 < times)
    (over : target < of_left + of_right) (left : of_left ≡ bound_at limit bounds x)
    (right : of_right ≡ bound_at limit bounds y) (which : register ≡ greater limit x y bounds)
    (at : b ≡ bound_at limit bounds register) (is : next ≡ slice_set bounds register ((b + 1) / 2)) where
  abbrev made : Reduction
  made = record { register = register; amount = (b + 1) / 2 * m }

  step : settled m limit times x y target bounds ≡ then_settled made (settled m limit (times - 1) x y target next)
  step =
      let done : ℕ → ℕ → Settled =
      λ r h. then_settled (record { register = r; amount = h * m })
      (settled m limit (times - 1) x y target (slice_set bounds r h)) in
      let same : b ≡ bound_at limit bounds (greater limit x y bounds) = at ∙ ap (bound_at limit bounds) which in
      settled_goes m limit times x y target bounds some (omega (arith, over, left, right))
      ∙ ap₂ done (sym which) (ap half_up (sym same))
      ∙ ap (λ ns. then_settled made (settled m limit (times - 1) x y target ns)) (sym is)

  pub turn : (less : ℕ) (old new : List Reduction) (whole : Settled) → less ≡ times - 1 → new ≡ old ++ made ∷ [] →
      whole ≡ behind old (settled m limit times x y target bounds) →
      whole ≡ behind new (settled m limit less x y target next)
  turn less old new whole one was all =
      let rest = settled m limit (times - 1) x y target next in
      let front : List Reduction → Settled = λ rs. record { reductions = rs; bounds = rest.bounds } in
      all
      ∙ ap (behind old) step
      ∙ ap front (sym (append_assoc old (made ∷ []) rest.reductions))
      ∙ ap₂ (λ rs k. behind rs (settled m limit k x y target next)) (sym was) (sym one)

-- no more is needed
pub over : (m limit times x y target : ℕ) (bounds : List ℕ) (done : List Reduction) (whole : Settled) →
    bound_at limit bounds x + bound_at limit bounds y ≤ target →
    whole ≡ behind done (settled m limit times x y target bounds) → whole ≡ record { reductions = done; bounds = bounds }
over m limit times x y target bounds done whole le all =
    all ∙ ap (behind done) (stays times) ∙ ap (λ rs. let s : Settled = record { reductions = rs; bounds = bounds } in s) (append-nil done)
  where
    stays : (n : ℕ) → settled m limit n x y target bounds ≡ record { reductions = []; bounds = bounds }
    stays zero = refl
    stays (suc n) =
        let r = greater limit x y bounds in
        let h = half_up (bound_at limit bounds r) in
        let yes : nat_le (bound_at limit bounds x + bound_at limit bounds y) target ≡ true = grind (arith, nat_tests) in
        ap (λ b. cond b (record { reductions = []; bounds = bounds }) (then_settled (record { register = r; amount = h * m }) (settled m limit n x y target (slice_set bounds r h)))) yes

-- no bound passes the limit
pub halved_sane : (limit register b : ℕ) (bounds next : List ℕ) → b ≡ bound_at limit bounds register →
    next ≡ slice_set bounds register ((b + 1) / 2) → ((r : ℕ) → bound_at limit bounds r ≤ limit) →
    (r : ℕ) → bound_at limit next r ≤ limit
halved_sane limit register b bounds next at is sane r =
    let under : (b + 1) / 2 ≤ bound_at limit bounds register = subst (λ v. (b + 1) / 2 ≤ v) at (half_under b) in
    let lower = set_lower limit bounds register ((b + 1) / 2) r under in
    let was = sane r in
    let place = ap (λ bs. bound_at limit bs r) is in
    omega (arith, lower, was, place)

pub settled_sane : (m limit n x y target : ℕ) (bounds : List ℕ) → ((r : ℕ) → bound_at limit bounds r ≤ limit) →
    (r : ℕ) → bound_at limit (settled m limit n x y target bounds).bounds r ≤ limit
settled_sane m limit zero x y target bounds sane = sane
settled_sane m limit (suc n) x y target bounds sane =
    let g = greater limit x y bounds in
    let h = half_up (bound_at limit bounds g) in
    let under = half_under (bound_at limit bounds g) in
    let next = settled_sane m limit n x y target (slice_set bounds g h) (λ q. let a = set_lower limit bounds g h q under in let b = sane q in omega (arith, a, b)) in
    either (nat_le (bound_at limit bounds x + bound_at limit bounds y) target) (record { reductions = []; bounds = bounds }) (then_settled (record { register = g; amount = h * m }) (settled m limit n x y target (slice_set bounds g h))) sane next
  where
    either : (b : Bool) (s t : Settled) → ((r : ℕ) → bound_at limit s.bounds r ≤ limit) →
        ((r : ℕ) → bound_at limit t.bounds r ≤ limit) → (r : ℕ) → bound_at limit (cond b s t).bounds r ≤ limit
    either true s t a b = a
    either false s t a b = b
