-- The code of a sum of products.
use Rattle.std.proofs.Common.{◌≡◌, ℕ, ◌+◌, ◌-◌, ◌*◌, ◌%◌, ◌<◌, ◌≤◌, Bool, true, false, arith, refl, sym, ap, ap₂, ◌∙◌}
use Rattle.std.proofs.Common.{List, [], ◌∷◌, length, map, mod-lt, mul_comm, if◌then◌else◌}
use Rattle.std.specs.Prelude.{◌==◌}
use Rattle.std.proofs.Math.Nat.{one-mul, mod-eq_of_lt, mod-mod}
use Rattle.std.proofs.lemmas.Bool.{eqb-true}
use Rattle.icode.specs.Sequences.Lanes.{Registers, lane_effect}
use Rattle.icode.proofs.SequenceLemmas.ByLane.{this_register, other_register}
use Rattle.operators.specs.Operator.{Operator}
use Rattle.ring_mod.proofs.Congruence.{same-add}
use Rattle.ring_mod.proofs.LastResidue.{add_last_times}
use Rattle.kernel_gen.specs.declared.straight.KernelOp.TheVariants.{Add, Sub, Mul}
use Rattle.kernel_gen.specs.KernelOps.{action_by, code_effect, code_cost, AreWithin}
use Rattle.kernel_gen.specs.Making.{Made, Term, term_make, sum_make}
use Rattle.kernel_gen.specs.Ordered.{AreOrdered}
use Rattle.tree_model.specs.KernelCosts.{product_cost}
use Rattle.kernel_gen.proofs.Below.{AllBelow, AllBelow-more, map-agree}
use Rattle.kernel_gen.proofs.KernelOps.{AreWithin-more, AreWithin-append}
use Rattle.kernel_gen.proofs.Pieces.{DoesAt, code_effect-append, code_cost-append, length-code, ordered-append}

-- the entries from place l on, times the numbers
abbrev pub dot : (ℕ → ℕ) → ℕ → List ℕ → ℕ
dot e l [] = 0
dot e l (x ∷ xs) = e l * x + dot e (l + 1) xs

-- the first number, plus the entries times the others
abbrev pub sum_on : ℕ → (ℕ → ℕ) → ℕ → Operator
sum_on m e l [] = []
sum_on m e l (a ∷ xs) = ((a + dot e l xs) % m) ∷ []

abbrev pub sum_cost : ℕ → ℕ → (ℕ → ℕ) → ℕ → List ℕ → ℕ
sum_cost weight m e l [] = 0
sum_cost weight m e l (i ∷ ins) = 1 + product_cost weight m 0 (e l) + sum_cost weight m e (l + 1) ins

-- the code adds register i times c to register acc
record IsTerm (m weight price c acc i next : ℕ) (t : Term) : Type 0 where
  next_is : t.next ≡ next + length t.code
  from : next ≤ t.acc
  to : t.acc < t.next
  kept : (g : Registers) (r : ℕ) → r < next → code_effect m t.code g r ≡ g r
  within : AreWithin m t.next t.code
  ordered : AreOrdered next t.code
  costs : code_cost weight t.code ≡ 1 + price
  value : (g : Registers) → g i < m → code_effect m t.code g t.acc ≡ (g acc + c * g i) % m

module _ (m weight : ℕ) (positive : 0 < m) where
  is-term : (c acc i next : ℕ) → c < m → acc < next → i < next →
      IsTerm m weight (product_cost weight m 0 c) c acc i next (term_make m c acc i next)
  is-term c acc i next residue acc_in i_in = pick (c == 1) (c == m - 1) refl refl
    where
      pick : (one last : Bool) → (c == 1) ≡ one → (c == m - 1) ≡ last →
          IsTerm m weight (if one then 0 else (if last then 0 else weight)) c acc i next
          (if one then record { code = Add next acc i ∷ []; acc = next; next = next + 1 }
          else if last then record { code = Sub next acc i ∷ []; acc = next; next = next + 1 }
          else record { code = Mul next i c ∷ Add (next + 1) acc next ∷ []; acc = next + 1; next = next + 2 })
      pick true last is other =
          record {
            next_is = omega arith;
            from = omega arith;
            to = omega arith;
            kept = λ g r low. other_register g r next _ (omega arith);
            within = ((omega arith, omega arith, omega arith), tt);
            ordered = ((refl, acc_in, i_in), tt);
            costs = refl;
            value = λ g small.
                this_register g next ((g acc + g i) % m) ∙ ap (λ z. (g acc + z) % m) (sym (one-mul (g i))) ∙ ap (λ z. (g acc + z * g i) % m) (sym (eqb-true c 1 is));
          }
      pick false true other is =
          record {
            next_is = omega arith;
            from = omega arith;
            to = omega arith;
            kept = λ g r low. other_register g r next _ (omega arith);
            within = ((omega arith, omega arith, omega arith), tt);
            ordered = ((refl, acc_in, i_in), tt);
            costs = refl;
            value = λ g small.
                this_register g next ((g acc + (m - g i)) % m) ∙ sym (add_last_times m (g acc) (g i) positive (omega arith)) ∙ ap (λ z. (g acc + z * g i) % m) (sym (eqb-true c (m - 1) is));
          }
      pick false false other others =
          record {
            next_is = omega arith;
            from = omega arith;
            to = omega arith;
            kept = λ g r low. other_register (lane_effect m 0 (action_by 1 (Mul next i c)) g) r (next + 1) _ (omega arith) ∙ other_register g r next _ (omega arith);
            within = ((omega arith, omega arith, residue), ((omega arith, omega arith, omega arith), tt));
            ordered = ((refl, i_in), ((refl, omega arith, omega arith), tt));
            costs = omega arith;
            value = λ g small.
                let mid : Registers = lane_effect m 0 (action_by 1 (Mul next i c)) g in
                this_register mid (next + 1) ((mid acc + mid next) % m)
                ∙ ap₂ (λ x y. (x + y) % m) (other_register g acc next _ (omega arith)) (this_register g next ((g i * c) % m))
                ∙ same-add m (g acc) (g acc) ((g i * c) % m) (c * g i) refl (mod-mod (g i * c) m ∙ ap (λ z. z % m) (mul_comm (g i) c));
          }

  pub does-sum : (e : ℕ → ℕ) (l acc : ℕ) (ins : List ℕ) (next : ℕ) → ((i : ℕ) → e i < m) → AllBelow next (acc ∷ ins) →
      DoesAt m weight 1 (sum_cost weight m e l ins) (acc ∷ ins) next (sum_make m e l acc ins next) (sum_on m e l)
  does-sum e l acc [] next small under =
      record {
        next_is = omega arith;
        kept = λ g r low. refl;
        within = tt;
        ordered = tt;
        below = (under.0, tt);
        sized = refl;
        costs = refl;
        values = λ g residue. ap (λ z. z ∷ []) (sym (mod-eq_of_lt residue.0) ∙ ap (λ z. z % m) (omega arith));
      }
  does-sum e l acc (i ∷ ins) next small under =
      let t : Term = term_make m (e l) acc i next in
      let made : Made = sum_make m e (l + 1) t.acc ins t.next in
      let first : IsTerm m weight (product_cost weight m 0 (e l)) (e l) acc i next t = is-term (e l) acc i next (small l) under.0 under.1.0 in
      let from = first.from in
      let to = first.to in
      let step = first.next_is in
      let rest : DoesAt m weight 1 (sum_cost weight m e (l + 1) ins) (t.acc ∷ ins) t.next made (sum_on m e (l + 1)) =
      does-sum e (l + 1) t.acc ins t.next small (to, AllBelow-more next t.next ins (omega arith) under.1.1) in
      let last = rest.next_is in
      record {
        next_is = let all = length-code t.code made.code in omega arith;
        kept = λ g r low. ap (λ (z : Registers). z r) (code_effect-append m t.code made.code g) ∙ rest.kept (code_effect m t.code g) r (omega arith) ∙ first.kept g r low;
        within = AreWithin-append m made.next t.code made.code (AreWithin-more m t.next made.next t.code (omega arith) first.within) rest.within;
        ordered = ordered-append next t.next t.code made.code first.next_is first.ordered rest.ordered;
        below = rest.below;
        sized = rest.sized;
        costs = code_cost-append weight t.code made.code ∙ ap₂ (λ x y. x + y) first.costs rest.costs;
        values = λ g residue.
            let mid : Registers = code_effect m t.code g in
            let same : map mid ins ≡ map g ins = map-agree mid g next ins under.1.1 (λ r low. first.kept g r low) in
            let at : mid t.acc ≡ (g acc + e l * g i) % m = first.value g residue.1.0 in
            ap (λ (z : Registers). map z made.outs) (code_effect-append m t.code made.code g)
            ∙ rest.values mid (rw at (mod-lt _ positive), rw same residue.1.1)
            ∙ ap₂ (λ x xs. ((x + dot e (l + 1) xs) % m) ∷ []) at same
            ∙ ap (λ z. z ∷ []) (same-add m ((g acc + e l * g i) % m) (g acc + e l * g i) (dot e (l + 1) (map g ins)) (dot e (l + 1) (map g ins)) (mod-mod _ m) refl
            ∙ ap (λ z. z % m) (omega arith));
      }
