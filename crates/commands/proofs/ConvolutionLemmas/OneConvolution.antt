-- A line orders one plan for convolutions, or is refused with one status.
use Rattle.std.proofs.Common.{◌≡◌, ◌<◌, ◌≤◌, ℕ, List, None, Some, Ok, Err, Result, sym, ap, ap₂, ◌∙◌, arith}
use Rattle.std.proofs.Common.{inl, inr}
use Rattle.std.proofs.lemmas.Bool.{cases_order}
use Rattle.std.specs.declared.option.Option.{Option}
use Rattle.matrix_meaning.specs.Convolution.{IsFirstBadPower}
use Rattle.generate.specs.ConvPlanned.{IsConvPlanned, both_halves}
use Rattle.generate_faults.specs.declared.conv_fault.ConvFault.{ConvFault}
use Rattle.generate_faults.specs.declared.conv_fault.ConvFault.TheVariants as conv
use Rattle.plan_search.proofs.OneTree.{whole_once}
use Rattle.plan_search.proofs.WholeChosen.{whole_least_once}
use Rattle.matrix_meaning.specs.declared.Request.{Request}
use Rattle.matrix_meaning.specs.Parts.{bad_power}
use Rattle.request_text.specs.declared.RequestFault.{RequestFault}
use Rattle.request_text.proofs.OneAnswer.{one_conv_answer}
use Rattle.spiral_words.specs.Statuses.Fault.{status_of_conv, status_of_request}
use Rattle.tree_model.specs.Breakdown.{Breakdown}
use Rattle.tree_model.specs.Chosen.{whole_cost}
use Rattle.commands.specs.Input.Commands.{admitted, first_stranger}
use Rattle.commands.specs.Equations.Convolutions.{conv_spelt, conv_chosen, conv_planned}
use Rattle.commands.specs.Equations.Orders.{turned}
use Rattle.commands.specs.Input.Stage.{◌>>=◌}
use Rattle.commands.proofs.DocumentLemmas.{with_tree}
use Rattle.commands.proofs.Inputs.Stages.{IsDecided, done, ended, given_decided, bind_decided}

-- The line

abbrev pub the_request : Request → Result Request RequestFault
the_request r = Ok r

abbrev pub the_fault : RequestFault → Result Request RequestFault
the_fault fault = Err fault

pub same_request : (a b : Request) → the_request a ≡ the_request b → a ≡ b
same_request a b e = cc

pub same_fault : (f g : RequestFault) → the_fault f ≡ the_fault g → f ≡ g
same_fault f g e = cc

pub request_clash : (a : Request) (f : RequestFault) → the_request a ≡ the_fault f → ⊥
request_clash a f e = absurd (cc)

conv_spelt_decided : (line : List ℕ) → IsDecided (conv_spelt line)
conv_spelt_decided line (Ok a) (Ok b) p q = ap done (same_request a b (one_conv_answer line (Ok a) (Ok b) p q))
conv_spelt_decided line (Ok a) (Err t) p q = absurd (request_clash a q.0 (one_conv_answer line (Ok a) (Err q.0) p q.1))
conv_spelt_decided line (Err s) (Ok b) p q = absurd (request_clash b p.0 (one_conv_answer line (Ok b) (Err p.0) q p.1))
conv_spelt_decided line (Err s) (Err t) p q =
    let same = same_fault p.0 q.0 (one_conv_answer line (Err p.0) (Err q.0) p.1 q.1) in
    ap ended (p.2 ∙ ap status_of_request same ∙ sym q.2)

-- The plan

pub power_clash : (o : Option ℕ) (power : ℕ) → o ≡ None → o ≡ Some power → ⊥
power_clash o power p q = absurd (cc)

pub power_once : (o : Option ℕ) (j k : ℕ) → o ≡ Some j → o ≡ Some k → j ≡ k
power_once o j k p q = cc

plan_clash : (r : Request) (t : Breakdown) (fault : ConvFault) → IsConvPlanned r (Ok t) → IsConvPlanned r (Err fault) →
    ⊥
plan_clash r t (conv.Root power) p q = power_clash (bad_power r) power p.0 q
plan_clash r t (conv.NotPrincipal k) p q = q.1.bad (p.1 k q.1.from q.1.below)
plan_clash r t (conv.OverBudget cost budget) p q =
    let least = q.2.0 in
    let bound : least ≤ whole_cost r t = q.2.1.bound t p.2.tree in
    absurd (omega (arith, bound, p.3, q.2.2, q.3, q.4))
plan_clash r t conv.NoMemory p q = q

-- of two such places neither is less
bad_first : (m n w j k : ℕ) → IsFirstBadPower m n w j → IsFirstBadPower m n w k → j < k → ⊥
bad_first m n w j k p q less = p.bad (q.first j p.from less)

bad_once : (m n w j k : ℕ) → IsFirstBadPower m n w j → IsFirstBadPower m n w k → j ≡ k
bad_once m n w j k p q = elim (cases_order j k) [
  | inl same ↦ same
  | inr (inl less) ↦ absurd (bad_first m n w j k p q less)
  | inr (inr more) ↦ absurd (bad_first m n w k j q p more)
]

refusal_once : (r : Request) (f g : ConvFault) → IsConvPlanned r (Err f) → IsConvPlanned r (Err g) → f ≡ g
refusal_once r conv.NoMemory g p q = absurd p
refusal_once r f conv.NoMemory p q = absurd q
refusal_once r (conv.Root power) (conv.Root other) p q = ap conv.Root (power_once (bad_power r) power other p q)
refusal_once r (conv.Root power) g p q = absurd (power_clash (bad_power r) power q.0 p)
refusal_once r f (conv.Root power) p q = absurd (power_clash (bad_power r) power p.0 q)
refusal_once r (conv.NotPrincipal k) (conv.NotPrincipal j) p q = ap conv.NotPrincipal (bad_once r.modulus r.size r.root k j p.1 q.1)
refusal_once r (conv.NotPrincipal k) (conv.OverBudget cost budget) p q = absurd (p.1.bad (q.1 k p.1.from p.1.below))
refusal_once r (conv.OverBudget cost budget) (conv.NotPrincipal k) p q = absurd (q.1.bad (p.1 k q.1.from q.1.below))
refusal_once r (conv.OverBudget cost budget) (conv.OverBudget other limit) p q =
    ap₂ conv.OverBudget (p.2.2 ∙ ap (both_halves r) (whole_least_once r p.2.0 q.2.0 p.2.1 q.2.1) ∙ sym q.2.2) (p.3 ∙ sym q.3)

chosen_decided : (r : Request) → IsDecided (conv_chosen r)
chosen_decided r (Ok a) (Ok b) p q =
    ap done (ap₂ with_tree (p.0 ∙ sym q.0) (whole_once r a.tree b.tree p.1.2 q.1.2))
chosen_decided r (Ok a) (Err t) p q = absurd (plan_clash r a.tree q.0 p.1 q.1)
chosen_decided r (Err s) (Ok b) p q = absurd (plan_clash r b.tree p.0 q.1 p.1)
chosen_decided r (Err s) (Err t) p q = ap ended (p.2 ∙ ap status_of_conv (refusal_once r p.0 q.0 p.1 q.1) ∙ sym q.2)

pub conv_planned_decided : (names text : List ℕ) → IsDecided (conv_planned names text)
conv_planned_decided names text =
    bind_decided (conv_spelt text >>= turned names) _
    (bind_decided (conv_spelt text) _ (conv_spelt_decided text) (λ request. given_decided (admitted (first_stranger names request.procs) request.procs request)))
    chosen_decided
