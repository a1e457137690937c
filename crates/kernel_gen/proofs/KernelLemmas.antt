-- Kernels on the machine.
use Rattle.std.proofs.Common.{◌≡◌, ℕ, ◌*◌, ◌<◌, ◌≤◌, ap, ◌∙◌, List, map}
use Rattle.std.proofs.lemmas.List.FromFn.{fill_by_all}
use Rattle.icode.specs.Sequences.Lanes.{Registers, lane_of}
use Rattle.icode.proofs.SequenceLemmas.ByLane.{arithmetic_is_by_lane, weighted_is_by_lane}
use Rattle.icode.specs.Machine.{counts_of, weighted}
use Rattle.icode.proofs.SequenceLemmas.Placing.{slice_index-map, length-mapped}
use Rattle.matrix_meaning.specs.declared.Kind.{Kind}
use Rattle.matrix_meaning.specs.declared.Kind.TheVariants.{Dft, Wht, Idft}
use Rattle.matrix_meaning.specs.Kind.{transform}
use Rattle.operators.specs.Operator.{Operator}
use Rattle.operators.specs.Sum.{list_below}
use Rattle.operators.proofs.Lists.{length-list_below, at-list_below}
use Rattle.tree_model.specs.Breakdown.{Breakdown, leaf, node, size_of, IsWellFormed}
use Rattle.kernel_gen.specs.Kernel.{tree_make, kernel_of}
use Rattle.tree_model.specs.KernelCosts.{IsRoot, AllowsRoot, kernel_cost}
use Rattle.kernel_gen.specs.KernelOps.{actions_by}
use Rattle.kernel_gen.specs.Kernels.{IsStraight, Transforms}
use Rattle.kernel_gen.specs.Making.{Made}
use Rattle.kernel_gen.proofs.Below.{AllBelow, AllBelow-all, AllBelow-at}
use Rattle.kernel_gen.proofs.KernelOps.{AreWithin-more, actions-arithmetic, actions-cost, actions-effect}
use Rattle.kernel_gen.proofs.Pieces.{Does, DoesAt}
use Rattle.kernel_gen.proofs.Trees.{does-leaf, does-tree}

-- the first registers
abbrev pub firsts : ℕ → List ℕ
firsts n = list_below n (λ k. k)

pub firsts-below : (n : ℕ) → AllBelow n (firsts n)
firsts-below n =
    AllBelow-at n (firsts n) (λ i within.
    let inside : i < n = rw (length-list_below n (λ k. k)) at within in
    rw (at-list_below n (λ k. k) i inside) inside)

pub map-firsts : (g : ℕ → ℕ) (n : ℕ) → map g (firsts n) ≡ list_below n g
map-firsts g n =
    fill_by_all g (map g (firsts n)) n 0 (length-mapped g (firsts n) ∙ length-list_below n _)
    (λ i below. slice_index-map g (firsts n) i (rw (length-list_below n (λ k. k)) below) ∙ ap g (at-list_below n (λ k. k) i below))

firsts-residues : (g : ℕ → ℕ) (m n : ℕ) → ((k : ℕ) → k < n → g k < m) → AllBelow m (map g (firsts n))
firsts-residues g m n small =
    rw (map-firsts g n) (AllBelow-at m (list_below n g) (λ i within.
    let inside : i < n = rw (length-list_below n g) at within in
    rw (at-list_below n g i inside) (small i inside)))

-- a root of the size is one that a rule may take apart
pub root-any : (kind : Kind) (m : ℕ) (t : Breakdown) (w : ℕ) → IsRoot kind m (size_of t) w → AllowsRoot m w kind t
root-any Wht m t w root = tt
root-any Dft m (leaf d) w root = tt
root-any Dft m (node rule a b) w root = root
root-any Idft m (leaf d) w root = tt
root-any Idft m (node rule a b) w root = root

pub does-any : (m weight : ℕ) (kind : Kind) (t : Breakdown) (w : ℕ) → 2 ≤ m → IsWellFormed kind t →
    AllowsRoot m w kind t →
    Does m weight (size_of t) (size_of t) (kernel_cost weight m kind t w) (tree_make m kind t w)
    (transform kind m (size_of t) w)
does-any m weight Wht t w modulus formed root = does-tree m weight modulus Wht t w formed tt
does-any m weight Dft (leaf d) w modulus formed root = does-leaf m weight modulus Dft d w formed
does-any m weight Dft (node rule a b) w modulus formed root = does-tree m weight modulus Dft (node rule a b) w formed root
does-any m weight Idft (leaf d) w modulus formed root = absurd formed
does-any m weight Idft (node rule a b) w modulus formed root = absurd formed.0.allowed

-- what the kernel of a tree does
kernel-does : (m weight : ℕ) (kind : Kind) (t : Breakdown) (w : ℕ) → 2 ≤ m → IsWellFormed kind t →
    AllowsRoot m w kind t →
    DoesAt m weight (size_of t) (kernel_cost weight m kind t w) (firsts (size_of t)) (size_of t) (kernel_of m kind t w)
    (transform kind m (size_of t) w)
kernel-does m weight kind t w modulus formed root =
    (does-any m weight kind t w modulus formed root).at (firsts (size_of t)) (size_of t) (length-list_below (size_of t) _) (firsts-below (size_of t))

module _ (m n : ℕ) (made : Made) (f : Operator) where
  -- in each lane its outputs are what it makes of the first registers, and it leaves the memory
  pub does_transform : (lanes price : ℕ) → DoesAt m 1 n price (firsts n) n made f → Transforms m lanes n f made
  does_transform lanes price done regs s room wide =
      let by_lane = arithmetic_is_by_lane m lanes regs (actions_by lanes made.code) s
      (actions-arithmetic m regs lanes made.code (AreWithin-more m made.next regs made.code room done.within)) wide in (
        by_lane.0,
        λ lane there small.
            let g : Registers = lane_of lanes s.registers lane in
            ap (λ (h : Registers). map h made.outs) (by_lane.1 lane there ∙ actions-effect m lanes lane made.code g there)
            ∙ done.values g (firsts-residues g m n small)
            ∙ ap f (map-firsts g n),
      )

  -- with exactly `price` operations in each lane, where a multiplication counts as `weight` of them
  pub does_cost : (weight lanes price : ℕ) → 0 < weight → DoesAt m weight n price (firsts n) n made f →
      weighted weight (counts_of lanes (actions_by lanes made.code)) ≡ lanes * price
  does_cost weight lanes price counted done =
      weighted_is_by_lane weight lanes (actions_by lanes made.code) counted
      ∙ ap (λ k. lanes * k) (actions-cost weight lanes made.code ∙ done.costs)

  -- on its own registers alone
  pub does_straight : (weight price : ℕ) → DoesAt m weight n price (firsts n) n made f → IsStraight m n made
  does_straight weight price done =
      record {
        within = done.within;
        outputs = AllBelow-all made.next made.outs done.below;
        registers = done.next_is;
      }

-- a transform by its definition
pub definition_does : (m weight d w : ℕ) → 2 ≤ m → 1 ≤ d →
    DoesAt m weight d (kernel_cost weight m Dft (leaf d) w) (firsts d) d (kernel_of m Dft (leaf d) w)
    (transform Dft m d w)
definition_does m weight d w modulus some = kernel-does m weight Dft (leaf d) w modulus some tt
