-- How the steps of a layout are cut for p processors, on lists of n words (Franchetti et al., 2006).
use Rattle.std.specs.Prelude.{ℕ, suc, ◌/◌, ◌==◌, Bool, true, false, if◌then◌else◌, List, [], ◌∷◌, length, take, drop}
use Rattle.std.specs.Prelude.{Option, None}
use Rattle.std.specs.List.{flat_map}
use Rattle.smp_rewrite.specs.Layout.Tree.{Layout}
use Rattle.smp_rewrite.specs.Layout.Whole.{Whole}
use Rattle.operators.specs.declared.target.Target.{Target}
use Rattle.smp_rewrite.specs.Layout.Step.{PlainCore, piece, turns, twiddles, thomas_in, thomas_out, PlainStep}
use Rattle.smp_rewrite.specs.Layout.Step.{step, steps_of}
use Rattle.operators.specs.declared.paths.Tensor.TheVariants.{Blocks, Columns}
use Rattle.operators.specs.Paths.Tensors.{Path}
use Rattle.smp_rewrite.specs.Smp.{PlainFactor, blocks, diagonals, move_before, move_after, PlainSmp, within}

-- a permutation of whole lines or a diagonal, as it is
abbrev pub whole_factor : Path → PlainCore → PlainFactor
whole_factor path (piece w) = blocks (step path (piece w))
whole_factor path (turns r s) = move_before (step path (turns r s))
whole_factor path (twiddles r s w) = diagonals (step path (twiddles r s w))
whole_factor path (thomas_in r s) = move_before (step path (thomas_in r s))
whole_factor path (thomas_out r s) = move_after (step path (thomas_out r s))

-- The root's permutation L(r * s, r) is `(I_p tensor L(r * s / p, r / p)) (L(p * s, p) tensor
-- I_(r / p))`. In its right part `I_r tensor A` is `I_p tensor (I_(r / p) tensor A)`. In its left
-- part, for A of size m = n / s, `A tensor I_s` is `(L(m * p, m) tensor I_(s / p)) (I_p tensor (A
-- tensor I_(s / p))) (L(m * p, p) tensor I_(s / p))`; its permutations move whole lines.
abbrev pub cut_factors : ℕ → ℕ → Path → PlainCore → List PlainFactor
cut_factors n p [] (turns r s) =
    move_before (step (within (Columns (r / p)) []) (turns p s)) ∷ blocks (step [] (turns (r / p) s)) ∷ []
cut_factors n p [] core = whole_factor [] core ∷ []
cut_factors n p (Blocks r ∷ path) core = blocks (step (within (Blocks (r / p)) path) core) ∷ []
cut_factors n p (Columns s ∷ path) (piece w) =
    move_before (step (within (Columns (s / p)) []) (turns p (n / s)))
    ∷ blocks (step (within (Columns (s / p)) path) (piece w))
    ∷ move_after (step (within (Columns (s / p)) []) (turns (n / s) p)) ∷ []
cut_factors n p (Columns s ∷ path) core = whole_factor (Columns s ∷ path) core ∷ []

-- the factors of a step; with one processor it is one block
abbrev pub factors_of : ℕ → ℕ → PlainStep → List PlainFactor
factors_of n p s = if p == 1 then blocks s ∷ [] else cut_factors n p s.path s.core

-- whether a path is one of the root's left part
abbrev pub is_left : Path → Bool
is_left [] = false
is_left (Blocks r ∷ path) = false
is_left (Columns s ∷ path) = true

-- how many steps come before those of the root's left part
abbrev pub right_count : List PlainStep → ℕ
right_count [] = 0
right_count (s ∷ ss) = if is_left s.path then 0 else suc (right_count ss)

-- how many steps the processors do before they wait for one another; one processor does all
abbrev pub first_count : ℕ → List PlainStep → ℕ
first_count p ss = if p == 1 then length ss else right_count ss

-- the formula of steps for a machine, with a factor at the end
abbrev pub closed_cut : Target → List PlainStep → Option ℕ → PlainSmp
closed_cut h ss factor = record {
  target = h;
  first = flat_map (factors_of h.size h.procs) (take (first_count h.procs ss) ss);
  second = flat_map (factors_of h.size h.procs) (drop (first_count h.procs ss) ss);
  closing = factor;
}

abbrev pub cut : Target → List PlainStep → PlainSmp
cut h ss = closed_cut h ss None

-- the formula of a layout, and that of a whole
abbrev pub layout_smp : Target → Layout → PlainSmp
layout_smp h l = cut h (steps_of [] l)

abbrev pub smp_of : Target → Whole → PlainSmp
smp_of h w = record (layout_smp h w.layout) { closing = w.factor }
