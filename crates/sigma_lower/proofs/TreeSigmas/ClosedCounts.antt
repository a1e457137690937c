-- The passes of an inverse in the cost model are those of the forward request, with products more in the last.
use Rattle.sigma_lower.proofs.Words.{◌≡◌, ℕ, ◌+◌, ◌*◌, false, List, [], ◌∷◌, Option, None, Some, refl, sym, ap, ◌∙◌}
use Rattle.sigma_lower.proofs.Words.{arith, subst, map, One, Kind, Dft, Idft, Request, forward_by, forward_of, IsValid}
use Rattle.sigma_lower.proofs.Words.{on_last, Dim, Breakdown, node, IsWholeTree, request_passes, map-map, factor_by}
use Rattle.sigma_lower.proofs.Words.{closed_by, cost_of_pass, flat_passes, loads_of_pass, pass_of}
use Rattle.matrix_meaning.specs.Parts.{inverted}
use Rattle.matrix_meaning.proofs.Parts.{is_of_one_size}
use Rattle.tree_model.specs.Cost.{mul_cost_of}
use Rattle.tree_model.specs.Passes.{Pass, nodes, tiles, pass_loads, twiddle_last, whole_passes, with_twiddles}
use Rattle.tree_model.specs.Whole.{IsTreeOf}
use Rattle.tree_model.specs.WholePasses.{pass_cost_in}
use Rattle.tree_model.proofs.PassLaws.{IsPlainAtEnd, IsPlainPass}
use Rattle.tree_model.proofs.WholeCosts.{whole_plain}
use Rattle.tree_model.proofs.FlatTrees.{IsFlat}

-- ---- a diagonal more in the last pass

-- the last number grown by a number
abbrev pub more_last : ℕ → List ℕ → List ℕ
more_last more cs = on_last (λ c. c + more) cs

-- and by what the products of n words with a factor cost
abbrev pub more_by : ℕ → ℕ → Option ℕ → List ℕ → List ℕ
more_by weight n None cs = cs
more_by weight n (Some v) cs = more_last (weight * n) cs

module _ (p : Request) (n : ℕ) where
  closed-cost : (pass : Pass) → IsPlainPass pass →
      pass_cost_in p n (with_twiddles pass) ≡ pass_cost_in p n pass + mul_cost_of p * n
  closed-cost (nodes count tree false) h = omega arith
  closed-cost (tiles false) h = omega arith
  closed-cost _ h = cc

  costs-last : (ps : List Pass) → IsPlainAtEnd ps →
      map (pass_cost_in p n) (twiddle_last ps) ≡ more_last (mul_cost_of p * n) (map (pass_cost_in p n) ps)
  costs-last [] h = absurd h
  costs-last (pass ∷ []) h = ap (λ x. x ∷ []) (closed-cost pass h)
  costs-last (pass ∷ q ∷ ps) h = ap (λ xs. pass_cost_in p n pass ∷ xs) (costs-last (q ∷ ps) h)

  closed-load : (pass : Pass) → pass_loads p n (with_twiddles pass) ≡ pass_loads p n pass
  closed-load (nodes count tree t) = refl
  closed-load (tiles t) = refl

  loads-last : (ps : List Pass) → map (pass_loads p n) (twiddle_last ps) ≡ map (pass_loads p n) ps
  loads-last [] = refl
  loads-last (pass ∷ []) = ap (λ x. x ∷ []) (closed-load pass)
  loads-last (pass ∷ q ∷ ps) = ap (λ xs. pass_loads p n pass ∷ xs) (loads-last (q ∷ ps))

  -- passes of the nodes of one request
  costs-of : (ps : List Pass) → map (cost_of_pass n) (map (pass_of p) ps) ≡ map (pass_cost_in p n) ps
  costs-of ps = map-map (cost_of_pass n) (pass_of p) ps

  loads-of : (ps : List Pass) → map (loads_of_pass n) (map (pass_of p) ps) ≡ map (pass_loads p n) ps
  loads-of ps = map-map (loads_of_pass n) (pass_of p) ps

-- ---- an inverse is of one size

flat-of : (p : Request) (t : Breakdown) → IsTreeOf p t → p.dimensions ≡ One → IsFlat t
flat-of p (node Dim a b) h one = h.2.0 one
flat-of p _ h one = tt

passes-flat : (c : Request) (t : Breakdown) → IsFlat t → request_passes c t ≡ flat_passes c t
passes-flat c (node Dim a b) flat = absurd flat
passes-flat c _ flat = refl

module _ (c : Request) (t : Breakdown) (valid : IsValid c) (tree : IsWholeTree c t) where
  module _ (inverse : c.kind ≡ Idft) where
    abbrev p : Request
    p = inverted c

    one : c.dimensions ≡ One
    one = is_of_one_size c valid.in_range (λ dft. let other : Idft ≡ Dft = sym inverse ∙ dft in cc)

    flat : IsFlat t
    flat = flat-of p t (subst (λ kind. IsTreeOf (forward_by kind c) t) inverse tree.tree) one

    closed-passes : request_passes c t ≡ map (pass_of p) (twiddle_last (whole_passes p t))
    closed-passes =
        passes-flat c t flat
        ∙ ap (λ kind. map (pass_of (forward_by kind c)) (closed_by kind (whole_passes (forward_by kind c) t))) inverse

    open-passes : request_passes p t ≡ map (pass_of p) (whole_passes p t)
    open-passes = passes-flat p t flat

    inverse-costs :
        map (cost_of_pass c.size) (request_passes c t)
        ≡ more_last (c.weight * c.size) (map (cost_of_pass c.size) (request_passes p t))
    inverse-costs =
        ap (map (cost_of_pass c.size)) closed-passes ∙ costs-of p c.size (twiddle_last (whole_passes p t))
        ∙ costs-last p c.size (whole_passes p t) (whole_plain p t)
        ∙ ap (more_last (c.weight * c.size))
        (sym (ap (map (cost_of_pass c.size)) open-passes ∙ costs-of p c.size (whole_passes p t)))

    inverse-loads :
        map (loads_of_pass c.size) (request_passes c t) ≡ map (loads_of_pass c.size) (request_passes p t)
    inverse-loads =
        ap (map (loads_of_pass c.size)) closed-passes ∙ loads-of p c.size (twiddle_last (whole_passes p t))
        ∙ loads-last p c.size (whole_passes p t)
        ∙ sym (ap (map (loads_of_pass c.size)) open-passes ∙ loads-of p c.size (whole_passes p t))

  -- ---- by the kind

  pub closed_costs :
      map (cost_of_pass c.size) (request_passes c t)
      ≡ more_by c.weight c.size (factor_by c.kind c) (map (cost_of_pass c.size) (request_passes (forward_of c) t))
  closed_costs = pick c.kind refl
    where
      pick : (kind : Kind) → c.kind ≡ kind →
          map (cost_of_pass c.size) (request_passes c t)
          ≡ more_by c.weight c.size (factor_by kind c)
          (map (cost_of_pass c.size) (request_passes (forward_by kind c) t))
      pick Idft is = inverse-costs is
      pick _ is = refl

  pub closed_loads :
      map (loads_of_pass c.size) (request_passes c t) ≡ map (loads_of_pass c.size) (request_passes (forward_of c) t)
  closed_loads = pick c.kind refl
    where
      pick : (kind : Kind) → c.kind ≡ kind →
          map (loads_of_pass c.size) (request_passes c t)
          ≡ map (loads_of_pass c.size) (request_passes (forward_by kind c) t)
      pick Idft is = inverse-loads is
      pick _ is = refl
