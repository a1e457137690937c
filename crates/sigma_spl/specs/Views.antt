-- What the code's works, nests and merged passes stand for.
use Rattle.std.specs.Prelude.{map}
use Rattle.std.specs.Option.{option_map}
use Rattle.sigma_spl.specs.Merged.{PlainMerged}
use Rattle.sigma_spl.specs.Sigma.{PlainSigma}
use Rattle.sigma_spl.specs.Nest.{PlainFactors, values, twiddles, repeated, spread, PlainMultiplier, PlainNest}
use Rattle.sigma_spl.specs.Work.{PlainWork, kernel, rows, horner, tile, copy, node_of, short}
use Rattle.sigma_spl.specs.declared.nest.Factors.{Factors}
use Rattle.sigma_spl.specs.declared.nest.Factors.TheVariants.{Values, Twiddles, Repeated, Spread'}
use Rattle.sigma_spl.specs.declared.nest.Merged.{Merged}
use Rattle.sigma_spl.specs.declared.nest.Multiplier.{Multiplier}
use Rattle.sigma_spl.specs.declared.nest.Nest.{Nest}
use Rattle.sigma_spl.specs.declared.term.Sigma.{Sigma}
use Rattle.sigma_spl.specs.declared.term.Term.{Term}
use Rattle.sigma_spl.specs.declared.term.Term.TheVariants.{Same, Gath, Scat, DiagAt, Sum, Move, Compose', Beside'}
use Rattle.sigma_spl.specs.Term.{PlainTerm, same, gath, scat, diag, nest, move, product, beside}
use Rattle.index_fn.specs.Index.{mapping_of}
use Rattle.sigma_spl.specs.declared.work.Work.{Work}
use Rattle.sigma_spl.specs.declared.work.Work.TheVariants.{Kernel, Short, Dense, Horner, Tile, Copy}
use Rattle.perm_algebra.specs.Views.{plain_sum}
use Rattle.tree_model.specs.Breakdown.{breakdown_of}

abbrev pub plain_work : Work → PlainWork
plain_work (Kernel ctx tree) = kernel (node_of ctx (breakdown_of tree))
plain_work (Short kind root size) = kernel (short kind root size)
plain_work (Dense root size) = rows root size
plain_work (Horner root size) = horner root size
plain_work (Tile lanes) = tile lanes
plain_work (Copy size) = copy size

abbrev pub plain_factors : Factors → PlainFactors
plain_factors (Values entries) = values entries.items
plain_factors (Twiddles r s root) = twiddles r s root
plain_factors (Repeated value count) = repeated value count
plain_factors (Spread' path p factors) = spread path.items (plain_factors factors)

abbrev pub plain_multiplier : Multiplier → PlainMultiplier
plain_multiplier d = record { factors = plain_factors d.factors; places = map plain_sum d.places.items }

abbrev pub plain_nest : Nest → PlainNest
plain_nest z =
    record {
      counts = z.counts.items;
      work = plain_work z.work;
      gathers = map plain_sum z.gathers.items;
      multiplier = option_map plain_multiplier z.multiplier;
      scatters = map plain_sum z.scatters.items;
    }

abbrev pub plain_merged : Merged → PlainMerged
plain_merged m = record {
  size = m.size;
  procs = m.procs;
  lanes = m.lanes;
  phases = map (λ ps. map (λ zs. map plain_nest zs.items) ps.items) m.phases.items;
}

abbrev pub plain_term : Term → PlainTerm
plain_term Same = same
plain_term (Gath f) = gath (mapping_of f)
plain_term (Scat f) = scat (mapping_of f)
plain_term (DiagAt path factors) = diag path.items (plain_factors factors)
plain_term (Sum path work) = nest path.items (plain_work work)
plain_term (Move path places) = move path.items places.items
plain_term (Compose' p a q b) = product (plain_term a) (plain_term b)
plain_term (Beside' path n p a k q b) = beside path.items n (plain_term a) k (plain_term b)

abbrev pub plain_sigma : Sigma → PlainSigma
plain_sigma g = record { size = g.size; procs = g.procs; lanes = g.lanes; phases = map plain_term g.phases.items }
