-- Nests that store, count and need the same.
use Rattle.std.proofs.Common.{◌≡◌, ℕ, ◌+◌, ◌*◌, ◌≤◌, refl, ap, ◌∙◌, List, ◌∷◌, All}
use Rattle.std.specs.Prelude.{map}
use Rattle.std.proofs.lemmas.List.Elements.{All-cons, All-head, All-tail}
use Rattle.sigma_spl.specs.Shared.Costs.{pass_loads, work_loads}
use Rattle.sigma_spl.specs.Shared.Ready.{diagonal_tables, nests_tables, work_tables}
use Rattle.sigma_spl.specs.Copies.{all_stored, hits, loops_of, stored}
use Rattle.sigma_spl.specs.Counts.{CopiesAreFree, copies_in, nest_cost, pass_cost}
use Rattle.sigma_spl.specs.Nest.{PlainNest, copies_of, store_place}
use Rattle.sigma_spl.specs.Work.{PlainWork, work_size}
use Rattle.sigma_spl.specs.PlainPasses.{IsPlainNest}
use Rattle.operators.specs.Paths.Loop.{loop_at}

pub record AreAlike (zs ys : List PlainNest) : Type 0 where
  pub stores : (m : ℕ) (x : List ℕ) (w : ℕ) → all_stored (map (copies_of m) zs) x w
      ≡ all_stored (map (copies_of m) ys) x w
  pub hit : (m w : ℕ) → hits (map (copies_of m) zs) w ≡ hits (map (copies_of m) ys) w
  pub costs : (weight : ℕ) (cost : PlainWork → ℕ) → CopiesAreFree cost →
      pass_cost weight cost zs ≡ pass_cost weight cost ys
  pub loads : pass_loads zs ≡ pass_loads ys
  pub tables : nests_tables zs ≡ nests_tables ys
  pub plain : (n m : ℕ) → n ≤ 1048576 → All (IsPlainNest n m) ys → All (IsPlainNest n m) zs

pub same : (zs : List PlainNest) → AreAlike zs zs
same zs =
    record {
      stores = λ m x w. refl;
      hit = λ m w. refl;
      costs = λ weight cost free. refl;
      loads = refl;
      tables = refl;
      plain = λ n m high all. all;
    }

pub then : (zs ys xs : List PlainNest) → AreAlike zs ys → AreAlike ys xs → AreAlike zs xs
then zs ys xs a b =
    record {
      stores = λ m x w. a.stores m x w ∙ b.stores m x w;
      hit = λ m w. a.hit m w ∙ b.hit m w;
      costs = λ weight cost free. a.costs weight cost free ∙ b.costs weight cost free;
      loads = a.loads ∙ b.loads;
      tables = a.tables ∙ b.tables;
      plain = λ n m high all. a.plain n m high (b.plain n m high all);
    }

-- after the same nest
pub behind : (z : PlainNest) (zs ys : List PlainNest) → AreAlike zs ys → AreAlike (z ∷ zs) (z ∷ ys)
behind z zs ys h =
    record {
      stores = λ m x w. ap (λ a. stored (copies_of m z) x w + a) (h.stores m x w);
      hit = λ m w. ap (λ a. loop_at (loops_of z.counts) (work_size z.work) (store_place z.work z.scatters) (λ vs k. 1) w + a) (h.hit m w);
      costs = λ weight cost free. ap (λ a. nest_cost weight cost z + a) (h.costs weight cost free);
      loads = ap (λ a. copies_in z.counts * work_loads z.work + a) h.loads;
      tables = ap (λ a. work_tables z.work + diagonal_tables z.multiplier + a) h.tables;
      plain = λ n m high all. All-cons (IsPlainNest n m) z zs (All-head (IsPlainNest n m) z ys all) (h.plain n m high (All-tail (IsPlainNest n m) z ys all));
    }
