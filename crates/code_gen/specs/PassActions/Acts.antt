-- The actions of passes, on one of the processors that share them.
use Rattle.std.specs.Prelude.{ℕ, ◌+◌, ◌-◌, ◌*◌, max, List, [], ◌∷◌, ◌++◌, slice_index, Option, Some, None}
use Rattle.icode.specs.Actions.{lane_factors}
use Rattle.icode.specs.declared.action.Action.{Action}
use Rattle.icode.specs.declared.action.Action.TheVariants.{Load, Store, Zero, Add, Mul, Tile}
use Rattle.icode.specs.Sequences.Nests.{bodies, nest, loads}
use Rattle.kernel_gen.specs.KernelOps.{actions_by}
use Rattle.kernel_gen.specs.Kernel.{trees_kernel}
use Rattle.kernel_gen.specs.Making.{Made}
use Rattle.operators.specs.declared.target.Target.{Target}
use Rattle.sigma_spl.specs.Shared.Machine.{values_of, loop_counts, item_of}
use Rattle.sigma_spl.specs.Nest.{PlainMultiplier, PlainNest, factor_at, load_place, store_place}
use Rattle.sigma_spl.specs.Work.{PlainWork, kernel, rows, horner, tile, copy, work_size, trees_of}
use Rattle.ring_mod.specs.Residue.{power_mod}

-- ---- places on a processor, at the values of the loops

-- where the first lane of the register number k is loaded from and stored to
abbrev pub load_at : Target → PlainNest → ℕ → List ℕ → ℕ → ℕ
load_at h z q vs k = load_place z.work z.gathers (values_of h z.work q 0 vs) (item_of z.work k 0)

abbrev pub store_at : Target → PlainNest → ℕ → List ℕ → ℕ → ℕ
store_at h z q vs k = store_place z.work z.scatters (values_of h z.work q 0 vs) (item_of z.work k 0)

-- what each lane of the register number k is multiplied by
abbrev pub factors_at : Target → PlainNest → PlainMultiplier → ℕ → List ℕ → ℕ → List ℕ
factors_at h z d q vs k =
    lane_factors h.lanes
    (λ lane. factor_at h.modulus d.factors
    (store_place z.work d.places (values_of h z.work q lane vs) (item_of z.work k lane)))

-- ---- actions

-- the register number k goes from where it is to its place in the
-- target, by way of a free register where there is a diagonal
abbrev pub finish_acts : Target → PlainNest → Option PlainMultiplier → ℕ → ℕ → List ℕ → ℕ → ℕ → ℕ → List Action
finish_acts h z None target q vs k from free = Store (target + store_at h z q vs k) from ∷ []
finish_acts h z (Some d) target q vs k from free =
    Mul free from (factors_at h z d q vs k) ∷ Store (target + store_at h z q vs k) free ∷ []

-- straight-line code of n registers: loads, code, and stores
abbrev pub made_acts : Target → PlainNest → ℕ → Made → ℕ → ℕ → ℕ → List ℕ → List Action
made_acts h z n made source target q vs =
    loads n (λ k. source + load_at h z q vs k)
    ++ (actions_by h.lanes made.code
    ++ bodies n (λ k. finish_acts h z z.multiplier target q vs k (slice_index made.outs k) (made.next + k)))

-- a tile of v registers
abbrev pub tile_acts : Target → PlainNest → ℕ → ℕ → ℕ → ℕ → List ℕ → List Action
tile_acts h z v source target q vs =
    loads v (λ k. source + load_at h z q vs k)
    ++ (Tile v 0 ∷ bodies v (λ k. finish_acts h z z.multiplier target q vs k (v + k) (v + v + k)))

-- an item of a longer leaf, times an entry of its matrix, is added to register 0
abbrev pub term_acts : Target → PlainNest → ℕ → ℕ → ℕ → List ℕ → ℕ → ℕ → List Action
term_acts h z root source q vs k l =
    Load 1 (source + load_at h z q vs l) ∷ Mul 2 1 (lane_factors h.lanes (λ _. power_mod h.modulus root (k * l)))
    ∷ Add 0 0 2 ∷ []

-- register 0, times a power of the root, plus the item that is taken at the turn t of Horner's rule
abbrev pub horner_acts : Target → PlainNest → ℕ → ℕ → ℕ → ℕ → List ℕ → ℕ → ℕ → List Action
horner_acts h z root size source q vs k t =
    Mul 1 0 (lane_factors h.lanes (λ _. power_mod h.modulus root k)) ∷ Load 2 (source + load_at h z q vs (size - 1 - t))
    ∷ Add 0 1 2 ∷ []

-- rows of a matrix: register 0 becomes each row's sum, which is stored
abbrev pub rows_acts : Target → PlainNest → ℕ → (ℕ → ℕ → List Action) → ℕ → ℕ → List ℕ → List Action
rows_acts h z size turn target q vs =
    bodies size (λ k. Zero 0 ∷ (bodies size (turn k) ++ finish_acts h z z.multiplier target q vs k 0 3))

-- one item after the other
abbrev pub items_acts : Target → PlainNest → ℕ → ℕ → ℕ → ℕ → List ℕ → List Action
items_acts h z size source target q vs =
    bodies size (λ k. Load 0 (source + load_at h z q vs k) ∷ finish_acts h z z.multiplier target q vs k 0 1)

-- a copy on each lane
abbrev pub copy_acts : Target → PlainNest → PlainWork → ℕ → ℕ → ℕ → List ℕ → List Action
copy_acts h z (kernel k) source target q vs =
    made_acts h z (work_size (kernel k)) (trees_kernel h.modulus (trees_of k)) source target q vs
copy_acts h z (rows root size) source target q vs = rows_acts h z size (term_acts h z root source q vs) target q vs
copy_acts h z (horner root size) source target q vs =
    rows_acts h z size (horner_acts h z root size source q vs) target q vs
copy_acts h z (tile lanes) source target q vs = tile_acts h z lanes source target q vs
copy_acts h z (copy size) source target q vs = items_acts h z size source target q vs

-- all copies of a processor, from the array that begins at one address to the array that begins at another
abbrev pub nest_acts : Target → PlainNest → ℕ → ℕ → ℕ → List Action
nest_acts h z source target q = nest (loop_counts h z) (copy_acts h z z.work source target q) []

-- a pass: its nests one after the other
abbrev pub pass_acts : Target → List PlainNest → ℕ → ℕ → ℕ → List Action
pass_acts h [] source target q = []
pass_acts h (z ∷ zs) source target q = nest_acts h z source target q ++ pass_acts h zs source target q

-- ---- registers

abbrev pub with_multiplier : Option PlainMultiplier → ℕ → ℕ → ℕ
with_multiplier None used more = used
with_multiplier (Some d) used more = used + more

-- how many registers work uses modulo m, with a free one for each product of its items
abbrev pub nest_registers : ℕ → PlainNest → PlainWork → ℕ
nest_registers m z (kernel k) = with_multiplier z.multiplier (trees_kernel m (trees_of k)).next (work_size (kernel k))
nest_registers m z (rows root size) = with_multiplier z.multiplier 3 1
nest_registers m z (horner root size) = with_multiplier z.multiplier 3 1
nest_registers m z (tile lanes) = with_multiplier z.multiplier (lanes + lanes) lanes
nest_registers m z (copy size) = with_multiplier z.multiplier 1 1

abbrev pub pass_registers : ℕ → List PlainNest → ℕ
pass_registers m [] = 0
pass_registers m (z ∷ zs) = max (nest_registers m z z.work) (pass_registers m zs)
