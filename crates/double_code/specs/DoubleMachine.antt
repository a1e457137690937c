-- What actions on words that are doubles do, and runs of them. Each operation rounds its result to a double.
use Rattle.std.specs.Prelude.{ℕ, zero, suc, ◌+◌, ◌-◌, ◌*◌, List, [], ◌∷◌, ◌++◌, map, flat_map, length}
use Rattle.std.specs.Prelude.{replicate, Bool, Option, Some, None}
use Rattle.std.specs.Prelude.{slice_get, slice_index, slice_index_or, slice_set, if◌then◌else◌, ℤ, pos, neg_ℤ}
use Rattle.std.specs.Prelude.{◌+ℤ◌, ◌-ℤ◌}
use Rattle.std.specs.List.{range_with_len}
use Rattle.icode.specs.declared.action.Action.{Action}
use Rattle.icode.specs.declared.action.Action.TheVariants.{Load, Store, Zero, Add, Sub, Neg, Mul, Tile}
use Rattle.icode.specs.Machine.{Code, is_open, first_open, phases_after, none_done, padded, register_put}
use Rattle.icode.specs.Machine.{rest_of_phase}
use Rattle.icode.specs.Machine.{whole_phases}
use Rattle.double_code.specs.Products.{inverse_of, exponent_of, double_product}
use Rattle.double_code.specs.Reductions.{reduced, settled}
use Rattle.double_code.specs.Rounding.{rounded}

-- an action, with the registers that are reduced before it, the factors of a product, and whether a store leaves
-- residues
pub record DoubleAction : Type 0 where
  pub before : List ℕ
  pub action : Action
  pub factors : List ℤ
  pub settles : Bool

-- the n numbers from place i on
abbrev pub numbers_at : ℕ → List ℤ → ℕ → List ℤ
numbers_at zero xs i = []
numbers_at (suc n) xs i = slice_index_or xs i (pos 0) ∷ numbers_at n xs (i + 1)

-- xs with the numbers vs from place i on
abbrev pub with_numbers : List ℤ → ℕ → List ℤ → List ℤ
with_numbers xs i [] = xs
with_numbers xs i (v ∷ vs) = with_numbers (slice_set xs i v) (i + 1) vs

-- f of the two numbers of each lane
abbrev pub lane_by_two : (ℤ → ℤ → ℤ) → List ℤ → List ℤ → List ℤ
lane_by_two f [] ys = []
lane_by_two f (x ∷ xs) [] = []
lane_by_two f (x ∷ xs) (y ∷ ys) = f x y ∷ lane_by_two f xs ys

-- the numbers of a register
abbrev pub numbers_of : ℕ → List ℤ → ℕ → List ℤ
numbers_of lanes registers r = numbers_at lanes registers (r * lanes)

-- lane l of register k is lane k of register source + l
abbrev pub turned : ℕ → List ℤ → ℕ → List ℤ
turned lanes registers source =
    flat_map
    (λ k. map (λ l. slice_index_or registers ((source + l) * lanes + k) (pos 0)) (range_with_len 0 lanes))
    (range_with_len 0 lanes)

-- the operations modulo m
abbrev pub reduction : ℕ → ℤ → ℤ
reduction m x = reduced m (inverse_of m) (exponent_of m) x

abbrev pub settlement : ℕ → ℤ → ℤ
settlement m x = settled m (inverse_of m) (exponent_of m) x

abbrev pub product : ℕ → ℤ → ℤ → ℤ
product m a c = double_product m (inverse_of m) (exponent_of m) a c

abbrev pub sum : ℤ → ℤ → ℤ
sum x y = rounded (x +ℤ y)

abbrev pub difference : ℤ → ℤ → ℤ
difference x y = rounded (x -ℤ y)

-- the memory and one processor's registers; lane l of register r is number r * lanes + l
pub record DoubleLocal : Type 0 where
  pub memory : List ℤ
  pub registers : List ℤ

abbrev pub reduce_one : ℕ → ℕ → ℕ → List ℤ → List ℤ
reduce_one m lanes r xs = with_numbers xs (r * lanes) (map (reduction m) (numbers_of lanes xs r))

abbrev pub reduce_all : ℕ → ℕ → List ℕ → List ℤ → List ℤ
reduce_all m lanes [] xs = xs
reduce_all m lanes (r ∷ rs) xs = reduce_all m lanes rs (reduce_one m lanes r xs)

-- what an action puts into its register, or from there on
abbrev pub number_put : ℕ → ℕ → List ℤ → Action → DoubleLocal → List ℤ
number_put m lanes factors (Load r address) s = numbers_at lanes s.memory address
number_put m lanes factors (Store address r) s = []
number_put m lanes factors (Zero r) s = replicate lanes (pos 0)
number_put m lanes factors (Add r x y) s =
    lane_by_two sum (numbers_of lanes s.registers x) (numbers_of lanes s.registers y)
number_put m lanes factors (Sub r x y) s =
    lane_by_two difference (numbers_of lanes s.registers x) (numbers_of lanes s.registers y)
number_put m lanes factors (Neg r x) s = map neg_ℤ (numbers_of lanes s.registers x)
number_put m lanes factors (Mul r x residues) s = lane_by_two (product m) (numbers_of lanes s.registers x) factors
number_put m lanes factors (Tile r x) s = turned lanes s.registers x

-- the numbers that a store writes
abbrev pub numbers_stored : ℕ → ℕ → Bool → List ℤ → ℕ → List ℤ
numbers_stored m lanes settles registers r =
    if settles then map (settlement m) (numbers_of lanes registers r) else numbers_of lanes registers r

abbrev pub numbers_after : ℕ → ℕ → Bool → Action → DoubleLocal → List ℤ
numbers_after m lanes settles (Store address r) s =
    with_numbers s.memory address (numbers_stored m lanes settles s.registers r)
numbers_after m lanes settles _ s = s.memory

-- what the action leaves once the registers are reduced
abbrev pub after_reductions : ℕ → ℕ → DoubleAction → DoubleLocal → DoubleLocal
after_reductions m lanes f s =
    record {
      memory = numbers_after m lanes f.settles f.action s;
      registers = with_numbers s.registers (register_put f.action * lanes) (number_put m lanes f.factors f.action s);
    }

-- what an action leaves
abbrev pub double_effect : ℕ → ℕ → DoubleAction → DoubleLocal → DoubleLocal
double_effect m lanes f s =
    after_reductions m lanes f (record { memory = s.memory; registers = reduce_all m lanes f.before s.registers })

-- what a machine of doubles runs: phase by phase, the list of actions of each processor
pub record DoubleCode : Type 0 where
  pub size : ℕ
  pub modulus : ℕ
  pub procs : ℕ
  pub line : ℕ
  pub lanes : ℕ
  pub regs : ℕ
  pub lists : List (List (List DoubleAction))

abbrev pub actions_under : List DoubleAction → List Action
actions_under fs = map (λ (f : DoubleAction). f.action) fs

-- the code without what serves the doubles
abbrev pub under : DoubleCode → Code
under code =
    record {
      size = code.size;
      modulus = code.modulus;
      procs = code.procs;
      line = code.line;
      lanes = code.lanes;
      regs = code.regs;
      lists = map (λ (lists : List (List DoubleAction)). map actions_under lists) code.lists;
    }

abbrev pub double_acts : DoubleCode → ℕ → ℕ → List DoubleAction
double_acts code phase q = slice_index_or (slice_index_or code.lists phase []) q []

pub record DoubleState : Type 0 where
  pub memory : List ℤ
  pub registers : List (List ℤ)
  pub phase : ℕ
  -- how many actions of the phase each processor has done
  pub done : List ℕ

-- the phase moves on where no action is left in it
abbrev pub double_moved : DoubleCode → DoubleState → DoubleState
double_moved code s =
    if is_open (under code) s.phase s.done then s
    else record s {
      phase = first_open (under code) (phases_after (under code) s.phase) (s.phase + 1);
      done = none_done (under code);
    }

-- processor q does the action
abbrev pub double_acted : DoubleCode → ℕ → DoubleAction → DoubleState → DoubleState
double_acted code q f s =
    let after : DoubleLocal = double_effect code.modulus code.lanes f (record {
      memory = s.memory;
      registers = slice_index_or s.registers q [];
    }) in
    record {
      memory = after.memory;
      registers = slice_set s.registers q after.registers;
      phase = s.phase;
      done = slice_set s.done q (suc (slice_index s.done q));
    }

abbrev pub double_turn_with : DoubleCode → ℕ → DoubleState → Option DoubleAction → DoubleState
double_turn_with code q s None = s
double_turn_with code q s (Some f) = double_moved code (double_acted code q f s)

-- the state after a turn of processor q: it does the action that it has left, if there is one
abbrev pub double_turn : DoubleCode → DoubleState → ℕ → DoubleState
double_turn code s q = double_turn_with code q s (slice_get (double_acts code s.phase q) (slice_index s.done q))

abbrev pub double_run : DoubleCode → DoubleState → List ℕ → DoubleState
double_run code s [] = s
double_run code s (q ∷ turns) = double_run code (double_turn code s q) turns

-- the turns that finish all phases
abbrev pub double_completion : DoubleCode → DoubleState → List ℕ
double_completion code s =
    rest_of_phase (under code) s.phase s.done
    ++ whole_phases (under code) (phases_after (under code) s.phase) (s.phase + 1)

-- the input stands in the first numbers, and all else is 0
abbrev pub double_start : DoubleCode → List ℕ → DoubleState
double_start code x =
    record {
      memory = map pos x ++ replicate (4 * padded (under code) - code.size) (pos 0);
      registers = replicate code.procs (replicate (code.regs * code.lanes) (pos 0));
      phase = first_open (under code) (length (under code).lists) 0;
      done = none_done (under code);
    }

-- the state after the turns and their completion, from the input on
abbrev pub double_runs : DoubleCode → List ℕ → List ℕ → DoubleState
double_runs code x turns =
    let s = double_run code (double_start code x) turns in double_run code s (double_completion code s)

-- what a run leaves in the second array
abbrev pub double_results : DoubleCode → List ℕ → List ℕ → List ℤ
double_results code x turns = numbers_at code.size (double_runs code x turns).memory (padded (under code))
