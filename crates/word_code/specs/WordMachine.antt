-- What actions on words do, and runs of them.
use Rattle.std.specs.Prelude.{ℕ, ◌*◌, suc, List, [], ◌∷◌, map, replicate, Option, Some, None, slice_get, slice_index}
use Rattle.std.specs.Prelude.{slice_index_or, slice_set}
use Rattle.icode.specs.declared.action.Action.{Action}
use Rattle.icode.specs.declared.action.Action.TheVariants.{Load, Store, Zero, Add, Sub, Neg, Mul, Tile}
use Rattle.icode.specs.Machine.{Code, State, Local, words_at, with_words, lane_by_lane, transposed, register_of}
use Rattle.icode.specs.Machine.{memory_after, register_put, moved_on, completion, start, padded}
use Rattle.word_code.specs.declared.program.Reduction.{Reduction}
use Rattle.word_code.specs.Words.{Width, sums_of, wrapped_sum, wrapped_difference, biased_difference, lazy_product}
use Rattle.word_code.specs.Words.{reduced}

-- an action, with the reductions before it, the bias of a difference and the quotients of a product's factors
pub record WordAction : Type 0 where
  pub before : List Reduction
  pub action : Action
  pub bias : ℕ
  pub quotients : List ℕ

-- f of the three words of each lane
abbrev pub lane_by_three : (ℕ → ℕ → ℕ → ℕ) → List ℕ → List ℕ → List ℕ → List ℕ
lane_by_three f [] ys zs = []
lane_by_three f (x ∷ xs) [] zs = []
lane_by_three f (x ∷ xs) (y ∷ ys) [] = []
lane_by_three f (x ∷ xs) (y ∷ ys) (z ∷ zs) = f x y z ∷ lane_by_three f xs ys zs

abbrev pub reduce_register : ℕ → ℕ → Reduction → List ℕ → List ℕ
reduce_register base lanes r words =
    with_words words (r.register * lanes) (map (reduced base r.amount) (register_of lanes words r.register))

abbrev pub reduce_registers : ℕ → ℕ → List Reduction → List ℕ → List ℕ
reduce_registers base lanes [] words = words
reduce_registers base lanes (r ∷ rs) words = reduce_registers base lanes rs (reduce_register base lanes r words)

-- what an action on words puts into its register, or from there on
abbrev pub word_put : Width → ℕ → ℕ → ℕ → List ℕ → Action → Local → List ℕ
word_put w m lanes bias quotients (Load r address) s = words_at lanes s.memory address
word_put w m lanes bias quotients (Store address r) s = []
word_put w m lanes bias quotients (Zero r) s = replicate lanes 0
word_put w m lanes bias quotients (Add r x y) s =
    lane_by_lane (wrapped_sum (sums_of w)) (register_of lanes s.registers x) (register_of lanes s.registers y)
word_put w m lanes bias quotients (Sub r x y) s =
    lane_by_lane (biased_difference (sums_of w) bias) (register_of lanes s.registers x)
    (register_of lanes s.registers y)
word_put w m lanes bias quotients (Neg r x) s =
    map (wrapped_difference (sums_of w) bias) (register_of lanes s.registers x)
word_put w m lanes bias quotients (Mul r x factors) s =
    lane_by_three (lazy_product w m) (register_of lanes s.registers x) factors quotients
word_put w m lanes bias quotients (Tile r x) s = transposed lanes s.registers x

-- what the action leaves once the registers are reduced
abbrev pub bare_effect : Width → ℕ → ℕ → WordAction → Local → Local
bare_effect w m lanes f s =
    record {
      memory = memory_after lanes f.action s;
      registers =
          with_words s.registers (register_put f.action * lanes) (word_put w m lanes f.bias f.quotients f.action s);
    }

-- what an action on words leaves
abbrev pub word_effect : Width → ℕ → ℕ → WordAction → Local → Local
word_effect w m lanes f s =
    bare_effect w m lanes f (record {
      memory = s.memory;
      registers = reduce_registers (sums_of w) lanes f.before s.registers;
    })

-- what a machine of words runs: phase by phase, the list of actions of each processor
pub record WordCode : Type 0 where
  pub width : Width
  pub size : ℕ
  pub modulus : ℕ
  pub procs : ℕ
  pub line : ℕ
  pub lanes : ℕ
  pub regs : ℕ
  pub lists : List (List (List WordAction))

abbrev pub actions_under : List WordAction → List Action
actions_under fs = map (λ (f : WordAction). f.action) fs

-- the code without what serves the words
abbrev pub under : WordCode → Code
under code =
    record {
      size = code.size;
      modulus = code.modulus;
      procs = code.procs;
      line = code.line;
      lanes = code.lanes;
      regs = code.regs;
      lists = map (λ (lists : List (List WordAction)). map actions_under lists) code.lists;
    }

abbrev pub word_acts : WordCode → ℕ → ℕ → List WordAction
word_acts code phase q = slice_index_or (slice_index_or code.lists phase []) q []

-- processor q does the action
abbrev pub word_acted : WordCode → ℕ → WordAction → State → State
word_acted code q f s =
    let after : Local = word_effect code.width code.modulus code.lanes f (record {
      memory = s.memory;
      registers = slice_index_or s.registers q [];
    }) in
    record {
      memory = after.memory;
      registers = slice_set s.registers q after.registers;
      phase = s.phase;
      done = slice_set s.done q (suc (slice_index s.done q));
    }

abbrev pub word_turn_with : WordCode → ℕ → State → Option WordAction → State
word_turn_with code q s None = s
word_turn_with code q s (Some f) = moved_on (under code) (word_acted code q f s)

-- the state after a turn of processor q: it does the action that it has left, if there is one
abbrev pub word_turn : WordCode → State → ℕ → State
word_turn code s q = word_turn_with code q s (slice_get (word_acts code s.phase q) (slice_index s.done q))

abbrev pub word_run : WordCode → State → List ℕ → State
word_run code s [] = s
word_run code s (q ∷ turns) = word_run code (word_turn code s q) turns

abbrev pub word_finished : WordCode → State → State
word_finished code s = word_run code s (completion (under code) s)

-- the state after the turns and their completion, from the input on
abbrev pub word_runs : WordCode → List ℕ → List ℕ → State
word_runs code x turns = word_finished code (word_run code (start (under code) x) turns)

-- what a run leaves in the second array
abbrev pub word_results : WordCode → List ℕ → List ℕ → List ℕ
word_results code x turns = words_at code.size (word_runs code x turns).memory (padded (under code))
