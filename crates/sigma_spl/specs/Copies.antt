-- Loops over copies, side by side: what a pass of several of them makes of a list, modulo m.
use Rattle.std.specs.Prelude.{◌≡◌, ℕ, ◌+◌, ◌*◌, ◌-◌, ◌%◌, ◌<◌, List, [], ◌∷◌, map, nat_lt, if◌then◌else◌, slice_index}
use Rattle.operators.specs.Operator.{Operator}
use Rattle.operators.specs.Sum.{list_below}
use Rattle.operators.specs.declared.paths.Tensor.{Tensor}
use Rattle.operators.specs.declared.paths.Tensor.TheVariants.{Blocks, Columns}
use Rattle.operators.specs.Paths.Loop.{loop_at}
use Rattle.operators.specs.Paths.Tensors.{Path, count_of, AreInRange}

-- a loop for each count, the outermost first
abbrev pub loops_of : List ℕ → Path
loops_of counts = map Blocks counts

-- A loop for each count. The copy that their values name takes its items from places of the array, computes, and stores
-- what it has at places of the next array
pub record Copies : Type 0 where
  pub counts : List ℕ
  pub size : ℕ
  pub from : List ℕ → ℕ → ℕ
  pub does : List ℕ → Operator
  pub to : List ℕ → ℕ → ℕ

-- the items that a copy takes
abbrev pub taken : Copies → List ℕ → Operator
taken c vs x = list_below c.size (λ j. slice_index x (c.from vs j))

-- what the copies store at the place w, added up
abbrev pub stored : Copies → List ℕ → ℕ → ℕ
stored c x w = loop_at (loops_of c.counts) c.size c.to (λ vs k. slice_index (c.does vs (taken c vs x)) k) w

abbrev pub all_stored : List Copies → List ℕ → ℕ → ℕ
all_stored [] x w = 0
all_stored (c ∷ cs) x w = stored c x w + all_stored cs x w

-- a pass: loops that write one array of n words together, and that all read the array before it
abbrev pub pass_on : ℕ → ℕ → List Copies → Operator
pass_on m n cs x = list_below n (λ w. all_stored cs x w % m)

-- how often the copies store at the place w
abbrev pub hits : List Copies → ℕ → ℕ
hits [] w = 0
hits (c ∷ cs) w = loop_at (loops_of c.counts) c.size c.to (λ vs k. 1) w + hits cs w

-- each place of the array is stored once
abbrev pub StoreOnce : ℕ → List Copies → Type 0
StoreOnce n cs = (w : ℕ) → w < n → hits cs w ≡ 1

-- all places are inside of an array of n words
pub record IsInside (n : ℕ) (c : Copies) : Type 0 where
  pub loads : (vs : List ℕ) (k : ℕ) → AreInRange (loops_of c.counts) vs → k < c.size → c.from vs k < n
  pub stores : (vs : List ℕ) (k : ℕ) → AreInRange (loops_of c.counts) vs → k < c.size → c.to vs k < n

abbrev pub AreInside : ℕ → List Copies → Type 0
AreInside n [] = Unit {0}
AreInside n (c ∷ cs) = IsInside n c × AreInside n cs

-- ---- what merging makes of a pass

-- the items come from where f says
abbrev pub loaded_by : (ℕ → ℕ) → Copies → Copies
loaded_by f c = record { counts = c.counts; size = c.size; from = λ vs k. f (c.from vs k); does = c.does; to = c.to }

-- they are stored where f says
abbrev pub stored_by : (ℕ → ℕ) → Copies → Copies
stored_by f c = record { counts = c.counts; size = c.size; from = c.from; does = c.does; to = λ vs k. f (c.to vs k) }

-- each is multiplied by the factor of its place
abbrev pub multiplied_by : ℕ → (ℕ → ℕ) → Copies → Copies
multiplied_by m factor c =
    record {
      counts = c.counts;
      size = c.size;
      from = c.from;
      does = λ vs y. list_below c.size (λ k. (factor (c.to vs k) * slice_index (c.does vs y) k) % m);
      to = c.to;
    }

-- ---- a pass in a larger one

-- the array begins a number of words later in a larger one
abbrev pub behind : ℕ → Copies → Copies
behind before c = record {
  counts = c.counts;
  size = c.size;
  from = λ vs k. before + c.from vs k;
  does = c.does;
  to = λ vs k. before + c.to vs k;
}

-- where a place of the copy v stands under a tensor round n words
abbrev pub placed : Tensor → ℕ → ℕ → ℕ → ℕ
placed (Blocks c) n v w = v * n + w
placed (Columns c) n v w = w * c + v

-- the value of the outermost loop, which is the tensor's, and those of the others
abbrev pub first_of : List ℕ → ℕ
first_of [] = 0
first_of (v ∷ vs) = v

abbrev pub others_of : List ℕ → List ℕ
others_of [] = []
others_of (v ∷ vs) = vs

-- the loops under a tensor round n words
abbrev pub under_one : Tensor → ℕ → Copies → Copies
under_one t n c =
    record {
      counts = count_of t ∷ c.counts;
      size = c.size;
      from = λ vs k. placed t n (first_of vs) (c.from (others_of vs) k);
      does = λ vs. c.does (others_of vs);
      to = λ vs k. placed t n (first_of vs) (c.to (others_of vs) k);
    }

-- the direct sum of two matrices, of n and of k words
abbrev pub both : ℕ → ℕ → Operator → Operator → Operator
both n k a b x =
    list_below (n + k) (λ w. if nat_lt w n then slice_index (a (list_below n (slice_index x))) w
    else slice_index (b (list_below k (λ j. slice_index x (n + j)))) (w - n))
