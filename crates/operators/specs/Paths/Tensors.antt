-- Paths of tensors around a matrix.
use Rattle.std.specs.Prelude.{◌≡◌, ℕ, ◌+◌, ◌*◌, ◌<◌, List, [], ◌∷◌, slice_index}
use Rattle.operators.specs.Operator.{Operator, on_columns, on_blocks}
use Rattle.operators.specs.Sum.{list_below}
use Rattle.operators.specs.declared.paths.Tensor.{Tensor}
use Rattle.operators.specs.declared.paths.Tensor.TheVariants.{Blocks, Columns}

-- the tensors around a matrix, from the outside in
abbrev pub Path : Type 0
Path = List Tensor

abbrev pub count_of : Tensor → ℕ
count_of (Blocks k) = k
count_of (Columns k) = k

-- the size of the whole, around a matrix of size n
abbrev pub grown : Tensor → ℕ → ℕ
grown (Blocks k) n = k * n
grown (Columns k) n = n * k

abbrev pub size_under : Path → ℕ → ℕ
size_under [] n = n
size_under (t ∷ path) n = grown t (size_under path n)

-- how many copies there are
abbrev pub copies_of : Path → ℕ
copies_of [] = 1
copies_of (t ∷ path) = count_of t * copies_of path

abbrev pub one_under : Tensor → ℕ → Operator → Operator
one_under (Blocks k) n a = on_blocks k n a
one_under (Columns k) n a = on_columns n k a

-- a matrix of size n under the tensors of the path
abbrev pub under : Path → ℕ → Operator → Operator
under [] n a = a
under (t ∷ path) n a = one_under t (size_under path n) (under path n a)

-- Each tensor is a loop over its copies. One value for each of them names a copy, and this is the place of its item k.
abbrev pub place : Path → ℕ → List ℕ → ℕ → ℕ
place [] n vs k = k
place (t ∷ path) n [] k = k
place (Blocks c ∷ path) n (v ∷ vs) k = v * size_under path n + place path n vs k
place (Columns c ∷ path) n (v ∷ vs) k = place path n vs k * c + v

-- a value for each loop, below its count
abbrev pub AreInRange : Path → List ℕ → Type 0
AreInRange [] [] = Unit {0}
AreInRange [] (v ∷ vs) = ⊥
AreInRange (t ∷ path) [] = ⊥
AreInRange (t ∷ path) (v ∷ vs) = (v < count_of t) × AreInRange path vs

-- what a copy reads
abbrev pub local : Path → ℕ → List ℕ → Operator
local path n vs x = list_below n (λ k. slice_index x (place path n vs k))

-- the operator looks at the first n items alone
abbrev pub Reads : ℕ → Operator → Type 0
Reads n a = (x : List ℕ) → a (list_below n (slice_index x)) ≡ a x
