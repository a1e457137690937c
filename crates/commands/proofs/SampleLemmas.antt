-- The vector of a seed, and what a run on it counts.
use Rattle.std.proofs.Common.{◌≡◌, ◌<◌, ◌≤◌, ◌+◌, ◌-◌, ◌*◌, ◌%◌, ◌^◌, ℕ, zero, suc, List, [], ◌∷◌, ◌++◌, length}
use Rattle.std.proofs.Common.{slice_index, All, refl, sym, ap, ap₂, subst, ◌∙◌, arith, mod-lt, mul-zero, zero-add}
use Rattle.std.proofs.lemmas.Nat.{mul-mod}
use Rattle.std.proofs.lemmas.List.Elements.{All-map}
use Rattle.std.proofs.lemmas.List.FromFn.{map-range_with_len_more}
use Rattle.std.specs.List.{range_with_len}
use Rattle.operators.specs.Sum.{sum_below}
use Rattle.operators.proofs.Sums.{sum_below-same, sum_below_more}
use Rattle.operators.proofs.Lists.{length-list_below}
use Rattle.matrix_meaning.specs.declared.Request.{Request}
use Rattle.matrix_meaning.specs.Valid.{IsInRange}
use Rattle.tree_model.specs.Chosen.{whole_cost}
use Rattle.icode.specs.declared.action.Action.{Action}
use Rattle.icode.specs.declared.action.Counts.{Counts}
use Rattle.icode.specs.Machine.{Code, State, IsCode, results, runs, counts_of, counts_so_far, weighted}
use Rattle.icode.specs.Machine.{whole_counts}
use Rattle.icode.specs.Actions.{plain_code}
use Rattle.generate.specs.Emission.Whole.{emission}
use Rattle.icode.proofs.Lists.{code_is}
use Rattle.icode.proofs.Runs.{counts_of_runs}
use Rattle.par_machine.proofs.Executed.{AreSmall, counts_small}
use Rattle.schedules.specs.Schedule.{Plan}
use Rattle.schedules.specs.Turns.{next_state, state_after, turns_of}
use Rattle.spl_ast.specs.Meaning.{IsVector}
use Rattle.tree_model.specs.WholePasses.{whole_loads, whole_stores}
use Rattle.matrix_meaning.specs.Asked.{asked_of}
use Rattle.spiral_words.specs.declared.Document.TheVariants as document
use Rattle.commands.specs.Equations.Requests.{IsDocument}
use Rattle.commands.specs.Equations.Sample.{sum_for}
use Rattle.commands.proofs.DocumentLemmas.{document_of, with_tree}
use Rattle.commands.specs.Sample.{sample_vector, weighted_sum, sample_text, AreCountable}
use Rattle.commands.proofs.Programs.{IsGoodCode}
use Rattle.runs.specs.Stream.{HasNoStranger}
use Rattle.commands.proofs.CountLemmas.{within_word}
use Rattle.commands.proofs.Requests.{limits}
use Rattle.commands.proofs.RunLemmas.{good_turns}
use Rattle.generate.proofs.Performed.{whole-of}

-- the generator goes on
pub state_more : (n v : ℕ) → state_after (n + 1) v ≡ next_state (state_after n v)
state_more zero v = refl
state_more (suc n) v = let on : suc n + 1 ≡ suc (n + 1) = omega arith in ap (λ k. state_after k v) on ∙ state_more n (next_state v)

-- one datum more
pub sample_more : (modulus seed n state next v : ℕ) (front : List ℕ) → front ≡ sample_vector modulus n seed →
    state ≡ state_after n seed → next ≡ next_state state → v ≡ next % modulus
    → front ++ v ∷ [] ≡ sample_vector modulus (n + 1) seed
sample_more modulus seed n state next v front p s e d =
    let datum : v ≡ state_after (n + 1) seed % modulus = d ∙ ap (λ k. k % modulus) (e ∙ ap next_state s ∙ sym (state_more n seed)) in
    ap₂ (λ l w. l ++ w ∷ []) p datum ∙ sym (map-range_with_len_more (λ i. state_after (i + 1) seed % modulus) 0 n n (zero-add n))

-- one term more
pub weight_more : (m n sum weight x v term total : ℕ) (y : List ℕ) →
    sum ≡ sum_below n (λ k. (k + 1) * slice_index y k) % m → weight ≡ (n + 1) % m → x ≡ slice_index y n → v ≡ x % m →
    term ≡ (weight * v) % m
    → total ≡ (sum + term) % m → total ≡ sum_below (n + 1) (λ k. (k + 1) * slice_index y k) % m
weight_more m n sum weight x v term total y s w at d t all =
    let item : term ≡ ((n + 1) * slice_index y n) % m = t ∙ ap₂ (λ a b. (a * b) % m) w (d ∙ ap (λ k. k % m) at) ∙ sym (mul-mod (n + 1) (slice_index y n) m) in
    all ∙ sum_below_more m n sum term (λ k. (k + 1) * slice_index y k) s item

pub sample_below : (modulus size seed : ℕ) → 0 < modulus → All (λ v. v < modulus) (sample_vector modulus size seed)
sample_below modulus size seed some = All-map (λ v. v < modulus) (λ i. state_after (i + 1) seed % modulus) (range_with_len 0 size) (λ k d _. mod-lt _ some)

-- and they are residues of a good program's machine
pub sample_residues : (request : Request) (code : Code) (m n seed : ℕ) (xs : List ℕ) → IsGoodCode request code →
    IsInRange request → m ≡ code.modulus → xs ≡ sample_vector m n seed → All (λ v. v < code.modulus) xs
sample_residues request code m n seed xs good in_range same is =
    let of_request : code.modulus ≡ request.modulus = ap (λ (k : Code). k.modulus) good.is ∙ good.good.header.modulus in
    let some : 0 < code.modulus = omega (arith, of_request, (limits request in_range).modulus) in
    rw (is, same) (sample_below code.modulus n seed some)

-- a count of all processors together, after a finished run of a good program
total_of_run : (request : Request) (code after : Code) (vector turns : List ℕ) (state : State) (pick : Counts → ℕ)
    → (good : IsGoodCode request code) → after ≡ code → state ≡ runs code vector turns
    → sum_below after.procs (λ q. pick (counts_so_far after state q))
    ≡ sum_below (plain_code (emission request good.tree)).procs
    (λ q. pick (whole_counts (plain_code (emission request good.tree)) q))
total_of_run request code after vector turns state pick good same ran =
    let is : IsCode code = subst IsCode (sym good.is) (code_is (emission request good.tree)) in
    ap (λ (k : Code). sum_below k.procs (λ q. pick (counts_so_far k state q))) same
    ∙ sum_below-same code.procs _ _ (λ q _.
    ap pick (ap (λ s. counts_so_far code s q) ran ∙ counts_of_runs code is vector turns q))
    ∙ ap (λ (k : Code). sum_below k.procs (λ q. pick (whole_counts k q))) good.is

-- a finished run of a good program is counted in 64 bits
pub good_counts : (request : Request) (code : Code) (state : State) (vector turns : List ℕ) → IsGoodCode request code →
    IsInRange request → state ≡ runs code vector turns → AreCountable code state
good_counts request code state vector turns good in_range ran =
    let p = emission request good.tree in
    let few : p.lanes ≤ 16 = omega (arith, good.good.header.lanes, (limits request in_range).lanes) in
    let total = λ (pick : Counts → ℕ). total_of_run request code code vector turns state pick good refl ran in
    let small : (actions : List Action) → AreSmall (length actions * p.lanes) (counts_of p.lanes actions) = counts_small p.lanes in
    record {
      operations = omega (arith, total (λ c. c.operations), within_word p good.good.fits few (λ c. c.operations) (λ actions. (small actions).operations));
      muls = omega (arith, total (λ c. c.muls), within_word p good.good.fits few (λ c. c.muls) (λ actions. (small actions).muls));
      loads = omega (arith, total (λ c. c.loads), within_word p good.good.fits few (λ c. c.loads) (λ actions. (small actions).loads));
      stores = omega (arith, total (λ c. c.stores), within_word p good.good.fits few (λ c. c.stores) (λ actions. (small actions).stores));
    }

-- the vector of a seed is one of the request
pub sample_is : (request : Request) (code : Code) (m n seed : ℕ) → IsGoodCode request code → m ≡ code.modulus →
    n ≡ code.size → sample_vector m n seed ≡ sample_vector request.modulus request.size seed
sample_is request code m n seed good modulus size =
    ap₂ (λ k l. sample_vector k l seed) (modulus ∙ ap (λ (k : Code). k.modulus) good.is ∙ good.good.header.modulus) (size ∙ ap (λ (k : Code). k.size) good.is ∙ good.good.header.size)

sample_fits : (request : Request) (seed : ℕ) → IsInRange request →
    IsVector request.modulus request.size (sample_vector request.modulus request.size seed)
sample_fits request seed in_range = record {
  size = length-list_below request.size (λ i. state_after (i + 1) seed % request.modulus);
  residues = sample_below request.modulus request.size seed (limits request in_range).modulus;
}

-- the operations of all, where a multiplication counts as several
sum-weighted : (weight n : ℕ) (f : ℕ → Counts) → sum_below n (λ q. weighted weight (f q))
    ≡ sum_below n (λ q. (f q).operations) + (weight - 1) * sum_below n (λ q. (f q).muls)
sum-weighted weight zero f = let none = mul-zero (weight - 1) in omega arith
sum-weighted weight (suc n) f =
    ap (λ k. k + weighted weight (f n)) (sum-weighted weight n f)
    ∙ more-weighted (weight - 1) (sum_below n (λ q. (f q).operations)) (sum_below n (λ q. (f q).muls)) (f n).operations (f n).muls
  where
    more-weighted : (more o m p n : ℕ) → o + more * m + (p + more * n) ≡ o + p + more * (m + n)
    more-weighted more o m p n = omega arith

-- all processors together have executed exactly what the chosen tree costs
pub costs : (request : Request) (code after : Code) (vector turns : List ℕ) (state : State) (counts : Counts) →
    (good : IsGoodCode request code) → IsInRange request → after ≡ code → state ≡ runs code vector turns
    → counts.operations ≡ sum_below after.procs (λ q. (counts_so_far after state q).operations)
    → counts.muls ≡ sum_below after.procs (λ q. (counts_so_far after state q).muls)
    → weighted request.weight counts ≡ whole_cost request good.tree
costs request code after vector turns state counts good in_range same ran operations muls =
    let program = emission request good.tree in
    let some : 0 < (plain_code program).procs = omega (arith, good.good.header.procs, (limits request in_range).procs) in
    let share : (q : ℕ) → q < (plain_code program).procs → (plain_code program).procs * weighted request.weight (whole_counts (plain_code program) q) ≡ whole_cost request good.tree =
    λ q below. ap (λ n. n * weighted request.weight (whole_counts (plain_code program) q)) good.good.header.procs ∙ good.good.operations q (subst (λ n. q < n) good.good.header.procs below) in
    ap₂ (λ o m. o + (request.weight - 1) * m) operations muls
    ∙ sym (sum-weighted request.weight after.procs (λ q. counts_so_far after state q))
    ∙ total_of_run request code after vector turns state (weighted request.weight) good same ran
    ∙ whole-of (plain_code program).procs (whole_cost request good.tree) (λ q. weighted request.weight (whole_counts (plain_code program) q)) some share

-- which is counted in 64 bits
pub cost_fits : (request : Request) (code : Code) (n : ℕ) → (good : IsGoodCode request code) → IsInRange request →
    n ≡ whole_cost request good.tree → n < 2 ^ 64
cost_fits request code n good in_range is = let within = good.planned.2 in let high = (limits request in_range).budget in omega arith

-- what the parts of a sample come to
pub sampled : (request : Request) (code after : Code) (plan : Plan) (m n seed : ℕ) (vector y : List ℕ) (state : State)
    (sum : ℕ) (counts : Counts) (text : List ℕ)
    → IsGoodCode request code → IsInRange request → HasNoStranger plan request.procs
    → after ≡ code → m ≡ code.modulus → n ≡ code.size → vector ≡ sample_vector m n seed
    → y ≡ results code vector (turns_of plan code.procs) → state ≡ runs code vector (turns_of plan code.procs) →
    sum ≡ weighted_sum m y
    → counts.operations ≡ sum_below after.procs (λ q. (counts_so_far after state q).operations)
    → counts.muls ≡ sum_below after.procs (λ q. (counts_so_far after state q).muls)
    → counts.loads ≡ sum_below after.procs (λ q. (counts_so_far after state q).loads)
    → counts.stores ≡ sum_below after.procs (λ q. (counts_so_far after state q).stores)
    → text ≡ sample_text sum (weighted request.weight counts) counts.loads counts.stores
    → IsDocument (document.Sample seed plan) request text
sampled request code after plan m n seed vector y state sum counts text good in_range none same modulus size v run ran s operations muls loads stores t =
    let turns = turns_of plan code.procs in
    let program = emission request good.tree in
    let here : vector ≡ sample_vector request.modulus request.size seed = v ∙ sample_is request code m n seed good modulus size in
    let fits : IsVector request.modulus request.size vector = subst (IsVector request.modulus request.size) (sym here) (sample_fits request seed in_range) in
    let times : y ≡ asked_of request vector = run ∙ ap (λ k. results k vector turns) good.is ∙ good.good.product vector turns fits (good_turns plan request code good in_range none) in
    let of_request : m ≡ request.modulus = modulus ∙ ap (λ (k : Code). k.modulus) good.is ∙ good.good.header.modulus in
    let sum_is = s ∙ ap₂ weighted_sum of_request (times ∙ ap (asked_of request) here) in
    let operations_is : weighted request.weight counts ≡ whole_cost request good.tree = costs request code after vector turns state counts good in_range same ran operations muls in
    let some : 0 < request.procs = omega (arith, (limits request in_range).procs) in
    let loads_is : counts.loads ≡ whole_loads request good.tree =
    loads ∙ total_of_run request code after vector turns state (λ c. c.loads) good same ran
    ∙ ap (λ n. sum_below n (λ q. (whole_counts (plain_code program) q).loads)) good.good.header.procs
    ∙ whole-of request.procs (whole_loads request good.tree) (λ q. (whole_counts (plain_code program) q).loads) some good.lean.loads in
    let stores_is : counts.stores ≡ whole_stores request good.tree =
    stores ∙ total_of_run request code after vector turns state (λ c. c.stores) good same ran
    ∙ ap (λ n. sum_below n (λ q. (whole_counts (plain_code program) q).stores)) good.good.header.procs
    ∙ whole-of request.procs (whole_stores request good.tree) (λ q. (whole_counts (plain_code program) q).stores) some good.lean.stores in
    let text_is =
    t ∙ ap (λ k. sample_text k (weighted request.weight counts) counts.loads counts.stores) sum_is
    ∙ ap (λ k. sample_text (sum_for (with_tree request good.tree) seed) k counts.loads counts.stores) operations_is
    ∙ ap₂ (sample_text (sum_for (with_tree request good.tree) seed) (whole_cost request good.tree)) loads_is stores_is in
    document_of (document.Sample seed plan) request good.tree text good.planned text_is
