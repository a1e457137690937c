-- Lists of actions that leave the same memory, whatever stands in the registers, and that may come in either order.
use Rattle.std.proofs.Common.{◌≡◌, ℕ, zero, suc, ◌+◌, ◌*◌, ◌<◌, ◌≤◌, inl, inr, List, [], ◌∷◌, ◌++◌, length, map}
use Rattle.std.proofs.Common.{Contains, refl, sym, ap, ap₂, ◌∙◌, arith, mul-le-mul_left, flat_map, subst, append-nil}
use Rattle.std.proofs.Common.{◌≢◌, ◌⊎◌, append_assoc}
use Rattle.std.specs.Prelude.{slice_get, slice_set}
use Rattle.std.specs.List.{range_with_len}
use Rattle.std.proofs.lemmas.Bool.{cases_eq, cases_lt}
use Rattle.std.proofs.lemmas.List.{length-replicate}
use Rattle.std.proofs.lemmas.List.Elements.{Contains-append_left, Contains-append_right}
use Rattle.ring_mod.specs.Residue.{sum_mod, difference_mod, negation_mod, product_mod}
use Rattle.icode.specs.declared.action.Action.{Action}
use Rattle.icode.specs.declared.action.Action.TheVariants.{Load, Store, Zero, Add, Sub, Neg, Mul, Tile}
use Rattle.icode.specs.Machine.{Local, effect, effects, memory_after, value_put, register_put, register_of, words_at}
use Rattle.icode.specs.Machine.{with_words, lane_by_lane, transposed, stored_words}
use Rattle.icode.proofs.Words.{same_from_slice_get, slice_index-agree, slice_get-set_agree, words_at-agree}
use Rattle.icode.proofs.Words.{length-words_at, with_words-other}
use Rattle.icode.proofs.Lines.{Contains-nil, Contains-range, Contains_or_not}
use Rattle.icode.proofs.Transposes.{length-transposed}
use Rattle.icode.proofs.SequenceLemmas.Placing.{length-slice_set, length-with_words, length-lane_by_lane, length-mapped}
use Rattle.nests.proofs.Acts.{IsFresh, AreFresh, IsWide, AreWide, IsRound, next_after, loaded_words, Loads, memory_by}
use Rattle.nests.proofs.Acts.{DoTheSame, AreApart, Stores}
use Rattle.std.proofs.lemmas.List.Concat.{flat_map-append}
use Rattle.icode.proofs.SequenceLemmas.ByLane.{lists_follow}
use Rattle.icode.proofs.SequenceLemmas.Statements.{range-last}
use Rattle.icode.proofs.SequenceLemmas.Stores.{length-registers, length-memory}
use Rattle.std.proofs.Math.Path.{fun_ext}

-- ---- words

set_there : (xs ys : List ℕ) (i v : ℕ) → length xs ≡ length ys →
    slice_get (slice_set xs i v) i ≡ slice_get (slice_set ys i v) i
set_there [] [] i v long = refl
set_there [] (y ∷ ys) i v long = absurd (omega arith)
set_there (x ∷ xs) [] i v long = absurd (omega arith)
set_there (x ∷ xs) (y ∷ ys) zero v long = refl
set_there (x ∷ xs) (y ∷ ys) (suc i) v long = set_there xs ys i v (omega arith)

-- the same words written into lists of one length, at a place where they are written or where the lists agree
written_alike : (vs xs ys : List ℕ) (i k : ℕ) → length xs ≡ length ys →
    ((i ≤ k → k < i + length vs → ⊥) → slice_get xs k ≡ slice_get ys k) →
    slice_get (with_words xs i vs) k ≡ slice_get (with_words ys i vs) k
written_alike [] xs ys i k long h = h (λ a b. omega arith)
written_alike (v ∷ vs) xs ys i k long h =
    written_alike vs (slice_set xs i v) (slice_set ys i v) (i + 1) k (length-slice_set xs i v ∙ long ∙ sym (length-slice_set ys i v)) (λ outside.
    elim (cases_eq k i) [
      | inl same ↦
          ap (slice_get (slice_set xs i v)) same ∙ set_there xs ys i v long ∙ ap (slice_get (slice_set ys i v)) (sym same)
      | inr other ↦ slice_get-set_agree xs ys i k v (h (λ a b. outside (omega arith) (omega arith)))
    ])

pub map-alike : (f g : ℕ → ℕ) (n i : ℕ) → ((l : ℕ) → l < i + n → f l ≡ g l) →
    map f (range_with_len i n) ≡ map g (range_with_len i n)
map-alike f g zero i h = refl
map-alike f g (suc n) i h =
    ap₂ (λ (x : ℕ) (xs : List ℕ). x ∷ xs) (h i (omega arith)) (map-alike f g n (i + 1) (λ l below. h l (omega arith)))

pub loops_same : {X : Type 0} (f g : ℕ → List X) (j n : ℕ) → ((i : ℕ) → j ≤ i → i < j + n → f i ≡ g i) →
    flat_map f (range_with_len j n) ≡ flat_map g (range_with_len j n)
loops_same f g j zero h = refl
loops_same f g j (suc n) h =
    ap₂ (λ xs ys. xs ++ ys) (h j (omega arith) (omega arith))
    (loops_same f g (j + 1) n (λ i from to. h i (omega (arith, from)) (omega (arith, to))))

-- ---- registers of which the first are the same

module _ (lanes next : ℕ) (r s : List ℕ) (same : (k : ℕ) → k < next * lanes → slice_get r k ≡ slice_get s k) where
  pub register_agrees : (x : ℕ) → x < next → register_of lanes r x ≡ register_of lanes s x
  register_agrees x before =
      let room = mul-le-mul_left lanes before in words_at-agree lanes r s (x * lanes) (λ k a b. same k (omega arith))

  pub tile_agrees : (x : ℕ) → x + lanes ≤ next → transposed lanes r x ≡ transposed lanes s x
  tile_agrees x before =
      loops_same _ _ 0 lanes (λ k k_from k_below. map-alike _ _ lanes 0 (λ l l_below.
      let low : x + l < next = omega arith in
      let room = mul-le-mul_left lanes low in
      slice_index-agree r s ((x + l) * lanes + k) (same ((x + l) * lanes + k) (omega arith))))

-- ---- states

-- registers before the next one agree, and the memories do but for the words `other`
pub record Agree (lanes next : ℕ) (other : List ℕ) (s t : Local) : Type 0 where
  pub long : length s.registers ≡ length t.registers
  pub large : length s.memory ≡ length t.memory
  pub registers : (k : ℕ) → k < next * lanes → slice_get s.registers k ≡ slice_get t.registers k
  pub words : (k : ℕ) → (Contains other k → ⊥) → slice_get s.memory k ≡ slice_get t.memory k

module _ (lanes next : ℕ) (other : List ℕ) (s t : Local) (same : Agree lanes next other s t) where
  register_alike : (x : ℕ) → x < next → register_of lanes s.registers x ≡ register_of lanes t.registers x
  register_alike = register_agrees lanes next s.registers t.registers same.registers

  load_alike : (address : ℕ) → ((k : ℕ) → Contains (range_with_len address lanes) k → Contains other k → ⊥) →
      words_at lanes s.memory address ≡ words_at lanes t.memory address
  load_alike address apart =
      words_at-agree lanes s.memory t.memory address (λ k a b. same.words k (apart k (Contains-range lanes address k a b)))

  -- the same words put from the next register on
  put_alike : (m after : ℕ) (f : Action) → register_put f ≡ next → memory_after lanes f s ≡ s.memory →
      memory_after lanes f t ≡ t.memory →
      value_put m lanes f s ≡ value_put m lanes f t → after * lanes ≤ next * lanes + length (value_put m lanes f s) →
      Agree lanes after other (effect m lanes f s) (effect m lanes f t)
  put_alike m after f is kept kept_too values enough =
      record {
        long =
            length-with_words (value_put m lanes f s) s.registers (register_put f * lanes)
            ∙ same.long
            ∙ sym (length-with_words (value_put m lanes f t) t.registers (register_put f * lanes));
        large = ap length kept ∙ same.large ∙ ap length (sym kept_too);
        registers = λ k below.
            let place = ap (λ r. r * lanes) is in
            written_alike (value_put m lanes f s) s.registers t.registers (register_put f * lanes) k same.long (λ outside.
            same.registers k (inside k place below outside))
            ∙ ap (λ vs. slice_get (with_words t.registers (register_put f * lanes) vs) k) values;
        words = λ k elsewhere.
            ap (λ ws. slice_get ws k) kept ∙ same.words k elsewhere ∙ ap (λ ws. slice_get ws k) (sym kept_too);
      }
    where
      inside : (k : ℕ) → register_put f * lanes ≡ next * lanes → k < after * lanes →
          (register_put f * lanes ≤ k → k < register_put f * lanes + length (value_put m lanes f s) → ⊥) →
          k < next * lanes
      inside k place below outside =
          elim (cases_lt k (next * lanes)) [
            | inl lower ↦ lower
            | inr from ↦ absurd (outside (omega arith) (omega arith))
          ]

  two_size : (f : ℕ → ℕ → ℕ) (x y : ℕ) →
      (next + 1) * lanes ≤ next * lanes + length (lane_by_lane f (register_of lanes s.registers x)
      (register_of lanes s.registers y))
  two_size f x y =
      let xs = register_of lanes s.registers x in
      let ys = register_of lanes s.registers y in
      let wide : length xs ≡ lanes = length-words_at lanes s.registers (x * lanes) in
      let wide_too : length ys ≡ lanes = length-words_at lanes s.registers (y * lanes) in
      let size = length-lane_by_lane f xs ys (omega arith) in
      omega arith

  -- one action
  act_alike : (m : ℕ) (f : Action) → IsFresh lanes next f → IsWide lanes f →
      ((k : ℕ) → Contains (loaded_words lanes f) k → Contains other k → ⊥) →
      Agree lanes (next_after lanes next f) other (effect m lanes f s) (effect m lanes f t)
  act_alike m (Load r address) fresh wide apart =
      let size = length-words_at lanes s.memory address in
      put_alike m (next + 1) (Load r address) fresh refl refl (load_alike address apart) (omega arith)
  act_alike m (Store address r) fresh wide apart =
      let vs = register_of lanes s.registers r in
      let ws = register_of lanes t.registers r in
      record {
        long = same.long;
        large = length-with_words vs s.memory address ∙ same.large ∙ sym (length-with_words ws t.memory address);
        registers = same.registers;
        words = λ k elsewhere.
            written_alike vs s.memory t.memory address k same.large (λ outside. same.words k elsewhere)
            ∙ ap (λ words. slice_get (with_words t.memory address words) k) (register_alike r fresh);
      }
  act_alike m (Zero r) fresh wide apart =
      let size = length-replicate {A = ℕ} lanes 0 in
      put_alike m (next + 1) (Zero r) fresh refl refl refl (omega arith)
  act_alike m (Add r x y) fresh wide apart =
      put_alike m (next + 1) (Add r x y) fresh.0 refl refl (ap₂ (lane_by_lane (sum_mod m)) (register_alike x fresh.1) (register_alike y fresh.2)) (two_size (sum_mod m) x y)
  act_alike m (Sub r x y) fresh wide apart =
      put_alike m (next + 1) (Sub r x y) fresh.0 refl refl (ap₂ (lane_by_lane (difference_mod m)) (register_alike x fresh.1) (register_alike y fresh.2)) (two_size (difference_mod m) x y)
  act_alike m (Neg r x) fresh wide apart =
      let size = length-mapped (negation_mod m) (register_of lanes s.registers x) ∙ length-words_at lanes s.registers (x * lanes) in
      put_alike m (next + 1) (Neg r x) fresh.0 refl refl (ap (map (negation_mod m)) (register_alike x fresh.1)) (omega arith)
  act_alike m (Mul r x factors) fresh wide apart =
      let xs = register_of lanes s.registers x in
      let wide_too = length-words_at lanes s.registers (x * lanes) in
      let size = length-lane_by_lane (product_mod m) xs factors (omega arith) in
      put_alike m (next + 1) (Mul r x factors) fresh.0 refl refl (ap (λ ws. lane_by_lane (product_mod m) ws factors) (register_alike x fresh.1)) (omega arith)
  act_alike m (Tile r x) fresh wide apart =
      let size = length-transposed lanes s.registers x in
      put_alike m (next + lanes) (Tile r x) fresh.0 refl refl
      (tile_agrees lanes next s.registers t.registers same.registers x fresh.1) (omega arith)

-- a list of actions
pub acts_alike : (m lanes next : ℕ) (other : List ℕ) (fs : List Action) (s t : Local) → AreFresh lanes next fs →
    AreWide lanes fs →
    ((k : ℕ) → Loads lanes fs k → Contains other k → ⊥) → Agree lanes next other s t →
    (k : ℕ) → (Contains other k → ⊥) → slice_get (effects m lanes fs s).memory k
    ≡ slice_get (effects m lanes fs t).memory k
acts_alike m lanes next other [] s t fresh wide apart same k elsewhere = same.words k elsewhere
acts_alike m lanes next other (f ∷ fs) s t fresh wide apart same k elsewhere =
    acts_alike m lanes (next_after lanes next f) other fs (effect m lanes f s) (effect m lanes f t) fresh.1 wide.1
    (λ k loaded. apart k (Contains-append_right (loaded_words lanes f) (flat_map (loaded_words lanes) fs) k loaded))
    (act_alike lanes next other s t same m f fresh.0 wide.0
    (λ k loaded. apart k (Contains-append_left (loaded_words lanes f) (flat_map (loaded_words lanes) fs) k loaded)))
    k elsewhere

-- fresh actions leave the same memory, whatever stands in the registers
pub independent : (m lanes : ℕ) (fs : List Action) → IsRound lanes fs → DoTheSame m lanes fs fs
independent m lanes fs round r s memory long =
    same_from_slice_get (memory_by m lanes fs r memory) (memory_by m lanes fs s memory) (λ k.
    acts_alike m lanes 0 [] fs _ _ round.0 round.1 (λ k loaded. Contains-nil k)
    (record { long = long; large = refl; registers = λ k below. absurd (omega arith); words = λ k elsewhere. refl })
    k (Contains-nil k))

-- ---- lists of actions that leave the same memory, and that may come in either order

-- what holds of none, and of lists one after another where it holds of each, holds of loops
pub in-loops : {X : Type 0} (Holds : List X → List X → Type 0) → Holds [] [] →
    ((a b c d : List X) → Holds a b → Holds c d → Holds (a ++ c) (b ++ d)) → (f g : ℕ → List X) (a n : ℕ) →
    ((i : ℕ) → a ≤ i → i < a + n → Holds (f i) (g i)) →
    Holds (flat_map f (range_with_len a n)) (flat_map g (range_with_len a n))
in-loops Holds none append f g a zero h = none
in-loops Holds none append f g a (suc n) h =
    append (f a) (g a) (flat_map f (range_with_len (a + 1) n)) (flat_map g (range_with_len (a + 1) n))
    (h a (omega arith) (omega arith))
    (in-loops Holds none append f g (a + 1) n (λ i low high. h i (omega (arith, low)) (omega (arith, high))))

-- the last round of a loop
pub flat_map-last : (f : ℕ → List Action) (n : ℕ) → flat_map f (range_with_len 0 (suc n))
    ≡ flat_map f (range_with_len 0 n) ++ f n
flat_map-last f n =
    let same : 0 + n ≡ n = omega arith in
    ap (flat_map f) (range-last 0 n ∙ ap (λ k. range_with_len 0 n ++ k ∷ []) same)
    ∙ flat_map-append f (range_with_len 0 n) (n ∷ [])
    ∙ ap (λ (fs : List Action). flat_map f (range_with_len 0 n) ++ fs) (append-nil (f n))

-- rounds that do nothing
abbrev pub none : ℕ → List Action
none n = []

pub flat_map-none : (ns : List ℕ) → flat_map none ns ≡ []
flat_map-none [] = refl
flat_map-none (n ∷ ns) = flat_map-none ns

module _ (m lanes : ℕ) where
  pub same-nothing : DoTheSame m lanes [] []
  same-nothing r s memory long = refl

  pub same-sym : (a b : List Action) → DoTheSame m lanes a b → DoTheSame m lanes b a
  same-sym a b h r s memory long = sym (h s r memory (sym long))

  pub same-trans : (a b c : List Action) → DoTheSame m lanes a b → DoTheSame m lanes b c → DoTheSame m lanes a c
  same-trans a b c first second r s memory long = first r s memory long ∙ second s s memory refl

  -- lists that are equal to lists that do the same
  pub same-between : (a b c d : List Action) → a ≡ b → DoTheSame m lanes b c → c ≡ d → DoTheSame m lanes a d
  same-between a b c d first h last =
      subst (λ (fs : List Action). DoTheSame m lanes a fs) last (subst (λ (fs : List Action). DoTheSame m lanes fs c) (sym first) h)

  pub same-append : (a b c d : List Action) → DoTheSame m lanes a b → DoTheSame m lanes c d →
      DoTheSame m lanes (a ++ c) (b ++ d)
  same-append a b c d first second r s memory long =
      let after : Local = effects m lanes a (record { memory = memory; registers = r }) in
      let other : Local = effects m lanes b (record { memory = memory; registers = s }) in
      let kept : length after.registers ≡ length other.registers =
      length-registers m lanes a (record { memory = memory; registers = r }) ∙ long ∙ sym (length-registers m lanes b (record { memory = memory; registers = s })) in
      ap (λ (z : Local). z.memory) (lists_follow m lanes a c (record { memory = memory; registers = r }))
      ∙ second after.registers other.registers after.memory kept
      ∙ ap (memory_by m lanes d other.registers) (first r s memory long)
      ∙ sym (ap (λ (z : Local). z.memory) (lists_follow m lanes b d (record { memory = memory; registers = s })))

  -- loops whose rounds do the same
  pub same-loops : (n : ℕ) (f g : ℕ → List Action) → ((i : ℕ) → i < n → DoTheSame m lanes (f i) (g i)) →
      DoTheSame m lanes (flat_map f (range_with_len 0 n)) (flat_map g (range_with_len 0 n))
  same-loops n f g h =
      in-loops (DoTheSame m lanes) same-nothing same-append f g 0 n (λ i low high. h i (omega (arith, high)))

-- ---- rounds of which neither stores where the other loads or stores can be swapped

kept_by : (m lanes : ℕ) (f : Action) (s : Local) (k : ℕ) → (Contains (stored_words lanes f) k → ⊥) →
    slice_get (effect m lanes f s).memory k ≡ slice_get s.memory k
kept_by m lanes (Store address r) s k outside =
    let size = length-words_at lanes s.registers (r * lanes) in
    with_words-other (register_of lanes s.registers r) s.memory address k (λ a b. outside (Contains-range lanes address k a (omega arith)))
kept_by m lanes _ s k outside = refl

-- a word that no action stores into stays
pub kept_by_all : (m lanes : ℕ) (fs : List Action) (s : Local) (k : ℕ) → (Stores lanes fs k → ⊥) →
    slice_get (effects m lanes fs s).memory k ≡ slice_get s.memory k
kept_by_all m lanes [] s k outside = refl
kept_by_all m lanes (f ∷ fs) s k outside =
    kept_by_all m lanes fs (effect m lanes f s) k (λ h. outside (Contains-append_right (stored_words lanes f) (flat_map (stored_words lanes) fs) k h))
    ∙ kept_by m lanes f s k (λ h. outside (Contains-append_left (stored_words lanes f) (flat_map (stored_words lanes) fs) k h))

-- what actions leave of a word that others, of which they load nothing, have not stored into
behind : (m lanes : ℕ) (fs gs : List Action) (s t : Local) → AreFresh lanes 0 gs → AreWide lanes gs →
    ((k : ℕ) → Loads lanes gs k → Stores lanes fs k → ⊥) →
    s.memory ≡ t.memory → length s.registers ≡ length t.registers →
    (k : ℕ) → (Stores lanes fs k → ⊥) → slice_get (effects m lanes gs (effects m lanes fs s)).memory k
    ≡ slice_get (effects m lanes gs t).memory k
behind m lanes fs gs s t fresh wide apart same long k outside =
    acts_alike m lanes 0 (flat_map (stored_words lanes) fs) gs (effects m lanes fs s) t fresh wide apart
    (record {
      long = length-registers m lanes fs s ∙ long;
      large = length-memory m lanes fs s ∙ ap length same;
      registers = λ k below. absurd (omega arith);
      words = λ k elsewhere. kept_by_all m lanes fs s k elsewhere ∙ ap (λ ws. slice_get ws k) same;
    })
    k outside

pub swapped : (m lanes : ℕ) (fs gs : List Action) → IsRound lanes fs → IsRound lanes gs → AreApart lanes fs gs →
    DoTheSame m lanes (fs ++ gs) (gs ++ fs)
swapped m lanes fs gs (fresh, wide) (fresh_too, wide_too) apart r s memory long =
    same_from_slice_get (memory_by m lanes (fs ++ gs) r memory) (memory_by m lanes (gs ++ fs) s memory) (λ k.
    ap (λ (z : Local). slice_get z.memory k) (lists_follow m lanes fs gs from)
    ∙ at k
    ∙ ap (λ (z : Local). slice_get z.memory k) (sym (lists_follow m lanes gs fs to)))
  where
    from : Local
    from = record { memory = memory; registers = r }

    to : Local
    to = record { memory = memory; registers = s }

    at : (k : ℕ) → slice_get (effects m lanes gs (effects m lanes fs from)).memory k
        ≡ slice_get (effects m lanes fs (effects m lanes gs to)).memory k
    at k =
        elim (Contains_or_not (flat_map (stored_words lanes) fs) k) [
          | inl stored ↦
              let outside : Stores lanes gs k → ⊥ = apart.words k stored in
              kept_by_all m lanes gs (effects m lanes fs from) k outside
              ∙ sym (behind m lanes gs fs to from fresh wide apart.from refl (sym long) k outside)
          | inr outside ↦
              behind m lanes fs gs from to fresh_too wide_too (λ k loaded stored. apart.into k stored loaded) refl long k outside
              ∙ sym (kept_by_all m lanes fs (effects m lanes gs to) k outside)
        ]

-- ---- loops of rounds, one in the other, in either order

module _ (m lanes : ℕ) where
  -- the memory they leave hangs on no register
  abbrev pub IsSure : List Action → Type 0
  IsSure a = DoTheSame m lanes a a

  -- either may come first
  abbrev pub Commute : List Action → List Action → Type 0
  Commute a b = DoTheSame m lanes (a ++ b) (b ++ a)

  pub commute-append : (a b c : List Action) → IsSure a → IsSure b → Commute a c → Commute b c → Commute (a ++ b) c
  commute-append a b c sure sure_too first second =
      let past : DoTheSame m lanes (a ++ (b ++ c)) (a ++ (c ++ b)) = same-append m lanes a a (b ++ c) (c ++ b) sure second in
      let front : DoTheSame m lanes ((a ++ c) ++ b) ((c ++ a) ++ b) = same-append m lanes (a ++ c) (c ++ a) b b first sure_too in
      let joined : DoTheSame m lanes (a ++ (c ++ b)) (c ++ (a ++ b)) =
      same-between m lanes _ _ _ _ (sym (append_assoc a c b)) front (append_assoc c a b) in
      let all = same-trans m lanes (a ++ (b ++ c)) (a ++ (c ++ b)) (c ++ (a ++ b)) past joined in
      same-between m lanes _ _ (c ++ (a ++ b)) _ (append_assoc a b c) all refl

  -- a loop whose rounds may come before or after other actions
  pub commute-loop : (n : ℕ) (f : ℕ → List Action) (c : List Action) → IsSure c → ((i : ℕ) → i < n → IsSure (f i)) →
      ((i : ℕ) → i < n → Commute (f i) c) →
      Commute (flat_map f (range_with_len 0 n)) c
  commute-loop zero f c sure_there sure commute = same-between m lanes c c c (c ++ []) refl sure_there (sym (append-nil c))
  commute-loop (suc n) f c sure_there sure commute =
      let before : List Action = flat_map f (range_with_len 0 n) in
      let rest = commute-loop n f c sure_there (λ i below. sure i (omega arith)) (λ i below. commute i (omega arith)) in
      let settled : IsSure before = same-loops m lanes n f f (λ i below. sure i (omega arith)) in
      let whole = commute-append before (f n) c settled (sure n (omega arith)) rest (commute n (omega arith)) in
      let is = flat_map-last f n in
      same-between m lanes _ _ _ _ (ap (λ (fs : List Action). fs ++ c) is) whole (sym (ap (λ (fs : List Action). c ++ fs) is))

  -- four lists, of which those in the middle change places
  commute-middle : (a b c d : List Action) → IsSure a → IsSure d → Commute b c →
      DoTheSame m lanes ((a ++ b) ++ (c ++ d)) ((a ++ c) ++ (b ++ d))
  commute-middle a b c d sure sure_too commute =
      let middle = same-append m lanes a a ((b ++ c) ++ d) ((c ++ b) ++ d) sure (same-append m lanes (b ++ c) (c ++ b) d d commute sure_too) in
      same-between m lanes _ _ _ _ (shape a b c d) middle (sym (shape a c b d))
    where
      shape : (a b c d : List Action) → (a ++ b) ++ (c ++ d) ≡ a ++ ((b ++ c) ++ d)
      shape a b c d = append_assoc a b (c ++ d) ∙ ap (λ (fs : List Action). a ++ fs) (sym (append_assoc b c d))

  -- a loop whose rounds are of two parts becomes two loops
  pub parted : (n : ℕ) (f g : ℕ → List Action) → ((j : ℕ) → j < n → IsSure (f j)) → ((j : ℕ) → j < n → IsSure (g j)) →
      ((j l : ℕ) → j < l → l < n → Commute (g j) (f l)) →
      DoTheSame m lanes
      (flat_map (λ j. f j ++ g j) (range_with_len 0 n))
      (flat_map f (range_with_len 0 n) ++ flat_map g (range_with_len 0 n))
  parted zero f g sure sure_too commute = same-nothing m lanes
  parted (suc n) f g sure sure_too commute =
      let fs : List Action = flat_map f (range_with_len 0 n) in
      let gs : List Action = flat_map g (range_with_len 0 n) in
      let both : List Action = flat_map (λ j. f j ++ g j) (range_with_len 0 n) in
      let last_sure = sure n (omega arith) in
      let last_sure_too = sure_too n (omega arith) in
      let rest = parted n f g (λ j below. sure j (omega arith)) (λ j below. sure_too j (omega arith)) (λ j l lower below. commute j l lower (omega arith)) in
      let more = same-append m lanes both (fs ++ gs) (f n ++ g n) (f n ++ g n) rest (same-append m lanes (f n) (f n) (g n) (g n) last_sure last_sure_too) in
      let settled : IsSure fs = same-loops m lanes n f f (λ j below. sure j (omega arith)) in
      let past = commute-loop n g (f n) last_sure (λ j below. sure_too j (omega arith)) (λ j below. commute j n below (omega arith)) in
      let turned = commute-middle fs gs (f n) (g n) settled last_sure_too past in
      let joined = same-trans m lanes (both ++ (f n ++ g n)) ((fs ++ gs) ++ (f n ++ g n)) ((fs ++ f n) ++ (gs ++ g n)) more turned in
      let ends = ap₂ (λ (xs ys : List Action). xs ++ ys) (sym (flat_map-last f n)) (sym (flat_map-last g n)) in
      same-between m lanes _ _ _ _ (flat_map-last (λ j. f j ++ g j) n) joined ends

  -- loops over rounds of which those at different places may come in either order
  pub exchanged_loops : (outer inner : ℕ) (round : ℕ → ℕ → List Action) →
      ((i j : ℕ) → i < outer → j < inner → IsSure (round i j)) →
      ((i j k l : ℕ) → i < outer → j < inner → k < outer → l < inner → ((i ≢ k) ⊎ (j ≢ l)) →
      Commute (round i j) (round k l)) →
      DoTheSame m lanes
      (flat_map (λ j. flat_map (λ i. round i j) (range_with_len 0 outer)) (range_with_len 0 inner))
      (flat_map (λ i. flat_map (λ j. round i j) (range_with_len 0 inner)) (range_with_len 0 outer))
  exchanged_loops zero inner round sure commute = same-between m lanes _ _ [] [] (flat_map-none (range_with_len 0 inner)) (same-nothing m lanes) refl
  exchanged_loops (suc n) inner round sure commute =
      let row : ℕ → List Action = λ j. flat_map (λ i. round i j) (range_with_len 0 n) in
      let column : ℕ → List Action = λ i. flat_map (λ j. round i j) (range_with_len 0 inner) in
      let row_sure = λ (j : ℕ) (below : j < inner). same-loops m lanes n (λ i. round i j) (λ i. round i j) (λ i low. sure i j (omega arith) below) in
      let last_sure = λ (j : ℕ) (below : j < inner). sure n j (omega arith) below in
      let apart = λ (j l : ℕ) (lower : j < l) (below : l < inner). same-sym m lanes (row l ++ round n j) (round n j ++ row l)
      (commute-loop n (λ i. round i l) (round n j) (last_sure j (omega arith)) (λ i low. sure i l (omega arith) below)
      (λ i low. commute i l n j (omega arith) below (omega arith) (omega arith) (inl (omega arith)))) in
      let parts = parted inner row (round n) row_sure last_sure apart in
      let rest = exchanged_loops n inner round (λ i j low below. sure i j (omega arith) below)
      (λ i j k l low below high under other. commute i j k l (omega arith) below (omega arith) under other) in
      let last = same-loops m lanes inner (round n) (round n) last_sure in
      let rows : List Action = flat_map row (range_with_len 0 inner) in
      let columns : List Action = flat_map column (range_with_len 0 n) in
      let more = same-append m lanes rows columns (column n) (column n) rest last in
      let whole = same-trans m lanes (flat_map (λ j. row j ++ round n j) (range_with_len 0 inner)) (rows ++ column n) (columns ++ column n) parts more in
      let split = ap (λ (f : ℕ → List Action). flat_map f (range_with_len 0 inner)) (fun_ext (λ j. flat_map-last (λ i. round i j) n)) in
      same-between m lanes _ _ _ _ split whole (sym (flat_map-last column n))
