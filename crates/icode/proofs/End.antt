-- How a phase ends.
use Rattle.std.proofs.Common.{◌≡◌, ℕ, zero, suc, ◌+◌, ◌/◌, ◌<◌, ◌≤◌, ◌≢◌, ◌⊎◌, List, [], ◌∷◌, ◌++◌, length, take}
use Rattle.std.proofs.Common.{flat_map, Some, refl, sym, ap, ◌∙◌, subst, arith, inl, inr, ⊎_elim, Contains}
use Rattle.std.proofs.Common.{get_or-set_same, get_or-set_other, set-set, append_assoc, append-nil, length-append}
use Rattle.std.proofs.Common.{take_all, replicate, le_refl, le_of_eq}
use Rattle.std.specs.Prelude.{slice_get, slice_index, slice_index_or, slice_set}
use Rattle.std.proofs.lemmas.Bool.{cases_eq, cases_lt}
use Rattle.std.proofs.lemmas.List.{set-get_or, get_or_past, ext_get_or, get_or-replicate, length-replicate}
use Rattle.icode.specs.declared.action.Action.{Action}
use Rattle.icode.specs.Machine.{Code, IsCode, Local, Whole, acts, effect, effects, written_lines, IsApart, lines_of}
use Rattle.icode.specs.Machine.{stored_words, none_done, processor_alone, processors_alone}
use Rattle.icode.proofs.Words.{same_from_slice_get}
use Rattle.icode.proofs.Lines.{Contains_or_not, Contains-nil, touched_from_written}
use Rattle.icode.proofs.Phase.{own, IsFollowed, IsFollowed-acted}

-- past the processors the lists are empty
pub acts_past : (code : Code) → IsCode code → (phase q : ℕ) → code.procs ≤ q → acts code phase q ≡ []
acts_past code is phase q h =
    ⊎_elim
    (λ (lt : phase < length code.lists). let e = is.each phase lt in get_or_past (slice_index_or code.lists phase []) q [] (omega arith))
    (λ (ge : length code.lists ≤ phase). ap (λ lists. slice_index_or lists q []) (get_or_past code.lists phase [] ge))
    (cases_lt phase (length code.lists))

-- a line has a writer among the first n processors, or none
writer_or_none : (code : Code) (phase line n : ℕ) → ((q : ℕ) × Contains (written_lines code phase q) line)
    ⊎ ((q : ℕ) → q < n → Contains (written_lines code phase q) line → ⊥)
writer_or_none code phase line zero = inr (λ q lt h. omega arith)
writer_or_none code phase line (suc n) =
    ⊎_elim
    (λ (h : Contains (written_lines code phase n) line). inl (n, h))
    (λ (no : Contains (written_lines code phase n) line → ⊥). ⊎_elim
    (λ (h : (q : ℕ) × Contains (written_lines code phase q) line). inl h)
    (λ (none : (q : ℕ) → q < n → Contains (written_lines code phase q) line → ⊥). inr (λ q lt h. ⊎_elim
    (λ (e : q ≡ n). no (subst (λ p. Contains (written_lines code phase p) line) e h))
    (λ (ne : q ≡ n → ⊥). none q (omega arith) h)
    (cases_eq q n)))
    (writer_or_none code phase line n))
    (Contains_or_not (written_lines code phase n) line)

none_at_all : (code : Code) (phase line : ℕ) → IsCode code →
    ((q : ℕ) → q < code.procs → Contains (written_lines code phase q) line → ⊥) → (q : ℕ) →
    Contains (written_lines code phase q) line → ⊥
none_at_all code phase line is none q h =
    ⊎_elim
    (λ (lt : q < code.procs). none q lt h)
    (λ (ge : code.procs ≤ q). Contains-nil line (subst (λ (actions : List Action). Contains (flat_map (λ a. lines_of code.line (stored_words code.lanes a)) actions) line) (acts_past code is phase q ge) h))
    (cases_lt q code.procs)

-- every action of the phase is done
pub record IsOver (code : Code) (phase : ℕ) (done : List ℕ) : Type 0 where
  pub each : (q : ℕ) → length (acts code phase q) ≤ slice_index done q

own_over : (code : Code) (phase : ℕ) (m0 : List ℕ) (r0 : List (List ℕ)) (d e : List ℕ) (q : ℕ) → IsOver code phase d →
    IsOver code phase e → own code phase m0 r0 d q ≡ own code phase m0 r0 e q
own_over code phase m0 r0 d e q over over' =
    ap (λ xs. effects code.modulus code.lanes xs (record { memory = m0; registers = slice_index_or r0 q [] }))
    (take_all (slice_index d q) (acts code phase q) (over.each q) ∙ sym (take_all (slice_index e q) (acts code phase q) (over'.each q)))

-- all ways through a phase end alike
pub same_memory : (code : Code) (phase : ℕ) (m0 : List ℕ) (r0 : List (List ℕ)) (m m' : List ℕ) (r r' : List (List ℕ))
    (d d' : List ℕ) → IsCode code → IsOver code phase d → IsOver code phase d' → IsFollowed code phase m0 r0 m r d →
    IsFollowed code phase m0 r0 m' r' d' → m ≡ m'
same_memory code phase m0 r0 m m' r r' d d' is over over' f f' =
    same_from_slice_get m m' (λ k. ⊎_elim
    (λ (w : (q : ℕ) × Contains (written_lines code phase q) (k / code.line)).
    let t = touched_from_written code phase w.0 (k / code.line) w.1 in
    f.own_words w.0 k t ∙ (ap (λ (s : Local). slice_get s.memory k) (own_over code phase m0 r0 d d' w.0 over over') ∙ sym (f'.own_words w.0 k t)))
    (λ (none : (q : ℕ) → q < code.procs → Contains (written_lines code phase q) (k / code.line) → ⊥).
    let no : (q : ℕ) → Contains (written_lines code phase q) (k / code.line) → ⊥ = none_at_all code phase (k / code.line) is none in
    f.other_words k no ∙ sym (f'.other_words k no))
    (writer_or_none code phase (k / code.line) code.procs))

pub same_registers : (code : Code) (phase : ℕ) (m0 : List ℕ) (r0 : List (List ℕ)) (m m' : List ℕ) (r r' : List (List ℕ))
    (d d' : List ℕ) → IsOver code phase d → IsOver code phase d' → IsFollowed code phase m0 r0 m r d →
    IsFollowed code phase m0 r0 m' r' d' → r ≡ r'
same_registers code phase m0 r0 m m' r r' d d' over over' f f' =
    ext_get_or [] r r' (f.files ∙ sym f'.files) (λ q lt.
    f.own_registers q ∙ (ap (λ (s : Local). s.registers) (own_over code phase m0 r0 d d' q over over') ∙ sym (f'.own_registers q)))

-- One processor after another

same_followed : (code : Code) (phase : ℕ) (m0 : List ℕ) (r0 : List (List ℕ)) (m m' : List ℕ) (r r' : List (List ℕ))
    (d d' : List ℕ) → m ≡ m' → r ≡ r' → d ≡ d' → IsFollowed code phase m0 r0 m r d →
    IsFollowed code phase m0 r0 m' r' d'
same_followed code phase m0 r0 m m' r r' d d' em er ed f =
    subst (λ d. IsFollowed code phase m0 r0 m' r' d) ed
    (subst (λ r. IsFollowed code phase m0 r0 m' r d) er
    (subst (λ m. IsFollowed code phase m0 r0 m r d) em f))

slice_get-append_seam : {X : Type 0} (xs : List X) (x : X) (ys : List X) → slice_get (xs ++ x ∷ ys) (length xs) ≡ Some x
slice_get-append_seam [] x ys = refl
slice_get-append_seam (z ∷ xs) x ys = slice_get-append_seam xs x ys

-- the rest of a processor's list
follows_rest : (code : Code) (phase : ℕ) (m0 : List ℕ) (r0 : List (List ℕ)) (q : ℕ) → IsApart code phase → q < code.procs → (rest front : List Action) (m : List ℕ) (r : List (List ℕ)) (done : List ℕ) → acts code phase q ≡ front ++ rest → slice_index done q ≡ length front → IsFollowed code phase m0 r0 m r done → IsFollowed code phase m0 r0 (effects code.modulus code.lanes rest (record { memory = m; registers = slice_index_or r q [] })).memory (slice_set r q (effects code.modulus code.lanes rest (record { memory = m; registers = slice_index_or r q [] })).registers) (slice_set done q (length (acts code phase q)))
follows_rest code phase m0 r0 q apart lt [] front m r done e n f =
    let whole : length (acts code phase q) ≡ slice_index done q = ap length (e ∙ append-nil front) ∙ sym n in
    same_followed code phase m0 r0 m m r _ done _ refl (sym (set-get_or r q [])) (sym (ap (λ k. slice_set done q k) whole ∙ set-get_or done q 0)) f
follows_rest code phase m0 r0 q apart lt (a ∷ rest) front m r done e n f =
    let here : slice_get (acts code phase q) (slice_index done q) ≡ Some a =
    ap (λ xs. slice_get xs (slice_index done q)) e ∙ (ap (λ k. slice_get (front ++ a ∷ rest) k) n ∙ slice_get-append_seam front a rest) in
    let after : Local = effect code.modulus code.lanes a (record { memory = m; registers = slice_index_or r q [] }) in
    let r1 : List (List ℕ) = slice_set r q after.registers in
    let done1 : List ℕ = slice_set done q (suc (slice_index done q)) in
    let f1 : IsFollowed code phase m0 r0 after.memory r1 done1 = IsFollowed-acted code phase m0 r0 m r done q a apart lt here f in
    let file : slice_index_or r1 q [] ≡ after.registers = get_or-set_same r q after.registers [] (omega (arith, f.files)) in
    let e1 : acts code phase q ≡ (front ++ a ∷ []) ++ rest = e ∙ sym (append_assoc front (a ∷ []) rest) in
    let n1 : slice_index done1 q ≡ length (front ++ a ∷ []) = get_or-set_same done q (suc (slice_index done q)) 0 (omega (arith, f.dones)) ∙ omega (arith, length-append front (a ∷ [])) in
    let s1 : Local = record { memory = after.memory; registers = slice_index_or r1 q [] } in
    let same : s1 ≡ after = ap (λ rs. record { memory = after.memory; registers = rs }) file in
    same_followed code phase m0 r0 _ _ _ _ _ _
    (ap (λ (s : Local). (effects code.modulus code.lanes rest s).memory) same)
    (ap (λ (s : Local). slice_set r1 q (effects code.modulus code.lanes rest s).registers) same ∙ set-set r q _ _)
    (set-set done q _ _)
    (follows_rest code phase m0 r0 q apart lt rest (front ++ a ∷ []) after.memory r1 done1 e1 n1 f1)

-- a phase begins
pub slice_index-zeros : (n q : ℕ) → slice_index (replicate n 0) q ≡ 0
slice_index-zeros n q = ⊎_elim (λ (lt : q < n). get_or-replicate n q 0 0 lt) (λ (ge : n ≤ q). get_or_past (replicate n 0) q 0 (omega (arith, length-replicate {A = ℕ} n 0))) (cases_lt q n)

pub none_done-zero : (code : Code) (q : ℕ) → slice_index (none_done code) q ≡ 0
none_done-zero code q = slice_index-zeros code.procs q

pub followed_at_first : (code : Code) (phase : ℕ) (m : List ℕ) (r : List (List ℕ)) → length r ≡ code.procs →
    IsFollowed code phase m r m r (none_done code)
followed_at_first code phase m r e =
    let own_is : (q : ℕ) → own code phase m r (none_done code) q ≡ record { memory = m; registers = slice_index_or r q [] } =
    λ q. ap (λ n. effects code.modulus code.lanes (take n (acts code phase q)) (record { memory = m; registers = slice_index_or r q [] })) (none_done-zero code q) in
    record {
      files = e;
      dones = length-replicate code.procs 0;
      own_registers = λ q. sym (ap (λ (s : Local). s.registers) (own_is q));
      own_words = λ q k h. sym (ap (λ (s : Local). slice_get s.memory k) (own_is q));
      other_words = λ k h. refl;
    }

-- n processors from q on, one after another
record IsDoneBelow (code : Code) (phase q : ℕ) (done : List ℕ) : Type 0 where
  below : (j : ℕ) → j < q → length (acts code phase j) ≤ slice_index done j
  above : (j : ℕ) → q ≤ j → slice_index done j ≡ 0

follows_processor : (code : Code) (phase : ℕ) (m0 : List ℕ) (r0 : List (List ℕ)) (q : ℕ) (w : Whole) (done : List ℕ) →
    IsApart code phase → q < code.procs → IsDoneBelow code phase q done →
    IsFollowed code phase m0 r0 w.memory w.registers done → IsFollowed code phase m0 r0
    (processor_alone code phase q w).memory (processor_alone code phase q w).registers
    (slice_set done q (length (acts code phase q)))
follows_processor code phase m0 r0 q w done apart lt b f =
    follows_rest code phase m0 r0 q apart lt (acts code phase q) [] w.memory w.registers done refl (b.above q (le_refl q)) f

done_one_more : (code : Code) (phase q : ℕ) (done : List ℕ) → q < length done → IsDoneBelow code phase q done →
    IsDoneBelow code phase (q + 1) (slice_set done q (length (acts code phase q)))
done_one_more code phase q done lt b =
    record {
      below = λ j h. ⊎_elim
          (λ (e : j ≡ q). subst (λ i. length (acts code phase i) ≤ slice_index (slice_set done q (length (acts code phase q))) i) (sym e)
          (le_of_eq (sym (get_or-set_same done q (length (acts code phase q)) 0 lt))))
          (λ (ne : j ≡ q → ⊥). rw (get_or-set_other done q j (length (acts code phase q)) 0 ne) (b.below j (omega arith)))
          (cases_eq j q);
      above = λ j h. let ne : j ≢ q = omega arith in get_or-set_other done q j (length (acts code phase q)) 0 ne ∙ b.above j (omega arith);
    }

follows_processors : (code : Code) (phase : ℕ) (m0 : List ℕ) (r0 : List (List ℕ)) → IsApart code phase →
    (n q : ℕ) (w : Whole) (done : List ℕ) → q + n ≤ code.procs → IsDoneBelow code phase q done →
    IsFollowed code phase m0 r0 w.memory w.registers done → (done' : List ℕ)
    × IsFollowed code phase m0 r0 (processors_alone code phase n q w).memory
    (processors_alone code phase n q w).registers done' × ((j : ℕ) → j < q + n →
    length (acts code phase j) ≤ slice_index done' j)
follows_processors code phase m0 r0 apart zero q w done le b f = (done, f, λ j h. b.below j (omega arith))
follows_processors code phase m0 r0 apart (suc n) q w done le b f =
    let r = follows_processors code phase m0 r0 apart n (q + 1) (processor_alone code phase q w) (slice_set done q (length (acts code phase q))) (omega arith)
    (done_one_more code phase q done (omega (arith, f.dones)) b)
    (follows_processor code phase m0 r0 q w done apart (omega arith) b f) in
    (r.0, r.1, λ j h. r.2 j (omega arith))

-- any way through a phase ends as one processor after another does
pub phase_end : (code : Code) (phase : ℕ) (w : Whole) (m : List ℕ) (r : List (List ℕ)) (done : List ℕ) → IsCode code → IsApart code phase → length w.registers ≡ code.procs → IsOver code phase done → IsFollowed code phase w.memory w.registers m r done → processors_alone code phase code.procs 0 w ≡ record { memory = m; registers = r }
phase_end code phase w m r done is apart files over f =
    let first : IsFollowed code phase w.memory w.registers w.memory w.registers (none_done code) = followed_at_first code phase w.memory w.registers files in
    let b : IsDoneBelow code phase 0 (none_done code) = record { below = λ j h. absurd (omega arith); above = λ j h. none_done-zero code j } in
    let all = follows_processors code phase w.memory w.registers apart code.procs 0 w (none_done code) (omega arith) b first in
    let over' : IsOver code phase all.0 = record {
      each = λ q. ⊎_elim
          (λ (lt : q < code.procs). all.2 q (omega arith))
          (λ (ge : code.procs ≤ q). subst (λ (actions : List Action). length actions ≤ slice_index all.0 q) (sym (acts_past code is phase q ge)) (omega arith))
          (cases_lt q code.procs);
    } in
    let em = same_memory code phase w.memory w.registers _ m _ r all.0 done is over' over all.1 f in
    let er = same_registers code phase w.memory w.registers _ m _ r all.0 done over' over all.1 f in
    whole_same _ _ em er
  where
    whole_same : (a b : Whole) → a.memory ≡ b.memory → a.registers ≡ b.registers → a ≡ b
    whole_same a b p q = ap (λ m. record { memory = m; registers = a.registers }) p ∙ ap (λ r. record { memory = b.memory; registers = r }) q
