-- A program of one processor and one phase on words: what is kept of A and of B grows along its statements.
use Rattle.std.proofs.Common.{◌≡◌, ℕ, ◌+◌, ◌*◌, ◌<◌, ◌≤◌, List, [], ◌∷◌, Bool, true, false, ◌||◌, All, length}
use Rattle.std.proofs.Common.{map, refl, sym, ap, ap₂, ◌∙◌, subst, arith, mul-le-mul_left}
use Rattle.std.specs.Prelude.{slice_index, slice_index_or, if◌then◌else◌}
use Rattle.std.specs.List.{range_with_len}
use Rattle.std.proofs.lemmas.List.{length-replicate, map-append}
use Rattle.icode.specs.Actions.{Step, StepFits, PlainFits, steps_of_stmt, steps_of_body, actions_of, plain_code}
use Rattle.icode.specs.Machine.{Local, effects, results, whole_lines, words_at}
use Rattle.icode.specs.Plain.{PlainOp, PlainBody, PlainProgram, Load, Store, Zero, Add, Sub, Neg, MulConst}
use Rattle.icode.specs.Plain.{MulTable, Tile}
use Rattle.icode.specs.Plain as plain
use Rattle.icode.proofs.Lists.{code_is}
use Rattle.icode.proofs.Phase.{effects-append}
use Rattle.nests.proofs.Listed.{all-left, all-right}
use Rattle.word_code.specs.declared.needs.Needs.{Needs}
use Rattle.word_code.specs.Needs.{no_needs, both_needs, needs_of_stmt, needs}
use Rattle.word_code.specs.WordMachine.{WordAction, actions_under, word_results}
use Rattle.word_code.specs.WordProgram.{Note, WordStmt, WordBody, PlainWordProgram}
use Rattle.word_code.specs.WordProgram.{word_action_of, word_actions_of_stmt, word_actions_of_body, word_code}
use Rattle.word_code.specs.Quicken.{PlainLaziness, bound_at, loosened, loosest, header_of, quick_stmt, quick_alone}
use Rattle.word_code.specs.Quicken.{quick_phase, quickened}
use Rattle.word_code.specs.Laws.{IsLazyWithin}
use Rattle.word_code.proofs.Residues.{residues-words_at, AllBelow, below-words_at}
use Rattle.word_code.proofs.Bounds.{AreRegistersBelow}
use Rattle.word_code.proofs.Quick.{at_each, IsMemoryBelow, outer_below, residue_local, AreQuick}
use Rattle.word_code.proofs.Simulation.{residues-of_residues, size_within}
use Rattle.word_code.proofs.Puts.{IsSound}
use Rattle.word_code.proofs.Operations.{scale, sound_of}
use Rattle.word_code.proofs.Leaves.{Leaf, act_at, leaves_of_stmt, leaves_of_body, stmt-acts, body-acts}
use Rattle.word_code.proofs.Programs.{evenly, below_of_all, stmt_under, stmt_leads}
use Rattle.word_code.proofs.Reduce.{loosest_is}
use Rattle.word_code.proofs.OneProcessor.{word_effects, beginning, results_alone}
use Rattle.word_code.proofs.Alone.{goes_along, word_effects-append, results_on_residues}
use Rattle.word_code.proofs.Alone.{beginning_is, begins_below, begins_low}

-- ---- what is kept of A and of B

kept_or_limit : (b : Bool) (x y : ℕ) → 1 ≤ x → x ≤ y → (1 ≤ (if b then x else y)) × ((if b then x else y) ≤ y)
kept_or_limit true x y some le = (some, le)
kept_or_limit false x y some le = (omega arith, omega arith)

pub loosened_lazy : (z : PlainLaziness) (m : ℕ) (n : Needs) → IsLazyWithin z m → IsLazyWithin (loosened z n) m
loosened_lazy z m n lazy =
    record {
      half = lazy.half;
      room = lazy.room;
      sums = lazy.sums;
      product = lazy.product;
      of_a = kept_or_limit n.of_a z.kept.of_a z.limit lazy.of_a.0 lazy.of_a.1;
      of_b = kept_or_limit n.of_b z.kept.of_b z.limit lazy.of_b.0 lazy.of_b.1;
    }

-- it grows where less is needed
grows : (b c : Bool) (x y : ℕ) → x ≤ y → (if b || c then x else y) ≤ (if c then x else y)
grows true true x y le = omega arith
grows true false x y le = le
grows false c x y le = omega arith

memory_grows : (z : PlainLaziness) (p : PlainProgram) (n m : Needs) (memory : List ℕ) → z.kept.of_a ≤ z.limit →
    z.kept.of_b ≤ z.limit →
    IsMemoryBelow (scale (loosened z (both_needs n m)) p) memory → IsMemoryBelow (scale (loosened z m) p) memory
memory_grows z p n m memory of_a of_b kept =
    let up = at_each (scale (loosened z (both_needs n m)) p) (loosened z m).kept (λ a b. a ≤ b) (omega arith)
    (grows n.of_a m.of_a z.kept.of_a z.limit of_a) (grows n.of_b m.of_b z.kept.of_b z.limit of_b) in
    record { each = λ k. let a = kept.each k in let b = mul-le-mul_left p.modulus (up k) in omega (arith, a, b) }

-- ---- the actions of a statement do not hang on the phases of its program

abbrev pub with_phases : PlainWordProgram → List WordBody → PlainWordProgram
with_phases w phases = record { width = w.width; frame = w.frame; quotients = w.quotients; phases = phases }

pub op_same : (w : PlainWordProgram) (phases : List WordBody) (note : Note) (op : PlainOp) (vs : List ℕ) (q : ℕ) →
    word_action_of (with_phases w phases) note op vs q ≡ word_action_of w note op vs q
op_same w phases note (Load r array place) vs q = refl
op_same w phases note _ vs q = refl

-- so do those of operations one after the other
same_leaves : (w : PlainWordProgram) (phases : List WordBody) (q : ℕ) (leaves : List Leaf) →
    map (act_at (with_phases w phases) q) leaves ≡ map (act_at w q) leaves
same_leaves w phases q [] = refl
same_leaves w phases q (l ∷ leaves) =
    ap₂ (λ f fs. f ∷ fs) (op_same w phases l.note l.op l.values q) (same_leaves w phases q leaves)

pub stmt_same : (w : PlainWordProgram) (phases : List WordBody) (stmt : WordStmt) (vs : List ℕ) (q : ℕ) →
    word_actions_of_stmt (with_phases w phases) stmt vs q ≡ word_actions_of_stmt w stmt vs q
stmt_same w phases stmt vs q =
    stmt-acts (with_phases w phases) q stmt vs ∙ same_leaves w phases q (leaves_of_stmt stmt vs)
    ∙ sym (stmt-acts w q stmt vs)

pub body_same : (w : PlainWordProgram) (phases : List WordBody) (body : WordBody) (vs : List ℕ) (q : ℕ) →
    word_actions_of_body (with_phases w phases) body vs q ≡ word_actions_of_body w body vs q
body_same w phases body vs q =
    body-acts (with_phases w phases) q body vs ∙ same_leaves w phases q (leaves_of_body body vs)
    ∙ sym (body-acts w q body vs)

-- ---- statement by statement

module _ (z : PlainLaziness) (p : PlainProgram) (lazy : IsLazyWithin z p.modulus) (pos : 0 < p.modulus) where
  sound : (n : Needs) → IsSound (scale (loosened z n) p)
  sound n = sound_of (loosened z n) p (loosened_lazy z p.modulus n lazy) pos

  -- words that stand for the residues, and in X and Y are residues
  record Ends (residue here : Local) : Type 0 where
    same : residue ≡ residue_local p.modulus here
    outer : (k : ℕ) → k < 2 * whole_lines p.size p.line → slice_index here.memory k < p.modulus

  abbrev residues_of : PlainBody → List ℕ → ℕ → Local → Local
  residues_of body vs q t = effects p.modulus p.lanes (actions_of (steps_of_body p body vs q)) (residue_local p.modulus t)

  abbrev words_of : PlainBody → List ℕ → List ℕ → ℕ → Local → Local
  words_of body bounds vs q t =
      word_effects z.width p.modulus p.lanes (word_actions_of_body (quickened z p) (quick_alone z (header_of p) body bounds).body vs q) t

  alone_goes : (body : PlainBody) (bounds vs : List ℕ) (q : ℕ) (t : Local) → length bounds ≡ p.regs →
      ((r : ℕ) → bound_at z.limit bounds r ≤ z.limit) → All (StepFits p) (steps_of_body p body vs q) →
      IsMemoryBelow (scale (loosened z (needs body)) p) t.memory →
      AreRegistersBelow p.modulus p.lanes (bound_at z.limit bounds) t.registers →
      Ends (residues_of body vs q t) (words_of body bounds vs q t)
  alone_goes plain.NoStmts bounds vs q t long sane fit kept low = record {
    same = refl;
    outer = λ k lt. outer_below (scale (loosened z no_needs) p) t.memory k kept lt;
  }
  alone_goes (plain.AndStmts stmt rest) bounds vs q t long sane fit kept low =
      let m = p.modulus in
      let lanes = p.lanes in
      let n = needs (plain.AndStmts stmt rest) in
      let here = loosened z n in
      let one = quick_stmt here (header_of p) stmt bounds in
      let steps = steps_of_stmt p stmt vs q in
      let others = steps_of_body p rest vs q in
      let lead = stmt_leads here p (sound n) stmt bounds vs q long sane (all-left (StepFits p) steps others fit) in
      let fs : List WordAction = word_actions_of_stmt (quickened z p) one.stmt vs q in
      let is : word_actions_of_stmt (evenly here p) one.stmt vs q ≡ fs = stmt_same (quickened z p) (map (quick_phase here (header_of p)) p.phases) one.stmt vs q in
      let quick : AreQuick (scale here p) (bound_at z.limit bounds) fs (bound_at z.limit one.bounds) =
      subst (λ fs. AreQuick (scale here p) (bound_at z.limit bounds) fs (bound_at z.limit one.bounds)) is lead.goes in
      let go = goes_along (scale here p) (bound_at z.limit bounds) fs (bound_at z.limit one.bounds) quick t kept low in
      let after : Local = word_effects z.width m lanes fs t in
      let more = alone_goes rest one.bounds vs q after lead.long lead.sane (all-right (StepFits p) steps others fit)
      (memory_grows z p (needs_of_stmt stmt) (needs rest) after.memory lazy.of_a.1 lazy.of_b.1 go.memory) go.registers in
      let first : actions_under fs ≡ actions_of steps = ap actions_under (sym is) ∙ stmt_under here p stmt bounds vs q in
      let residue = residue_local m t in
      let left : residues_of (plain.AndStmts stmt rest) vs q t ≡ residues_of rest vs q after =
      ap (λ actions. effects m lanes actions residue) (map-append (λ (s : Step). s.action) steps others)
      ∙ effects-append m lanes (actions_of steps) (actions_of others) residue
      ∙ ap (λ actions. effects m lanes (actions_of others) (effects m lanes actions residue)) (sym first)
      ∙ ap (effects m lanes (actions_of others)) go.same in
      let right : words_of (plain.AndStmts stmt rest) bounds vs q t ≡ words_of rest one.bounds vs q after =
      word_effects-append z.width m lanes fs (word_actions_of_body (quickened z p) (quick_alone z (header_of p) rest one.bounds).body vs q) t in
      record {
        same = left ∙ more.same ∙ ap (residue_local m) (sym right);
        outer = λ k lt. subst (λ (l : Local). slice_index l.memory k < m) (sym right) (more.outer k lt);
      }

-- whatever the order of turns, a program of one processor and one phase leaves the residues that it leaves on residues
pub alone_is_same : (z : PlainLaziness) (p : PlainProgram) (body : PlainBody) → p.procs ≡ 1 → p.phases ≡ body ∷ [] →
    PlainFits p → IsLazyWithin z p.modulus → 0 < p.modulus → 1 ≤ p.line → (x turns : List ℕ) →
    All (λ v. v < p.modulus) x →
    let quick = (quick_alone z (header_of p) body (loosest z (header_of p))).body in
    word_results (word_code (with_phases (quickened z p) (quick ∷ []))) x turns ≡ results (plain_code p) x turns
alone_is_same z p body one is fits lazy pos line x turns low =
    let m = p.modulus in
    let n = whole_lines p.size p.line in
    let loose = loosest z (header_of p) in
    let quick = (quick_alone z (header_of p) body loose).body in
    let w = with_phases (quickened z p) (quick ∷ []) in
    let fs = word_actions_of_body (quickened z p) quick [] 0 in
    let actions = actions_of (steps_of_body p body [] 0) in
    let word_lists : (word_code w).lists ≡ (fs ∷ []) ∷ [] =
    ap (λ procs. map (λ q. word_actions_of_body w quick [] q) (range_with_len 0 procs) ∷ []) one
    ∙ ap (λ gs. (gs ∷ []) ∷ []) (body_same (quickened z p) (quick ∷ []) quick [] 0) in
    let lists : (plain_code p).lists ≡ (actions ∷ []) ∷ [] =
    ap₂ (λ procs phases. map (λ b. map (λ q. actions_of (steps_of_body p b [] q)) (range_with_len 0 procs)) phases) one is in
    let t = beginning (plain_code p) x in
    let small = below_of_all m x low in
    let some : 1 ≤ z.limit = let a = lazy.of_a.0 in let b = lazy.of_a.1 in omega (arith, a, b) in
    let loosest : (r : ℕ) → bound_at z.limit loose r ≡ z.limit = loosest_is z.limit p.regs in
    let known = loosened_lazy z m (needs body) lazy in
    let fit : All (StepFits p) (steps_of_body p body [] 0) = subst (λ phases. All (StepFits p) (steps_of_body p (slice_index_or phases 0 plain.NoStmts) [] 0)) is (fits.each 0 0 (omega (arith, one))) in
    let go = alone_goes z p lazy pos body loose [] 0 t (length-replicate p.regs z.limit)
    (λ r. let e = loosest r in omega arith) fit
    (begins_below (plain_code p) (scale (loosened z (needs body)) p) x pos known.of_a.0 known.of_b.0 small)
    (begins_low (plain_code p) (bound_at z.limit loose) m p.lanes x pos (λ r. let e = loosest r in omega (arith, e, some))) in
    let words = (word_effects z.width m p.lanes fs t).memory in
    let within = size_within p.size p.line line in
    let outer : AllBelow m (words_at p.size words n) = below-words_at m p.size words n (λ l lt. go.outer (n + l) (omega arith)) in
    let residues : words_at p.size (effects m p.lanes actions t).memory n ≡ words_at p.size words n =
    ap (λ (l : Local). words_at p.size (effects m p.lanes actions l).memory n) (beginning_is (plain_code p) x small)
    ∙ ap (λ (l : Local). words_at p.size l.memory n) go.same
    ∙ residues-words_at m p.size words n
    ∙ residues-of_residues m (words_at p.size words n) outer in
    results_alone (word_code w) fs one word_lists x turns
    ∙ sym residues
    ∙ sym (results_on_residues (plain_code p) actions (code_is p) one lists x turns)
