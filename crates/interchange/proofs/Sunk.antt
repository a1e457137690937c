-- Nests whose loops are sunk and ordered, as definitions and as code see them.
use Rattle.std.proofs.Common.{◌≡◌, refl, ap, ℕ, ◌+◌, List, [], ◌∷◌, true, false, ap₂, ◌∙◌, length, suc, map, zero, ◌<◌}
use Rattle.std.proofs.Common.{Bool, sym, arith, get_or}
use Rattle.icode.specs.Plain.{PlainBody, Loop, Do, NoStmts, AndStmts, PlainStmt, body_of}
use Rattle.nests.specs.Nests.{counts_in, round_in, looped}
use Rattle.interchange.specs.Interchanged.{Nest, within, sunk, ordered, interchanged_nest, interchanged_body}
use Rattle.interchange.specs.Interchanged.{nest_stmt, steps_less}
use Rattle.std.specs.Prelude.{if◌then◌else◌}
use Rattle.interchange.specs.Exchanged.{exchanged_round, exchanged_op}
use Rattle.nests.specs.Rounds.{first_store, first_load}
use Rattle.nests.specs.Views.{are_independent_in, loops_in, one_loop}
use Rattle.interchange.specs.Views.{ordered_loop, exchanged_stmt, is_shallow, are_shallow, exchanged_in, sunk_loop}
use Rattle.nests.proofs.Bools.{by_test}
use Rattle.std.specs.List.{list_all}
use Rattle.std.proofs.lemmas.List.Elements.{All-get_or}
use Rattle.std.proofs.lemmas.List.Sums.{AllPass-from_list_all}
use Rattle.icode.proofs.Bools.{both_true}
use Rattle.nests.proofs.Counts.{looped_is, round-inner, inner-round, counts-looped, round-looped, independent-in}

-- ---- the loops of a body: their counts, and the statements in the innermost, as definitions and as code see them

-- innermost statements stay so
pub inner-exchanged : (loop : ℕ) (round : PlainBody) → counts_in round ≡ [] →
    counts_in (exchanged_round loop round) ≡ []
inner-exchanged loop NoStmts e = refl
inner-exchanged loop (AndStmts (Do op) rest) e = refl
inner-exchanged loop (AndStmts (Loop count body) NoStmts) e = cc
inner-exchanged loop (AndStmts (Loop count body) (AndStmts (Do op) rest)) e = refl
inner-exchanged loop (AndStmts (Loop count body) (AndStmts (Loop inner within) rest)) e = refl

-- ---- the order of loops

pub inner-sunk : (loop outer : ℕ) (counts : List ℕ) (round : PlainBody) → counts_in round ≡ [] →
    counts_in (sunk loop outer counts round).round ≡ []
inner-sunk loop outer [] round e = e
inner-sunk loop outer (count ∷ counts) round e =
    by_test (λ (nest : Nest). counts_in nest.round ≡ []) (steps_less loop (first_load round)) _ _
    (λ less. inner-sunk (loop + 1) outer counts (exchanged_round loop round) (inner-exchanged loop round e))
    (λ stays. e)

pub inner-ordered : (loop outer : ℕ) (counts : List ℕ) (round : PlainBody) → counts_in round ≡ [] →
    counts_in (ordered loop outer counts round).round ≡ []
inner-ordered loop outer [] round e = e
inner-ordered loop outer (count ∷ counts) round e =
    let rest = ordered (loop + 1) count counts round in
    inner-sunk loop outer (rest.outer ∷ rest.inner) rest.round (inner-ordered (loop + 1) count counts round e)

-- ---- as many loops

pub long-sunk : (loop outer : ℕ) (counts : List ℕ) (round : PlainBody) →
    length (sunk loop outer counts round).inner ≡ length counts
long-sunk loop outer [] round = refl
long-sunk loop outer (count ∷ counts) round =
    by_test (λ (nest : Nest). length nest.inner ≡ suc (length counts)) (steps_less loop (first_load round)) _ _
    (λ less. ap suc (long-sunk (loop + 1) outer counts (exchanged_round loop round))) (λ stays. refl)

pub long-ordered : (loop outer : ℕ) (counts : List ℕ) (round : PlainBody) →
    length (ordered loop outer counts round).inner ≡ length counts
long-ordered loop outer [] round = refl
long-ordered loop outer (count ∷ counts) round =
    let rest = ordered (loop + 1) count counts round in
    long-sunk loop outer (rest.outer ∷ rest.inner) rest.round ∙ ap suc (long-ordered (loop + 1) count counts round)

-- ---- nests

pub nest-ordered : (lanes count : ℕ) (body : PlainBody) → are_independent_in lanes body (first_store (round_in body))
    (round_in body) ≡ true → interchanged_nest lanes (Loop count body) ≡ ordered_loop 0 count body
nest-ordered lanes count body h =
    ap (λ t. if t then ordered_loop 0 count body else Loop count body)
    (independent-in lanes count body (first_store (round_in body)) (round_in body) ∙ h)

pub nest-stays : (lanes count : ℕ) (body : PlainBody) → are_independent_in lanes body (first_store (round_in body))
    (round_in body) ≡ false → interchanged_nest lanes (Loop count body) ≡ Loop count body
nest-stays lanes count body h =
    ap (λ t. if t then ordered_loop 0 count body else Loop count body)
    (independent-in lanes count body (first_store (round_in body)) (round_in body) ∙ h)

-- ---- statements, one by one

pub round-map : (loop : ℕ) (stmts : List PlainStmt) → exchanged_round loop (body_of stmts)
    ≡ body_of (map (exchanged_stmt loop) stmts)
round-map loop [] = refl
round-map loop (Do op ∷ rest) = ap (AndStmts (Do (exchanged_op loop op))) (round-map loop rest)
round-map loop (Loop count body ∷ rest) = ap (AndStmts (Loop count body)) (round-map loop rest)

pub body-map : (lanes : ℕ) (stmts : List PlainStmt) → interchanged_body lanes (body_of stmts)
    ≡ body_of (map (interchanged_nest lanes) stmts)
body-map lanes [] = refl
body-map lanes (stmt ∷ rest) = ap (AndStmts (interchanged_nest lanes stmt)) (body-map lanes rest)

-- ---- shallow nests

pub shallow-at : (stmts : List PlainStmt) (i : ℕ) (x d : PlainStmt) → are_shallow (body_of stmts) ≡ true →
    x ≡ get_or stmts i d → i < length stmts → is_shallow x ≡ true
shallow-at [] i x d h e lt = absurd (omega arith)
shallow-at (y ∷ stmts) zero x d h e lt = ap is_shallow e ∙ (both_true (is_shallow y) _ h).0
shallow-at (y ∷ stmts) (suc i) x d h e lt = shallow-at stmts i x d (both_true (is_shallow y) _ h).1 e (omega (arith, lt))

pub all-shallow-at : (phases : List PlainBody) (i : ℕ) (x d : PlainBody) → list_all are_shallow phases ≡ true →
    x ≡ get_or phases i d → i < length phases → are_shallow x ≡ true
all-shallow-at phases i x d h e lt =
    ap are_shallow e
    ∙ All-get_or (λ b. are_shallow b ≡ true) phases i d lt (AllPass-from_list_all are_shallow phases h)

-- ---- innermost statements

pub exchanged-alone : (loop : ℕ) (body : PlainBody) → counts_in body ≡ [] →
    exchanged_in loop body ≡ exchanged_round loop body
exchanged-alone loop body e = ap (λ cs. looped cs (exchanged_round loop (round_in body))) e ∙ ap (exchanged_round loop) (inner-round body e)

pub sunk-alone : (loop count : ℕ) (body : PlainBody) → counts_in body ≡ [] →
    Loop count body ≡ sunk_loop loop count body
sunk-alone loop count body e = ap (Loop count) (sym (inner-round body e)) ∙ ap (λ cs. nest_stmt (sunk loop count cs (round_in body))) (sym e)

pub ordered-alone : (loop count : ℕ) (body : PlainBody) → counts_in body ≡ [] →
    Loop count body ≡ ordered_loop loop count body
ordered-alone loop count body e = ap (Loop count) (sym (inner-round body e)) ∙ ap (λ cs. nest_stmt (ordered loop count cs (round_in body))) (sym e)

-- ---- a loop that goes inward

pub loops-exchanged : (loop : ℕ) (body : PlainBody) → loops_in (exchanged_in loop body) ≡ loops_in body
loops-exchanged loop body = ap length (counts-looped (counts_in body) (exchanged_round loop (round_in body)) (inner-exchanged loop (round_in body) (round-inner body)))

-- which of two nests it is
abbrev either_nest : ℕ → ℕ → ℕ → PlainBody → Bool → PlainStmt
either_nest loop count inner body t =
    nest_stmt
    (if t then within inner (sunk (loop + 1) count (counts_in body) (exchanged_round loop (round_in body)))
    else record { outer = count; inner = inner ∷ counts_in body; round = round_in body })

pub sunk-stays : (loop count inner : ℕ) (body : PlainBody) → steps_less loop (first_load (round_in body)) ≡ false →
    Loop count (one_loop inner body) ≡ sunk_loop loop count (one_loop inner body)
sunk-stays loop count inner body fails =
    ap (λ b. Loop count (one_loop inner b)) (sym (looped_is body))
    ∙ ap (either_nest loop count inner body) (sym fails)

pub sunk-deeper : (loop count inner k : ℕ) (body changed made : PlainBody) →
    steps_less loop (first_load (round_in body)) ≡ true → changed ≡ exchanged_in loop body →
    Loop k made ≡ sunk_loop (loop + 1) count changed →
    Loop inner (one_loop k made) ≡ sunk_loop loop count (one_loop inner body)
sunk-deeper loop count inner k body changed made holds e h =
    ap (λ s. Loop inner (AndStmts s NoStmts)) (h ∙ (ap (sunk_loop (loop + 1) count) e ∙ below))
    ∙ ap (either_nest loop count inner body) (sym holds)
  where
    still : counts_in (exchanged_round loop (round_in body)) ≡ []
    still = inner-exchanged loop (round_in body) (round-inner body)

    below : sunk_loop (loop + 1) count (exchanged_in loop body)
        ≡ nest_stmt (sunk (loop + 1) count (counts_in body) (exchanged_round loop (round_in body)))
    below = ap₂ (λ cs r. nest_stmt (sunk (loop + 1) count cs r)) (counts-looped (counts_in body) (exchanged_round loop (round_in body)) still) (round-looped (counts_in body) (exchanged_round loop (round_in body)) still)

-- ---- loops in order

abbrev body_of_loop : PlainStmt → PlainBody
body_of_loop (Loop count body) = body
body_of_loop (Do op) = NoStmts

pub ordered-loops : (loop inner k : ℕ) (body made : PlainBody) → Loop k made ≡ ordered_loop loop inner body →
    loops_in made ≡ loops_in body
ordered-loops loop inner k body made h =
    let nest = ordered loop inner (counts_in body) (round_in body) in
    ap (λ s. loops_in (body_of_loop s)) h
    ∙ (ap length (counts-looped nest.inner nest.round (inner-ordered loop inner (counts_in body) (round_in body) (round-inner body)))
    ∙ long-ordered loop inner (counts_in body) (round_in body))

pub ordered-deeper : (loop count inner k : ℕ) (body made : PlainBody) (whole : PlainStmt) →
    Loop k made ≡ ordered_loop (loop + 1) inner body → whole ≡ sunk_loop loop count (one_loop k made) →
    whole ≡ ordered_loop loop count (one_loop inner body)
ordered-deeper loop count inner k body made whole h e =
    let nest = ordered (loop + 1) inner (counts_in body) (round_in body) in
    let still : counts_in nest.round ≡ [] = inner-ordered (loop + 1) inner (counts_in body) (round_in body) (round-inner body) in
    e ∙ (ap (λ s. sunk_loop loop count (AndStmts s NoStmts)) h
    ∙ ap₂ (λ cs r. nest_stmt (sunk loop count (nest.outer ∷ cs) r)) (counts-looped nest.inner nest.round still) (round-looped nest.inner nest.round still))

-- ---- what code reads of a body

-- the counts of the two loops are swapped, and the outer one goes on
pub sunk-swapped : (loop count inner x y k : ℕ) (body changed made : PlainBody) →
    steps_less loop (first_load (round_in body)) ≡ true → changed ≡ exchanged_in loop body → x ≡ inner → y ≡ count →
    Loop k made ≡ sunk_loop (loop + 1) y changed → Loop x (one_loop k made)
    ≡ sunk_loop loop count (one_loop inner body)
sunk-swapped loop count inner x y k body changed made holds e ex ey h =
    ap (λ n. Loop n (one_loop k made)) ex ∙ sunk-deeper loop count inner k body changed made holds e (h ∙ ap (λ n. sunk_loop (loop + 1) n changed) ey)
