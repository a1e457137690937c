-- The loops of a good term in order can be named by sums.
use Rattle.std.proofs.Common.{◌≡◌, ℕ, ◌<◌, true, sym, List, [], ◌∷◌, ◌++◌, subst, Option, Some, None}
use Rattle.std.specs.Prelude.{not}
use Rattle.index_fn.specs.Mapping.{Mapping, at}
use Rattle.sigma_spl.specs.Good.{HasLanes, MovesVectors, IsFormed, CanNest, IsGoodTerm}
use Rattle.sigma_spl.specs.Loops.{PlainTaken, PlainLoop, Looping, begun, stored_last, scaled_last, looped, nest_of}
use Rattle.sigma_spl.specs.Loops.{CanScale, InOrder, CanLead, AreFormed, AllSuit, AreGoodLoops, LoopsAreGood}
use Rattle.sigma_spl.specs.Merge.{is_tile, suits}
use Rattle.sigma_spl.specs.Nest.{PlainFactors, factor_count}
use Rattle.sigma_spl.specs.Term.{PlainTerm, same, gath, scat, diag, nest, move, product, beside, inner_of}
use Rattle.sigma_spl.specs.Work.{PlainWork, work_size}
use Rattle.sigma_spl.proofs.Keeps.{inner_positive, inner-formed}
use Rattle.sigma_spl.proofs.Natural.{tiled}
use Rattle.sigma_spl.proofs.Nests.{suiting}
use Rattle.sigma_spl.proofs.Walk.{AreMoves, and-left, formed-append, suit-append, loose-suits, none-moves}
use Rattle.operators.specs.Paths.Tensors.{Path, size_under}

moves-formed : (lanes n : ℕ) (fs : List Mapping) → AreMoves lanes n fs → AreFormed fs
moves-formed lanes n [] h = tt
moves-formed lanes n (f ∷ fs) h = (h.0.there, moves-formed lanes n fs h.1)

moves-suit : (lanes n : ℕ) (w : PlainWork) (fs : List Mapping) → HasLanes lanes w → AreMoves lanes n fs → AllSuit w fs
moves-suit lanes n w [] tiles h = tt
moves-suit lanes n w (f ∷ fs) tiles h = (suiting lanes w (at f) tiles h.0.vectors, moves-suit lanes n w fs tiles h.1)

-- what the functions that wait and the loops so far are
pub record AreApt (lanes n : ℕ) (waiting : List Mapping) (ps : List PlainLoop) : Type 0 where
  pub moves : AreMoves lanes n waiting
  pub good : AreGoodLoops lanes ps

none-taken : (d : PlainTaken) → ◌≡◌ {A = Option PlainTaken} None (Some d) → ⊥
none-taken d e = absurd (cc)

same-taken : (d e : PlainTaken) → ◌≡◌ {A = Option PlainTaken} (Some d) (Some e) → d ≡ e
same-taken d e h = cc

apt-nest : (lanes n : ℕ) (path : Path) (w : PlainWork) (waiting : List Mapping) (ps : List PlainLoop) → 0 < n →
    CanNest lanes path w → size_under path (work_size w) ≡ n → AreApt lanes n waiting ps →
    AreApt lanes n [] (record { path = path; work = w; befores = waiting; taken = None; afters = [] } ∷ ps)
apt-nest lanes n path w waiting ps some can size h =
    record {
      moves = tt;
      good = (
        record {
          nested = can;
          some = inner_positive path (work_size w) (subst (λ z. 0 < z) (sym size) some);
          befores = record { formed = moves-formed lanes n waiting h.moves; suit = moves-suit lanes n w waiting (tiled lanes path w can) h.moves };
          afters = record { formed = tt; suit = tt };
          taken = λ d e. absurd (none-taken d e);
        },
        h.good,
      );
    }

apt-scat : (lanes n : ℕ) (f : Mapping) (waiting : List Mapping) (ps : List PlainLoop) → IsFormed f →
    MovesVectors lanes (at f) → AreApt lanes n waiting ps → AreApt lanes n waiting (stored_last f ps)
apt-scat lanes n f waiting [] formed vectors h = h
apt-scat lanes n f waiting (p ∷ ps) formed vectors h =
    let g = h.good.0 in
    record {
      moves = h.moves;
      good = (
        record {
          nested = g.nested;
          some = g.some;
          befores = record { formed = g.befores.formed; suit = g.befores.suit };
          afters = record {
            formed = formed-append p.afters (f ∷ []) g.afters.formed (formed, tt);
            suit = suit-append p.work p.afters (f ∷ []) g.afters.suit (suiting lanes p.work (at f) (tiled lanes p.path p.work g.nested) vectors, tt);
          };
          taken = λ d e. let k = g.taken d e in record { formed = k.formed; suit = k.suit };
        },
        h.good.1,
      );
    }

-- a diagonal suits the last loop
last-suits : (lanes : ℕ) (path : Path) (factors : PlainFactors) (p : PlainLoop) → HasLanes lanes p.work →
    suits path (nest_of p ∷ []) ≡ true → AllSuit p.work (inner_of path (factor_count factors) ∷ [])
last-suits lanes [] factors p tiles can = (suiting lanes p.work (λ i. i) tiles (none-moves lanes), tt)
last-suits lanes (t ∷ path) factors p tiles can = (loose-suits p.work (inner_of (t ∷ path) (factor_count factors)) (and-left (not (is_tile p.work)) _ can), tt)

apt-diag : (lanes n : ℕ) (path : Path) (factors : PlainFactors) (waiting : List Mapping) (ps : List PlainLoop) →
    IsFormed (inner_of path (factor_count factors)) → CanScale path ps → AreApt lanes n waiting ps →
    AreApt lanes n waiting (scaled_last path factors ps)
apt-diag lanes n path factors waiting [] formed can h = absurd can
apt-diag lanes n path factors waiting (p ∷ ps) formed can h =
    let g = h.good.0 in
    let inner = inner_of path (factor_count factors) in
    let d : PlainTaken = record { factors = factors; places = p.afters ++ inner ∷ [] } in
    let q : PlainLoop = record { path = p.path; work = p.work; befores = p.befores; taken = Some d; afters = p.afters } in
    let lead : CanLead q d.places =
    record {
      formed = formed-append p.afters (inner ∷ []) g.afters.formed (formed, tt);
      suit = suit-append p.work p.afters (inner ∷ []) g.afters.suit (last-suits lanes path factors p (tiled lanes p.path p.work g.nested) can.1);
    } in
    record {
      moves = h.moves;
      good = (
        record {
          nested = g.nested;
          some = g.some;
          befores = record { formed = g.befores.formed; suit = g.befores.suit };
          afters = record { formed = g.afters.formed; suit = g.afters.suit };
          taken = λ e is. subst (λ (z : PlainTaken). CanLead q z.places) (same-taken d e is) lead;
        },
        h.good.1,
      );
    }

apt-term : (lanes n : ℕ) (st : Looping) (t : PlainTerm) → 0 < n → IsGoodTerm lanes n t → InOrder st t →
    AreApt lanes n st.waiting st.loops → AreApt lanes n (looped st t).waiting (looped st t).loops
apt-term lanes n st same some good order h = h
apt-term lanes n st (gath f) some good order h = record { moves = (good, h.moves); good = h.good }
apt-term lanes n st (scat f) some good order h = apt-scat lanes n f st.waiting st.loops good.0.there good.0.vectors h
apt-term lanes n st (diag path factors) some good order h =
    apt-diag lanes n path factors st.waiting st.loops (inner-formed path (factor_count factors) (subst (λ z. 0 < z) (sym good) some)) order.1 h
apt-term lanes n st (nest path w) some good order h = apt-nest lanes n path w st.waiting st.loops some good.0 good.1 h
apt-term lanes n st (move path ks) some good order h = absurd order
apt-term lanes n st (product a b) some good order h = apt-term lanes n (looped st a) b some good.1 order.1 (apt-term lanes n st a some good.0 order.0 h)
apt-term lanes n st (beside path k a l b) some good order h = absurd order

pub loops_are_good : LoopsAreGood
loops_are_good lanes n t some good order = (apt-term lanes n begun t some good order (record { moves = tt; good = tt })).good
