-- Routes that are chosen from the last statement to the first, and tests on statements one after another.
use Rattle.std.proofs.Common.{◌≡◌, ℕ, suc, ◌+◌, ◌-◌, ◌<◌, List, [], ◌∷◌, ◌++◌, Bool, true, false, length, drop, get_or}
use Rattle.std.proofs.Common.{refl, sym, ap, ap₂, ◌∙◌, arith}
use Rattle.std.specs.Prelude.{◌==◌, ◌&&◌, reverse}
use Rattle.std.proofs.lemmas.Bool.{eqb-true}
use Rattle.std.proofs.lemmas.List.{reverse-append}
use Rattle.icode.specs.declared.program.Array.{Array}
use Rattle.icode.specs.declared.program.Stmt.{Stmt}
use Rattle.icode.specs.Plain.{PlainExpr, PlainStmt, Loop, plain_stmt, plain_body}
use Rattle.icode.proofs.Steps.{drop_item}
use Rattle.word_code.specs.declared.in_place.routes.Route.{Route}
use Rattle.word_code.specs.InPlace.Routing.{same_place, same_places, not_input, target_before, route_to, chosen}
use Rattle.word_code.specs.InPlace.Sharing.{is_full, are_full}

-- the last statements have their routes, the last one first, and the `behind` before them store there
pub record AreChosen (behind : ℕ) (body : List Stmt) (made : List Route) (into : Array) : Type 0 where
  pub routes : reverse made ≡ chosen (plain_body (drop (length body - behind) body))
  pub target : into ≡ target_before (chosen (plain_body (drop (length body - behind) body)))

-- the statement before them
pub chosen-more : (behind at : ℕ) (body : List Stmt) (routes : List Route) (target : Array) (stmt : Stmt)
    (route : Route) (made : List Route) (into : Array) → behind < length body → at + behind + 1 ≡ length body →
    stmt ≡ get_or body at stmt → route ≡ route_to target (plain_stmt stmt) → made ≡ routes ++ route ∷ [] →
    into ≡ not_input route.source → AreChosen behind body routes target → AreChosen (behind + 1) body made into
chosen-more behind at body routes target stmt route made into lt here e is put goes h =
    let rest : List Stmt = drop (length body - behind) body in
    let from_here : drop (length body - (behind + 1)) body ≡ stmt ∷ rest =
    ap (λ n. drop n body) (omega (arith, here))
    ∙ (drop_item body at stmt (omega (arith, here)) e ∙ ap (λ n. stmt ∷ drop n body) (omega (arith, here))) in
    let first : route ≡ route_to (target_before (chosen (plain_body rest))) (plain_stmt stmt) =
    is ∙ ap (λ t. route_to t (plain_stmt stmt)) h.target in
    record {
      routes =
          ap reverse put
          ∙ (reverse-append routes (route ∷ [])
          ∙ (ap₂ (λ r rs. r ∷ rs) first h.routes ∙ ap (λ ss. chosen (plain_body ss)) (sym from_here)));
      target =
          goes ∙ (ap (λ r. not_input r.source) first ∙ ap (λ ss. target_before (chosen (plain_body ss))) (sym from_here));
    }

-- there are as many of the ones as of the others
pub places-differ : (places others : List PlainExpr) → (length places ≡ length others → ⊥) →
    false ≡ same_places places others
places-differ [] [] e = absurd (e refl)
places-differ (place ∷ places) (other ∷ others) e =
    by_first (same_place place other) _ (places-differ places others (λ h. e (ap suc h)))
  where
    by_first : (b c : Bool) → false ≡ c → false ≡ (b && c)
    by_first true c h = h
    by_first false c h = refl
places-differ _ _ e = refl

-- a loop is full if it has statements and they are
pub full-some : (count : ℕ) (items : List Stmt) (stmt : PlainStmt) (full : Bool) →
    stmt ≡ Loop count (plain_body items) → (length items == 0) ≡ false → full ≡ are_full (plain_body items) →
    full ≡ is_full stmt
full-some count [] stmt full e some h = cc
full-some count (x ∷ items) stmt full e some h = h ∙ sym (ap is_full e)

pub full-none : (count : ℕ) (items : List Stmt) (stmt : PlainStmt) → stmt ≡ Loop count (plain_body items) →
    (length items == 0) ≡ true → false ≡ is_full stmt
full-none count [] stmt e empty = sym (ap is_full e)
full-none count (x ∷ items) stmt e empty = let none : length (x ∷ items) ≡ 0 = eqb-true (length (x ∷ items)) 0 empty in absurd (omega arith)
