-- What statements need, one after another.
use Rattle.std.proofs.Common.{◌≡◌, ℕ, zero, suc, ◌+◌, ◌-◌, ◌<◌, ◌≤◌, List, [], ◌∷◌, ◌++◌, Bool, true, false, Option}
use Rattle.std.proofs.Common.{None, length, drop, get_or, refl, sym, ap, ap₂, ◌∙◌, arith}
use Rattle.std.specs.Prelude.{◌&&◌, reverse}
use Rattle.std.proofs.Math.Bool.{or_assoc, or-false}
use Rattle.std.proofs.lemmas.List.{drop_all, reverse-append}
use Rattle.icode.specs.declared.program.Stmt.{Stmt}
use Rattle.icode.specs.Plain.{PlainStmt, Loop, plain_stmt, plain_body}
use Rattle.icode.proofs.Steps.{drop_item}
use Rattle.word_code.specs.declared.needs.Needs.{Needs}
use Rattle.word_code.specs.Needs.{no_needs, both_needs, loads_of_stmt, loads_of_body, multiplies, multiply, product_of}
use Rattle.word_code.specs.Needs.{needs_of_stmt, needs, needs_of_each}

abbrev pair : Bool → Bool → Needs
pair a b = record { of_a = a; of_b = b }

both_assoc : (a b c : Needs) → both_needs (both_needs a b) c ≡ both_needs a (both_needs b c)
both_assoc a b c = ap₂ pair (or_assoc a.of_a b.of_a c.of_a) (or_assoc a.of_b b.of_b c.of_b)

both_none : (a : Needs) → both_needs a no_needs ≡ a
both_none a = ap₂ pair (or-false a.of_a) (or-false a.of_b)

-- ---- loads

-- what is loaded so far, and by the statements that are left
pub record AreLoads (i : ℕ) (body : List Stmt) (loads : Needs) : Type 0 where
  pub is : both_needs loads (loads_of_body (plain_body (drop i body))) ≡ loads_of_body (plain_body body)

pub loads-more : (i : ℕ) (body : List Stmt) (stmt : Stmt) (loads of next : Needs) → i < length body →
    stmt ≡ get_or body i stmt → of ≡ loads_of_stmt (plain_stmt stmt) → next ≡ both_needs loads of →
    AreLoads i body loads → AreLoads (i + 1) body next
loads-more i body stmt loads of next lt e is both h =
    let rest : Needs = loads_of_body (plain_body (drop (i + 1) body)) in
    record {
      is =
          ap (λ n. both_needs n rest) (both ∙ ap (both_needs loads) is)
          ∙ (both_assoc loads (loads_of_stmt (plain_stmt stmt)) rest
          ∙ (ap (λ ss. both_needs loads (loads_of_body (plain_body ss))) (sym (drop_item body i stmt lt e)) ∙ h.is));
    }

pub loads-all : (i count : ℕ) (body items : List Stmt) (stmt : PlainStmt) (loads : Needs) →
    stmt ≡ Loop count (plain_body items) → body ≡ items → length body ≤ i → AreLoads i body loads →
    loads ≡ loads_of_stmt stmt
loads-all i count body items stmt loads e same le h =
    sym (both_none loads)
    ∙ (ap (λ ss. both_needs loads (loads_of_body (plain_body ss))) (sym (drop_all i body le))
    ∙ (h.is ∙ (ap (λ ss. loads_of_body (plain_body ss)) same ∙ sym (ap loads_of_stmt e))))

-- ---- products

-- the statements multiply if those that are left do
pub record IsLeft (i : ℕ) (body : List Stmt) (last : Option ℕ) : Type 0 where
  pub is : multiply None (plain_body body) ≡ multiply last (plain_body (drop i body))

left-step : (i : ℕ) (body : List Stmt) (stmt : Stmt) (last : Option ℕ) (b : Bool) → i < length body →
    stmt ≡ get_or body i stmt → b ≡ multiplies last (plain_stmt stmt) → IsLeft i body last →
    multiply None (plain_body body) ≡ (b && multiply (product_of last (plain_stmt stmt))
    (plain_body (drop (i + 1) body)))
left-step i body stmt last b lt e is h =
    h.is
    ∙ (ap (λ ss. multiply last (plain_body ss)) (drop_item body i stmt lt e)
    ∙ ap (λ c. c && multiply (product_of last (plain_stmt stmt)) (plain_body (drop (i + 1) body))) (sym is))

pub left-more : (i : ℕ) (body : List Stmt) (stmt : Stmt) (last next : Option ℕ) (b : Bool) → i < length body →
    stmt ≡ get_or body i stmt → b ≡ multiplies last (plain_stmt stmt) → b ≡ true →
    next ≡ product_of last (plain_stmt stmt) → IsLeft i body last → IsLeft (i + 1) body next
left-more i body stmt last next b lt e is passes goes h =
    record {
      is =
          left-step i body stmt last b lt e is h
          ∙ (ap (λ c. c && multiply (product_of last (plain_stmt stmt)) (plain_body (drop (i + 1) body))) passes
          ∙ ap (λ l. multiply l (plain_body (drop (i + 1) body))) (sym goes));
    }

pub left-fails : (i : ℕ) (body : List Stmt) (stmt : Stmt) (last : Option ℕ) (b : Bool) → i < length body →
    stmt ≡ get_or body i stmt → b ≡ multiplies last (plain_stmt stmt) → b ≡ false → IsLeft i body last →
    false ≡ multiply None (plain_body body)
left-fails i body stmt last b lt e is fails h =
    sym
    (left-step i body stmt last b lt e is h
    ∙ ap (λ c. c && multiply (product_of last (plain_stmt stmt)) (plain_body (drop (i + 1) body))) fails)

pub left-all : (i : ℕ) (body : List Stmt) (last : Option ℕ) → length body ≤ i → IsLeft i body last →
    true ≡ multiply None (plain_body body)
left-all i body last le h = sym (h.is ∙ ap (λ ss. multiply last (plain_body ss)) (drop_all i body le))

-- ---- from the last statement to the first

-- what is needed from each of the last statements on, the last one first, and from all of them; `behind` come before
pub record AreNeeded (behind : ℕ) (body : List Stmt) (each : List Needs) (last : Needs) : Type 0 where
  pub from_each : reverse each ≡ needs_of_each (plain_body (drop (length body - behind) body))
  pub from_last : last ≡ needs (plain_body (drop (length body - behind) body))

pub needed-none : (body : List Stmt) (made : List Needs) → made ≡ [] → AreNeeded 0 body made no_needs
needed-none body made empty =
    let none : drop (length body - 0) body ≡ [] = drop_all (length body - 0) body (omega arith) in
    record {
      from_each = ap reverse empty ∙ sym (ap (λ ss. needs_of_each (plain_body ss)) none);
      from_last = sym (ap (λ ss. needs (plain_body ss)) none);
    }

-- the statement before them
pub needed-more : (behind at : ℕ) (body : List Stmt) (each : List Needs) (last : Needs) (stmt : Stmt) (of next : Needs)
    (made : List Needs) → behind < length body → at + behind + 1 ≡ length body → stmt ≡ get_or body at stmt →
    of ≡ needs_of_stmt (plain_stmt stmt) → next ≡ both_needs of last → made ≡ each ++ next ∷ [] →
    AreNeeded behind body each last → AreNeeded (behind + 1) body made next
needed-more behind at body each last stmt of next made lt here e is both put h =
    let rest : List Stmt = drop (length body - behind) body in
    let from_here : drop (length body - (behind + 1)) body ≡ stmt ∷ rest =
    ap (λ n. drop n body) (omega (arith, here))
    ∙ (drop_item body at stmt (omega (arith, here)) e ∙ ap (λ n. stmt ∷ drop n body) (omega (arith, here))) in
    let all : next ≡ needs (plain_body (stmt ∷ rest)) = both ∙ ap₂ both_needs is h.from_last in
    record {
      from_each =
          ap reverse put
          ∙ (reverse-append each (next ∷ [])
          ∙ (ap₂ (λ n ns. n ∷ ns) all h.from_each ∙ ap (λ ss. needs_of_each (plain_body ss)) (sym from_here)));
      from_last = all ∙ ap (λ ss. needs (plain_body ss)) (sym from_here);
    }

pub length-each : (body : List Stmt) → length (needs_of_each (plain_body body)) ≡ length body
length-each [] = refl
length-each (stmt ∷ body) = ap suc (length-each body)

pub needed-at : (body : List Stmt) (i : ℕ) (n : Needs) → i < length body →
    n ≡ get_or (needs_of_each (plain_body body)) i n → n ≡ needs (plain_body (drop i body))
needed-at [] i n lt e = absurd (omega (arith, lt))
needed-at (stmt ∷ body) zero n lt e = e
needed-at (stmt ∷ body) (suc i) n lt e = needed-at body i n (omega (arith, lt)) e
