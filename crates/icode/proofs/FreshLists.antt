-- Lists of actions that read what is known, or what an action before them has put.
use Rattle.std.proofs.Common.{◌≡◌, ℕ, zero, suc, ◌+◌, ◌<◌, ◌⊎◌, List, [], ◌∷◌, ◌++◌, Some, flat_map, take}
use Rattle.std.proofs.Common.{inl, inr, ⊎_elim, refl, sym, subst, arith, Contains, append-nil, append_assoc}
use Rattle.std.specs.Prelude.{slice_get}
use Rattle.std.proofs.lemmas.List.Elements.{Contains-append_cases, Contains-append_left, Contains-append_right}
use Rattle.icode.specs.declared.action.Action.{Action}
use Rattle.icode.specs.Sequences.Nests.{bodies, nest, AreInRange}
use Rattle.icode.proofs.Lines.{Contains-nil}

-- nothing is known
abbrev pub Nothing : ℕ → Type 0
Nothing k = ⊥

-- what actions read, and what they put
module _ (reads puts : Action → List ℕ) where
  -- one of the actions puts it
  abbrev pub HavePut : List Action → ℕ → Type 0
  HavePut actions k = Contains (flat_map puts actions) k

  abbrev pub ReadKnown : (ℕ → Type 0) → List Action → Type 0
  ReadKnown K [] = Unit {0}
  ReadKnown K (a ∷ actions) =
      ((k : ℕ) → Contains (reads a) k → K k) × ReadKnown (λ k. K k ⊎ Contains (puts a) k) actions

  pub known-wider : (K L : ℕ → Type 0) → ((k : ℕ) → K k → L k) → (actions : List Action) → ReadKnown K actions →
      ReadKnown L actions
  known-wider K L le [] h = tt
  known-wider K L le (a ∷ actions) h = (
    λ k has. le k (h.0 k has),
    known-wider (λ k. K k ⊎ Contains (puts a) k) (λ k. L k ⊎ Contains (puts a) k)
        (λ k. ⊎_elim (λ (x : K k). inl (le k x)) (λ (y : Contains (puts a) k). inr y)) actions h.1,
  )

  pub put-first : (a : Action) (actions : List Action) (k : ℕ) → HavePut (a ∷ actions) k →
      Contains (puts a) k ⊎ HavePut actions k
  put-first a actions k h = Contains-append_cases (puts a) (flat_map puts actions) k h

  pub put-now : (a : Action) (actions : List Action) (k : ℕ) → Contains (puts a) k ⊎ HavePut actions k →
      HavePut (a ∷ actions) k
  put-now a actions k h =
      ⊎_elim
      (λ (now : Contains (puts a) k). Contains-append_left (puts a) (flat_map puts actions) k now)
      (λ (later : HavePut actions k). Contains-append_right (puts a) (flat_map puts actions) k later)
      h

  -- one list after another
  pub known-append : (K : ℕ → Type 0) (xs ys : List Action) → ReadKnown K xs → ReadKnown (λ k. K k ⊎ HavePut xs k) ys →
      ReadKnown K (xs ++ ys)
  known-append K [] ys first rest =
      known-wider (λ k. K k ⊎ HavePut [] k) K
      (λ k. ⊎_elim (λ (x : K k). x) (λ (none : HavePut [] k). absurd (Contains-nil k none))) ys rest
  known-append K (a ∷ xs) ys first rest = (
    first.0,
    known-append (λ k. K k ⊎ Contains (puts a) k) xs ys first.1
        (known-wider (λ k. K k ⊎ HavePut (a ∷ xs) k) (λ k. (K k ⊎ Contains (puts a) k) ⊎ HavePut xs k)
        (λ k. ⊎_elim
        (λ (x : K k). inl (inl x))
        (λ (put : HavePut (a ∷ xs) k). ⊎_elim
        (λ (now : Contains (puts a) k). inl (inr now))
        (λ (later : HavePut xs k). inr later)
        (put-first a xs k put))) ys rest),
  )

  pub known-both : (K : ℕ → Type 0) (xs ys : List Action) → ReadKnown K xs → ReadKnown K ys → ReadKnown K (xs ++ ys)
  known-both K xs ys first rest =
      known-append K xs ys first (known-wider K (λ k. K k ⊎ HavePut xs k) (λ k (x : K k). inl x) ys rest)

  -- rounds of loops that each read what is known before the loop
  pub known-bodies : (K : ℕ → Type 0) (n : ℕ) (body : ℕ → List Action) → ((v : ℕ) → v < n → ReadKnown K (body v)) →
      ReadKnown K (bodies n body)
  known-bodies K zero body each = tt
  known-bodies K (suc n) body each =
      known-both K (bodies n body) (body n) (known-bodies K n body (λ v low. each v (omega (arith, low)))) (each n (omega arith))

  pub known-nest : (K : ℕ → Type 0) (counts : List ℕ) (body : List ℕ → List Action) (outer : List ℕ) →
      ((vs : List ℕ) → AreInRange counts vs → ReadKnown K (body (outer ++ vs))) → ReadKnown K (nest counts body outer)
  known-nest K [] body outer each = subst (λ us. ReadKnown K (body us)) (append-nil outer) (each [] tt)
  known-nest K (count ∷ counts) body outer each =
      known-bodies K count (λ v. nest counts body (outer ++ v ∷ [])) (λ v below.
      known-nest K counts body (outer ++ v ∷ []) (λ vs range.
      subst (λ us. ReadKnown K (body us)) (sym (append_assoc outer (v ∷ []) vs)) (each (v ∷ vs) (below, range))))

  -- each of them reads what is known, or what those before it have put
  pub known-at : (K : ℕ → Type 0) (actions : List Action) → ReadKnown K actions → (n : ℕ) (a : Action) →
      slice_get actions n ≡ Some a → (k : ℕ) → Contains (reads a) k → K k ⊎ HavePut (take n actions) k
  known-at K [] h n a e k has = absurd (cc)
  known-at K (x ∷ actions) h zero a e k has =
      let same : x ≡ a = cc in
      inl (h.0 k (subst (λ (b : Action). Contains (reads b) k) (sym same) has))
  known-at K (x ∷ actions) h (suc n) a e k has =
      ⊎_elim
      (⊎_elim
      (λ (before : K k). inl before)
      (λ (first : Contains (puts x) k). inr (Contains-append_left (puts x) (flat_map puts (take n actions)) k first)))
      (λ (later : HavePut (take n actions) k). inr (Contains-append_right (puts x) (flat_map puts (take n actions)) k later))
      (known-at (λ k. K k ⊎ Contains (puts x) k) actions h.1 n a e k has)

  -- where each of them reads what is known before all
  pub known-all : (K : ℕ → Type 0) (actions : List Action) →
      ((a : Action) → Contains actions a → (k : ℕ) → Contains (reads a) k → K k) → ReadKnown K actions
  known-all K [] each = tt
  known-all K (a ∷ actions) each = (
    λ k has. each a (Contains-append_left (a ∷ []) actions a (0, omega arith, refl)) k has,
    known-wider K (λ k. K k ⊎ Contains (puts a) k) (λ k (x : K k). inl x) actions
        (known-all K actions (λ b there k has. each b (Contains-append_right (a ∷ []) actions b there) k has)),
  )

  -- where each of them reads what is known, or what those before it have put
  pub known-from : (K : ℕ → Type 0) (actions : List Action) →
      ((n : ℕ) (a : Action) → slice_get actions n ≡ Some a → (k : ℕ) → Contains (reads a) k →
      K k ⊎ HavePut (take n actions) k) → ReadKnown K actions
  known-from K [] each = tt
  known-from K (a ∷ actions) each = (
    λ k has. ⊎_elim
        (λ (x : K k). x)
        (λ (none : HavePut (take 0 (a ∷ actions)) k). absurd (Contains-nil k none))
        (each 0 a refl k has),
    known-from (λ k. K k ⊎ Contains (puts a) k) actions (λ n b e k has. ⊎_elim
        (λ (x : K k). inl (inl x))
        (λ (put : HavePut (take (suc n) (a ∷ actions)) k). ⊎_elim
        (λ (now : Contains (puts a) k). inl (inr now))
        (λ (later : HavePut (take n actions) k). inr later)
        (put-first a (take n actions) k put))
        (each (suc n) b e k has)),
  )
