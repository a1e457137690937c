-- Stages one after another, and what is answered by them.
use Rattle.std.proofs.Common.{◌≡◌, ℕ, List, Ok, Err, Result, refl, subst, sym, inl, inr}
use Rattle.spiral_words.specs.declared.statuses.status.Status.{Status}
use Rattle.commands.specs.Input.Stage.{Stage, given, ◌>>=◌, IsAnswerBy, IsBrokenBy, IsCutBy}

-- Three stages

pub joined : {A B C : Type 0} (a : Stage A) (b : A → Stage B) (c : B → Stage C) (r : Result C Status)
    → ((a >>= b) >>= c) r → (a >>= (λ (x : A). b x >>= c)) r
joined a b c (Ok v) p = record {
  value = p.before.value;
  before = p.before.before;
  behind = record { value = p.value; before = p.before.behind; behind = p.behind };
}
joined a b c (Err s) (inl (inl p)) = inl p
joined a b c (Err s) (inl (inr p)) = inr (record { value = p.value; before = p.before; behind = inl p.behind })
joined a b c (Err s) (inr p) = inr (record {
  value = p.before.value;
  before = p.before.before;
  behind = inr (record { value = p.value; before = p.before.behind; behind = p.behind });
})

-- A stage that changes nothing

ok_same : {A : Type 0} (a b : Result A Status) (x y : A) → a ≡ Ok x → b ≡ Ok y → a ≡ b → x ≡ y
ok_same a b x y e f g = cc

ok_err : {A : Type 0} (s : Status) (a b : Result A Status) (x : A) → a ≡ Err s → b ≡ Ok x → a ≡ b → ⊥
ok_err s a b x e f g = absurd (cc)

pub no_unit : {A : Type 0} (a : Stage A) (r : Result A Status) → (a >>= (λ (x : A). given (Ok x))) r → a r
no_unit {A} a (Ok v) p = subst (λ (x : A). a (Ok x)) (sym (ok_same (Ok v) (Ok p.value) v p.value refl refl p.behind)) p.before
no_unit a (Err s) (inl p) = p
no_unit a (Err s) (inr p) = absurd (ok_err s (Err s) (Ok p.value) p.value refl refl p.behind)

-- The answer by two stages is that by the first, of answers by the second

pub unnested : {A B : Type 0} (first : Stage A) (next : A → Stage B) (Settles : B → Status → List ℕ → Type 0)
    (s : Status) (t : List ℕ)
    → IsAnswerBy first (λ (a : A). IsAnswerBy (next a) Settles) s t → IsAnswerBy (first >>= next) Settles s t
unnested first next Settles s t (inl p) = inl (inl p.0, p.1)
unnested first next Settles s t (inr (a, gives, inl p)) = inl (inr (record { value = a; before = gives; behind = p.0 }), p.1)
unnested first next Settles s t (inr (a, gives, inr p)) = inr (p.0, record { value = a; before = gives; behind = p.1 }, p.2)

-- Another stage, and more that is settled

pub answer_map : {A : Type 0} (stage other : Stage A) (P Q : A → Status → List ℕ → Type 0) (s : Status) (t : List ℕ)
    → ((r : Result A Status) → stage r → other r)
    → ((a : A) → P a s t → Q a s t) → IsAnswerBy stage P s t → IsAnswerBy other Q s t
answer_map stage other P Q s t g h (inl p) = inl (g (Err s) p.0, p.1)
answer_map stage other P Q s t g h (inr p) = inr (p.0, g (Ok p.0) p.1, h p.0 p.2)

pub cut_map : {A : Type 0} (ended : Type 0) (stage other : Stage A) (P Q : A → Type 0)
    → ((r : Result A Status) → stage r → other r)
    → ((a : A) → P a → Q a) → IsCutBy ended stage P → IsCutBy ended other Q
cut_map ended stage other P Q g h p = (p.0, record { front = p.1.front; gives = g (Ok p.0) p.1.gives }, h p.0 p.2)

pub broken_map : {A : Type 0} (unended ended : Type 0) (stage other : Stage A) (P Q : A → List ℕ → Type 0)
    (t : List ℕ) → ((r : Result A Status) → stage r → other r)
    → ((a : A) → P a t → Q a t) → IsBrokenBy unended ended stage P t → IsBrokenBy unended ended other Q t
broken_map unended ended stage other P Q t g h (inl p) = inl p
broken_map unended ended stage other P Q t g h (inr p) =
    inr (cut_map ended stage other (λ a. P a t) (λ a. Q a t) g (λ a q. h a q) p)
