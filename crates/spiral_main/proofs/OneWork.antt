-- What is right for a command has one status and one text.
use Rattle.std.proofs.Common.{◌≡◌, ℕ, List, [], ◌∷◌, sym, ap, ◌∙◌, arith, inl, inr}
use Rattle.plan_cert.specs.declared.verdict.Verdict.{Verdict}
use Rattle.spiral_words.specs.declared.statuses.status.Status.{Status}
use Rattle.commands.specs.Checked.{status_of_verdict, verdict_text}
use Rattle.commands.specs.Equations.Front.{Front, Work, by_front, ordered, room_behind, taken_from}
use Rattle.commands.specs.Equations.Works.{Wants, by_first, judging, mapping, writing}
use Rattle.commands.specs.Input.Outcomes.{Outcomes}
use Rattle.commands.specs.Input.Stage.{Stage, given}
use Rattle.commands.proofs.Inputs.Stages.{IsDecided, bind_decided, given_decided, of_answers}

pub record HasOne (outcomes : Outcomes) : Type 0 where
  pub status : (bytes : List ℕ) (a b : Status) (s t : List ℕ) → outcomes.answer bytes a s → outcomes.answer bytes b t →
      a ≡ b
  pub text : (bytes : List ℕ) (a b : Status) (s t : List ℕ) → outcomes.answer bytes a s → outcomes.answer bytes b t →
      s ≡ t

-- By a front

pub ordered_decided : {A : Type 0} (front : Front) (orders : List ℕ → Stage A) (bytes : List ℕ)
    → ((text : List ℕ) → IsDecided (orders text)) → IsDecided (ordered front orders bytes)
ordered_decided front orders bytes decided =
    bind_decided (given (taken_from front bytes)) orders (given_decided (taken_from front bytes)) decided

pub front_one : {A : Type 0} (front : Front) (orders : List ℕ → Stage A) (work : A → Work)
    → ((text : List ℕ) → IsDecided (orders text)) → ((value : A) (room : ℕ) → HasOne (work value room))
    → HasOne (by_front front orders work)
front_one {A} front orders work decided one = record {
  status = λ bytes a b s t.
      of_answers (a ≡ b) (ordered front orders bytes) (λ (value : A). (work value (room_behind front bytes)).answer (front.behind bytes)) a b s t
      (ordered_decided front orders bytes decided) (λ same _. same) (λ value _ p q. (one value (room_behind front bytes)).status (front.behind bytes) a b s t p q);
  text = λ bytes a b s t.
      of_answers (s ≡ t) (ordered front orders bytes) (λ (value : A). (work value (room_behind front bytes)).answer (front.behind bytes)) a b s t
      (ordered_decided front orders bytes decided) (λ _ same. same) (λ value _ p q. (one value (room_behind front bytes)).text (front.behind bytes) a b s t p q);
}

-- The works

pub writing_one : (P : List ℕ → Type 0) (room : ℕ) → ((s t : List ℕ) → P s → P t → s ≡ t) → HasOne (writing P room)
writing_one P room same = record {
  status = λ bytes a b s t p q. p.0 ∙ sym q.0;
  text = λ bytes a b s t p q. same s t p.1 q.1;
}

pub mapping_one : (wants : Wants) (size modulus : ℕ) (P : List (List ℕ) → List ℕ → Type 0) (room : ℕ)
    → ((vectors : List (List ℕ)) (s t : List ℕ) → P vectors s → P vectors t → s ≡ t) →
    HasOne (mapping wants size modulus P room)
mapping_one wants size modulus P room same = record {
  status = λ bytes a b s t p q. p.0 ∙ sym q.0;
  text = λ bytes a b s t p q. same _ s t p.1 q.1;
}

pub first_one : (P : List ℕ → List (List ℕ) → List ℕ → Type 0) →
    ((h : List ℕ) (later : List (List ℕ)) (s t : List ℕ) → P h later s → P h later t → s ≡ t)
    → (vectors : List (List ℕ)) (s t : List ℕ) → by_first P vectors s → by_first P vectors t → s ≡ t
first_one P same [] s t p q = p ∙ sym q
first_one P same (h ∷ later) s t p q = same h later s t p q

judged_once : (V : List ℕ → Verdict → Type 0) (room : ℕ) (bytes : List ℕ) (a b : Status) (s t : List ℕ)
    → ((v w : Verdict) → V bytes v → V bytes w → v ≡ w)
    → (judging V room).answer bytes a s → (judging V room).answer bytes b t → (a ≡ b) × (s ≡ t)
judged_once V room bytes a b s t same (inl p) (inl q) = (p.1 ∙ sym q.1, p.2 ∙ sym q.2)
judged_once V room bytes a b s t same (inl p) (inr q) = absurd (omega (arith, p.0, q.0))
judged_once V room bytes a b s t same (inr p) (inl q) = absurd (omega (arith, p.0, q.0))
judged_once V room bytes a b s t same (inr p) (inr q) =
    let one = same p.1.0 q.1.0 p.1.1 q.1.1 in
    (p.1.2 ∙ ap status_of_verdict one ∙ sym q.1.2, p.1.3 ∙ ap verdict_text one ∙ sym q.1.3)

pub judging_one : (V : List ℕ → Verdict → Type 0) (room : ℕ) →
    ((bytes : List ℕ) (v w : Verdict) → V bytes v → V bytes w → v ≡ w) → HasOne (judging V room)
judging_one V room same = record {
  status = λ bytes a b s t p q. (judged_once V room bytes a b s t (same bytes) p q).0;
  text = λ bytes a b s t p q. (judged_once V room bytes a b s t (same bytes) p q).1;
}
