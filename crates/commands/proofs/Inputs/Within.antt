-- What is right for one call is right for another.
use Rattle.std.proofs.Common.{◌≡◌, ◌≤◌, Bool, true, ℕ, List, [], ◌++◌, Ok, Err, Result, arith, inl, inr}
use Rattle.std.specs.declared.option.Option.{Option}
use Rattle.io_edge.specs.Told.{Coming}
use Rattle.spiral_words.specs.declared.statuses.status.Status.{Status}
use Rattle.commands.specs.Input.Outcomes.{Outcomes, Meets, SourceMeets}
use Rattle.commands.specs.Input.Stage.{Stage, given, ◌>>=◌}
use Rattle.commands.specs.Equations.Front.{Front, taken_from, room_behind, MayGoOn, HasEnded, ordered, Work, by_front}
use Rattle.commands.specs.Equations.Front.{staged}
use Rattle.io_edge.specs.Feed.{limit}
use Rattle.commands.proofs.Inputs.OutcomeLemmas.{all_few}
use Rattle.commands.proofs.Inputs.Nested.{joined, unnested, answer_map, broken_map, cut_map}

-- all that is right for the first is right for the second
pub record Within (a b : Outcomes) : Type 1 where
  pub most : a.most ≤ b.most
  pub answer : (bytes : List ℕ) (s : Status) (t : List ℕ) → a.answer bytes s t → b.answer bytes s t
  pub broken : (read : List ℕ) (ended : Type 0) (t : List ℕ) → a.broken read ended t → b.broken read ended t
  pub cut : (read left t taken : List ℕ) → a.cut read left t taken → b.cut read left t taken

pub meets_within : (a b : Outcomes) (bytes left : List ℕ) (ended : Bool) (before after : Option (List ℕ))
    (s : Status) → Within a b
    → Meets a bytes left ended before after s → Meets b bytes left ended before after s
meets_within a b bytes left ended before after s w m = record {
  answer = λ defined. let p = m.answer defined in (p.0, w.answer bytes s p.0 p.1, p.2);
  read_fault = λ fault. let p = m.read_fault fault in (p.0, p.1, p.2, w.broken p.0 (ended ≡ true) p.1 p.3, p.4);
  write_fault = λ fault. let p = m.write_fault fault in (p.0, p.1, p.2, p.3, w.cut p.0 left p.1 p.3.front p.4);
}

pub told_within : (a b : Outcomes) (before left : Coming) (out out' : Option (List ℕ)) (s : Status) → Within a b
    → SourceMeets a before left out out' s → SourceMeets b before left out out' s
told_within a b before left out out' s w m = record {
  read = m.read;
  consumed = m.consumed;
  few = omega (arith, m.few, w.most);
  meets = λ rest tells. meets_within a b (m.read ++ rest) rest left.told.ended out out' s w (m.meets rest tells);
}

pub within_then : (a b c : Outcomes) → Within a b → Within b c → Within a c
within_then a b c v w = record {
  most = omega (arith, v.most, w.most);
  answer = λ bytes s t p. w.answer bytes s t (v.answer bytes s t p);
  broken = λ read ended t p. w.broken read ended t (v.broken read ended t p);
  cut = λ read left t taken p. w.cut read left t taken (v.cut read left t taken p);
}

pub ordered_map : {A : Type 0} (front : Front) (orders others : List ℕ → Stage A) (bytes : List ℕ)
    → ((text : List ℕ) (r : Result A Status) → orders text r → others text r)
    → (r : Result A Status) → ordered front orders bytes r → ordered front others bytes r
ordered_map front orders others bytes h (Ok v) p = record { value = p.value; before = p.before; behind = h p.value (Ok v) p.behind }
ordered_map front orders others bytes h (Err s) (inl p) = inl p
ordered_map front orders others bytes h (Err s) (inr p) = inr (record { value = p.value; before = p.before; behind = h p.value (Err s) p.behind })

-- more orders, and more that is right after the front
pub front_within : {A : Type 0} (front : Front) (orders others : List ℕ → Stage A) (v w : A → Work)
    → ((text : List ℕ) (r : Result A Status) → orders text r → others text r)
    → ((a : A) (room : ℕ) → Within (v a room) (w a room)) → Within (by_front front orders v) (by_front front others w)
front_within {A} front orders others v w g h = record {
  most = all_few limit;
  answer = λ bytes s t p.
      answer_map (ordered front orders bytes) (ordered front others bytes) (λ (a : A). (v a (room_behind front bytes)).answer (front.behind bytes))
      (λ (a : A). (w a (room_behind front bytes)).answer (front.behind bytes)) s t (ordered_map front orders others bytes g)
      (λ a q. (h a (room_behind front bytes)).answer (front.behind bytes) s t q) p;
  broken = λ read ended t p.
      broken_map (MayGoOn front read) (HasEnded front read ended) (ordered front orders read) (ordered front others read)
      (λ (a : A). (v a (room_behind front read)).broken (front.behind read) ended) (λ (a : A). (w a (room_behind front read)).broken (front.behind read) ended) t
      (ordered_map front orders others read g) (λ a q. (h a (room_behind front read)).broken (front.behind read) ended t q) p;
  cut = λ read left t taken p.
      let room = room_behind front read in
      cut_map (HasEnded front read (left ≡ [])) (ordered front orders read) (ordered front others read)
      (λ (a : A). (v a room).cut (front.behind read) left t taken)
      (λ (a : A). (w a room).cut (front.behind read) left t taken)
      (ordered_map front orders others read g) (λ a q. (h a room).cut (front.behind read) left t taken q) p;
}

join_broken : {A B : Type 0} (front : Front) (orders : List ℕ → Stage A) (next : A → Stage B) (work : B → Work)
    (read : List ℕ) (ended : Type 0) (t : List ℕ)
    → (by_front front orders (λ (a : A). staged (next a) work)).broken read ended t
    → (by_front front (λ text. orders text >>= next) work).broken read ended t
join_broken front orders next work read ended t (inl p) = inl p
join_broken front orders next work read ended t (inr (a, p, (b, n, q))) =
    inr (b, record { front = p.front; gives = joined (given (taken_from front read)) orders next (Ok b) (record { value = a; before = p.gives; behind = n }) }, q)

-- the last stage before the work may stand with what a front orders
pub front_join : {A B : Type 0} (front : Front) (orders : List ℕ → Stage A) (next : A → Stage B) (work : B → Work)
    → Within (by_front front orders (λ (a : A). staged (next a) work))
    (by_front front (λ text. orders text >>= next) work)
front_join {A} {B} front orders next work = record {
  most = all_few limit;
  answer = λ bytes s t p.
      let Settles : B → Status → List ℕ → Type 0 = λ b. (work b (room_behind front bytes)).answer (front.behind bytes) in
      answer_map (ordered front orders bytes >>= next) (ordered front (λ text. orders text >>= next) bytes) Settles Settles s t
      (λ r q. joined (given (taken_from front bytes)) orders next r q) (λ b q. q) (unnested (ordered front orders bytes) next Settles s t p);
  broken = λ read ended t p. join_broken front orders next work read ended t p;
  cut = λ read left t taken p. (
    p.2.0,
    record {
      front = p.1.front;
      gives = joined (given (taken_from front read)) orders next (Ok p.2.0) (record { value = p.0; before = p.1.gives; behind = p.2.1 });
    },
    p.2.2,
  );
}
