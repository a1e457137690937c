-- The request that fields make up.
use Rattle.std.proofs.Common.{◌≡◌, ℕ, ◌≤◌, Ok, Err, refl, sym, ap, subst, ◌∙◌}
use Rattle.matrix_meaning.specs.declared.Dimension.{Dimension}
use Rattle.matrix_meaning.specs.declared.Dimensions.{Dimensions}
use Rattle.matrix_meaning.specs.declared.Request.{Request}
use Rattle.matrix_meaning.specs.Dimensions.{dims_of}
use Rattle.request_text.specs.declared.fault.RequestFault.{RequestFault}
use Rattle.request_text.specs.declared.one_to_four.OneToFour.{OneToFour}
use Rattle.request_text.specs.declared.one_to_four.OneToFour.TheVariants as few
use Rattle.request_text.specs.declared.spelling.Fields.{Fields}
use Rattle.request_text.specs.OneToFour.{items, spelt}
use Rattle.request_text.specs.Limits.{◌>>◌, sized, limited, judged}
use Rattle.request_text.specs.Line.{dimensions_of, root_of}
use Rattle.request_text.proofs.Limits.{sized_is}

-- its size is the product that the tests give
pub spelt_size : (f : Fields) (size : ℕ) → sized (items f.dimensions) ≡ Ok size → size ≡ (spelt f).size
spelt_size f size e = (sized_is (items f.dimensions) size e).0

pub spelt_some : (f : Fields) (size : ℕ) (r : Request) → sized (items f.dimensions) ≡ Ok size → r ≡ spelt f → 1 ≤ r.size
spelt_some f size r e is =
    subst (λ (q : Request). 1 ≤ q.size) (sym is)
    (subst (λ n. 1 ≤ n) (spelt_size f size e) (sized_is (items f.dimensions) size e).1.0)

pub spelt_is : (f : Fields) (size root : ℕ) (ds : Dimensions) → sized (items f.dimensions) ≡ Ok size
    → root ≡ root_of (items f.dimensions) → ds ≡ dimensions_of (items f.dimensions)
    → ◌≡◌ {A = Request}
    (record {
      kind = f.kind;
      size = size;
      modulus = f.modulus;
      root = root;
      dimensions = ds;
      procs = f.procs;
      line = f.line;
      lanes = f.lanes;
      unroll = f.unroll;
      budget = f.budget;
      weight = f.weight;
    })
    (spelt f)
spelt_is f size root ds e is_root are =
    let is_size : size ≡ (spelt f).size = spelt_size f size e in
    rw (is_size, is_root, are) refl

-- its dimensions are those of the fields
dims_by_items : (few : OneToFour Dimension) (f : Fields) → f.dimensions ≡ few → dims_of (spelt f) ≡ items few
dims_by_items (few.One a) f e = rw e refl
dims_by_items (few.Two a b) f e = rw e refl
dims_by_items (few.Three a b c) f e = rw e refl
dims_by_items (few.Four a b c d) f e = rw e refl

-- where the sizes pass, the other tests decide
judged_spelt : (f : Fields) (size : ℕ) → sized (items f.dimensions) ≡ Ok size
    → judged (spelt f) ≡ (limited (spelt f) >> Ok (spelt f))
judged_spelt f size e =
    ap (λ s. (s >> limited (spelt f)) >> Ok (spelt f)) (ap sized (dims_by_items f.dimensions f refl) ∙ e)

pub spelt_faulty : (f : Fields) (size : ℕ) (r : Request) (fault : RequestFault) → sized (items f.dimensions) ≡ Ok size
    → r ≡ spelt f → limited r ≡ Err fault → judged (spelt f) ≡ Err fault
spelt_faulty f size r fault e is l = judged_spelt f size e ∙ ap (λ t. t >> Ok (spelt f)) (ap limited (sym is) ∙ l)

pub spelt_passed : (f : Fields) (size : ℕ) (r : Request) → sized (items f.dimensions) ≡ Ok size → r ≡ spelt f
    → limited r ≡ Ok tt → Ok r ≡ judged (spelt f)
spelt_passed f size r e is l = ap (λ q. Ok q) is
    ∙ sym (judged_spelt f size e ∙ ap (λ t. t >> Ok (spelt f)) (ap limited (sym is) ∙ l))
