-- Phases as one, pass by pass.
use Rattle.std.proofs.Common.{◌≡◌, List, [], ◌∷◌, ◌++◌, map, sym, ap, ap₂, ◌∙◌, append_assoc, append-nil, Vec, Global}
use Rattle.std.proofs.lemmas.List.{map-append}
use Rattle.sigma_spl.specs.Shared.Owners.{all_passes}
use Rattle.sigma_spl.specs.Nest.{PlainNest}
use Rattle.sigma_spl.specs.Views.{plain_nest}
use Rattle.sigma_spl.specs.declared.nest.Nest.{Nest}
use Rattle.loop_merge.specs.MultipliedPasses.Views.{plain_passes, plain_phases}

abbrev Pass : Type 0
Pass = Vec Nest Global

abbrev pass_of : Pass → List PlainNest
pass_of zs = map plain_nest zs.items

all-append : (done : List (List (List PlainNest))) (ps : List (List PlainNest)) →
    all_passes (done ++ ps ∷ []) ≡ all_passes done ++ ps
all-append [] ps = append-nil ps
all-append (qs ∷ done) ps = ap (λ rest. qs ++ rest) (all-append done ps) ∙ sym (append_assoc qs (all_passes done) ps)

-- a phase more
pub phase-more : (done : List (Vec Pass Global)) (phase : Vec Pass Global) (old new : List Pass) →
    new ≡ old ++ phase.items → plain_passes old ≡ all_passes (plain_phases done) →
    plain_passes new ≡ all_passes (plain_phases (done ++ phase ∷ []))
phase-more done phase old new is before =
    ap plain_passes is ∙ map-append pass_of old phase.items ∙ ap (λ ps. ps ++ plain_passes phase.items) before
    ∙ sym (ap all_passes (map-append (λ (ps : Vec Pass Global). plain_passes ps.items) done (phase ∷ [])) ∙ all-append (plain_phases done) (plain_passes phase.items))

-- passes and others after them, as the one phase
pub one-phase : (none phases : List (Vec Pass Global)) (all : Vec Pass Global) (passes after : List Pass)
    (first second : List (List PlainNest)) → none ≡ [] → phases ≡ none ++ all ∷ [] → all.items ≡ passes ++ after →
    plain_passes passes ≡ first → plain_passes after ≡ second → plain_phases phases ≡ (first ++ second) ∷ []
one-phase none phases all passes after first second empty pushed appended before behind =
    ap plain_phases (pushed ∙ ap (λ ps. ps ++ all ∷ []) empty) ∙ ap (λ ps. plain_passes ps ∷ []) appended
    ∙ ap (λ ps. ps ∷ []) (map-append pass_of passes after ∙ ap₂ (λ xs ys. xs ++ ys) before behind)
