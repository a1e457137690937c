-- A term merged by itself.
use Rattle.std.specs.Prelude.{ℕ, List}
use Rattle.sigma_spl.specs.Merge.{Room, ended, from_end, merged, nothing}
use Rattle.sigma_spl.specs.Nest.{PlainNest}
use Rattle.sigma_spl.specs.Term.{PlainTerm}

-- its passes where nothing waits and no pass is there yet, the latest first
abbrev pub merged_alone : Room → ℕ → PlainTerm → List (List PlainNest)
merged_alone room n t =
    let all = merged room n nothing t in ended room n (from_end all.waiting) all.passes
