use Rattle.std.proofs.Common.{rules, arith, ◌≡◌, ◌∙◌, true, length, take, ◌≤◌, ◌+◌, subst}
use Rattle.std.proofs.lemmas.Grind.{common_steps}
use Rattle.io_edge.specs.Told.{Gives, Told}
use Rattle.io_edge.proofs.SourceLemmas.{given_of, gives_on}
use Rattle.io_edge.proofs.sources.QuietSourceSource.read.Goals as goal
use Rattle.io_edge.proofs.sources.QuietSourceSource.read.Goals.{then-self, else-self+then-count-eq0, else-self+else-count-eq0}

pub returns-clause-bytes : goal.returns-clause-bytes
returns-clause-bytes c =
    let at = c.self.inside.at in
    let count = c.fill-count.result in
    let items = c.self.inside.bytes.items in
    let full : c.self.inside.ended ≡ true → length items ≤ at = λ ends. let all = c.self.invariant.1 ends in omega (arith, all) in
    subst (λ (v : Told). Gives v (given_of items (at + count) c.if-self.self) (take count c.fill-count.new.buf)) c.self.view_is
    (gives_on items at count c.self.inside.ended c.if-self.self (take count c.fill-count.new.buf)
    (grind (arith, common_steps, c.fill-count.ensures.front, c.deref.ensures.value))
    full
    (elim c.if-self.branch [
      | then-self w ↦ λ _. let all = full w.if-self.true in omega (arith, all)
      | else-self+then-count-eq0 w ↦ λ ends. grind (arith, common_steps, ends, w.self-is, w.is_empty.ensures, w.if-count-eq0.true, c.fill-count.ensures.count, c.deref.ensures.value)
      | else-self+else-count-eq0 w ↦ λ ends. grind (arith, ends, w.self-is)
    ])
    (elim c.if-self.branch [
      | then-self w ↦ λ _. w.self-is ∙ w.if-self.true
      | else-self+then-count-eq0 w ↦ λ was. grind (arith, was, w.if-self.false)
      | else-self+else-count-eq0 w ↦ λ was. grind (arith, was, w.if-self.false)
    ]))
