use Rattle.std.proofs.Common.{Global, map, subst, ◌∙◌, string_bytes, inr}
use Rattle.std.proofs.lemmas.Result.{err_from_is_err_and}
use Rattle.spiral_words.specs.Asked.{IsAsked}
use Rattle.spiral_words.specs.declared.Command.{Command}
use Rattle.spiral_words.specs.declared.Command.TheVariants as command
use Rattle.commands.proofs.Inputs.AskLemmas.{reads_same}
use Rattle.spiral_main.proofs.Accounts.{accounted_nothing, accounted_words, command_told}
use Rattle.spiral_main.proofs.run.work.Goals as goal

pub returns-in_err-command-clause-told : goal.returns-in_err-command-clause-told
returns-in_err-command-clause-told g c =
    let words = map (string_bytes {Z = Global}) c.args.words.now.items in
    let p = err_from_is_err_and c.from_residual-in_err-command.result c.from_residual-in_err-command.ensures.1 in
    rw (p.1, p.2) (accounted_words words _ _ c.in_err-command.field-0.0 c.in_err-command.ensures.refused c.in_err-command.ensures.refusal)

pub returns-in-ByRequest-clause-told : goal.returns-in-ByRequest-clause-told
returns-in-ByRequest-clause-told g c =
    command_told (map (string_bytes {Z = Global}) c.args.words.now.items) c.in_ok-command.command
    (command.ByRequest c.in-ByRequest.command) c.in_ok-feed.feed c.perform-ended.new.feed _ _ _ _ _
    c.in_ok-feed.ensures c.in_ok-command.ensures.command c.in-ByRequest.is c.holds_a_block.ensures c.perform-ended.ensures.ends.empty c.perform-ended.ensures.told

pub returns-in-ByRequest-clause-end : goal.returns-in-ByRequest-clause-end
returns-in-ByRequest-clause-end g c = λ success other.
    let words = map (string_bytes {Z = Global}) c.args.words.now.items in
    let same = reads_same words (command.ByRequest c.in-ByRequest.command) other.0 (subst (λ (k : Command). IsAsked words k) c.in-ByRequest.is c.in_ok-command.ensures.command) other.1 in
    (c.perform-ended.ensures.end success (same ∙ other.2)).1

pub returns-in-ByRequest-clause-after : goal.returns-in-ByRequest-clause-after
returns-in-ByRequest-clause-after g c = λ _. (c.in_ok-command.command, c.in_ok-command.ensures.command)

pub returns-in-ByRequest-clause-words : goal.returns-in-ByRequest-clause-words
returns-in-ByRequest-clause-words g c = inr (inr (c.perform-ended.ensures.ends.usage, (c.in_ok-command.command, c.in_ok-command.ensures.command)))

pub returns-in-ByFormula-clause-told : goal.returns-in-ByFormula-clause-told
returns-in-ByFormula-clause-told g c =
    command_told (map (string_bytes {Z = Global}) c.args.words.now.items) c.in_ok-command.command
    (command.ByFormula c.in-ByFormula.modulus c.in-ByFormula.command) c.in_ok-feed.feed c.by_formula-ended.new.feed _ _ _ _ _
    c.in_ok-feed.ensures c.in_ok-command.ensures.command c.in-ByFormula.is c.holds_a_block-in-ByFormula.ensures c.by_formula-ended.ensures.ends.empty c.by_formula-ended.ensures.told

pub returns-in-ByFormula-clause-end : goal.returns-in-ByFormula-clause-end
returns-in-ByFormula-clause-end g c = λ success other.
    let words = map (string_bytes {Z = Global}) c.args.words.now.items in
    let same = reads_same words (command.ByFormula c.in-ByFormula.modulus c.in-ByFormula.command) other.0 (subst (λ (k : Command). IsAsked words k) c.in-ByFormula.is c.in_ok-command.ensures.command) other.1 in
    (c.by_formula-ended.ensures.end success (same ∙ other.2)).1

pub returns-in-ByFormula-clause-after : goal.returns-in-ByFormula-clause-after
returns-in-ByFormula-clause-after g c = λ _. (c.in_ok-command.command, c.in_ok-command.ensures.command)

pub returns-in-ByFormula-clause-words : goal.returns-in-ByFormula-clause-words
returns-in-ByFormula-clause-words g c = inr (inr (c.by_formula-ended.ensures.ends.usage, (c.in_ok-command.command, c.in_ok-command.ensures.command)))

pub returns-in-ByListing-clause-told : goal.returns-in-ByListing-clause-told
returns-in-ByListing-clause-told g c =
    command_told (map (string_bytes {Z = Global}) c.args.words.now.items) c.in_ok-command.command
    (command.ByListing c.in-ByListing.schedule) c.in_ok-feed.feed c.exec-ended.new.feed _ _ _ _ _
    c.in_ok-feed.ensures c.in_ok-command.ensures.command c.in-ByListing.is c.holds_a_block-in-ByListing.ensures c.exec-ended.ensures.ends.empty c.exec-ended.ensures.told

pub returns-in-ByListing-clause-end : goal.returns-in-ByListing-clause-end
returns-in-ByListing-clause-end g c = λ success other.
    (c.exec-ended.ensures.end success).1

pub returns-in-ByListing-clause-after : goal.returns-in-ByListing-clause-after
returns-in-ByListing-clause-after g c = λ _. (c.in_ok-command.command, c.in_ok-command.ensures.command)

pub returns-in-ByListing-clause-words : goal.returns-in-ByListing-clause-words
returns-in-ByListing-clause-words g c = inr (inr (c.exec-ended.ensures.ends.usage, (c.in_ok-command.command, c.in_ok-command.ensures.command)))

pub returns-clause-told : goal.returns-clause-told
returns-clause-told g c =
    command_told (map (string_bytes {Z = Global}) c.args.words.now.items) c.in_ok-command.command
    (command.ByList c.in-ByList.schedule c.in-ByList.code) c.in_ok-feed.feed c.convolve-ended.new.feed _ _ _ _ _
    c.in_ok-feed.ensures c.in_ok-command.ensures.command c.in-ByList.is c.holds_a_block-in-ByList.ensures c.convolve-ended.ensures.ends.empty c.convolve-ended.ensures.told

pub returns-clause-end : goal.returns-clause-end
returns-clause-end g c = λ success other.
    let words = map (string_bytes {Z = Global}) c.args.words.now.items in
    let same = reads_same words (command.ByList c.in-ByList.schedule c.in-ByList.code) other.0 (subst (λ (k : Command). IsAsked words k) c.in-ByList.is c.in_ok-command.ensures.command) other.1 in
    (c.convolve-ended.ensures.end success (same ∙ other.2)).1

pub returns-clause-after : goal.returns-clause-after
returns-clause-after g c = λ _. (c.in_ok-command.command, c.in_ok-command.ensures.command)

pub returns-clause-words : goal.returns-clause-words
returns-clause-words g c = inr (inr (c.convolve-ended.ensures.ends.usage, (c.in_ok-command.command, c.in_ok-command.ensures.command)))

pub returns-in_err-feed-clause-told : goal.returns-in_err-feed-clause-told
returns-in_err-feed-clause-told g c =
    let p = err_from_is_err_and c.from_residual.result c.from_residual.ensures.1 in rw (p.1, p.2) (accounted_nothing (map (string_bytes {Z = Global}) c.args.words.now.items) _ _)
