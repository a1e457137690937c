use Rattle.c_meaning.proofs.Addresses.{elements_are_words, registers_are_words}
use Rattle.c_meaning.proofs.Entries.{tables_have_entries, entries_are_words}
use Rattle.c_meaning.proofs.laws.elements.Goals as goal

pub returns : goal.returns
returns _ = record { arrays = elements_are_words; registers = registers_are_words; tables = tables_have_entries; entries = entries_are_words }
