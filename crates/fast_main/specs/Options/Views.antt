-- What a call is asked for, as plain data.
use Rattle.fast_text.specs.TextForm.{text_form}
use Rattle.fast_main.specs.declared.options.asked.Options.{Options}
use Rattle.fast_main.specs.Options.Asked.{Asked}

abbrev pub plain_options : Options → Asked
plain_options options = record { size = options.size; lanes = options.lanes; form = text_form options.form }
