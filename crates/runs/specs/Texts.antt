-- The text of a vector's run.
use Rattle.std.specs.Prelude.{ℕ, Bool, List, [], ◌++◌, if◌then◌else◌, map}
use Rattle.data_stream.specs.Line.{line_of}
use Rattle.icode.specs.declared.event.Event.{Event}
use Rattle.icode.specs.declared.event.Event.TheVariants.{Turn}
use Rattle.icode.specs.Buffers.{buffered_start, buffered_results}
use Rattle.icode.specs.Machine.{Code, padded, results, start, words_at}
use Rattle.runs.specs.Lines.{trace_of}
use Rattle.runs.specs.Standing.{Standing, direct, memory_at, queued}
use Rattle.runs.specs.Walks.{ended}

-- the lines of a run's events, where they are asked for
abbrev pub asked_lines : Bool → Code → Standing → List Event → List ℕ
asked_lines asked code s events = if asked then trace_of code s events else []

-- what a run leaves in the second array
abbrev pub results_at : Code → Standing → List Event → List ℕ
results_at code s events = words_at code.size (memory_at (ended code s events)) (padded code)

-- the lines of the events from here on, where they are asked for, and the line of the results
abbrev pub text_at : Bool → Code → Standing → List Event → List ℕ
text_at asked code s events = asked_lines asked code s events ++ line_of (results_at code s events)

-- the text of a vector's run without store buffers
abbrev pub run_text : Bool → Code → List ℕ → List ℕ → List ℕ
run_text asked code turns x =
    asked_lines asked code (direct (start code x)) (map Turn turns) ++ line_of (results code x turns)

-- and with them
abbrev pub buffered_text : Bool → Code → List Event → List ℕ → List ℕ
buffered_text asked code events x =
    asked_lines asked code (queued (buffered_start code x)) events ++ line_of (buffered_results code x events)
