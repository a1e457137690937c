-- The faults of data, as those of a run over a stream.
use Rattle.data_stream.specs.declared.DataFault.{DataFault}
use Rattle.data_stream.specs.declared.DataFault.TheVariants as data_fault
use Rattle.runs.specs.declared.stream.StreamFault.{StreamFault}
use Rattle.runs.specs.declared.stream.StreamFault.TheVariants.{BadNumber, Truncated, TooLong, ReadFault}

abbrev pub stream_fault : DataFault → StreamFault
stream_fault (data_fault.BadNumber token) = BadNumber token
stream_fault (data_fault.Truncated have need) = Truncated have need
stream_fault data_fault.TooLong = TooLong
stream_fault data_fault.ReadFault = ReadFault
