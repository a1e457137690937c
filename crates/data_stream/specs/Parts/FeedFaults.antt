-- The faults of a feed, as those of the rest.
use Rattle.io_edge.specs.declared.feed.FeedFault.{FeedFault}
use Rattle.io_edge.specs.declared.feed.FeedFault.TheVariants as feed
use Rattle.data_stream.specs.declared.parts.RestFault.{RestFault}
use Rattle.data_stream.specs.declared.parts.RestFault.TheVariants.{ReadFault, TooLong}

abbrev pub rest_fault : FeedFault → RestFault
rest_fault feed.ReadFault = ReadFault
rest_fault feed.TooLong = TooLong
