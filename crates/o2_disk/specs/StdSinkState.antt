-- What a contract knows of a sink over the standard output.
use Rattle.std.specs.Prelude.{None}
use Rattle.o2_disk.specs.Output.{SinkState}
use Rattle.o2_disk.specs.declared.std_sink.StdSink.{StdSink}

abbrev pub std_sink_state : StdSink → SinkState
std_sink_state s = record { taken = None; faults = s.faults; failed_last = s.failed_last }
