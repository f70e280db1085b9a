-- What a contract knows of a sink in memory.
use Rattle.std.specs.Prelude.{◌≡◌, ◌⊎◌, ℕ, ◌+◌, ◌-◌, ◌^◌, min, List, [], false, Some, Result, OnOk, OnErr}
use Rattle.std.specs.List.{Contains}
use Rattle.o2_disk.specs.Device.{Rose}
use Rattle.o2_disk.specs.Output.{SinkState}
use Rattle.o2_disk.specs.declared.mem_sink.MemSink.{MemSink}

-- the state that the trait speaks of
abbrev pub sink_state : MemSink → SinkState
sink_state m = record { taken = Some m.output.items; faults = m.faults; failed_last = m.failed_last }

-- the bytes that it took
abbrev pub output : MemSink → List ℕ
output m = m.output.items

-- how many puts took a number, up to the last number
abbrev pub puts_made : MemSink → ℕ
puts_made m = m.puts

-- the numbers of the puts that are to fail
abbrev pub failing_puts : MemSink → List ℕ
failing_puts m = m.failing.numbers.items

-- how many puts found no memory
abbrev pub starved_puts : MemSink → ℕ
starved_puts m = m.starved

pub record PutTakesNumber (old new : MemSink) : Type 0 where
  pub next : puts_made new ≡ min (puts_made old + 1) (2 ^ 64 - 1)
  pub starved : starved_puts new ≡ starved_puts old

-- the put found no memory: it took no number
pub record PutStarves (old new : MemSink) : Type 0 where
  pub same : puts_made new ≡ puts_made old
  pub starved : Rose (starved_puts old) (starved_puts new)

-- A put takes the next number and fails where that number is set, or it starves.
pub record PutNumbered {T E : Type 0} (old new : MemSink) (result : Result T E) : Type 0 where
  pub failing : failing_puts new ≡ failing_puts old
  pub ok : OnOk result (PutTakesNumber old new × (Contains (failing_puts old) (puts_made old) → ⊥))
  pub failed : OnErr result ((PutTakesNumber old new × Contains (failing_puts old) (puts_made old)) ⊎ PutStarves old new)

-- a sink that no call has reached yet
pub record IsFreshSink (m : MemSink) : Type 0 where
  pub output : output m ≡ []
  pub puts : puts_made m ≡ 0
  pub failing : failing_puts m ≡ []
  pub faults : m.faults ≡ 0
  pub last : m.failed_last ≡ false
  pub starved : starved_puts m ≡ 0

-- all but which puts are to fail is as it was
pub record SameSink (old new : MemSink) : Type 0 where
  pub output : output new ≡ output old
  pub puts : puts_made new ≡ puts_made old
  pub faults : new.faults ≡ old.faults
  pub last : new.failed_last ≡ old.failed_last
  pub starved : starved_puts new ≡ starved_puts old
