-- What a contract knows of a sink.
use Rattle.std.specs.Prelude.{◌≡◌, ◌⊎◌, ℕ, ◌+◌, ◌-◌, ◌^◌, Bool, true, List, Option}

pub record SinkState : Type 0 where
  -- the bytes that it took, where they are told
  pub taken : Option (List ℕ)
  -- how often a call has failed
  pub faults : ℕ
  -- whether its last call has failed
  pub failed_last : Bool

-- one fault more was counted, or the count stands at its last value
abbrev pub OneMore : ℕ → ℕ → Type 0
OneMore old new = (new ≡ old + 1) ⊎ (new ≡ 2 ^ 64 - 1)

-- Between the two one call has failed, and it is the last one: nothing was put behind the fault.
pub record FailsLast (old new : SinkState) : Type 0 where
  pub faults : OneMore old.faults new.faults
  pub last : new.failed_last ≡ true

-- Nothing was put behind the first fault between the two: there was none, or it is that of the last call.
abbrev pub StopsAtFault : SinkState → SinkState → Type 0
StopsAtFault old new = (new.faults ≡ old.faults) ⊎ FailsLast old new
