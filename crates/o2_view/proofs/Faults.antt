-- The fault of one call as that of the call around it.
use Rattle.std.proofs.Common.{inl, inr, ℕ, ◌≤◌, List, arith}
use Rattle.o2_disk.specs.Device.{Rose}
use Rattle.o2_model.specs.Volume.{Volume}
use Rattle.o2_model.specs.declared.check.Check.{Check}
use Rattle.o2_view.specs.OwnChecks.{OwnCheck, IsBadOf}

-- a count that did not fall before it rose
pub rose_before : (old mid new : ℕ) → old ≤ mid → Rose mid new → Rose old new
rose_before old mid new later (inl rose) = inl (omega (arith, later, rose))
rose_before old mid new later (inr most) = inr most

-- what is bad of many volumes is bad of those among them
pub bad_of : {Few Many : Volume → Type 0} {checks : List OwnCheck} {check : Check} {b : ℕ} → ((v : Volume) → Few v → Many v) → IsBadOf Many checks check b → IsBadOf Few checks check b
bad_of {Few} {Many} {checks} {check} {b} among bad = record { own = bad.own; first = λ v few. bad.first v (among v few) }
