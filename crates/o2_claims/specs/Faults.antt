-- How a claim fails.
use Rattle.std.specs.Prelude.{Result, Ok, Err}
use Rattle.o2_claims.specs.declared.fault.ClaimFault.{ClaimFault}
use Rattle.o2_claims.specs.declared.fault.ClaimFault.TheVariants.{NoMemory, Twice}

-- this holds where the claim was judged: it was taken, or the cluster had an owner
abbrev pub UnlessNoMemory : {A : Type 0} → Result A ClaimFault → Type 0 → Type 0
UnlessNoMemory (Ok value) P = P
UnlessNoMemory (Err NoMemory) P = Unit {0}
UnlessNoMemory (Err (Twice cluster first second)) P = P
