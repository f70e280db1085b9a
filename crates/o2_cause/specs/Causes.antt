-- What each cause is: its class, its status, and the line that it prints.
use Rattle.std.specs.Prelude.{◌≡◌, ◌⊎◌, List, [], ℕ, ◌++◌, codes, bytes_eq, decimal, if◌then◌else◌}
use Rattle.o2_disk.specs.declared.disk.AttachFault.{AttachFault}
use Rattle.o2_disk.specs.declared.disk.AttachFault.TheVariants.{NoMemory as NoMemoryForName, Failed as NotAttached}
use Rattle.o2_model.specs.Names.{check_name, oddity_text}
use Rattle.o2_view.specs.Texts.{which_text}
use Rattle.o2_cause.specs.declared.class.Class.{Class}
use Rattle.o2_cause.specs.declared.class.Class.TheVariants.{Done, Refusal, Fault}
use Rattle.o2_cause.specs.declared.cause.Cause.{Cause}
use Rattle.o2_cause.specs.declared.cause.Cause.TheVariants.{Fine, Uncorrected, Usage, Later, NotOcfs2, Unsupported, Absent, WrongKind, Bad, Range, DeviceFault, OutputFault, NoMemory}

pub record Row : Type 0 where
  pub class : Class
  -- the status that the program ends with
  pub status : ℕ
  -- the line with its newline, or nothing
  pub line : List ℕ

-- the status by which a tool refuses a volume
abbrev pub volume_status : List ℕ → ℕ
volume_status tool = if bytes_eq tool (codes "fsck") then 4 else 1

-- the row of each cause, where the first word is this tool
abbrev pub row : List ℕ → Cause → Row
row tool Fine = record { class = Done; status = 0; line = [] }
row tool (Uncorrected check block) = record { class = Done; status = 4; line = [] }
row tool OutputFault = record { class = Done; status = 65; line = [] }
row tool (Usage place) = record { class = Refusal; status = 16; line = codes "usage: word " ++ (decimal place ++ codes "\n") }
row tool Later = record { class = Refusal; status = 1; line = tool ++ codes ": not built yet\n" }
row tool NotOcfs2 = record { class = Refusal; status = volume_status tool; line = tool ++ codes ": not an OCFS2 volume\n" }
row tool (Unsupported what block) = record { class = Refusal; status = volume_status tool; line = tool ++ (codes ": unsupported: " ++ (oddity_text what ++ (codes " block " ++ (decimal block ++ codes "\n")))) }
row tool (Absent path) = record { class = Refusal; status = 1; line = codes "debugfs: no such path: " ++ (path ++ codes "\n") }
row tool (WrongKind path) = record { class = Refusal; status = 1; line = codes "debugfs: wrong kind: " ++ (path ++ codes "\n") }
row tool (Bad check block) = record { class = Refusal; status = 1; line = codes "debugfs: damaged: " ++ (check_name check ++ (codes " block " ++ (decimal block ++ codes "\n"))) }
row tool (Range which value) = record { class = Refusal; status = 1; line = tool ++ (codes ": out of range: " ++ (which_text which ++ (codes " " ++ (decimal value ++ codes "\n")))) }
row tool DeviceFault = record { class = Fault; status = 8; line = tool ++ codes ": device fault\n" }
row tool NoMemory = record { class = Fault; status = 64; line = [] }

-- the line that a cause prints, where the first word is this tool
abbrev pub cause_line : List ℕ → Cause → List ℕ
cause_line tool cause = (row tool cause).line

-- and its status
abbrev pub status_of : List ℕ → Cause → ℕ
status_of tool cause = (row tool cause).status

-- its class, which is the same for all tools
abbrev pub class_of : Cause → Class
class_of cause = (row [] cause).class

-- all was done, maybe but for the output
abbrev pub IsDone : Cause → Type 0
IsDone cause = class_of cause ≡ Done

-- the run gave nothing up and met no fault: it was asked what can't be done
abbrev pub IsRefusal : Cause → Type 0
IsRefusal cause = class_of cause ≡ Refusal

-- a run that this cause ends ends by this result: by the cause, or where it is not done and its line finds no memory by NoMemory
abbrev pub EndsBy : Cause → Cause → Type 0
EndsBy cause result = (result ≡ cause) ⊎ ((result ≡ NoMemory) × (IsDone cause → ⊥))

-- a device that is not attached
abbrev pub IsOfAttach : AttachFault → Cause → Type 0
IsOfAttach NoMemoryForName cause = cause ≡ NoMemory
IsOfAttach NotAttached cause = cause ≡ DeviceFault
