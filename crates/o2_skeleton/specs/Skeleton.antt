-- The skeleton of a volume, which a tool needs before it follows a path: the first seven checks hold.
use Rattle.std.specs.Prelude.{List, [], ◌∷◌}
use Rattle.o2_model.specs.Volume.{Volume}
use Rattle.o2_model.specs.Checks.Super.{super_faults}
use Rattle.o2_model.specs.Checks.Sysdir.{sysdir_faults}
use Rattle.o2_model.specs.Checks.Sysfile.{sysfile_faults}
use Rattle.o2_model.specs.Checks.Root.{root_faults}
use Rattle.o2_model.specs.Checks.ChainHeader.{chain_header_faults}
use Rattle.o2_model.specs.Checks.Journal.{journal_faults}
use Rattle.o2_model.specs.Checks.SlotMap.{slot_map_faults}
use Rattle.o2_model.specs.declared.check.Check.TheVariants as check
use Rattle.o2_view.specs.OwnChecks.{OwnCheck, NoneFails}

-- ---- the checks
abbrev pub super_check : OwnCheck
super_check = record { check = check.Super; faults = super_faults }

abbrev pub sysdir_check : OwnCheck
sysdir_check = record { check = check.Sysdir; faults = sysdir_faults }

abbrev pub sysfile_check : OwnCheck
sysfile_check = record { check = check.Sysfile; faults = sysfile_faults }

abbrev pub root_check : OwnCheck
root_check = record { check = check.Root; faults = root_faults }

abbrev pub chain_header_check : OwnCheck
chain_header_check = record { check = check.ChainHeader; faults = chain_header_faults }

abbrev pub journal_check : OwnCheck
journal_check = record { check = check.Journal; faults = journal_faults }

abbrev pub slot_map_check : OwnCheck
slot_map_check = record { check = check.SlotMap; faults = slot_map_faults }

-- ---- in their order
-- from the journals on
abbrev pub log_checks : List OwnCheck
log_checks = journal_check ∷ slot_map_check ∷ []

-- from the allocators on
abbrev pub allocator_checks : List OwnCheck
allocator_checks = chain_header_check ∷ log_checks

-- from the root on
abbrev pub root_checks : List OwnCheck
root_checks = root_check ∷ allocator_checks

-- from the files of the system directory on
abbrev pub file_checks : List OwnCheck
file_checks = sysfile_check ∷ root_checks

-- from the system directory on
abbrev pub directory_checks : List OwnCheck
directory_checks = sysdir_check ∷ file_checks

-- all seven
abbrev pub skeleton_checks : List OwnCheck
skeleton_checks = super_check ∷ directory_checks

-- they hold
abbrev pub HasSkeleton : Volume → Type 0
HasSkeleton v = NoneFails skeleton_checks v
