use Rattle.o2_laws.proofs.SlotNames.{slot_told, slot_small, slot_only}
use Rattle.o2_laws.proofs.name_laws.slot_names_tell_slots.Goals as goal

pub returns-clause-told : goal.returns-clause-told
returns-clause-told c = slot_told

pub returns-clause-small : goal.returns-clause-small
returns-clause-small c = slot_small

pub returns-clause-only : goal.returns-clause-only
returns-clause-only c = slot_only
