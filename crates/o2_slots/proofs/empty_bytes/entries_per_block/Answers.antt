-- A block has whole entries.
use Rattle.o2_slots.proofs.EntryPlaces.{whole_entries}
use Rattle.o2_slots.proofs.empty_bytes.entries_per_block.Goals as goal

pub returns-clause-whole : goal.returns-clause-whole
returns-clause-whole c = rw (c.block_bytes.ensures.bytes, c.entry_size.ensures) (whole_entries c.args.geo.now c.requires)
