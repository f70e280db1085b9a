-- The extents, then the records, and then the superblock decide.
use Rattle.std.proofs.Common.{◌&&◌, sym, ◌∙◌, ap}
use Rattle.o2_ondisk.specs.JournalSupers.{journal_super_of}
use Rattle.o2_model.specs.LeafRecords.{are_without_gap, have_no_flags}
use Rattle.o2_view.proofs.Shown.{still_shows}
use Rattle.o2_judges_slots.proofs.JournalParts.{bad_extents, bad_records, no_blocks, by_super, super_in, blocks_are}
use Rattle.o2_judges_slots.proofs.journal.is_sound_journal.Goals as goal

pub returns-in_default-clause-is : goal.returns-in_default-clause-is
returns-in_default-clause-is g c v seen =
    let told = c.in_ok-leaves.ensures.told v seen in
    sym (bad_extents v c.args.inode (rw c.in_default.is at told))

pub returns-in_default-blocks_without_gap-clause-is : goal.returns-in_default-blocks_without_gap-clause-is
returns-in_default-blocks_without_gap-clause-is g c v seen =
    let told = c.in_ok-leaves.ensures.told v seen in
    let records = rw c.in-Some.is at told in
    sym (bad_records v c.args.inode c.as_slice.result.now (c.as_slice.ensures ∙ records.1) c.in_default-blocks_without_gap.ensures.found)

pub returns-in_default-first_block-clause-is : goal.returns-in_default-first_block-clause-is
returns-in_default-first_block-clause-is g c v seen =
    let told = c.in_ok-leaves.ensures.told v seen in
    let records = rw c.in-Some.is at told in
    sym (no_blocks v c.args.inode c.as_slice-2.result.now (c.as_slice-2.ensures ∙ records.1) (c.in_default-first_block.ensures.first v))

pub returns-clause-is : goal.returns-clause-is
returns-clause-is g c v seen =
    let inode = c.args.inode in
    let told = c.in_ok-leaves.ensures.told v seen in
    let records = rw c.in-Some.is at told in
    let first = c.in-Some-first_block.first in
    let counted = c.as_slice.ensures ∙ records.1 in
    let are = c.as_slice-2.ensures ∙ records.1 in
    let is = c.in-Some-first_block.ensures.first v in
    let bytes = c.as_slice-3.ensures ∙ c.in_ok-block.ensures.bytes v (still_shows c.sound_records.ensures.reads seen.shows) in
    let header = c.read_journal_super-header.ensures ∙ (ap journal_super_of bytes ∙ super_in v inode c.as_slice-2.result.now first are is) in
    let blocks = c.in-Some-blocks_without_gap.ensures.blocks v seen.shows.numbers ∙ blocks_are v inode c.as_slice.result.now counted in
    let sound = ap (λ ls. are_without_gap ls && have_no_flags ls) (c.as_slice-2.ensures ∙ sym c.as_slice.ensures) ∙ c.in-Some-blocks_without_gap.ensures.found in
    c.is_sound_header.ensures v inode seen.shows.numbers header blocks ∙ sym (by_super v inode c.as_slice-2.result.now first records.0 are sound is)
