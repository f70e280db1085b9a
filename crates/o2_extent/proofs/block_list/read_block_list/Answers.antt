-- The list's head decides, and the blocks that are looked at are few.
use Rattle.std.proofs.Common.{◌≡◌, ◌+◌, ◌-◌, ◌/◌, ◌^◌, drop, true, false, sym, ◌∙◌, ap, subst, arith}
use Rattle.o2_ondisk.specs.ExtentListHeaders.{extent_list_header_of}
use Rattle.o2_ondisk.specs.ExtentRecs.{extent_rec_of}
use Rattle.o2_view.specs.Views.{view_blocks}
use Rattle.o2_model.specs.Words.{table, Apart}
use Rattle.o2_model.specs.Extents.{is_sound_header, nothing_read}
use Rattle.o2_model.specs.Volume.{block_size}
use Rattle.o2_model.specs.declared.geo.Geo.{Geo}
use Rattle.o2_model.proofs.Looks.{apart_none, room_left}
use Rattle.o2_extent.specs.Readings.{Keeps}
use Rattle.o2_extent.specs.Rules.{rule_of}
use Rattle.o2_extent.proofs.Steps.{bad_head, good_head}
use Rattle.o2_extent.proofs.Views.{some_blocks}
use Rattle.o2_extent.proofs.block_list.read_block_list.Goals as goal

pub returns-then-not-is_sound-clause-read : goal.returns-then-not-is_sound-clause-read
returns-then-not-is_sound-clause-read g c v seen =
    let shows = seen.shows in
    let bytes = seen.is in
    let at = c.args.at in
    let most = (block_size v - (at + 0x10)) / 16 in
    let size : c.block_bytes.result ≡ block_size v = c.block_bytes.ensures.bytes ∙ ap (λ (geo : Geo). 2 ^ geo.block_bits) (sym shows.numbers) in
    let h = c.header_at-header.result in
    let is : h ≡ extent_list_header_of (drop at (v.at c.args.holder)) = c.header_at-header.ensures ∙ ap (λ bs. extent_list_header_of (drop at bs)) bytes in
    let bad : is_sound_header most h ≡ false = rw size at (sym c.is_sound.ensures.test ∙ c.if-not-is_sound.true) in
    subst (Keeps v c.add_fault.new.reading) (bad_head v (rule_of c.args.rule) c.args.holder at most h is bad) (c.in_ok-add_fault.ensures.added v nothing_read (c.start-reading.ensures.keeps v))

pub returns-clause-read : goal.returns-clause-read
returns-clause-read g c v seen =
    let shows = seen.shows in
    let bytes = seen.is in
    let at = c.args.at in
    let most = (block_size v - (at + 0x10)) / 16 in
    let size : c.block_bytes.result ≡ block_size v = c.block_bytes.ensures.bytes ∙ ap (λ (geo : Geo). 2 ^ geo.block_bits) (sym shows.numbers) in
    let h = c.header_at-header.result in
    let is : h ≡ extent_list_header_of (drop at (v.at c.args.holder)) = c.header_at-header.ensures ∙ ap (λ bs. extent_list_header_of (drop at bs)) bytes in
    let sound : is_sound_header most h ≡ true = rw size at (sym c.is_sound.ensures.test ∙ c.if-not-is_sound.false) in
    let are : c.as_slice.result.now ≡ table extent_rec_of 16 (at + 0x10) h.next_free_rec (v.at c.args.holder) = c.as_slice.ensures.value ∙ (c.in_ok-records.ensures ∙ ap (table extent_rec_of 16 (at + 0x10) h.next_free_rec) bytes) in
    subst (Keeps v c.read_into.new.reading) (good_head v (rule_of c.args.rule) c.args.holder at most h c.as_slice.result.now is are sound) (c.in_ok-read_into.ensures.read v shows nothing_read (c.start-reading.ensures.keeps v))

pub returns-in_err-read_into-clause-count : goal.returns-in_err-read_into-clause-count
returns-in_err-read_into-clause-count g c I told =
    let n = view_blocks c.args.view.now in
    let first = subst (Apart n) (sym c.start-reading.ensures.seen) (apart_none n (some_blocks c.requires.geo)) in
    omega (arith, room_left n _ (c.read_into.ensures.apart first), c.read_into.ensures.count.calls I told)

pub returns-clause-count : goal.returns-clause-count
returns-clause-count g c I told =
    let n = view_blocks c.args.view.now in
    let first = subst (Apart n) (sym c.start-reading.ensures.seen) (apart_none n (some_blocks c.requires.geo)) in
    omega (arith, room_left n _ (c.read_into.ensures.apart first), c.read_into.ensures.count.calls I told)
