-- The root's own fault stands before those of the blocks.
use Rattle.std.proofs.Common.{◌≡◌, ◌∙◌, ap, subst}
use Rattle.o2_model.specs.Checks.RefTree.{is_sound_root_block}
use Rattle.o2_model.specs.Faults.{fails_unless}
use Rattle.o2_model.specs.RefcountTrees.{record_blocks}
use Rattle.o2_view.specs.Views.{ShowsBytes}
use Rattle.o2_view.proofs.Shown.{still_shows}
use Rattle.o2_refcount.specs.Readings.{Keeps, nothing_read, with_blocks}
use Rattle.o2_refcount.proofs.Steps.{blocks_read}
use Rattle.o2_refcount.proofs.tree.read_tree.Goals as goal

pub returns-clause-read : goal.returns-clause-read
returns-clause-read g c v shows =
    let root = c.args.root in
    let first = c.in_ok-block.ensures in
    let list = c.in_ok-list.ensures in
    let bytes : c.as_slice-bytes.result.now ≡ v.at root = c.as_slice-bytes.ensures ∙ first.bytes v shows in
    let seen : ShowsBytes c.look.new.view c.args.geo.now root c.as_slice-bytes.result.now v = record { shows = still_shows first.reads shows; is = bytes } in
    let blocks : c.as_slice-2.result.now ≡ record_blocks v root =
    c.as_slice-2.ensures.value ∙ c.in_ok-blocks.ensures v shows.numbers bytes (c.as_slice.ensures ∙ list.leaves v seen) in
    let kept : Keeps (fails_unless root (is_sound_root_block v root)) c.in_ok-reading.reading nothing_read =
    subst (λ sound. Keeps (fails_unless root sound) c.in_ok-reading.reading nothing_read) (list.sound v seen) c.in_ok-reading.ensures in
    subst (Keeps (fails_unless root (is_sound_root_block v root)) _) (ap (with_blocks v nothing_read) blocks ∙ blocks_read v root)
    (c.in_ok-read_blocks.ensures.read v (still_shows list.reads seen.shows) (fails_unless root (is_sound_root_block v root)) nothing_read kept)
