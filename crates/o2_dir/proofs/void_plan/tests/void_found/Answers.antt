-- A live entry begins where it says.
use Rattle.std.proofs.Common.{◌≡◌, ◌≢◌, ◌⊎◌, inl, inr, true, ◌<◌, lit<, sym, ◌∙◌, arith}
use Rattle.o2_model.specs.Inodes.{is_inline}
use Rattle.o2_view.specs.Views.{view_blocks}
use Rattle.o2_view.proofs.Shown.{showed_before}
use Rattle.o2_extent.proofs.Views.{still_in}
use Rattle.o2_dir.proofs.LiveEntries.{begins_live}
use Rattle.o2_dir.proofs.void_plan.tests.void_found.Goals.{else-not-inline-via-then-not-inline+else-entry-inode, else-not-inline-via-else-not-inline}
use Rattle.o2_dir.proofs.void_plan.tests.void_found.Goals as goal

pub void_entry-requires : goal.void_entry-requires
void_entry-requires g c =
    let reads = c.in_ok-inline.ensures.reads in
    let inside : c.args.entry.now.block < view_blocks c.is_inline_at.new.view = omega (arith, c.if-entry-blocks.false, c.blocks-2.ensures) in (
      lit< tt,
      (
        record { volume = still_in c.requires.inode.volume reads; inside = inside },
        (λ v shows es found.
            let before = showed_before reads shows in
            let side : (is_inline v c.args.inode ≡ true) ⊎ (c.args.entry.now.block ≢ c.args.inode) = elim c.else-not-inline.branch [
              | else-not-inline-via-then-not-inline+else-entry-inode w ↦ inr w.if-entry-inode.false
              | else-not-inline-via-else-not-inline w ↦ inl (sym (c.in_ok-inline.ensures.is v before) ∙ w.if-not-inline.false)
            ] in
            begins_live v c.args.inode c.args.entry.now (c.requires.among v before) side es found),
      ),
    )
