-- What is found by its name is an entry of the directory.
use Rattle.std.proofs.Common.{◌<◌, lit<, arith}
use Rattle.o2_model.specs.Directories.{directory_entries, is_named}
use Rattle.o2_view.specs.Views.{view_blocks}
use Rattle.o2_view.proofs.Shown.{showed_before}
use Rattle.o2_extent.proofs.Views.{still_in, only_both}
use Rattle.o2_dir.proofs.LiveEntries.{found_inside}
use Rattle.o2_dir.proofs.void_plan.tests.void_named.Goals as goal

pub void_found-requires : goal.void_found-requires
void_found-requires g c =
    let reads = only_both c.in_ok-is_directory_at.ensures.reads c.in_ok-entry.ensures.reads in
    let inside : c.args.inode < view_blocks c.look_up.new.view = omega (arith, c.requires.inside, reads.same.blocks) in (
      lit< tt,
      (
        record { volume = still_in c.requires.volume reads; inside = inside },
        (λ v shows. found_inside (is_named c.args.name.now) (directory_entries v c.args.inode) c.in_ok-entry.entry (c.in_ok-entry.ensures.told v (showed_before c.in_ok-entry.ensures.reads shows)).1),
      ),
    )
