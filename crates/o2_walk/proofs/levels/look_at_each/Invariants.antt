-- The entries so far were looked at.
use Rattle.std.proofs.Common.{◌≡◌, List, map, fold, take}
use Rattle.o2_model.specs.declared.entry.Entry.{Entry}
use Rattle.o2_model.specs.Tree.{Entered, TreeWalk, follow}
use Rattle.o2_model.specs.Volume.{Volume}
use Rattle.o2_tables.specs.Rows.{IsInodeTable}
use Rattle.o2_tree.specs.TreeRows.{row_of}
use Rattle.o2_tree.specs.TreeWalks.{AreOwn}
use Rattle.o2_walk.specs.TreeWalked.{HasMet, followed_of}
use Rattle.o2_walk.proofs.levels.look_at_each.Given as goal

abbrev pub invariant-loop-entry : goal.invariant-loop-entry
invariant-loop-entry l =
    (v : Volume) (w : TreeWalk) (d : Entered) (es : List Entry) → IsInodeTable v l.inodes → AreOwn v l.own → HasMet w l.fn.progress → d.inode ≡ l.from
    → map row_of es ≡ l.entries → HasMet (fold (follow v d) w (followed_of v (take l.entry-index es))) l.progress
