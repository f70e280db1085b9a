-- The root is met and entered.
use Rattle.std.proofs.Common.{[]}
use Rattle.o2_model.specs.declared.entry.Entry.{Entry}
use Rattle.o2_model.specs.Tree.{Entered, with_name}
use Rattle.o2_walk.specs.TreeWalked.{nothing_met}
use Rattle.o2_walk.proofs.progress.Progress.at_root.Goals as goal

pub returns : goal.returns
returns c = λ v root.
    let d : Entered = record { inode = v.geo.root; parent = v.geo.root; path = [] } in
    let e : Entry = record { inode = v.geo.root; file_type = 0; name = []; block = 0; at = 0 } in
    let met = c.in_ok-meet.ensures nothing_met d e c.start-progress.ensures root in
    let has = c.in_ok-enter.ensures (with_name d e nothing_met) d e met root root in
    record { entered = has.entered; directories = has.directories; met = has.met; second = has.second }
