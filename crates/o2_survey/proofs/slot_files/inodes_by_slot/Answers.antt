-- One slot more, with its file where it has one.
use Rattle.std.proofs.Common.{sym, ◌∙◌, ap, arith}
use Rattle.std.proofs.lemmas.List.{append-nil}
use Rattle.o2_survey.proofs.SlotLists.{one_file_more, all_files}
use Rattle.o2_survey.proofs.slot_files.inodes_by_slot.Goals as goal

pub loop-slot-preserved : goal.loop-slot-preserved
loop-slot-preserved c v are =
    let before = c.loop-slot.invariant v are in
    elim c.match-inode_of.branch [
      | goal.in-Some+in_ok-put w ↦ one_file_more v c.args.file c.loop-slot.slot _ _ _ (w.in-Some.ensures.told v are) before (ap (λ found. found.items) w.found-is ∙ w.in_ok-put.ensures.ok)
      | goal.in_default w ↦ one_file_more v c.args.file c.loop-slot.slot _ _ _ (sym w.in_default.is ∙ c.inode_of.ensures.told v are) before (ap (λ found. found.items) w.found-is ∙ sym (append-nil c.loop-slot.found.items))
    ]

pub returns : goal.returns
returns c v numbers are = all_files v c.args.file _ c.loop-slot.slot (c.loop-slot.invariant v are) (omega (arith, ap (λ geo. geo.slots) numbers))
