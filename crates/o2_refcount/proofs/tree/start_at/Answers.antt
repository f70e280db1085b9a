-- The root is put down where it is not sound.
use Rattle.std.proofs.Common.{[], sym, subst}
use Rattle.o2_model.specs.Faults.{fails_unless}
use Rattle.o2_refcount.specs.Readings.{Keeps, nothing_read}
use Rattle.o2_refcount.proofs.Steps.{root_at_fault}
use Rattle.o2_refcount.proofs.tree.start_at.Goals.{then-not-is_sound+in_ok-add_fault, else-not-is_sound}
use Rattle.o2_refcount.proofs.tree.start_at.Goals as goal

pub returns : goal.returns
returns c = elim c.if-not-is_sound.branch [
  | then-not-is_sound+in_ok-add_fault w ↦
      subst (λ reading. Keeps (fails_unless c.args.root c.args.is_sound) reading nothing_read) (sym w.reading-is)
      (root_at_fault c.args.root c.args.is_sound _ w.if-not-is_sound.true (w.in_ok-add_fault.ensures [] nothing_read c.start-reading.ensures))
  | else-not-is_sound w ↦
      subst (λ reading. Keeps (fails_unless c.args.root c.args.is_sound) reading nothing_read) (sym w.reading-is)
      (subst (λ sound. Keeps (fails_unless c.args.root sound) c.start-reading.result nothing_read) (sym w.if-not-is_sound.false) c.start-reading.ensures)
]
