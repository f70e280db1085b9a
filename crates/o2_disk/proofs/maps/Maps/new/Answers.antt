use Rattle.std.proofs.Common.{sym, ◌∙◌}
use Rattle.o2_disk.proofs.Settled.{stored_empty, sound_empty}
use Rattle.o2_disk.proofs.maps.Maps.new.Goals as goal

pub invariant_of-result : goal.invariant_of-result
invariant_of-result c = record {
  same = λ s. stored_empty c.new-2.result c.new-2.ensures.empty s ∙ sym (stored_empty c.new.result c.new.ensures.empty s);
  sound = sound_empty c.new-2.result c.new-2.ensures.empty;
}
