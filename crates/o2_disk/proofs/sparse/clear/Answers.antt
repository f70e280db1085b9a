use Rattle.std.proofs.Common.{ℕ, Some, ◌∙◌, ap, arith, nat_cmp}
use Rattle.std.specs.BTreeMap.{get}
use Rattle.std.specs.Prelude.{List}
use Rattle.o2_disk.specs.Image.{zero_sector}
use Rattle.o2_disk.specs.Stored.{stored}
use Rattle.o2_disk.proofs.Copies.{clear_more, keys_set}
use Rattle.o2_disk.proofs.sparse.clear.Goals as goal

pub loop-s-preserved : goal.loop-s-preserved
loop-s-preserved c = record {
  zeros = c.loop-s.invariant.zeros;
  here = clear_more c.args.at c.loop-s.s zero_sector (stored c.args.map.now) (get nat_cmp c.loop-s.map) (get nat_cmp c.set_sector.new.map) (omega arith)
      (λ some. c.set_sector.ensures.here some ∙ ap (λ (l : List ℕ). Some l) c.loop-s.invariant.zeros) c.set_sector.ensures.absent c.set_sector.ensures.others c.loop-s.invariant.here;
  keys = keys_set c.loop-s.s (get nat_cmp c.args.map.now) (get nat_cmp c.loop-s.map) (get nat_cmp c.set_sector.new.map) _ c.set_sector.ensures.here c.set_sector.ensures.others c.loop-s.invariant.keys;
}
