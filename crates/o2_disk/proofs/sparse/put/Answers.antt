use Rattle.std.proofs.Common.{◌+◌, ◌-◌, ◌*◌, ◌/◌, length, arith, nat_cmp}
use Rattle.std.specs.BTreeMap.{get}
use Rattle.o2_disk.specs.Image.{zero_sector}
use Rattle.o2_disk.specs.Stored.{stored}
use Rattle.o2_disk.proofs.Copies.{put_more, room_more, keys_set}
use Rattle.o2_disk.proofs.sparse.put.Goals as goal

pub loop-k-preserved : goal.loop-k-preserved
loop-k-preserved c =
    let here = c.set_sector.ensures.here (c.loop-k.invariant.room (c.args.at + c.loop-k.k) (omega arith) (omega arith)) in
    record {
      here = put_more c.args.bytes.now c.args.at c.loop-k.k (512 * c.loop-k.k + 512 - 512 * c.loop-k.k) zero_sector (stored c.args.map.now) (get nat_cmp c.loop-k.map) (get nat_cmp c.set_sector.new.map) (omega arith)
          here c.set_sector.ensures.others c.loop-k.invariant.here;
      keys = keys_set (c.args.at + c.loop-k.k) (get nat_cmp c.args.map.now) (get nat_cmp c.loop-k.map) (get nat_cmp c.set_sector.new.map) _ c.set_sector.ensures.here c.set_sector.ensures.others c.loop-k.invariant.keys;
      room = room_more c.args.at c.loop-k.k (length c.args.bytes.now / 512) _ (get nat_cmp c.loop-k.map) (get nat_cmp c.set_sector.new.map) here c.set_sector.ensures.others c.loop-k.invariant.room;
    }
