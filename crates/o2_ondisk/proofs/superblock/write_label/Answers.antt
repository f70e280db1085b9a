use Rattle.std.proofs.Common.{inr, arith, refl}
use Rattle.o2_ondisk.specs.Fields.{numbers_at, bytes_at}
use Rattle.o2_ondisk.specs.Super.{super_number_fields}
use Rattle.o2_ondisk.proofs.SuperLaws.{super_of-is}
use Rattle.o2_ondisk.proofs.superblock.write_label.Goals as goal

pub returns-clause-back : goal.returns-clause-back
returns-clause-back c =
    let old = c.args.block.now in
    super_of-is c.put_array.new.block (numbers_at super_number_fields old) c.args.label.now (bytes_at 0x90 16 old) (bytes_at 0xa0 24 old)
    (c.put_array.ensures.numbers super_number_fields refl)
    c.put_array.ensures.back
    (c.put_array.ensures.others 0x90 16 (inr (omega arith)))
    (c.put_array.ensures.others 0xa0 24 (inr (omega arith)))
