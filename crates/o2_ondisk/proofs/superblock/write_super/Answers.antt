use Rattle.std.proofs.Common.{◌≡◌, ◌∙◌, inl, arith, refl}
use Rattle.o2_ondisk.specs.Fields.{numbers_at, bytes_at}
use Rattle.o2_ondisk.specs.Super.{super_numbers, super_number_fields}
use Rattle.o2_ondisk.proofs.SuperLaws.{super_of-is}
use Rattle.o2_ondisk.proofs.superblock.write_super.Goals as goal

pub returns-clause-back : goal.returns-clause-back
returns-clause-back c =
    let x = c.args.x.now in
    let end = c.put_array-3.new.block in
    let numbers : numbers_at super_number_fields end ≡ super_numbers x =
    c.put_array-3.ensures.numbers super_number_fields refl ∙ c.put_array-2.ensures.numbers super_number_fields refl ∙ c.put_array.ensures.numbers super_number_fields refl ∙ c.put_super_numbers.ensures.numbers in
    let label : bytes_at 0x50 64 end ≡ x.label = c.put_array-3.ensures.others 0x50 64 (inl (omega arith)) ∙ c.put_array-2.ensures.others 0x50 64 (inl (omega arith)) ∙ c.put_array.ensures.back in
    let uuid : bytes_at 0x90 16 end ≡ x.uuid = c.put_array-3.ensures.others 0x90 16 (inl (omega arith)) ∙ c.put_array-2.ensures.back in
    super_of-is end (super_numbers x) x.label x.uuid x.cluster_info numbers label uuid c.put_array-3.ensures.back
