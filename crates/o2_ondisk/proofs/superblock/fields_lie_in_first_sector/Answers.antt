use Rattle.std.proofs.Common.{◌∙◌, arith, ap, drop}
use Rattle.std.proofs.lemmas.List.{drop-take}
use Rattle.o2_ondisk.specs.Super.{super_of}
use Rattle.o2_ondisk.proofs.SuperLaws.{super_of-take}
use Rattle.o2_ondisk.proofs.superblock.fields_lie_in_first_sector.Goals as goal

pub returns-clause-first : goal.returns-clause-first
returns-clause-first c block = ap super_of (drop-take 0xc0 320 block) ∙ super_of-take 320 (drop 0xc0 block) (omega arith)
