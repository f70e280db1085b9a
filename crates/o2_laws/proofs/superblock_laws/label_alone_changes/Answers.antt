use Rattle.o2_disk.specs.Image.{sector}
use Rattle.o2_disk.proofs.Images.{length-written}
use Rattle.o2_ondisk.specs.Fields.{paste_at}
use Rattle.o2_model.specs.Superblock.{super_sector}
use Rattle.o2_model.specs.Label.{label_place, with_label}
use Rattle.o2_model.proofs.Labels.{length-label_field, byte-with_label, byte-with_label_other}
use Rattle.o2_laws.proofs.superblock_laws.label_alone_changes.Goals as goal

pub returns-clause-field : goal.returns-clause-field
returns-clause-field c = length-label_field

pub returns-clause-sectors : goal.returns-clause-sectors
unfolding with_label
returns-clause-sectors c bits field I = length-written I (super_sector bits) (paste_at label_place field (sector I (super_sector bits)))

pub returns-clause-label : goal.returns-clause-label
returns-clause-label c bits field whole I is_image within i low = byte-with_label bits field whole I is_image within i low

pub returns-clause-others : goal.returns-clause-others
returns-clause-others c bits field whole I is_image within i apart = byte-with_label_other bits field whole I is_image within i apart
