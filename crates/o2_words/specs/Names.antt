-- The fixed words of command lines.
use Rattle.std.specs.Prelude.{ℕ, List, codes}
use Rattle.o2_words.specs.declared.name.Name.{Name}
use Rattle.o2_words.specs.declared.name.Name.TheVariants.{Tunefs, Debugfs, Mkfs, Fsck, Sample, Label, Ask, Slots, Journals, Size, Force, No, Yes}

-- the word itself
abbrev pub text_of : Name → List ℕ
text_of Tunefs = codes "tunefs"
text_of Debugfs = codes "debugfs"
text_of Mkfs = codes "mkfs"
text_of Fsck = codes "fsck"
text_of Sample = codes "sample"
text_of Label = codes "-L"
text_of Ask = codes "-R"
text_of Slots = codes "-N"
text_of Journals = codes "-J"
text_of Size = codes "-S"
text_of Force = codes "-f"
text_of No = codes "-n"
text_of Yes = codes "-y"
