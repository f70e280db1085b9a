-- The inodes of the volume's own files, by their names.
use Rattle.std.specs.Prelude.{◌≡◌, ℕ, List, [], ◌∷◌, flat_map, Option, bytes_eq}
use Rattle.std.specs.BTreeMap.{BTreeMap}
use Rattle.std.specs.Map.{lookup}
use Rattle.std.specs.Option.{option_map_or}
use Rattle.std.specs.Global.{Vec}
use Rattle.o2_model.specs.declared.system_file.SlotFile.{SlotFile}
use Rattle.o2_model.specs.declared.system_file.SystemFile.{SystemFile}
use Rattle.o2_model.specs.declared.system_file.SystemFile.TheVariants.{OfSlot}
use Rattle.o2_model.specs.Volume.{Volume}
use Rattle.o2_model.specs.SystemFiles.{system_name, system_inode, slots}
use Rattle.o2_survey.specs.declared.system_names.SystemNames.{SystemNames}

-- the inode that the map has at the name
abbrev pub inode_at : BTreeMap (Vec ℕ) ℕ → List ℕ → Option ℕ
inode_at inodes name = lookup (λ (key : Vec ℕ). bytes_eq name key.items) inodes.entries

-- The names tell the inode of each of the volume's own files.
pub record AreSystemNames (v : Volume) (names : SystemNames) : Type 0 where
  pub each : (file : SystemFile) → inode_at names.inodes (system_name file) ≡ system_inode v file

-- the inodes of such files, slot by slot
abbrev pub inodes_of_slots : Volume → SlotFile → List ℕ
inodes_of_slots v file = flat_map (λ slot. option_map_or (λ b. b ∷ []) (system_inode v (OfSlot file slot)) []) (slots v)
