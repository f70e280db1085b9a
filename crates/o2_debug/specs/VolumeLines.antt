-- The lines that are printed of a volume as a whole, each of them with its newline.
use Rattle.std.specs.Prelude.{ℕ, ◌^◌, ◌==◌, Bool, not, List, [], ◌∷◌, ◌++◌, flat_map, length, codes, decimal, Option}
use Rattle.std.specs.List.{range_with_len, take_while}
use Rattle.std.specs.Option.{option_map_or}
use Rattle.o2_ondisk.specs.declared.superblock.Super.{Super}
use Rattle.o2_model.specs.declared.geo.Geo.{Geo}
use Rattle.o2_slots.specs.Entries.{node_at}
use Rattle.o2_debug.specs.Lines.{number_line, pair_line}
use Rattle.uuid.specs.Text.{hyphenated_text, lower}

-- ---- of `stats`
-- the byte is of a name that fills up its field with NUL
abbrev pub is_of_label : ℕ → Bool
is_of_label b = not (b == 0)

-- a label's bytes up to the first NUL
abbrev pub label_line : List ℕ → List ℕ
label_line label = codes "Label: " ++ (take_while is_of_label label ++ codes "\n")

-- an identifier in lower-case hex digits, with hyphens
abbrev pub uuid_line : List ℕ → List ℕ
uuid_line uuid = codes "UUID: " ++ (hyphenated_text lower uuid ++ codes "\n")

-- of the volume's numbers, of the super's part of block 2, and of how many clusters are in use
abbrev pub volume_lines : Geo → Super → ℕ → List (List ℕ)
volume_lines geo part used =
    number_line (codes "Block size: ") (2 ^ geo.block_bits)
    ∷ number_line (codes "Cluster size: ") (2 ^ geo.cluster_bits)
    ∷ number_line (codes "Clusters: ") geo.clusters
    ∷ number_line (codes "Used: ") used
    ∷ number_line (codes "Slots: ") geo.slots
    ∷ label_line part.label
    ∷ uuid_line part.uuid
    ∷ []

-- a slot, and how many clusters its journal has
abbrev pub journal_line : ℕ → ℕ → List ℕ
journal_line slot clusters = codes "Journal " ++ (decimal slot ++ (codes ": " ++ (decimal clusters ++ codes "\n")))

-- ---- of `slotmap`
-- a slot and its node, no line where it has none
abbrev pub slot_line : List (Option ℕ) → ℕ → List (List ℕ)
slot_line nodes slot = option_map_or (λ node. pair_line [] slot node ∷ []) (node_at nodes slot) []

abbrev pub slot_lines : List (Option ℕ) → List (List ℕ)
slot_lines nodes = flat_map (slot_line nodes) (range_with_len 0 (length nodes))
