-- The lines that queries print, each of them with its newline.
use Rattle.std.specs.Prelude.{ℕ, ◌+◌, ◌*◌, ◌/◌, ◌%◌, List, [], ◌∷◌, ◌++◌, codes, decimal, Option, Some, None}
use Rattle.o2_ondisk.specs.Kinds.{kind_of_mode}
use Rattle.o2_ondisk.specs.declared.dinode.Dinode.{Dinode}
use Rattle.o2_ondisk.specs.declared.kind.Kind.{Kind}
use Rattle.o2_ondisk.specs.declared.kind.Kind.TheVariants.{File, Directory, Character, Block, Fifo, Socket, Link}
use Rattle.o2_model.specs.declared.entry.Entry.{Entry}
use Rattle.o2_model.specs.declared.leaf.Leaf.{Leaf}
use Rattle.o2_model.specs.declared.placed_refcount.PlacedRefcount.{PlacedRefcount}

-- ---- of a directory
-- a live entry: the inode, its type's number, and the name's bytes as they are
abbrev pub entry_line : Entry → List ℕ
entry_line e = decimal e.inode ++ (codes " " ++ (decimal e.file_type ++ (codes " " ++ (e.name ++ codes "\n"))))

-- ---- of an inode
abbrev pub kind_word : Kind → List ℕ
kind_word File = codes "file"
kind_word Directory = codes "directory"
kind_word Character = codes "character"
kind_word Block = codes "block"
kind_word Fifo = codes "fifo"
kind_word Socket = codes "socket"
kind_word Link = codes "link"

-- no word where the mode says no kind
abbrev pub kind_text : Option Kind → List ℕ
kind_text (Some kind) = kind_word kind
kind_text None = []

-- a line of one number
abbrev pub number_line : List ℕ → ℕ → List ℕ
number_line label n = label ++ (decimal n ++ codes "\n")

-- a line of two
abbrev pub pair_line : List ℕ → ℕ → ℕ → List ℕ
pair_line label m n = label ++ (decimal m ++ (codes " " ++ (decimal n ++ codes "\n")))

abbrev pub kind_line : Option Kind → List ℕ
kind_line kind = codes "Kind: " ++ (kind_text kind ++ codes "\n")

-- the low 12 bits of a mode, as four octal digits
abbrev pub mode_line : ℕ → List ℕ
mode_line mode =
    codes "Mode: " ++ (decimal (mode / 512 % 8) ++ (decimal (mode / 64 % 8) ++ (decimal (mode / 8 % 8) ++ (decimal (mode % 8) ++ codes "\n"))))

-- what the dinode in this block says, a time as its seconds and nanoseconds
abbrev pub dinode_lines : ℕ → Dinode → List (List ℕ)
dinode_lines block d =
    number_line (codes "Inode: ") block
    ∷ kind_line (kind_of_mode d.mode)
    ∷ mode_line d.mode
    ∷ pair_line (codes "Owner: ") d.uid d.gid
    ∷ number_line (codes "Links: ") (d.links_count_hi * 65536 + d.links_count)
    ∷ number_line (codes "Size: ") d.size
    ∷ number_line (codes "Clusters: ") d.clusters
    ∷ pair_line (codes "Atime: ") d.atime d.atime_nsec
    ∷ pair_line (codes "Ctime: ") d.ctime d.ctime_nsec
    ∷ pair_line (codes "Mtime: ") d.mtime d.mtime_nsec
    ∷ []

-- a leaf record: the first of its clusters, how many they are, the first block, and the flags
abbrev pub extent_line : Leaf → List ℕ
extent_line r =
    codes "Extent: " ++ (decimal r.cpos ++ (codes " " ++ (decimal r.clusters ++ (codes " " ++ (decimal r.block ++ (codes " " ++ (decimal r.flags ++ codes "\n")))))))

-- ---- of a refcount tree
-- a record: the first of its clusters, how many they are, and how often each is referred to
abbrev pub refcount_line : PlacedRefcount → List ℕ
refcount_line p = decimal p.fields.cpos ++ (codes " " ++ (decimal p.fields.clusters ++ (codes " " ++ (decimal p.fields.refcount ++ codes "\n"))))
