-- Bytes of single entries of a directory.
use Rattle.std.specs.Prelude.{ℕ, ◌-◌, List, [], ◌∷◌, ◌++◌, length, codes}
use Rattle.byteorder.specs.Endian.{little_bytes}
use Rattle.o2_cases_volumes.specs.SmallBytes.{zero_bytes}

-- 12 bytes that say this inode and rec_len, a name_len and the type of a file, and then the bytes of a name
abbrev pub entry_bytes : ℕ → ℕ → ℕ → List ℕ → List ℕ
entry_bytes inode rec_len name_len name = little_bytes 8 inode ++ little_bytes 2 rec_len ++ name_len ∷ 1 ∷ name

-- the name `f`, filled up to 4 bytes
abbrev pub name_bytes : List ℕ
name_bytes = 0x66 ∷ 0 ∷ 0 ∷ 0 ∷ []

-- 16 bytes with the entry of that name, of inode 7 and this rec_len
abbrev pub live_bytes : ℕ → List ℕ
live_bytes rec_len = entry_bytes 7 rec_len 1 name_bytes

-- 12 bytes with a void entry of this rec_len
abbrev pub void_bytes : ℕ → List ℕ
void_bytes rec_len = entry_bytes 0 rec_len 0 []

-- an entry of this inode, rec_len and type, with this name
abbrev pub named_bytes : ℕ → ℕ → ℕ → List ℕ → List ℕ
named_bytes inode rec_len type name =
    little_bytes 8 inode ++ little_bytes 2 rec_len ++ length name ∷ type ∷ (name ++ zero_bytes (rec_len - 12 - length name))

-- the entries of 16 bytes each of the directory itself and of the one above it
abbrev pub dots : ℕ → ℕ → List ℕ
dots directory parent = named_bytes directory 16 2 (codes ".") ++ named_bytes parent 16 2 (codes "..")
