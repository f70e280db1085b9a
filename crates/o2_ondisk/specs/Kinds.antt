-- The kinds of inodes.
use Rattle.std.specs.Prelude.{ℕ, ◌==◌, if◌then◌else◌, bit_and, Option, Some, None}
use Rattle.o2_ondisk.specs.declared.kind.Kind.{Kind}
use Rattle.o2_ondisk.specs.declared.kind.Kind.TheVariants.{File, Directory, Character, Block, Fifo, Socket, Link}

-- the kind that the upper bits of a mode say, those under the mask 0o170000
abbrev pub kind_of_format : ℕ → Option Kind
kind_of_format format =
    if format == 0o100000 then Some File
    else (if format == 0o040000 then Some Directory
    else (if format == 0o020000 then Some Character
    else (if format == 0o060000 then Some Block
    else (if format == 0o010000 then Some Fifo
    else (if format == 0o140000 then Some Socket
    else (if format == 0o120000 then Some Link
    else None))))))

-- the kind that a mode says, with its permissions
abbrev pub kind_of_mode : ℕ → Option Kind
kind_of_mode mode = kind_of_format (bit_and mode 0o170000)

-- the kind that an entry of a directory says
abbrev pub kind_of_type : ℕ → Option Kind
kind_of_type type =
    if type == 1 then Some File
    else (if type == 2 then Some Directory
    else (if type == 3 then Some Character
    else (if type == 4 then Some Block
    else (if type == 5 then Some Fifo
    else (if type == 6 then Some Socket
    else (if type == 7 then Some Link
    else None))))))

-- what an entry of a directory says of an inode of this kind
abbrev pub type_of_kind : Kind → ℕ
type_of_kind File = 1
type_of_kind Directory = 2
type_of_kind Character = 3
type_of_kind Block = 4
type_of_kind Fifo = 5
type_of_kind Socket = 6
type_of_kind Link = 7
