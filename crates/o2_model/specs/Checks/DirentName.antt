-- DIRENT_NAME, number 21, at the directory's block: the name of each live entry has 1 to 255 bytes, none of them a slash or NUL.
use Rattle.std.specs.Prelude.{ℕ, Bool, ◌&&◌, not, nat_le, List, length}
use Rattle.o2_model.specs.Words.{among}
use Rattle.o2_model.specs.Faults.{fails_at}
use Rattle.o2_model.specs.Volume.{Volume}
use Rattle.o2_model.specs.Directories.{directory_entries}

-- it is a name of the file system (OCFS2_MAX_FILENAME_LEN); 0x2f is the slash
unfoldable pub is_sound_name : List ℕ → Bool
is_sound_name name =
    nat_le 1 (length name)
    && nat_le (length name) 255
    && not (among name 0x2f)
    && not (among name 0x0)

-- those of one directory
abbrev pub dirent_name_faults : Volume → ℕ → List ℕ
dirent_name_faults v d = fails_at (λ e. e.block) (λ e. is_sound_name e.name) (directory_entries v d)
