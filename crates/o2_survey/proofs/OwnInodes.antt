-- The volume's own inodes by the entries of the system directory.
use Rattle.std.proofs.Common.{◌≡◌, ℕ, not, List, ◌∷◌, map, filter, ◌∙◌, ap}
use Rattle.o2_model.specs.Words.{among}
use Rattle.o2_model.specs.Volume.{Volume}
use Rattle.o2_model.specs.Directories.{directory_entries, is_dot, own_inodes}
use Rattle.o2_model.specs.declared.entry.Entry.{Entry}

pub all_own : (v : Volume) (sysdir : ℕ) (es : List Entry) (b : ℕ) → sysdir ≡ v.geo.sysdir → es ≡ directory_entries v v.geo.sysdir
    → among (sysdir ∷ map (λ e. e.inode) (filter (λ e. not (is_dot e)) es)) b ≡ among (own_inodes v) b
unfolding own_inodes
all_own v sysdir es b is are =
    ap (λ d. among (d ∷ map (λ (e : Entry). e.inode) (filter (λ (e : Entry). not (is_dot e)) es)) b) is
    ∙ ap (λ xs. among (v.geo.sysdir ∷ map (λ (e : Entry). e.inode) (filter (λ (e : Entry). not (is_dot e)) xs)) b) are
