-- The blocks that carry meaning.
use Rattle.std.specs.Prelude.{ℕ, Bool, true, false, ◌&&◌, ◌||◌, not, ◌==◌, List, filter, slice_get}
use Rattle.std.specs.List.{range_with_len, list_any}
use Rattle.std.specs.Option.{option_map_or}
use Rattle.o2_model.specs.declared.claim.Owner.{Owner}
use Rattle.o2_model.specs.declared.claim.Owner.TheVariants.{Inode, LocalAlloc, TruncateLog}
use Rattle.o2_model.specs.Words.{among}
use Rattle.o2_model.specs.Volume.{Volume, blocks}
use Rattle.o2_model.specs.Clusters.{cluster_of}
use Rattle.o2_model.specs.Journals.{journals, journal_blocks}
use Rattle.o2_model.specs.Claims.{claims_of}

-- the block is the first of a journal
abbrev pub is_first_of_journal : Volume → ℕ → ℕ → Bool
is_first_of_journal v inode b = option_map_or (λ c. c == b) (slice_get (journal_blocks v inode) 0) false

-- The owner of a cluster needs the bytes of this block of it. Windows and truncate records are free clusters, and of a journal
-- only the first block counts.
abbrev pub needs_bytes : Volume → Owner → ℕ → Bool
needs_bytes v (LocalAlloc slot) b = false
needs_bytes v (TruncateLog slot) b = false
needs_bytes v (Inode inode) b = not (among (journals v) inode) || is_first_of_journal v inode b
needs_bytes v _ b = true

-- a block of a cluster that some claim's owner needs
unfoldable pub is_owned : Volume → ℕ → Bool
is_owned v b = list_any (λ k. k.cluster == cluster_of v b && needs_bytes v k.owner b) (claims_of v)

-- all of them, rising
unfoldable pub owned_blocks : Volume → List ℕ
owned_blocks v = filter (is_owned v) (range_with_len 0 (blocks v))
