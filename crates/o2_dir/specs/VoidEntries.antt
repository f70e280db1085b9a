-- An entry of a directory that becomes void.
use Rattle.std.specs.Prelude.{◌≡◌, ℕ, ◌+◌, ◌==◌, List, [], ◌∷◌, ◌++◌, map, filter, not, sum_by, is_some, if◌then◌else◌}
use Rattle.o2_ondisk.specs.Dinodes.{inline_data_place}
use Rattle.o2_ondisk.specs.Fields.{put_at}
use Rattle.o2_model.specs.declared.check.Check.TheVariants as check
use Rattle.o2_model.specs.Volume.{Volume, over}
use Rattle.o2_model.specs.Faults.{fails_unless}
use Rattle.o2_model.specs.Directories.{NamedEntry, entries_in, inline_bytes, is_live, live_from}
use Rattle.o2_view.specs.OwnChecks.{OwnCheck}
use Rattle.o2_view.specs.Views.{with_block}

-- ---- the bytes of a block that entries fill
-- those of a block of the directory at `inode`: the inline bytes where the block is its dinode
abbrev pub filled_bytes : Volume → ℕ → ℕ → List ℕ
filled_bytes v inode block = if block == inode then inline_bytes v block else v.at block

-- where they begin in the block
abbrev pub filled_place : ℕ → ℕ → ℕ
filled_place inode block = if block == inode then inline_data_place else 0

-- what a planner of one entry judges: DIR_BLOCK at its block, of which only whether entries fill it
abbrev pub fill_checks : ℕ → ℕ → List OwnCheck
fill_checks inode block =
    record { check = check.DirBlock; faults = λ v. fails_unless block (is_some (entries_in (filled_bytes v inode block))) } ∷ []

-- ---- where entries begin
-- one of the entries begins at this byte, behind those before it
pub record BeginsAt (at : ℕ) (entries : List NamedEntry) : Type 0 where
  pub front : List NamedEntry
  pub entry : NamedEntry
  pub back : List NamedEntry
  pub are : entries ≡ front ++ entry ∷ back
  pub place : at ≡ sum_by (λ e. e.fields.rec_len) front

-- ---- the entry, once it is void
-- the same entry, of no inode
abbrev pub void_of : NamedEntry → NamedEntry
void_of e = record e { fields = record (e.fields) { inode = 0 } }

-- the entry without its name where it is void: what stands there counts for nothing
abbrev pub told_of : NamedEntry → NamedEntry
told_of e = if is_live e then e else record e { name = [] }

-- The new entries are the old ones, but that the one which begins at this byte is void.
pub record AreVoidedAt (at : ℕ) (old new : List NamedEntry) : Type 0 where
  pub begins : BeginsAt at old
  pub are : map told_of new ≡ map told_of (begins.front ++ void_of begins.entry ∷ begins.back)
  -- so the live entries of the block are the old ones but the one at this byte
  pub live : (block : ℕ) → live_from block 0 new ≡ filter (λ e. not (e.at == at)) (live_from block 0 old)

-- the volume with zeros for the inode of the entry that begins at this byte of those that entries fill, and no other change
abbrev pub with_void : Volume → ℕ → ℕ → ℕ → Volume
with_void v inode block at = over v (with_block block (put_at (filled_place inode block + at) 8 0 (v.at block)) v.at)
