-- What a contract knows of a view.
use Rattle.std.specs.Prelude.{◌≡◌, ℕ, ◌*◌, ◌/◌, ◌^◌, ◌<◌, ◌≤◌, ◌==◌, List, length, Option, Some, if◌then◌else◌, unwrap_or}
use Rattle.std.specs.Borrow.{MutBor}
use Rattle.std.specs.Option.{option_or}
use Rattle.o2_disk.specs.Image.{Image, block_at}
use Rattle.o2_disk.specs.Device.{DiskState, ReadsOnly, SameDevice}
use Rattle.o2_disk.specs.declared.disk.Disk as disk
use Rattle.o2_model.specs.Volume.{Volume}
use Rattle.o2_model.specs.declared.geo.Geo.{Geo}
use Rattle.o2_view.specs.Blocks.{sectors_per_block}
use Rattle.o2_view.specs.Plans.{Planned, is_in_run, planned_at}
use Rattle.o2_view.specs.declared.view.View.{View}

module _ {D : Type 0} {N : ℕ} {g : disk.Ghosts D} where
  -- ---- its parts
  -- the disk that it reads
  abbrev pub view_disk : View D N g → MutBor D
  view_disk v = v.disk

  -- what a contract knows of that disk
  abbrev pub view_state : View D N g → DiskState
  view_state v = g.state (view_disk v).now

  -- a block has 2 ^ these bytes
  abbrev pub view_bits : View D N g → ℕ
  view_bits v = v.block_bits

  -- the blocks that it reads are those below this number
  abbrev pub view_blocks : View D N g → ℕ
  view_blocks v = v.blocks

  -- what is planned
  abbrev pub view_plan : View D N g → Planned
  view_plan v = v.plan

  -- what the last closed plan that has block b has for it
  abbrev pub closed_at : View D N g → ℕ → Option (List ℕ)
  closed_at v b = planned_at (2 ^ view_bits v) v.closed b

  -- what the plan has for block b, or else a closed one
  abbrev pub changed_at : View D N g → ℕ → Option (List ℕ)
  changed_at v b = option_or (planned_at (2 ^ view_bits v) (view_plan v) b) (closed_at v b)

  -- so many blocks lie on its device
  abbrev pub HasRoom : View D N g → ℕ → Type 0
  HasRoom v blocks = sectors_per_block (view_bits v) * blocks ≤ (view_state v).sectors

  -- ---- what it shows
  -- The device tells its content, and this is the volume of these numbers whose blocks are those of the content under the
  -- closed plans under the plan. Blocks that the view does not read may be anything.
  pub record Shows (view : View D N g) (geo : Geo) (v : Volume) : Type 0 where
    pub image : Image
    pub told : (view_state view).content ≡ Some image
    pub numbers : v.geo ≡ geo
    pub size : v.on_device ≡ 512 * length image / 2 ^ geo.block_bits
    pub blocks : (b : ℕ) → b < view_blocks view → v.at b ≡ unwrap_or (changed_at view b) (block_at (2 ^ view_bits view) image b)

  -- It shows the volume, of which these are the bytes of block b.
  pub record ShowsBytes (view : View D N g) (geo : Geo) (b : ℕ) (bytes : List ℕ) (v : Volume) : Type 0 where
    pub shows : Shows view geo v
    pub is : bytes ≡ v.at b

  -- ---- what a call keeps
  -- the view is of the same blocks of the same disk, under the same plans
  pub record SameView (old new : View D N g) : Type 0 where
    pub bits : view_bits new ≡ view_bits old
    pub blocks : view_blocks new ≡ view_blocks old
    -- so that the disk is, once the view is gone, what the view left of it
    pub disk : (view_disk new).ghost_name ≡ (view_disk old).ghost_name
    pub plan : view_plan new ≡ view_plan old
    -- what the plans have for each block
    pub changed : (b : ℕ) → changed_at new b ≡ changed_at old b

  -- A reader: nothing was written or planned, and the count of faults did not fall.
  pub record OnlyReads (old new : View D N g) : Type 0 where
    pub reads : ReadsOnly (view_state old) (view_state new)
    pub device : SameDevice (view_state old) (view_state new)
    pub same : SameView old new
    pub later : (view_state old).faults ≤ (view_state new).faults

  -- The disk was not called.
  pub record SameDisk (old new : View D N g) : Type 0 where
    pub bits : view_bits new ≡ view_bits old
    pub blocks : view_blocks new ≡ view_blocks old
    pub disk : view_disk new ≡ view_disk old

  -- A change of the plan alone: the disk was not called.
  pub record OnlyPlans (old new : View D N g) : Type 0 where
    pub bits : view_bits new ≡ view_bits old
    pub blocks : view_blocks new ≡ view_blocks old
    pub disk : view_disk new ≡ view_disk old
    pub closed : (b : ℕ) → closed_at new b ≡ closed_at old b

-- ---- changed blocks
-- these blocks with other bytes for block b
abbrev pub with_block : ℕ → List ℕ → (ℕ → List ℕ) → ℕ → List ℕ
with_block b bytes at c = if b == c then bytes else at c

-- these blocks with the same bytes for each of `count` blocks from `first` on
abbrev pub with_run : ℕ → ℕ → List ℕ → (ℕ → List ℕ) → ℕ → List ℕ
with_run first count bytes at c = if is_in_run c (first, count) then bytes else at c
