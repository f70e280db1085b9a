-- What SUPER asks of the numbers alone, and what a reader of the volume is given by it.
use Rattle.std.specs.Prelude.{ℕ, ◌/◌, ◌%◌, ◌≤◌, Bool, ◌&&◌, ◌==◌, nat_lt, nat_le}
use Rattle.o2_model.specs.declared.geo.Geo.{Geo}
use Rattle.o2_view.specs.Geos.{HasSizes, HasNumbers, blocks_of}

-- the first group descriptor begins a cluster behind the superblock, one of a group of this size and of the volume
abbrev pub is_place : ℕ → ℕ → Geo → Bool
is_place pc size geo =
    geo.first_group % pc == 0
    && nat_le 3 geo.first_group
    && nat_lt (geo.first_group / pc) size
    && nat_lt (geo.first_group / pc) geo.clusters

-- sizes and numbers that a volume can have, which has no more blocks than these
pub record FitsIn (geo : Geo) (count : ℕ) : Type 0 where
  pub sizes : HasSizes geo
  pub numbers : HasNumbers geo
  pub volume : blocks_of geo ≤ count
