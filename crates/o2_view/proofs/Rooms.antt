-- The blocks of a view lie on its device.
use Rattle.std.proofs.Common.{ℕ, ◌+◌, ◌<◌, ◌≤◌, arith}
use Rattle.std.proofs.Math.Nat.{mul-le-mul_left}
use Rattle.o2_disk.specs.declared.disk.Disk as disk
use Rattle.o2_view.specs.Blocks.{sectors_per_block}
use Rattle.o2_view.specs.Views.{view_bits, view_blocks, HasRoom}
use Rattle.o2_view.specs.declared.view.View.{View}

module _ {D : Type 0} {N : ℕ} {g : disk.Ghosts D} where
  -- a run of blocks
  pub run_has_room : (view : View D N g) (first count : ℕ) → first + count ≤ view_blocks view → HasRoom view (first + count)
  run_has_room view first count within = omega (arith, mul-le-mul_left (sectors_per_block (view_bits view)) within, view.sized.within)

  -- a block
  pub block_has_room : (view : View D N g) (b : ℕ) → b < view_blocks view → HasRoom view (b + 1)
  block_has_room view b low = run_has_room view b 1 (omega (arith, low))
