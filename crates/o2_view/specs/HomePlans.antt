-- Calls that read, and plan home blocks.
use Rattle.std.specs.Prelude.{◌≡◌, ℕ, ◌≤◌, false, List}
use Rattle.o2_disk.specs.Device.{ReadsOnly, SameDevice}
use Rattle.o2_disk.specs.declared.disk.Disk as disk
use Rattle.o2_model.specs.Words.{among}
use Rattle.o2_view.specs.Plans.{home_at}
use Rattle.o2_view.specs.Views.{view_disk, view_state, view_bits, view_blocks, view_plan}
use Rattle.o2_view.specs.declared.view.View.{View}

module _ {D : Type 0} {N : ℕ} {g : disk.Ghosts D} where
  -- Nothing was written, and of what is planned the home blocks alone may have changed. The count of faults did not fall.
  pub record PlansHome (old new : View D N g) : Type 0 where
    pub reads : ReadsOnly (view_state old) (view_state new)
    pub device : SameDevice (view_state old) (view_state new)
    pub bits : view_bits new ≡ view_bits old
    pub blocks : view_blocks new ≡ view_blocks old
    pub disk : (view_disk new).ghost_name ≡ (view_disk old).ghost_name
    pub fresh : (view_plan new).fresh ≡ (view_plan old).fresh
    pub zeros : (view_plan new).zeros ≡ (view_plan old).zeros
    pub later : (view_state old).faults ≤ (view_state new).faults

  -- the home blocks that are planned have changed at these blocks alone
  abbrev pub PlansOnly : List ℕ → View D N g → View D N g → Type 0
  PlansOnly bs old new = (b : ℕ) → among bs b ≡ false → home_at (view_plan new) b ≡ home_at (view_plan old) b
