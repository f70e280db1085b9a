-- The whole blocks of a device, and the volume on it.
use Rattle.std.proofs.Common.{◌≡◌, ℕ, ◌-◌, ◌*◌, ◌/◌, ◌≤◌, ◌^◌, length, Some, None, Result, Ok, Err, sym, subst, ◌∙◌, ap, arith}
use Rattle.std.proofs.Math.Nat.{mul-div-mul_left}
use Rattle.std.specs.Prelude.{IfOk}
use Rattle.o2_disk.specs.Device.{DiskState}
use Rattle.o2_disk.specs.Image.{Image, block_at}
use Rattle.o2_disk.specs.declared.disk.Disk as disk
use Rattle.o2_disk.specs.declared.disk.NoMemory.{NoMemory}
use Rattle.o2_model.proofs.SuperSector.{size-is}
use Rattle.o2_model.specs.Volume.{Volume}
use Rattle.o2_model.specs.declared.geo.Geo.{Geo}
use Rattle.o2_view.specs.Plans.{no_plan}
use Rattle.o2_view.specs.Views.{view_disk, view_state, view_bits, view_blocks, view_plan, closed_at, Shows}
use Rattle.o2_view.specs.declared.view.View.{View}
use Rattle.o2_view.proofs.Shown.{bare_volume}
use Rattle.o2_open.specs.Devices.{volume_on, IsOn}

-- ---- its blocks
-- of so many sectors
sectors_in_blocks : (sectors per_block : ℕ) → sectors / per_block ≡ 512 * sectors / (512 * per_block)
sectors_in_blocks sectors per_block = sym (mul-div-mul_left {m = 512} sectors per_block (omega arith))

whole_blocks : (bits sectors blocks : ℕ) (I : Image) → 9 ≤ bits → blocks ≡ sectors / 2 ^ (bits - 9) → length I ≡ sectors → blocks ≡ 512 * length I / 2 ^ bits
whole_blocks bits sectors blocks I least are long =
    are
    ∙ sectors_in_blocks sectors (2 ^ (bits - 9))
    ∙ ap (λ (n : ℕ). 512 * sectors / n) (sym (size-is bits least))
    ∙ ap (λ (n : ℕ). 512 * n / 2 ^ bits) (sym long)

-- ---- its volume
module _ {D : Type 0} {N : ℕ} {g : disk.Ghosts D} (view : View D N g) (geo : Geo) (bits : view_bits view ≡ geo.block_bits) (plan : view_plan view ≡ no_plan) (closed : (b : ℕ) → closed_at view b ≡ None) where
  -- a view with nothing planned shows it
  shows_on : (I : Image) → (view_state view).content ≡ Some I → Shows view geo (volume_on geo I)
  shows_on I told = subst (λ (n : ℕ). Shows view geo (record { geo = geo; at = block_at (2 ^ n) I; on_device = 512 * length I / 2 ^ geo.block_bits })) bits (bare_volume view geo I told plan closed)

  pub shows_what_is_on : (d : DiskState) → (view_state view).content ≡ d.content → (v : Volume) → IsOn d geo v → Shows view geo v
  shows_what_is_on d same v on = subst (λ (w : Volume). Shows view geo w) (sym on.is) (shows_on on.image (same ∙ on.told))

-- ---- a view of a device, where it is made
module _ {D : Type 0} {N : ℕ} {g : disk.Ghosts D} (geo : Geo) (device : D) where
  pub made_shows : (made : Result (View D N g) NoMemory) → IfOk made (λ view. view_bits view ≡ geo.block_bits) → IfOk made (λ view. (view_disk view).now ≡ device) → IfOk made (λ view. view_plan view ≡ no_plan)
      → IfOk made (λ view. (b : ℕ) → closed_at view b ≡ None) → IfOk made (λ view. (v : Volume) → IsOn (g.state device) geo v → Shows view geo v)
  made_shows (Ok view) bits same plan closed = λ v on. shows_what_is_on view geo bits plan closed (g.state device) (ap (λ (d : D). (g.state d).content) same) v on
  made_shows (Err e) bits same plan closed = tt

  pub made_blocks : (made : Result (View D N g) NoMemory) (sectors : ℕ) → ((d : D) (I : Image) → (g.state d).content ≡ Some I → length I ≡ (g.state d).sectors) → sectors ≡ (g.state device).sectors → 9 ≤ geo.block_bits
      → IfOk made (λ view. view_blocks view ≡ sectors / 2 ^ (geo.block_bits - 9)) → IfOk made (λ view. (view_disk view).now ≡ device) → IfOk made (λ view. (v : Volume) → Shows view geo v → view_blocks view ≡ v.on_device)
  made_blocks (Ok view) sectors long has least blocks same = λ v shows.
      whole_blocks geo.block_bits sectors (view_blocks view) shows.image least blocks (long (view_disk view).now shows.image shows.told ∙ ap (λ (d : D). (g.state d).sectors) same ∙ sym has)
      ∙ sym shows.size
  made_blocks (Err e) sectors long has least blocks same = tt
