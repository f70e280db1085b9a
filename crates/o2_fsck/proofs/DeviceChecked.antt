-- The check of a view, told of its device.
use Rattle.std.proofs.Common.{◌≡◌, inr, ℕ, Some, None, subst}
use Rattle.std.specs.Prelude.{Result}
use Rattle.std.specs.Result.{IfErr}
use Rattle.std.proofs.lemmas.Result.{IfErr-weaker}
use Rattle.o2_disk.specs.Device.{DiskState, Rose}
use Rattle.o2_disk.specs.declared.disk.Disk as disk
use Rattle.o2_model.specs.Image.{Image}
use Rattle.o2_model.specs.Features.{unsupported_feature}
use Rattle.o2_model.specs.Volume.{Volume, opened}
use Rattle.o2_model.specs.declared.geo.Geo.{Geo}
use Rattle.o2_view.specs.Views.{view_disk, view_state, Shows}
use Rattle.o2_view.specs.declared.view.View.{View}
use Rattle.o2_check.specs.Faults.{CheckFails}
use Rattle.o2_check.specs.declared.fault.CheckFault.{CheckFault}
use Rattle.o2_check.specs.declared.fault.CheckFault.TheVariants.{NoMemory, DeviceFault, Unsupported}
use Rattle.o2_open.specs.Devices.{IsOn}
use Rattle.o2_fsck.specs.Judged.{DeviceCheckFails, cause_of_check}
use Rattle.o2_fsck.specs.Verdicts.{ComesFor}

module _ {D : Type 0} {N : ℕ} {g : disk.Ghosts D} (view after : View D N g) (geo : Geo) (old : DiskState) (shows : (v : Volume) → IsOn old geo v → Shows view geo v) (same : view_state view ≡ old) where
  view_fails : (fault : CheckFault) → CheckFails view after geo fault → DeviceCheckFails old (view_state after) geo fault
  view_fails NoMemory fails = tt
  view_fails DeviceFault fails = subst (λ (d : DiskState). Rose d.faults (view_state after).faults) same fails
  view_fails (Unsupported what b) fails = λ v on. fails v (shows v on)

  -- The view leaves the device behind.
  pub device_fails : {A : Type 0} (r : Result A CheckFault) (behind : D) → (view_disk after).now ≡ behind → IfErr r (CheckFails view after geo) → IfErr r (DeviceCheckFails old (g.state behind) geo)
  device_fails r behind left fails = subst (λ (d : D). IfErr r (DeviceCheckFails old (g.state d) geo)) left (IfErr-weaker r _ _ view_fails fails)

-- and for its image
pub comes_fault : (I : Image) (v : Volume) → opened I ≡ Some v → unsupported_feature I ≡ None → (old new : DiskState) (geo : Geo) → IsOn old geo v → (fault : CheckFault) → DeviceCheckFails old new geo fault → ComesFor I (cause_of_check fault)
comes_fault I v is supported old new geo on NoMemory fails = tt
comes_fault I v is supported old new geo on DeviceFault fails = tt
comes_fault I v is supported old new geo on (Unsupported what b) fails = inr (record { volume = v; is = is; supported = supported; holds = fails v on })
