-- A query of a view, told of its device.
use Rattle.std.proofs.Common.{◌≡◌, ℕ, subst, arith}
use Rattle.std.proofs.lemmas.Result.{IfErr-weaker}
use Rattle.std.specs.Prelude.{Result}
use Rattle.std.specs.Result.{IfErr}
use Rattle.o2_disk.specs.Device.{DiskState}
use Rattle.o2_disk.specs.Output.{SinkState}
use Rattle.o2_disk.specs.declared.disk.Disk as disk
use Rattle.o2_model.specs.Volume.{Volume}
use Rattle.o2_model.specs.declared.geo.Geo.{Geo}
use Rattle.o2_view.specs.Views.{view_disk, view_state, Shows}
use Rattle.o2_view.specs.declared.view.View.{View}
use Rattle.o2_open.specs.Devices.{IsOn}
use Rattle.o2_debug.specs.Fails.{QueryFails}
use Rattle.o2_debug.specs.declared.fault.DebugFault.{DebugFault}
use Rattle.o2_debug.specs.declared.query.Query.{Query}
use Rattle.o2_debug.proofs.Fails.{query_fails}

module _ {D : Type 0} {N : ℕ} {g : disk.Ghosts D} (view : View D N g) (geo : Geo) (old : DiskState) (shows : (v : Volume) → IsOn old geo v → Shows view geo v) where
  -- A query of such a view fails as one of the device does. The view leaves the device behind.
  pub device_fails : {A : Type 0} (r : Result A DebugFault) (behind : D) (after : View D N g) (query : Query) (before put : SinkState) (kept : Type 0) → view_state view ≡ old → (view_disk after).now ≡ behind
      → IfErr r (QueryFails (Shows view geo) (view_state view) (view_state after) query before put kept) → IfErr r (QueryFails (IsOn old geo) old (g.state behind) query before put kept)
  device_fails r behind after query before put kept same left fails =
      subst (λ (d : D). IfErr r (QueryFails (IsOn old geo) old (g.state d) query before put kept)) left
      (subst (λ (d : DiskState). IfErr r (QueryFails (IsOn old geo) d (view_state after) query before put kept)) same
      (IfErr-weaker r _ _ (query_fails (Shows view geo) (IsOn old geo) (view_state view) (view_state view) (view_state after) query before put kept (omega arith) shows) fails))
