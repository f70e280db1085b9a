-- The checks of a slot's parts: where they fail, and where not.
use Rattle.std.proofs.Common.{◌≡◌, inl, inr, ℕ, ◌*◌, ◌≤◌, Bool, true, false, ◌&&◌, List, [], ◌∷◌, refl, arith, eq-eqb}
use Rattle.std.specs.Prelude.{nat_le}
use Rattle.std.proofs.lemmas.Bool.{or_left, false≢true}
use Rattle.std.proofs.lemmas.List.Elements.{All-push}
use Rattle.o2_disk.specs.declared.disk.Disk as disk
use Rattle.o2_model.specs.declared.geo.Geo.{Geo}
use Rattle.o2_model.specs.declared.leaf.Leaf.{Leaf}
use Rattle.o2_model.specs.Words.{IsLeast, among}
use Rattle.o2_model.specs.Orders.{is_none_of}
use Rattle.o2_model.specs.Faults.{fails_unless}
use Rattle.o2_model.specs.Volume.{Volume}
use Rattle.o2_model.specs.Clusters.{cluster_size}
use Rattle.o2_model.specs.Inodes.{leaf_records}
use Rattle.o2_model.specs.LeafRecords.{clusters_in, are_without_gap, have_no_flags}
use Rattle.o2_model.specs.Checks.Extent.{extent_faults}
use Rattle.o2_model.specs.Checks.SlotMap.{slot_entry_size, is_sound_slot_map}
use Rattle.o2_view.specs.OwnChecks.{ReadFailsOf}
use Rattle.o2_view.specs.Views.{ShowsBytes}
use Rattle.o2_view.specs.declared.fault.ReadFault.{ReadFault}
use Rattle.o2_view.specs.declared.fault.ReadFault.TheVariants as read
use Rattle.o2_view.specs.declared.view.View.{View}
use Rattle.o2_extent.specs.Readings.{extent_checks}
use Rattle.o2_slots.specs.SlotChecks.{slot_map_checks, fault_of_map}

-- a check of one block fails there alone
pub fails_there : (b : ℕ) (test : Bool) → test ≡ false → IsLeast b (fails_unless b test)
fails_there b test is = rw is (record { is_among = or_left _ _ (eq-eqb b b refl); each = All-push (λ (m : ℕ). b ≤ m) [] b (λ k e lt. absurd (omega arith)) (omega arith) })

-- ---- slot maps
some_fault : (b : ℕ) (bs : List ℕ) → among bs b ≡ true → is_none_of bs ≡ false
some_fault b [] is = absurd (false≢true is)
some_fault b (x ∷ xs) is = refl

-- a slot map whose extents are at fault is unsound
pub bad_extents : (v : Volume) (inode b : ℕ) → IsLeast b (extent_faults v inode) → is_sound_slot_map v inode ≡ false
unfolding is_sound_slot_map
bad_extents v inode b least = rw (some_fault b (extent_faults v inode) least.is_among) refl

-- else its records decide
pub by_records : (v : Volume) (inode : ℕ) (leaves : List Leaf) → extent_faults v inode ≡ [] → leaves ≡ leaf_records v inode
    → is_sound_slot_map v inode ≡ (are_without_gap leaves && have_no_flags leaves && nat_le (v.geo.slots * slot_entry_size v) (clusters_in leaves * cluster_size v))
unfolding is_sound_slot_map
by_records v inode leaves none are = rw (none, are) refl

module _ {D : Type 0} {N : ℕ} {g : disk.Ghosts D} where
  -- a fault that is met in the records of a slot map is the map's
  pub map_fails : (old new : View D N g) (geo : Geo) (inode : ℕ) (bytes : List ℕ)
      → (fault : ReadFault) → ReadFailsOf (ShowsBytes old geo inode bytes) old new (extent_checks inode) fault → ReadFailsOf (ShowsBytes old geo inode bytes) old new (slot_map_checks inode) (fault_of_map inode fault)
  map_fails old new geo inode bytes read.NoMemory fails = tt
  map_fails old new geo inode bytes read.DeviceFault fails = fails
  map_fails old new geo inode bytes (read.Bad check b) fails = record {
    own = inl refl;
    first = λ v seen. elim (fails.first v seen) [
      | inl h ↦ inl (refl, fails_there inode (is_sound_slot_map v inode) (bad_extents v inode b h.1))
      | inr h ↦ absurd h.1
    ];
  }
