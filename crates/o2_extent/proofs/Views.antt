-- Calls that only read, one after the other.
use Rattle.std.proofs.Common.{ℕ, ◌-◌, ◌^◌, ◌<◌, ◌≤◌, List, refl, sym, ◌∙◌, arith}
use Rattle.std.proofs.Math.Nat.{mul-le-mul_right}
use Rattle.std.proofs.Math.Pow.{pow_mono}
use Rattle.o2_disk.specs.declared.disk.Disk as disk
use Rattle.o2_disk.proofs.Moments.{reads_none, reads_both}
use Rattle.o2_model.specs.declared.geo.Geo.{Geo}
use Rattle.o2_view.specs.Geos.{LiesIn, blocks_of}
use Rattle.o2_view.specs.Views.{view_state, view_blocks, OnlyReads}
use Rattle.o2_view.specs.declared.view.View.{View}
use Rattle.o2_extent.specs.Readings.{LooksAtMost}

module _ {D : Type 0} {N : ℕ} {g : disk.Ghosts D} where
  pub only_none : (view : View D N g) → OnlyReads view view
  only_none view = record {
    reads = reads_none (view_state view);
    device = record { attaches = refl; attached = refl; sectors = refl };
    same = record { bits = refl; blocks = refl; disk = refl; plan = refl; changed = λ b. refl };
    later = omega arith;
  }

  pub only_both : {old mid new : View D N g} → OnlyReads old mid → OnlyReads mid new → OnlyReads old new
  only_both {old} {mid} {new} a b = record {
    reads = reads_both a.reads b.reads;
    device = record {
      attaches = b.device.attaches ∙ a.device.attaches;
      attached = b.device.attached ∙ a.device.attached;
      sectors = b.device.sectors ∙ a.device.sectors;
    };
    same = record {
      bits = b.same.bits ∙ a.same.bits;
      blocks = b.same.blocks ∙ a.same.blocks;
      disk = b.same.disk ∙ a.same.disk;
      plan = b.same.plan ∙ a.same.plan;
      changed = λ c. b.same.changed c ∙ a.same.changed c;
    };
    later = omega (arith, a.later, b.later);
  }

  pub still_in : {geo : Geo} {old new : View D N g} → LiesIn geo old → OnlyReads old new → LiesIn geo new
  still_in {geo} {old} {new} h only = record { sizes = h.sizes; numbers = h.numbers; bits = h.bits ∙ sym only.same.bits; within = omega (arith, h.within, only.same.blocks) }

  -- a volume's view has a block, that of the root directory
  pub some_blocks : {geo : Geo} {view : View D N g} → LiesIn geo view → 0 < view_blocks view
  some_blocks {geo} {view} h = omega (arith, h.numbers.root, h.within)

  -- the numbers of its blocks have 64 bits
  pub few_blocks : {geo : Geo} {view : View D N g} → LiesIn geo view → blocks_of geo < 2 ^ 64
  few_blocks {geo} {view} h =
      let some : 1 ≤ 2 ^ (view.block_bits - 9) = pow_mono {i = 0} {j = view.block_bits - 9} (omega arith) in
      omega (arith, mul-le-mul_right view.blocks some, view.sized.few, h.within)

  pub looks_none : (seen : List ℕ) (view : View D N g) → LooksAtMost seen seen view view
  looks_none seen view = record { grew = omega arith; calls = λ I told. omega arith }

  pub looks_both : {xs ys zs : List ℕ} {old mid new : View D N g} → OnlyReads old mid → LooksAtMost xs ys old mid → LooksAtMost ys zs mid new → LooksAtMost xs zs old new
  looks_both {xs} {ys} {zs} {old} {mid} {new} only a b = record {
    grew = omega (arith, a.grew, b.grew);
    calls = λ I told. omega (arith, a.calls I told, b.calls I (only.reads.content ∙ told));
  }
