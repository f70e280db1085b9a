-- One allocator more, and then all of them.
use Rattle.std.proofs.Common.{◌≡◌, ℕ, ◌+◌, ◌*◌, ◌<◌, ◌≤◌, List, ◌∷◌, ◌++◌, [], map, length, take, drop, get_or, sym, ◌∙◌, ap, subst, arith}
use Rattle.std.proofs.Math.Nat.{mul-le-mul_right}
use Rattle.std.proofs.lemmas.List.{map-append, map_more, take-append-drop, take_all, drop_more}
use Rattle.std.proofs.lemmas.List.Elements.{Contains-get_or}
use Rattle.o2_disk.specs.Device.{DiskState, ReadsOnly}
use Rattle.o2_model.specs.declared.allocator.Allocator.{Allocator}
use Rattle.o2_model.specs.Volume.{Volume}
use Rattle.o2_model.specs.Allocators.{allocators}
use Rattle.o2_model.specs.Groups.{GroupWalk, group_walk}
use Rattle.o2_view.proofs.Shown.{still_shows}
use Rattle.o2_view.specs.Counted.{CallsAtMost}
use Rattle.o2_view.specs.Views.{view_state, view_blocks}
use Rattle.o2_extent.proofs.Views.{only_none, only_both, still_in}
use Rattle.o2_tables.specs.Rows.{IsAllocatorRow}
use Rattle.o2_tables.specs.declared.allocators.AllocatorRow.{AllocatorRow}
use Rattle.o2_chain.specs.Earlier.{walk_of}
use Rattle.o2_chain.specs.Whole.{HasGathered}
use Rattle.o2_chain.proofs.Groups.{each_of}
use Rattle.o2_chain.proofs.whole_walk.walk_all.Goals as goal

-- the allocators of the rows
abbrev those_of : List AllocatorRow → List Allocator
those_of rows = map (λ r. r.allocator) rows

around : {A B : Type 0} (f : A → B) (xs : List A) (i : ℕ) (d : A) → i < length xs → map f xs ≡ map f (take i xs) ++ f (get_or xs i d) ∷ map f (drop (i + 1) xs)
around f xs i d low =
    sym (ap (map f) (take-append-drop i xs)) ∙ (map-append f (take i xs) (drop i xs) ∙ ap (λ rest. map f (take i xs) ++ map f rest) (drop_more xs i d low))

calls_more : (i most few : ℕ) (old mid new : DiskState) → ReadsOnly old mid → few ≡ most → CallsAtMost (i * most) old mid → CallsAtMost few mid new → CallsAtMost ((i + 1) * most) old new
calls_more i most few old mid new reads same calls more I told = omega (arith, calls I told, more I (reads.content ∙ told), same)

calls_within : (i count most : ℕ) (old new : DiskState) → i ≤ count → CallsAtMost (i * most) old new → CallsAtMost (count * most) old new
calls_within i count most old new low calls I told = omega (arith, calls I told, mul-le-mul_right most low)

whole : (v : Volume) (some all : List AllocatorRow) → some ≡ all → those_of all ≡ allocators v → walk_of v (those_of some) ≡ group_walk v
unfolding group_walk
whole v some all same is = ap (walk_of v) (ap those_of same ∙ is)

pub loop-row-init : goal.loop-row-init
loop-row-init g c = record {
  told = λ v shows table. c.nothing-gathered.ensures v;
  count = λ I told. omega arith;
  reads = only_none c.args.view.now;
}

pub gather-requires : goal.gather-requires
gather-requires g c = (omega arith, still_in c.requires.geo c.loop-row.invariant.reads)

pub returns-in_err-gather-clause-count : goal.returns-in_err-gather-clause-count
returns-in_err-gather-clause-count g c =
    let inv = c.loop-row.invariant in
    let i = c.loop-row.row-index in
    let most = view_blocks c.args.view.now in
    calls_within (i + 1) (length c.args.rows.now) most (view_state c.args.view.now) (view_state c.gather.new.view) (omega (arith, c.loop-row-test.true))
    (calls_more i most (view_blocks c.loop-row.view) (view_state c.args.view.now) (view_state c.loop-row.view) (view_state c.gather.new.view) inv.reads.reads inv.reads.same.blocks inv.count c.gather.ensures.count)

pub returns-clause-count : goal.returns-clause-count
returns-clause-count g c =
    calls_within c.loop-row.row-index (length c.args.rows.now) (view_blocks c.args.view.now) (view_state c.args.view.now) (view_state c.loop-row.view) (omega arith) c.loop-row.invariant.count

pub returns-in_err-gather-clause-reads : goal.returns-in_err-gather-clause-reads
returns-in_err-gather-clause-reads g c = only_both c.loop-row.invariant.reads c.gather.ensures.reads

pub loop-row-preserved : goal.loop-row-preserved
loop-row-preserved g c =
    let inv = c.loop-row.invariant in
    let all = c.args.rows.now in
    let i = c.loop-row.row-index in
    let low = c.loop-row-test.true in
    let row = c.row-item.result in
    let at : get_or all i row ≡ row = sym c.row-item.is in
    record {
      told = λ v shows table.
          subst (λ some. HasGathered v some c.gather.new.gathered) (sym (map_more (λ r. r.allocator) all i row low ∙ ap (λ (r : AllocatorRow). those_of (take i all) ++ r.allocator ∷ []) at))
          (c.in_ok-gather.ensures.told v (still_shows inv.reads shows) (subst (IsAllocatorRow v) at (each_of (IsAllocatorRow v) all _ table.each (Contains-get_or all i row low))) (those_of (take i all)) (those_of (drop (i + 1) all))
          (sym table.allocators ∙ (around (λ r. r.allocator) all i row low ∙ ap (λ (r : AllocatorRow). those_of (take i all) ++ r.allocator ∷ those_of (drop (i + 1) all)) at)) (inv.told v shows table));
      count = calls_more i (view_blocks c.args.view.now) (view_blocks c.loop-row.view) (view_state c.args.view.now) (view_state c.loop-row.view) (view_state c.gather.new.view) inv.reads.reads inv.reads.same.blocks inv.count c.gather.ensures.count;
      reads = only_both inv.reads c.gather.ensures.reads;
    }

pub returns-clause-told : goal.returns-clause-told
returns-clause-told g c v shows table =
    let gathered = c.loop-row.invariant.told v shows table in
    let walk = whole v _ c.args.rows.now (take_all c.loop-row.row-index c.args.rows.now (omega arith)) table.allocators in
    record {
      groups = c.from.ensures ∙ (gathered.groups ∙ ap (λ (w : GroupWalk). w.groups) walk);
      faults = c.from-2.ensures ∙ (gathered.faults ∙ ap (λ (w : GroupWalk). w.faults) walk);
    }
