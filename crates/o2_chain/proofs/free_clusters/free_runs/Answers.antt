-- One group after the other.
use Rattle.std.proofs.Common.{◌≡◌, ◌<◌, ◌≤◌, ◌+◌, ℕ, List, true, map, length, take, get_or, inl, refl, sym, ◌∙◌, ap, subst, arith}
use Rattle.std.specs.Prelude.{Result, Ok, Err, IfErr, IsErrAnd}
use Rattle.std.specs.List.Sorted.{IsNonDecreasingBy, IsPermutation}
use Rattle.std.proofs.lemmas.List.{take_more, take_all, get_or_default}
use Rattle.std.proofs.lemmas.List.Sorted.{length_permutation}
use Rattle.o2_disk.specs.Device.{DiskState, ReadsOnly}
use Rattle.o2_disk.specs.declared.disk.Disk as disk
use Rattle.o2_model.specs.declared.geo.Geo.{Geo}
use Rattle.o2_view.proofs.Faults.{rose_before}
use Rattle.o2_view.specs.Counted.{CallsAtMost}
use Rattle.o2_view.specs.OwnChecks.{OwnCheck, BlockFails}
use Rattle.o2_view.specs.declared.fault.ViewFault.{ViewFault}
use Rattle.o2_view.specs.declared.fault.ViewFault.TheVariants as view
use Rattle.o2_view.specs.declared.view.View.{View}
use Rattle.o2_view.specs.Views.{view_state, OnlyReads}
use Rattle.o2_view.proofs.Shown.{still_shows}
use Rattle.o2_extent.proofs.Views.{only_none, only_both, still_in}
use Rattle.o2_chain.specs.Faults.{ChainFails, IsFaultOfView}
use Rattle.o2_chain.specs.FreeGroups.{first_cluster}
use Rattle.o2_view.specs.FreeRuns.{is_of_runs}
use Rattle.o2_chain.specs.FreeRuns.{is_free, no_bad_group}
use Rattle.o2_chain.specs.declared.fault.ChainFault.{ChainFault}
use Rattle.o2_view.specs.RunLists.{end_of_runs}
use Rattle.o2_chain.specs.Walks.{judged_as, group_in}
use Rattle.o2_chain.specs.declared.group.Group.{Group}
use Rattle.o2_chain.proofs.ClearClusters.{free_more, free_in_order}
use Rattle.o2_chain.proofs.RisingGroups.{next_has_place}
use Rattle.o2_chain.proofs.free_clusters.free_runs.Goals as goal

-- ---- calls
calls_within : (n most : ℕ) (old new : DiskState) → n ≤ most → CallsAtMost n old new → CallsAtMost most old new
calls_within n most old new few calls I told = omega (arith, calls I told, few)

calls_one_more : (n : ℕ) (old mid new : DiskState) → ReadsOnly old mid → CallsAtMost n old mid → CallsAtMost 1 mid new → CallsAtMost (n + 1) old new
calls_one_more n old mid new reads calls one I told = omega (arith, calls I told, one I (reads.content ∙ told))

-- ---- the order of the groups
in_order : (groups given sorted items : List Group) → given ≡ groups → items ≡ sorted → IsPermutation given sorted → IsPermutation groups items
in_order groups given sorted items old new same = rw new (rw old at same)

-- what is known of the group that was read last
last_group : (geo : Geo) (gs : List Group) (i j : ℕ) (d e : Group) (first : ℕ) → i < length gs → i ≡ j → first ≡ first_cluster geo (get_or gs i e).block → first + (get_or gs i e).bits ≡ first_cluster geo (get_or gs j d).block + (get_or gs j d).bits
last_group geo gs i j d e first low is at =
    let same : get_or gs i e ≡ get_or gs j d = get_or_default gs i e d low ∙ ap (λ n. get_or gs n d) is in
    rw at (ap (λ (g : Group). first_cluster geo g.block + g.bits) same)

-- ---- faults
module _ {D : Type 0} {N : ℕ} {g : disk.Ghosts D} where
  fails_later : {old mid : View D N g} (new : View D N g) (geo : Geo) (checks : List OwnCheck) (seen : ViewFault) (fault : ChainFault) → OnlyReads old mid → BlockFails mid new seen → IsFaultOfView seen fault → ChainFails old new geo checks fault
  fails_later {old} {mid} new geo checks view.NoMemory fault reads fails is = subst (ChainFails old new geo checks) (sym is) tt
  fails_later {old} {mid} new geo checks view.DeviceFault fault reads fails is =
      subst (ChainFails old new geo checks) (sym is) (rose_before (view_state old).faults (view_state mid).faults (view_state new).faults reads.later fails)

  err_fails : {A : Type 0} {old mid : View D N g} (new : View D N g) (geo : Geo) (checks : List OwnCheck) (seen : ViewFault) (result : Result A ChainFault) → OnlyReads old mid → BlockFails mid new seen → IsErrAnd result (IsFaultOfView seen)
      → IfErr result (ChainFails old new geo checks)
  err_fails new geo checks seen (Ok _) reads fails is = tt
  err_fails new geo checks seen (Err fault) reads fails is = fails_later new geo checks seen fault reads fails is

pub loop-group-init : goal.loop-group-init
loop-group-init g c = record {
  told = λ v shows n. ap (λ runs. is_of_runs runs n) c.new-runs.ensures;
  behind = omega (arith, ap end_of_runs c.new-runs.ensures);
  start = λ none. refl;
  last = λ i d one. absurd (omega (arith, one));
  count = λ I told. omega arith;
  reads = only_none c.args.view.now;
}

-- ---- a group
pub returns-in_default-clause-fails : goal.returns-in_default-clause-fails
returns-in_default-clause-fails g c = record {
  own = inl refl;
  first = λ v shows.
      let walked = c.requires.walked v shows in
      let inv = c.loop-group.invariant in
      let sorted = c.deref-group-items.result.now in
      let same = in_order c.args.groups.now _ _ sorted c.as_slice.ensures c.deref-group-items.ensures.value c.in_ok-sorted.ensures.same in
      let rising : IsNonDecreasingBy (λ (h : Group). h.block) sorted = rw c.deref-group-items.ensures.value c.in_ok-sorted.ensures.rising in
      let geo = c.requires.geo in
      absurd (c.in_default.ensures.none (next_has_place v walked.0 c.args.groups.now sorted walked.1 same c.args.geo.now shows.numbers c.loop-group.end c.loop-group.group-index _ geo.sizes rising (omega (arith, geo.numbers.root)) c.loop-group-test.true inv.start inv.last));
}

pub look-requires : goal.look-requires
look-requires g c =
    let there = still_in c.requires.geo c.loop-group.invariant.reads in
    (omega arith, record { volume = there; inside = omega (arith, c.in-Some.ensures.place.block, there.within) })

pub returns-in_err-block-clause-fails : goal.returns-in_err-block-clause-fails
returns-in_err-block-clause-fails g c =
    err_fails c.look.new.view c.args.geo.now no_bad_group c.in_err-block.field-0.0 c.from_residual-in_err-block.result c.loop-group.invariant.reads c.in_err-block.ensures.fails c.from_residual-in_err-block.ensures.1

pub add_clear-requires : goal.add_clear-requires
add_clear-requires g c =
    let bytes = ap length c.as_slice-in-loop-group.ensures in
    let place = c.in-Some.ensures.place in
    record {
      room = omega (arith, place.room, bytes, c.in_ok-block.ensures.size, c.in_ok-block.ensures.long);
      fits = c.in-Some.ensures.fits;
      behind = omega (arith, c.loop-group.invariant.behind, place.behind, c.in-Some.ensures.first);
    }

pub overflow_add-end : goal.overflow_add-end
overflow_add-end g c = omega (arith, c.in-Some.ensures.fits)

pub loop-group-preserved : goal.loop-group-preserved
loop-group-preserved g c =
    let inv = c.loop-group.invariant in
    let sorted = c.deref-group-items.result.now in
    let i = c.loop-group.group-index in
    let e = c.in_ok-block.ensures in
    record {
      told = λ v shows n.
          let d : Group = record { chain = 0; block = 0; bits = 0 } in
          let bytes = c.as_slice-in-loop-group.ensures ∙ e.bytes v (still_shows inv.reads shows) in
          rw (take_more sorted i d c.loop-group-test.true)
          (free_more v c.args.geo.now shows.numbers (judged_as true 0) (take i sorted) (get_or sorted i d) c.as_slice-in-loop-group.result.now c.in-Some.first c.loop-group.runs c.add_clear.new.runs bytes c.in-Some.ensures.first c.in_ok-add_clear.ensures (inv.told v shows) n);
      behind = c.in_ok-add_clear.ensures.end;
      start = λ none. absurd (omega (arith, none));
      last = λ j e is. last_group c.args.geo.now sorted i j e _ c.in-Some.first c.loop-group-test.true (omega (arith, is)) c.in-Some.ensures.first;
      count = calls_one_more i (view_state c.args.view.now) (view_state c.loop-group.view) (view_state c.look.new.view) inv.reads.reads inv.count e.count;
      reads = only_both inv.reads e.reads;
    }

pub returns-clause-told : goal.returns-clause-told
returns-clause-told g c v shows =
    let inv = c.loop-group.invariant in
    let sorted = c.deref-group-items.result.now in
    let same = in_order c.args.groups.now _ _ sorted c.as_slice.ensures c.deref-group-items.ensures.value c.in_ok-sorted.ensures.same in
    let all : take c.loop-group.group-index sorted ≡ sorted = take_all c.loop-group.group-index sorted (omega arith) in
    record {
      clusters = λ n.
          ap (λ runs. is_of_runs runs n) c.into_runs.ensures.same
          ∙ (inv.told v shows n
          ∙ (ap (λ gs. is_free v (map (group_in (judged_as true 0)) gs) n) all
          ∙ free_in_order v (judged_as true 0) c.args.groups.now sorted n same));
      apart = c.into_runs.ensures.apart;
    }

pub returns-in_default-clause-count : goal.returns-in_default-clause-count
returns-in_default-clause-count g c =
    let inv = c.loop-group.invariant in
    let same = in_order c.args.groups.now _ _ c.deref-group-items.result.now c.as_slice.ensures c.deref-group-items.ensures.value c.in_ok-sorted.ensures.same in
    let long = length_permutation c.args.groups.now c.deref-group-items.result.now same in
    calls_within c.loop-group.group-index (length c.args.groups.now) (view_state c.args.view.now) (view_state c.loop-group.view) (omega (arith, long)) inv.count

pub returns-in_err-block-clause-count : goal.returns-in_err-block-clause-count
returns-in_err-block-clause-count g c =
    let inv = c.loop-group.invariant in
    let same = in_order c.args.groups.now _ _ c.deref-group-items.result.now c.as_slice.ensures c.deref-group-items.ensures.value c.in_ok-sorted.ensures.same in
    let long = length_permutation c.args.groups.now c.deref-group-items.result.now same in
    calls_within (c.loop-group.group-index + 1) (length c.args.groups.now) (view_state c.args.view.now) (view_state c.look.new.view) (omega (arith, long, c.loop-group-test.true))
    (calls_one_more c.loop-group.group-index (view_state c.args.view.now) (view_state c.loop-group.view) (view_state c.look.new.view) inv.reads.reads inv.count c.in_err-block.ensures.count)

pub returns-in_err-add_clear-clause-count : goal.returns-in_err-add_clear-clause-count
returns-in_err-add_clear-clause-count g c =
    let inv = c.loop-group.invariant in
    let same = in_order c.args.groups.now _ _ c.deref-group-items.result.now c.as_slice.ensures c.deref-group-items.ensures.value c.in_ok-sorted.ensures.same in
    let long = length_permutation c.args.groups.now c.deref-group-items.result.now same in
    calls_within (c.loop-group.group-index + 1) (length c.args.groups.now) (view_state c.args.view.now) (view_state c.look.new.view) (omega (arith, long, c.loop-group-test.true))
    (calls_one_more c.loop-group.group-index (view_state c.args.view.now) (view_state c.loop-group.view) (view_state c.look.new.view) inv.reads.reads inv.count c.in_ok-block.ensures.count)

pub returns-clause-count : goal.returns-clause-count
returns-clause-count g c =
    let inv = c.loop-group.invariant in
    let same = in_order c.args.groups.now _ _ c.deref-group-items.result.now c.as_slice.ensures c.deref-group-items.ensures.value c.in_ok-sorted.ensures.same in
    let long = length_permutation c.args.groups.now c.deref-group-items.result.now same in
    calls_within c.loop-group.group-index (length c.args.groups.now) (view_state c.args.view.now) (view_state c.loop-group.view) (omega (arith, long)) inv.count

pub returns-in_err-add_clear-clause-reads : goal.returns-in_err-add_clear-clause-reads
returns-in_err-add_clear-clause-reads g c = only_both c.loop-group.invariant.reads c.in_ok-block.ensures.reads
