-- The runs between the clusters with owners, key by key.
use Rattle.std.proofs.Common.{ℕ, is_some, sym, ◌∙◌, ap, subst, arith}
use Rattle.std.specs.BTreeMap.{get}
use Rattle.std.specs.Ordering.{nat_cmp}
use Rattle.std.specs.Map.Iter.{deref}
use Rattle.std.proofs.lemmas.Map.Iter.{rest_more, rest_all}
use Rattle.o2_view.specs.FreeRuns.{is_of_runs}
use Rattle.o2_claims.specs.Owners.{clusters_of, owner_of}
use Rattle.o2_claims.proofs.Gaps.{IsFreeBelow, AreLeft, all_left, left_order, left_later, free_later, free_at_end, free_below_zero}
use Rattle.o2_claims.proofs.claims.Claims.free_runs.Goals as goal

pub loop-cluster-init : goal.loop-cluster-init
loop-cluster-init c =
    let kept = c.args.self.now in
    let has = λ (q : ℕ). is_some (get nat_cmp kept.first q) in
    record {
      can_next = tt;
      is_finite = tt;
      free = subst (IsFreeBelow has 0) (sym c.new-runs.ensures) (free_below_zero has);
      left =
          subst (AreLeft has 0 kept.clusters) (sym (c.into_iter-cluster-iterator.ensures.into_iter_gives ∙ c.keys-cluster-items.ensures.rest))
          (all_left kept.first.entries kept.clusters c.keys-cluster-items.ensures.ordered kept.below);
    }

pub overflow_add-next : goal.overflow_add-next
overflow_add-next c =
    let kept = c.args.self.now in
    let has = λ (q : ℕ). is_some (get nat_cmp kept.first q) in
    let is = rest_more deref _ _ _ c.in-Some.cluster c.in-Some.is c.next.ensures.steps in
    let order = left_order has c.loop-cluster.next kept.clusters c.in-Some.cluster.now c.next.new.self (subst (AreLeft has c.loop-cluster.next kept.clusters) is c.loop-cluster.invariant.left) in
    omega (arith, order.1, kept.fits)

pub loop-cluster-preserved : goal.loop-cluster-preserved
loop-cluster-preserved c =
    let kept = c.args.self.now in
    let has = λ (q : ℕ). is_some (get nat_cmp kept.first q) in
    let is = rest_more deref _ _ _ c.in-Some.cluster c.in-Some.is c.next.ensures.steps in
    let left = subst (AreLeft has c.loop-cluster.next kept.clusters) is c.loop-cluster.invariant.left in
    record {
      can_next = tt;
      is_finite = tt;
      free = free_later has c.loop-cluster.next kept.clusters c.in-Some.cluster.now c.next.new.self c.loop-cluster.runs c.add_up_to.new.runs left c.in_ok-add_up_to.ensures c.loop-cluster.invariant.free;
      left = left_later has c.loop-cluster.next kept.clusters c.in-Some.cluster.now c.next.new.self left;
    }

pub returns : goal.returns
unfolding clusters_of owner_of
returns c =
    let kept = c.args.self.now in
    let has = λ (q : ℕ). is_some (get nat_cmp kept.first q) in
    let is = rest_all deref _ _ _ c.in-None.is c.next.ensures.steps in
    let left = subst (AreLeft has c.loop-cluster.next kept.clusters) is c.loop-cluster.invariant.left in
    record {
      clusters = λ q.
          ap (λ runs. is_of_runs runs q) c.into_runs.ensures.same
          ∙ free_at_end has c.loop-cluster.next kept.clusters c.loop-cluster.runs c.add_up_to-2.new.runs left c.in_ok-add_up_to-2.ensures c.loop-cluster.invariant.free q;
      apart = c.into_runs.ensures.apart;
    }
