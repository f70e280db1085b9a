-- One leaf more.
use Rattle.std.proofs.Common.{◌≡◌, ℕ, suc, ◌+◌, ◌-◌, ◌*◌, ◌^◌, ◌<◌, ◌≤◌, Bool, List, [], ◌∷◌, refl, ap, subst, arith}
use Rattle.std.specs.List.{range_with_len}
use Rattle.o2_model.specs.LeafRecords.{blocks_under}
use Rattle.o2_view.proofs.Shown.{still_shows}
use Rattle.o2_extent.proofs.Views.{only_both, few_blocks}
use Rattle.o2_dir.specs.IndexForms.{AddsLeaves}
use Rattle.o2_dir.proofs.IndexLeaves.{GoesOn, adds_one, goes_on, stops, ends}
use Rattle.o2_dir.proofs.index_leaves.add_leaves_under.Goals as goal

-- a range begins with its first number
first_of_range : (block k count : ℕ) → k < count → range_with_len (block + k) (count - k) ≡ (block + k) ∷ range_with_len (block + (k + 1)) (count - (k + 1))
first_of_range block k count inside =
    let more : count - k ≡ suc (count - (k + 1)) = omega (arith, inside) in
    let next : block + k + 1 ≡ block + (k + 1) = omega arith in
    rw more (ap (λ n. (block + k) ∷ range_with_len n (count - (k + 1))) next)

no_range : (n k count : ℕ) → count ≤ k → range_with_len n (count - k) ≡ []
no_range n k count outside = let none : count - k ≡ 0 = omega (arith, outside) in rw none refl

pub overflow_add-leaf : goal.overflow_add-leaf
overflow_add-leaf g c =
    let geo = c.args.geo.now in
    let leaf = c.args.leaf.now in
    let same : c.from.result * c.blocks_per_cluster.result ≡ leaf.clusters * 2 ^ (geo.cluster_bits - geo.block_bits) = rw (c.from.ensures, c.blocks_per_cluster.ensures.blocks) refl in
    omega (arith, few_blocks c.requires.geo, c.requires.within, same, c.loop-k-test.true)

pub returns-in_err-add_leaf-clause-reads : goal.returns-in_err-add_leaf-clause-reads
returns-in_err-add_leaf-clause-reads g c = only_both c.loop-k.invariant.reads c.add_leaf.ensures.reads

pub returns-then-not-branch-clause-added : goal.returns-then-not-branch-clause-added
returns-then-not-branch-clause-added g c v shows =
    let b = c.args.leaf.now.block in
    let k = c.loop-k.k in
    let count = c.from.result * c.blocks_per_cluster.result in
    let whole = blocks_under v c.args.leaf.now in
    let before = c.args.entries.now.items in
    let now = c.loop-k.entries.items in
    let next = c.add_leaf.new.entries.items in
    let here = still_shows c.loop-k.invariant.reads shows in
    stops v ((b + k) ∷ []) (range_with_len (b + (k + 1)) (count - (k + 1))) whole before now next
    (subst (λ (rest : List ℕ). GoesOn v rest whole before now) (first_of_range b k count c.loop-k-test.true) (c.loop-k.invariant.goes v shows))
    (subst (λ (sound : Bool). AddsLeaves v ((b + k) ∷ []) sound now next) c.if-not-branch.true
    (adds_one v (b + k) c.in_ok-add_leaf.field-0 now next (c.in_ok-add_leaf.ensures.sound v here) (λ good. c.in_ok-add_leaf.ensures.added good v here)))

pub returns-then-not-branch-clause-reads : goal.returns-then-not-branch-clause-reads
returns-then-not-branch-clause-reads g c = only_both c.loop-k.invariant.reads c.add_leaf.ensures.reads

pub loop-k-preserved : goal.loop-k-preserved
loop-k-preserved g c = record {
  goes = λ v shows.
      let b = c.args.leaf.now.block in
      let k = c.loop-k.k in
      let count = c.from.result * c.blocks_per_cluster.result in
      let whole = blocks_under v c.args.leaf.now in
      let before = c.args.entries.now.items in
      let now = c.loop-k.entries.items in
      let next = c.add_leaf.new.entries.items in
      let here = still_shows c.loop-k.invariant.reads shows in
      goes_on v ((b + k) ∷ []) (range_with_len (b + (k + 1)) (count - (k + 1))) whole before now next
      (subst (λ (rest : List ℕ). GoesOn v rest whole before now) (first_of_range b k count c.loop-k-test.true) (c.loop-k.invariant.goes v shows))
      (subst (λ (sound : Bool). AddsLeaves v ((b + k) ∷ []) sound now next) c.if-not-branch.false
      (adds_one v (b + k) c.in_ok-add_leaf.field-0 now next (c.in_ok-add_leaf.ensures.sound v here) (λ good. c.in_ok-add_leaf.ensures.added good v here)));
  reads = only_both c.loop-k.invariant.reads c.add_leaf.ensures.reads;
}

pub returns-clause-added : goal.returns-clause-added
returns-clause-added g c v shows =
    let whole = blocks_under v c.args.leaf.now in
    let before = c.args.entries.now.items in
    let now = c.loop-k.entries.items in
    ends v whole before now
    (subst (λ (rest : List ℕ). GoesOn v rest whole before now) (no_range _ c.loop-k.k _ c.loop-k-test.false) (c.loop-k.invariant.goes v shows))
