-- The leaves under one record more.
use Rattle.std.proofs.Common.{Bool, ◌+◌, List, drop, flat_map, get_or, subst}
use Rattle.std.proofs.lemmas.List.{drop_all, drop_more}
use Rattle.o2_model.specs.LeafRecords.{blocks_under}
use Rattle.o2_model.specs.declared.leaf.Leaf.{Leaf}
use Rattle.o2_view.proofs.Shown.{still_shows}
use Rattle.o2_extent.proofs.Views.{only_both}
use Rattle.o2_dir.specs.IndexForms.{AddsLeaves}
use Rattle.o2_dir.proofs.IndexLeaves.{GoesOn, goes_on, stops, ends}
use Rattle.o2_dir.proofs.index_leaves.add_leaves.Goals as goal

pub returns-then-not-branch-clause-added : goal.returns-then-not-branch-clause-added
returns-then-not-branch-clause-added g c v shows =
    let f = flat_map (blocks_under v) in
    let leaves = c.args.leaves.now in
    let i = c.loop-leaf.leaf-index in
    let none : Leaf = record { cpos = 0; clusters = 0; block = 0; flags = 0 } in
    let before = c.args.entries.now.items in
    let now = c.loop-leaf.entries.items in
    let next = c.add_leaves_under.new.entries.items in
    stops v (blocks_under v (get_or leaves i none)) (f (drop (i + 1) leaves)) (f leaves) before now next
    (subst (λ (rest : List Leaf). GoesOn v (f rest) (f leaves) before now) (drop_more leaves i none c.loop-leaf-test.true) (c.loop-leaf.invariant.goes v shows))
    (subst (λ (sound : Bool). AddsLeaves v (blocks_under v (get_or leaves i none)) sound now next) c.if-not-branch.true (c.in_ok-add_leaves_under.ensures.added v (still_shows c.loop-leaf.invariant.reads shows)))

pub returns-then-not-branch-clause-reads : goal.returns-then-not-branch-clause-reads
returns-then-not-branch-clause-reads g c = only_both c.loop-leaf.invariant.reads c.add_leaves_under.ensures.reads

pub loop-leaf-preserved : goal.loop-leaf-preserved
loop-leaf-preserved g c = record {
  goes = λ v shows.
      let f = flat_map (blocks_under v) in
      let leaves = c.args.leaves.now in
      let i = c.loop-leaf.leaf-index in
      let none : Leaf = record { cpos = 0; clusters = 0; block = 0; flags = 0 } in
      let none : Leaf = record { cpos = 0; clusters = 0; block = 0; flags = 0 } in
      let before = c.args.entries.now.items in
      let now = c.loop-leaf.entries.items in
      let next = c.add_leaves_under.new.entries.items in
      goes_on v (blocks_under v (get_or leaves i none)) (f (drop (i + 1) leaves)) (f leaves) before now next
      (subst (λ (rest : List Leaf). GoesOn v (f rest) (f leaves) before now) (drop_more leaves i none c.loop-leaf-test.true) (c.loop-leaf.invariant.goes v shows))
      (subst (λ (sound : Bool). AddsLeaves v (blocks_under v (get_or leaves i none)) sound now next) c.if-not-branch.false (c.in_ok-add_leaves_under.ensures.added v (still_shows c.loop-leaf.invariant.reads shows)));
  reads = only_both c.loop-leaf.invariant.reads c.add_leaves_under.ensures.reads;
}

pub returns-clause-added : goal.returns-clause-added
returns-clause-added g c v shows =
    let f = flat_map (blocks_under v) in
    let leaves = c.args.leaves.now in
    ends v (f leaves) c.args.entries.now.items c.loop-leaf.entries.items
    (subst (λ (rest : List Leaf). GoesOn v (f rest) (f leaves) c.args.entries.now.items c.loop-leaf.entries.items) (drop_all c.loop-leaf.leaf-index leaves c.loop-leaf-test.false)
    (c.loop-leaf.invariant.goes v shows))
