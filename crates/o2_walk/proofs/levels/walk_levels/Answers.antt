-- One directory more, or none is left.
use Rattle.std.proofs.Common.{◌≡◌, ℕ, ◌≤◌, sym, ◌∙◌, ap, subst, arith}
use Rattle.std.specs.Prelude.{slice_get}
use Rattle.std.specs.Option.{option_map}
use Rattle.o2_model.specs.Tree.{tree_walk, walk_after}
use Rattle.o2_walk.specs.TreeWalked.{HasMet}
use Rattle.o2_walk.proofs.LevelsMet.{next_level, none_at, one_at, stays}
use Rattle.o2_walk.proofs.levels.walk_levels.Goals as goal

pub returns-in_default : goal.returns-in_default
unfolding tree_walk
returns-in_default c = λ v inodes own directories many root.
    let n = c.loop-next.next in
    let has = c.loop-next.invariant v inodes own directories root in
    let none = sym (ap (λ rows. option_map (λ r. r.inode) (slice_get rows n)) has.entered) ∙ (sym c.entered_at.ensures ∙ c.in_default.is) in
    let low : n ≤ c.args.blocks = omega (arith, c.loop-next-test.true) in
    subst (λ w. HasMet w c.loop-next.progress) (stays v n c.args.blocks (none_at (walk_after v n).entered n none) low ∙ ap (walk_after v) many) has

pub loop-next-preserved : goal.loop-next-preserved
loop-next-preserved c = λ v inodes own directories root.
    let n = c.loop-next.next in
    let has = c.loop-next.invariant v inodes own directories root in
    let found = one_at (walk_after v n).entered n c.in-Some.from
    (sym (ap (λ rows. option_map (λ r. r.inode) (slice_get rows n)) has.entered) ∙ (sym c.entered_at.ensures ∙ c.in-Some.is)) in
    subst (λ w. HasMet w c.look_through.new.progress) (next_level v n found.0 found.1)
    (c.in_ok-look_through.ensures v (walk_after v n) found.0 inodes own directories has found.2)

pub returns : goal.returns
unfolding tree_walk
returns c = λ v inodes own directories many root.
    subst (λ n. HasMet (walk_after v n) c.loop-next.progress) (same c.loop-next.next c.args.blocks c.loop-next.auto.next-end c.loop-next-test.false ∙ many)
    (c.loop-next.invariant v inodes own directories root)
  where
    same : (n m : ℕ) → n ≤ m → m ≤ n → n ≡ m
    same n m low high = omega (arith, low, high)
