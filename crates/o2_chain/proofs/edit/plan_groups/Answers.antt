-- One group more, and groups of a walk that is told always have their place.
use Rattle.std.proofs.Common.{◌≡◌, ℕ, ◌+◌, ◌++◌, ◌∷◌, inl, inr, ◌-◌, ◌<◌, true, false, nat_lt, List, [], map, take, length, get_or, refl, sym, ◌∙◌, ap, subst, arith}
use Rattle.std.specs.List.{Contains}
use Rattle.std.proofs.lemmas.List.{take_all, get_or_default}
use Rattle.o2_model.specs.declared.allocator.Allocator.{Allocator}
use Rattle.o2_model.specs.Words.{among, Apart}
use Rattle.o2_model.specs.Volume.{Volume, blocks, over}
use Rattle.o2_view.specs.Views.{Shows, with_block}
use Rattle.o2_chain.specs.declared.group.Group.{Group}
use Rattle.o2_chain.specs.Edits.{AreEditedGroups, shares, shared_by, shared_bits, shared_blocks}
use Rattle.o2_view.specs.HomePlans.{PlansHome, PlansOnly}
use Rattle.o2_chain.specs.Walks.{group_in, judged_as}
use Rattle.o2_chain.proofs.ChainCounts.{walked_more, shared_more}
use Rattle.o2_chain.proofs.EditedGroups.{none_before, none_last, edited_none, edited_more, taken_differ, some_shared, none_shared}
use Rattle.o2_chain.proofs.Groups.{groups_met, blocks_apart}
use Rattle.o2_view.proofs.HomePlans.{home_both, only_both}
use Rattle.o2_chain.proofs.edit.plan_groups.Goals.{then-range+else-not-has_place+in_ok-plan_group, else-range}
use Rattle.o2_chain.proofs.edit.plan_groups.Goals as goal

pub returns-then-not-has_place-clause-fails : goal.returns-then-not-has_place-clause-fails
returns-then-not-has_place-clause-fails g c bitmap =
    let i = c.loop-group.group-index in
    let x = get_or c.args.groups.now i (record { chain = 0; block = 0; bits = 0 }) in
    let low : i < length c.args.groups.now = omega arith in
    let is : Contains c.args.groups.now x = (i, low, get_or_default c.args.groups.now i x (record { chain = 0; block = 0; bits = 0 }) low) in
    record {
      own = inr (inl refl);
      first = λ v shows.
          let (b, walked) = c.requires.walked v shows in
          absurd (c.has_place.ensures.met c.if-not-has_place.true v shows.numbers (judged_as true b) (groups_met v (judged_as true b) [] c.args.groups.now walked.met x is));
    }

pub loop-group-preserved : goal.loop-group-preserved
loop-group-preserved g c =
    let i = c.loop-group.group-index in
    let d : Group = record { chain = 0; block = 0; bits = 0 } in
    let x = get_or c.args.groups.now i d in
    let low : i < length c.args.groups.now = omega arith in
    let more = λ (a : Allocator). walked_more a c.args.groups.now i d low in
    let so_far = λ (a : Allocator). map (group_in a) (take i c.args.groups.now) in
    let n = c.bits_of_run-range.result.end - c.bits_of_run-range.result.first in
    let count = λ (v : Volume) (numbers : v.geo ≡ c.args.geo.now) (a : Allocator). c.bits_of_run-range.ensures.count v numbers a in
    let sum = λ (v : Volume) (a : Allocator). ap (shared_by v c.args.run) (more a) ∙ shared_more v c.args.run (so_far a) (group_in a x) in
    record {
      planned = λ v shows a.
          let (w, shown, edited) = c.loop-group.invariant.planned v shows a in
          let numbers = shows.numbers in
          elim c.if-range.branch [
            | then-range+else-not-has_place+in_ok-plan_group b ↦
                let (bytes, planned, changed) = b.in_ok-plan_group.ensures.planned w shown in
                let (bitmap, walked) = c.requires.walked v shows in
                let met = groups_met v (judged_as true bitmap) [] c.args.groups.now walked.met x (i, low, get_or_default c.args.groups.now i x d low) in
                let apart : Apart (blocks v) (map (λ (y : Group). y.block) c.args.groups.now) = blocks_apart v (judged_as true bitmap) c.args.groups.now walked.met (omega (arith, met.above, met.below)) in
                let share : shares v c.args.run (group_in a x) ≡ true = some_shared (shared_bits v c.args.run (group_in a x)) (omega (arith, count v numbers a, b.if-range.true)) in (
                  over w (with_block x.block bytes w.at),
                  subst (λ view. Shows view c.args.geo.now (over w (with_block x.block bytes w.at))) (sym b.view-is) planned,
                  subst (AreEditedGroups v (over w (with_block x.block bytes w.at)) c.args.set c.args.run) (sym (more a))
                      (edited_more v w c.args.set c.args.run (so_far a) (group_in a x) edited bytes c.bits_of_run-range.result.first c.bits_of_run-range.result.end share (taken_differ (blocks v) a c.args.groups.now i d apart low) changed (c.bits_of_run-range.ensures.each v numbers a) (count v numbers a)),
                )
            | else-range b ↦
                let none : shares v c.args.run (group_in a x) ≡ false = none_shared (shared_bits v c.args.run (group_in a x)) (omega (arith, count v numbers a, b.if-range.false)) in (
                  w,
                  subst (λ view. Shows view c.args.geo.now w) (sym b.view-is) shown,
                  subst (AreEditedGroups v w c.args.set c.args.run) (sym (more a)) (edited_none v w c.args.set c.args.run (so_far a) (group_in a x) edited none),
                )
          ];
      some = λ v numbers a. elim c.if-range.branch [
        | then-range+else-not-has_place+in_ok-plan_group b ↦ b.some-is ∙ sym (some_shared _ (omega (arith, sum v a, count v numbers a, b.if-range.true)))
        | else-range b ↦ b.some-is ∙ (c.loop-group.invariant.some v numbers a ∙ ap (nat_lt 0) (omega (arith, sum v a, count v numbers a, b.if-range.false)))
      ];
      alone = λ v numbers a.
          let before = none_before v c.args.run (so_far a) (group_in a x) in
          let all : List ℕ = shared_blocks v c.args.run (map (group_in a) (take (i + 1) c.args.groups.now)) in
          let whole : all ≡ shared_blocks v c.args.run (so_far a ++ group_in a x ∷ []) = ap (shared_blocks v c.args.run) (more a) in
          let within : (b : ℕ) → among all b ≡ false → among (shared_blocks v c.args.run (so_far a)) b ≡ false = λ b out. before b (ap (λ bs. among bs b) (sym whole) ∙ out) in
          elim c.if-range.branch [
            | then-range+else-not-has_place+in_ok-plan_group s ↦
                let share : shares v c.args.run (group_in a x) ≡ true = some_shared (shared_bits v c.args.run (group_in a x)) (omega (arith, count v numbers a, s.if-range.true)) in
                subst (PlansOnly all c.args.view.now) (sym s.view-is)
                (only_both c.args.view.now c.loop-group.view s.plan_group.new.view (shared_blocks v c.args.run (so_far a)) (x.block ∷ []) all within
                (λ b out. none_last v c.args.run (so_far a) (group_in a x) b (ap (λ bs. among bs b) (sym whole) ∙ out) share) (c.loop-group.invariant.alone v numbers a) s.in_ok-plan_group.ensures.alone)
            | else-range s ↦ subst (PlansOnly all c.args.view.now) (sym s.view-is) (λ b out. c.loop-group.invariant.alone v numbers a b (within b out))
          ];
      plans = elim c.if-range.branch [
        | then-range+else-not-has_place+in_ok-plan_group b ↦ subst (PlansHome c.args.view.now) (sym b.view-is) (home_both c.loop-group.invariant.plans b.in_ok-plan_group.ensures.plans)
        | else-range b ↦ subst (PlansHome c.args.view.now) (sym b.view-is) c.loop-group.invariant.plans
      ];
    }

pub returns-clause-planned : goal.returns-clause-planned
returns-clause-planned g c v shows a =
    let all : take c.loop-group.group-index c.args.groups.now ≡ c.args.groups.now = take_all c.loop-group.group-index c.args.groups.now (omega arith) in
    let (new, shown, edited) = c.loop-group.invariant.planned v shows a in
    (new, shown, subst (λ (gs : List Group). AreEditedGroups v new c.args.set c.args.run (map (group_in a) gs)) all edited)

pub returns-clause-some : goal.returns-clause-some
returns-clause-some g c v numbers a =
    let all : take c.loop-group.group-index c.args.groups.now ≡ c.args.groups.now = take_all c.loop-group.group-index c.args.groups.now (omega arith) in
    c.loop-group.invariant.some v numbers a ∙ ap (λ (gs : List Group). nat_lt 0 (shared_by v c.args.run (map (group_in a) gs))) all

pub returns-clause-alone : goal.returns-clause-alone
returns-clause-alone g c v numbers a =
    let all : take c.loop-group.group-index c.args.groups.now ≡ c.args.groups.now = take_all c.loop-group.group-index c.args.groups.now (omega arith) in
    subst (λ (gs : List Group). PlansOnly (shared_blocks v c.args.run (map (group_in a) gs)) c.args.view.now c.loop-group.view) all (c.loop-group.invariant.alone v numbers a)
