-- The groups, and then the dinode, which is in none of their blocks.
use Rattle.std.proofs.Common.{◌≡◌, ◌≢◌, ℕ, ◌<◌, true, false, nat_lt, [], ◌∷◌, lit<, map, sym, ◌∙◌, arith}
use Rattle.std.specs.List.{Contains}
use Rattle.std.proofs.lemmas.Bool.Decides.{nat_tests}
use Rattle.std.proofs.lemmas.Result.{err_from_is_err_and}
use Rattle.o2_model.specs.declared.allocator.Group.{Group as Walked}
use Rattle.o2_model.specs.Volume.{over}
use Rattle.o2_view.specs.Views.{with_block}
use Rattle.o2_chain.specs.Edits.{shares, shared_by, shared_blocks, edited_blocks}
use Rattle.o2_chain.specs.Walks.{group_in, judged_as}
use Rattle.o2_chain.proofs.EditedGroups.{among_none, apart_from_dinode, all_edited, none_edited, unchanged_group, unchanged_dinode}
use Rattle.o2_view.proofs.HomePlans.{only_both}
use Rattle.o2_chain.proofs.edit.plan_run.Goals as goal

-- what the test of a count says
is_some : (n : ℕ) → true ≡ nat_lt 0 n → 0 < n
is_some n test = grind (arith, nat_tests)

is_none : (n : ℕ) → false ≡ nat_lt 0 n → n ≡ 0
is_none n test = grind (arith, nat_tests)

pub plan_groups-requires : goal.plan_groups-requires
plan_groups-requires g c = (lit< tt, (c.requires.place.volume, (λ v shows. (c.args.bitmap, c.requires.walked v shows))))

pub returns-in_err-some-clause-fails : goal.returns-in_err-some-clause-fails
returns-in_err-some-clause-fails g c = let p = err_from_is_err_and c.from_residual.result c.from_residual.ensures.1 in rw (p.1, p.2) (c.in_err-some.ensures.fails c.args.bitmap)

pub returns-in_ok-plan_allocator-clause-edited : goal.returns-in_ok-plan_allocator-clause-edited
returns-in_ok-plan_allocator-clause-edited g c v shows valid =
    let a = judged_as true c.args.bitmap in
    let gs = map (group_in a) c.args.groups.now in
    let walked = c.requires.walked v shows in
    let apart : (x : Walked) → Contains gs x → x.block ≢ c.args.bitmap = apart_from_dinode v a c.args.groups.now c.args.bitmap walked.met valid in
    let (w, shown, edited) = c.in_ok-some.ensures.planned v shows a in
    let same : w.at c.args.bitmap ≡ v.at c.args.bitmap = edited.others c.args.bitmap (among_none (shares v c.args.run) gs c.args.bitmap apart) in
    let (bytes, planned, allocator) = c.in_ok-plan_allocator.ensures.planned v w shows.numbers same walked.header shown in
    let some : 0 < shared_by v c.args.run gs = is_some (shared_by v c.args.run gs) (sym c.if-some.true ∙ c.in_ok-some.ensures.some v shows.numbers a) in
    (over w (with_block c.args.bitmap bytes w.at), planned, all_edited v w c.args.set c.args.run a gs edited apart bytes some allocator)

pub returns-else-some-clause-edited : goal.returns-else-some-clause-edited
returns-else-some-clause-edited g c v shows valid =
    let a = judged_as true c.args.bitmap in
    let gs = map (group_in a) c.args.groups.now in
    let walked = c.requires.walked v shows in
    let apart : (x : Walked) → Contains gs x → x.block ≢ c.args.bitmap = apart_from_dinode v a c.args.groups.now c.args.bitmap walked.met valid in
    let (w, shown, edited) = c.in_ok-some.ensures.planned v shows a in
    let none : shared_by v c.args.run gs ≡ 0 = is_none (shared_by v c.args.run gs) (sym c.if-some.false ∙ c.in_ok-some.ensures.some v shows.numbers a) in
    (w, shown, none_edited v w c.args.set c.args.run a gs edited apart none)

pub returns-in_ok-plan_allocator-clause-alone : goal.returns-in_ok-plan_allocator-clause-alone
returns-in_ok-plan_allocator-clause-alone g c v numbers =
    let a = judged_as true c.args.bitmap in
    let gs = map (group_in a) c.args.groups.now in
    let some : 0 < shared_by v c.args.run gs = is_some (shared_by v c.args.run gs) (sym c.if-some.true ∙ c.in_ok-some.ensures.some v numbers a) in
    only_both c.args.view.now c.plan_groups.new.view c.plan_allocator.new.view (shared_blocks v c.args.run gs) (c.args.bitmap ∷ []) (edited_blocks v c.args.run a gs)
    (unchanged_group v c.args.run a gs) (unchanged_dinode v c.args.run a gs some) (c.in_ok-some.ensures.alone v numbers a) c.in_ok-plan_allocator.ensures.alone

pub returns-else-some-clause-alone : goal.returns-else-some-clause-alone
returns-else-some-clause-alone g c v numbers =
    let a = judged_as true c.args.bitmap in
    λ b out. c.in_ok-some.ensures.alone v numbers a b (unchanged_group v c.args.run a (map (group_in a) c.args.groups.now) b out)
