-- The dinode that is read, with its counts changed.
use Rattle.std.proofs.Common.{◌≡◌, List, ℕ, true, length, drop, sym, ◌∙◌, subst}
use Rattle.std.proofs.lemmas.List.{take_at}
use Rattle.o2_model.specs.Volume.{over}
use Rattle.o2_view.specs.Views.{Shows, with_block}
use Rattle.o2_view.proofs.Shown.{still_shows}
use Rattle.o2_chain.specs.Walks.{judged_as}
use Rattle.o2_chain.proofs.EditedGroups.{same_block}
use Rattle.o2_view.proofs.HomePlans.{only_home}
use Rattle.o2_chain.proofs.edit.plan_allocator.Goals as goal

pub returns-clause-planned : goal.returns-clause-planned
returns-clause-planned g c old v numbers same sound shows =
    let b = c.args.bitmap in
    let bytes = c.change_allocator.new.bytes in
    let read : c.deref_mut.result.now ≡ old.at b = c.deref_mut.ensures.value ∙ (c.into_vec-bytes.ensures ∙ (c.in_ok-look.ensures.bytes v shows ∙ same)) in
    let long : length bytes ≡ c.into_vec-bytes.result.len = c.change_allocator.auto.bytes ∙ c.deref_mut.ensures.len in
    let given : c.deref.result.now ≡ bytes = c.deref.ensures.value ∙ take_at bytes (drop (length bytes) c.into_vec-bytes.result.items) c.into_vec-bytes.result.len long in (
      bytes,
      subst (λ (x : List ℕ). Shows c.home.new.self c.args.geo.now (over v (with_block b x v.at))) given (c.in_ok-home.ensures.shown c.args.geo.now v (still_shows c.in_ok-look.ensures.reads shows)),
      c.change_allocator.ensures old (over v (with_block b bytes v.at)) numbers shows.numbers (judged_as true b) sound read (sym (same_block b bytes v.at)),
    )

pub returns-clause-alone : goal.returns-clause-alone
returns-clause-alone g c = only_home c.args.view.now c.look.new.view c.home.new.self c.args.bitmap c.deref.result.now c.in_ok-look.ensures.reads c.in_ok-home.ensures.ok
