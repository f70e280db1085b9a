-- The block that is read, with its bits changed.
use Rattle.std.proofs.Common.{◌≡◌, ◌∙◌, subst, List, ℕ, length, drop}
use Rattle.std.proofs.lemmas.List.{take_at}
use Rattle.o2_chain.specs.Bits.{IsChangedGroup}
use Rattle.o2_view.specs.Views.{Shows, with_block}
use Rattle.o2_model.specs.Volume.{over}
use Rattle.o2_view.proofs.Shown.{still_shows}
use Rattle.o2_view.proofs.HomePlans.{only_home}
use Rattle.o2_chain.proofs.edit.plan_group.Goals as goal

pub returns-clause-planned : goal.returns-clause-planned
returns-clause-planned g c v shows =
    let read : c.deref_mut.result.now ≡ v.at c.args.b = c.deref_mut.ensures.value ∙ (c.into_vec-bytes.ensures ∙ c.in_ok-look.ensures.bytes v shows) in
    let long : length c.change_group.new.bytes ≡ c.into_vec-bytes.result.len = c.change_group.auto.bytes ∙ c.deref_mut.ensures.len in
    let given : c.deref.result.now ≡ c.change_group.new.bytes = c.deref.ensures.value ∙ take_at c.change_group.new.bytes (drop (length c.change_group.new.bytes) c.into_vec-bytes.result.items) c.into_vec-bytes.result.len long in (
      c.change_group.new.bytes,
      subst (λ (x : List ℕ). Shows c.home.new.self c.args.geo.now (over v (with_block c.args.b x v.at))) given (c.in_ok-home.ensures.shown c.args.geo.now v (still_shows c.in_ok-look.ensures.reads shows)),
      subst (λ (x : List ℕ). IsChangedGroup x c.change_group.new.bytes c.args.range.first c.args.range.end c.args.set) read c.change_group.ensures,
    )

pub returns-clause-alone : goal.returns-clause-alone
returns-clause-alone g c = only_home c.args.view.now c.look.new.view c.home.new.self c.args.b c.deref.result.now c.in_ok-look.ensures.reads c.in_ok-home.ensures.ok
