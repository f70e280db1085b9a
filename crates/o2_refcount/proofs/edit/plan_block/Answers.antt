-- The block that is read, with its counts changed.
use Rattle.std.proofs.Common.{◌≡◌, ◌∙◌, subst, List, ℕ, length, take, drop}
use Rattle.std.proofs.lemmas.List.{take_at}
use Rattle.o2_model.specs.Volume.{over}
use Rattle.o2_view.specs.Views.{Shows, with_block}
use Rattle.o2_view.proofs.HomePlans.{only_home}
use Rattle.o2_view.proofs.Shown.{still_shows}
use Rattle.o2_refcount.specs.Recounts.{HasCounts}
use Rattle.o2_refcount.proofs.edit.plan_block.Goals as goal

pub returns-clause-planned : goal.returns-clause-planned
returns-clause-planned g c some v shows =
    let bytes = c.change_counts.new.bytes in
    let read : c.deref_mut.result.now ≡ v.at c.args.b = c.deref_mut.ensures.value ∙ (c.into_vec-bytes.ensures ∙ c.in_ok-look.ensures.bytes v shows) in
    let long : length bytes ≡ c.into_vec-bytes.result.len = c.change_counts.auto.bytes ∙ c.deref_mut.ensures.len in
    let given : c.deref-2.result.now ≡ bytes = c.deref-2.ensures.value ∙ take_at bytes (drop (length bytes) c.into_vec-bytes.result.items) c.into_vec-bytes.result.len long in (
      bytes,
      subst (λ (x : List ℕ). Shows c.home.new.self c.args.geo.now (over v (with_block c.args.b x v.at))) given (c.in_ok-home.ensures.shown c.args.geo.now v (still_shows c.in_ok-look.ensures.reads shows)),
      subst (λ (x : List ℕ). HasCounts x bytes (take c.min-used.result c.args.counts.now)) read c.change_counts.ensures,
    )

pub returns-clause-alone : goal.returns-clause-alone
returns-clause-alone g c = only_home c.args.view.now c.look.new.view c.home.new.self c.args.b c.deref-2.result.now c.in_ok-look.ensures.reads c.in_ok-home.ensures.ok
