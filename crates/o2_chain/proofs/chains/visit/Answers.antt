-- A block that is looked at is new, and is good or not for as long as the walk goes.
use Rattle.std.proofs.Common.{◌≡◌, ℕ, ◌++◌, true, false, sym, ◌∙◌, ap}
use Rattle.std.specs.List.{list_any}
use Rattle.o2_ondisk.specs.declared.group_desc.GroupDesc.{GroupDesc}
use Rattle.o2_ondisk.specs.GroupDescs.{group_desc_of}
use Rattle.o2_model.specs.Words.{push}
use Rattle.o2_model.specs.Groups.{group_desc, holds_cluster, is_good_group}
use Rattle.o2_view.specs.Geos.{blocks_of}
use Rattle.o2_view.specs.Plans.{is_in_runs}
use Rattle.o2_chain.specs.Readings.{runs_of_group}
use Rattle.o2_chain.specs.declared.group.Group.{Group}
use Rattle.o2_chain.proofs.GoodGroups.{unseen_new}
use Rattle.o2_chain.proofs.Walking.{keeps_bad, keeps_good}
use Rattle.o2_chain.proofs.Looking.{looked_more}
use Rattle.o2_chain.proofs.chains.visit.Goals as goal

pub returns-in_err-block-clause-still_apart : goal.returns-in_err-block-clause-still_apart
returns-in_err-block-clause-still_apart g c =
    let may = c.if-not-may_look.false in
    let e = c.may_look.ensures in
    looked_more (blocks_of c.args.geo.now) c.args.walked.now _ c.args.link c.in_ok-add_seen.ensures.added (e.unseen may) (e.above may) (e.below may) c.requires.apart

pub returns-then-not-is_good-clause-still_apart : goal.returns-then-not-is_good-clause-still_apart
returns-then-not-is_good-clause-still_apart g c =
    let may = c.if-not-may_look.false in
    let e = c.may_look.ensures in
    looked_more (blocks_of c.args.geo.now) c.args.walked.now _ c.args.link c.in_ok-add_seen.ensures.added (e.unseen may) (e.above may) (e.below may) c.requires.apart

pub returns-in_err-add_group-clause-still_apart : goal.returns-in_err-add_group-clause-still_apart
returns-in_err-add_group-clause-still_apart g c =
    let may = c.if-not-may_look.false in
    let e = c.may_look.ensures in
    looked_more (blocks_of c.args.geo.now) c.args.walked.now _ c.args.link (c.add_group.ensures.seen ∙ c.in_ok-add_seen.ensures.added) (e.unseen may) (e.above may) (e.below may) c.requires.apart

pub returns-clause-still_apart : goal.returns-clause-still_apart
returns-clause-still_apart g c =
    let may = c.if-not-may_look.false in
    let e = c.may_look.ensures in
    looked_more (blocks_of c.args.geo.now) c.args.walked.now _ c.args.link (c.add_group.ensures.seen ∙ c.in_ok-add_seen.ensures.added) (e.unseen may) (e.above may) (e.below may) c.requires.apart

pub returns-then-not-is_good-clause-bad : goal.returns-then-not-is_good-clause-bad
returns-then-not-is_good-clause-bad g c v shows before w h =
    let may = c.if-not-may_look.false in
    let e = c.may_look.ensures in
    let a = c.args.a.now in
    let b = c.args.link in
    let bytes = c.as_slice.ensures ∙ c.in_ok-block.ensures.bytes v shows in
    let desc : c.read_group_desc-desc.result ≡ group_desc v b = c.read_group_desc-desc.ensures ∙ ap group_desc_of bytes in
    let new = unseen_new v a before c.args.walked.now w h b (e.unseen may) (e.apart may) in
    let taken : (n : ℕ) → is_in_runs c.add_seen.new.walked.clusters n ≡ list_any (holds_cluster v n) w.groups = rw c.in_ok-add_seen.ensures.clusters h.clusters in
    let bad : is_good_group v a w.groups b ≡ false = sym (c.is_good.ensures.told v shows.numbers desc w.groups taken new) ∙ c.if-not-is_good.true in
    (bad, keeps_bad v a before c.args.walked.now _ w h b c.in_ok-add_seen.ensures.groups c.in_ok-add_seen.ensures.faults c.in_ok-add_seen.ensures.starts c.in_ok-add_seen.ensures.clusters c.in_ok-add_seen.ensures.added bad)

pub returns-clause-good : goal.returns-clause-good
returns-clause-good g c v shows before w h =
    let may = c.if-not-may_look.false in
    let e = c.may_look.ensures in
    let a = c.args.a.now in
    let b = c.args.link in
    let bytes = c.as_slice.ensures ∙ c.in_ok-block.ensures.bytes v shows in
    let desc : c.read_group_desc-desc.result ≡ group_desc v b = c.read_group_desc-desc.ensures ∙ ap group_desc_of bytes in
    let new = unseen_new v a before c.args.walked.now w h b (e.unseen may) (e.apart may) in
    let taken : (n : ℕ) → is_in_runs c.add_seen.new.walked.clusters n ≡ list_any (holds_cluster v n) w.groups = rw c.in_ok-add_seen.ensures.clusters h.clusters in
    let good : is_good_group v a w.groups b ≡ true = sym (c.is_good.ensures.told v shows.numbers desc w.groups taken new) ∙ c.if-not-is_good.false in
    let bits : c.from.result ≡ (group_desc v b).bits = c.from.ensures ∙ ap (λ (d : GroupDesc). d.bits) desc in
    let group : Group = record { chain = c.args.chain; block = b; bits = c.from.result } in
    let seen = c.add_group.ensures.seen ∙ c.in_ok-add_seen.ensures.added in
    let groups = c.in_ok-add_group.ensures.groups ∙ ap (λ gs. push gs.items group) c.in_ok-add_seen.ensures.groups in
    let clusters = c.in_ok-add_group.ensures.clusters ∙ ap (λ runs. runs ++ runs_of_group c.args.geo.now a group) c.in_ok-add_seen.ensures.clusters in (
      good,
      ap (λ (d : GroupDesc). d.next_group) desc,
      rw bits at
          (keeps_good v a before c.args.walked.now c.add_group.new.walked w h c.args.geo.now shows.numbers group groups
          (c.add_group.ensures.faults ∙ c.in_ok-add_seen.ensures.faults)
          (c.add_group.ensures.starts ∙ c.in_ok-add_seen.ensures.starts)
          clusters seen),
    )
