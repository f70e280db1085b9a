-- The walk from the start, and what it says of the links.
use Rattle.std.proofs.Common.{◌≡◌, inl, inr, [], ◌++◌, length, map, refl, sym, ◌∙◌, ap, subst, arith}
use Rattle.o2_model.specs.Words.{IsLeast}
use Rattle.o2_view.proofs.Shown.{still_shows}
use Rattle.o2_view.specs.Geos.{blocks_of}
use Rattle.o2_extent.proofs.Views.{only_both, still_in}
use Rattle.o2_chain.specs.Walks.{allocator_walk, group_in, walked_before}
use Rattle.o2_chain.proofs.Looking.{looked_none, calls_few}
use Rattle.o2_chain.proofs.Answered.{keeps_all, sound_header}
use Rattle.o2_chain.proofs.allocator.groups_of.Goals as goal

pub walk_chains-requires : goal.walk_chains-requires
walk_chains-requires g c =
    let few = rw c.in-Some.is at c.in_ok-records.ensures.few in (
      omega arith,
      (
        still_in c.requires.volume c.look.ensures.reads,
        (looked_none (blocks_of c.args.geo.now) c.in_ok-walked.walked c.in_ok-walked.ensures.none (omega (arith, c.requires.volume.numbers.root)), omega (arith, few, ap length c.as_slice-2.ensures.value)),
      ),
    )

pub returns-in_err-walk_chains-clause-count : goal.returns-in_err-walk_chains-clause-count
returns-in_err-walk_chains-clause-count g c =
    calls_few c.args.geo.now c.in_ok-walked.walked c.walk_chains.new.walked c.requires.volume c.look.ensures.reads c.look.ensures.count c.in_ok-walked.ensures.none c.walk_chains.ensures.count c.walk_chains.ensures.still_apart

pub returns-in-Some-least-clause-count : goal.returns-in-Some-least-clause-count
returns-in-Some-least-clause-count g c =
    calls_few c.args.geo.now c.in_ok-walked.walked c.walk_chains.new.walked c.requires.volume c.look.ensures.reads c.look.ensures.count c.in_ok-walked.ensures.none c.walk_chains.ensures.count c.walk_chains.ensures.still_apart

pub returns-clause-count : goal.returns-clause-count
returns-clause-count g c =
    calls_few c.args.geo.now c.in_ok-walked.walked c.walk_chains.new.walked c.requires.volume c.look.ensures.reads c.look.ensures.count c.in_ok-walked.ensures.none c.walk_chains.ensures.count c.walk_chains.ensures.still_apart

pub returns-in_err-walk_chains-clause-reads : goal.returns-in_err-walk_chains-clause-reads
returns-in_err-walk_chains-clause-reads g c = only_both c.look.ensures.reads c.walk_chains.ensures.reads

pub returns-in-Some-least-clause-reads : goal.returns-in-Some-least-clause-reads
returns-in-Some-least-clause-reads g c = only_both c.look.ensures.reads c.walk_chains.ensures.reads

pub returns-clause-reads : goal.returns-clause-reads
returns-clause-reads g c = only_both c.look.ensures.reads c.walk_chains.ensures.reads

pub returns-in-Some-least-clause-fails : goal.returns-in-Some-least-clause-fails
returns-in-Some-least-clause-fails g c = record {
  own = inr (inl refl);
  first = λ v shows.
      let bytes = c.as_slice.ensures ∙ c.in_ok-block.ensures.bytes v shows in
      let sound = (rw c.in-Some.is at c.in_ok-records.ensures.good) v shows.numbers bytes in
      let records = (rw c.in-Some.is at c.in_ok-records.ensures.records) v shows.numbers bytes in
      let keeps = keeps_all v c.args.a.now c.args.before.now c.as_slice-2.result.now c.in-Some.records.items c.walk_chains.new.walked c.as_slice-2.ensures.value records
      (c.in_ok-walk_chains.ensures.walks v (still_shows c.look.ensures.reads shows) c.args.before.now _ (c.in_ok-walked.ensures.keeps v shows.numbers c.args.a.now)) in
      inr (sound_header v c.args.a.now sound, inl (refl, subst (IsLeast c.in-Some-least.block) (c.as_slice-3.ensures.value ∙ keeps.faults) c.in-Some-least.ensures));
}

pub returns-clause-told : goal.returns-clause-told
returns-clause-told g c v shows =
    let bytes = c.as_slice.ensures ∙ c.in_ok-block.ensures.bytes v shows in
    let sound = (rw c.in-Some.is at c.in_ok-records.ensures.good) v shows.numbers bytes in
    let records = (rw c.in-Some.is at c.in_ok-records.ensures.records) v shows.numbers bytes in
    let keeps = keeps_all v c.args.a.now c.args.before.now c.as_slice-2.result.now c.in-Some.records.items c.walk_chains.new.walked c.as_slice-2.ensures.value records
    (c.in_ok-walk_chains.ensures.walks v (still_shows c.look.ensures.reads shows) c.args.before.now _ (c.in_ok-walked.ensures.keeps v shows.numbers c.args.a.now)) in
    let none : (allocator_walk v c.args.a.now c.args.before.now).faults ≡ [] = sym keeps.faults ∙ (sym c.as_slice-3.ensures.value ∙ c.in_default-least.ensures) in (
      (sound_header v c.args.a.now sound, (none, tt)),
      record { header = sound; links = none; met = keeps.groups ∙ ap (λ gs. walked_before v c.args.before.now ++ map (group_in c.args.a.now) gs) (sym c.from.ensures) },
    )
