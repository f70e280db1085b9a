-- One block more.
use Rattle.std.proofs.Common.{List, map, take, sym, ◌∙◌, ap, subst}
use Rattle.std.proofs.lemmas.List.{take_more, take_all, map_push}
use Rattle.o2_view.proofs.Shown.{still_shows}
use Rattle.o2_extent.proofs.Views.{only_none, only_both}
use Rattle.o2_dir.specs.Blocks.{block_at_place}
use Rattle.o2_dir.specs.WholeDirectories.{KeepsWhole}
use Rattle.o2_dir.specs.declared.places.Place.{Place}
use Rattle.o2_dir.proofs.blocks.read_places.Goals as goal

pub loop-p-init : goal.loop-p-init
loop-p-init g c = record { read = λ v shows. c.start_whole-whole.ensures (λ b. v.at b.block); reads = only_none c.args.view.now }

pub returns-in_err-read_place-clause-reads : goal.returns-in_err-read_place-clause-reads
returns-in_err-read_place-clause-reads g c = only_both c.loop-p.invariant.reads c.read_place.ensures.reads

pub loop-p-preserved : goal.loop-p-preserved
loop-p-preserved g c = record {
  read = λ v shows.
      let f = block_at_place v in
      let ps = c.args.places.now in
      let i = c.loop-p.p-index in
      subst (KeepsWhole (λ b. v.at b.block) c.read_place.new.whole)
      (sym (ap (map f) (take_more ps i _ c.loop-p-test.true) ∙ map_push f (take i ps) _))
      (c.in_ok-read_place.ensures.read v (still_shows c.loop-p.invariant.reads shows) (map f (take i ps)) (c.loop-p.invariant.read v shows));
  reads = only_both c.loop-p.invariant.reads c.read_place.ensures.reads;
}

pub returns-clause-read : goal.returns-clause-read
returns-clause-read g c v shows =
    subst (λ (ps : List Place). KeepsWhole (λ b. v.at b.block) c.loop-p.whole (map (block_at_place v) ps)) (take_all c.loop-p.p-index c.args.places.now c.loop-p-test.false) (c.loop-p.invariant.read v shows)
