-- A link further, or the bad one.
use Rattle.std.proofs.Common.{◌≡◌, ℕ, ◌-◌, ◌<◌, map, sym, ◌∙◌, ap, subst, arith}
use Rattle.o2_model.specs.Volume.{blocks}
use Rattle.o2_model.specs.Groups.{with_group, group_desc, walk_chain as chain_walk}
use Rattle.o2_model.proofs.Looks.{room_left}
use Rattle.o2_view.specs.Geos.{blocks_of}
use Rattle.o2_view.proofs.Shown.{still_shows}
use Rattle.o2_extent.proofs.Views.{only_both, looks_both}
use Rattle.o2_extent.specs.Readings.{LooksAtMost}
use Rattle.o2_chain.specs.Readings.{Keeps, looked_at}
use Rattle.o2_chain.proofs.Links.{chain_ends, chain_stops, chain_goes_on, some_left}
use Rattle.o2_chain.proofs.chains.walk_chain.Goals as goal

pub returns-in_default-clause-walks : goal.returns-in_default-clause-walks
returns-in_default-clause-walks g c v shows before w h =
    let a = c.args.a.now in
    let left = c.loop-link.invariant.walks v shows before w h in
    let size : blocks v ≡ blocks_of c.args.geo.now = ap blocks_of shows.numbers in
    let room : 0 < left.most = some_left (blocks v) left.most c.loop-link.walked (rw size c.loop-link.invariant.apart) left.enough in
    let bad = (rw c.in_default.is at c.in_ok-next.ensures.bad) v (still_shows c.loop-link.invariant.reads shows) before left.now left.keeps in
    subst (Keeps v a before c.add_fault.new.walked)
    (sym (chain_stops v a c.args.chain left.most c.loop-link.holder c.loop-link.link left.now c.loop-link-test.true room bad.0) ∙ left.gives)
    (c.in_ok-add_fault.ensures.added v a before left.now bad.1)

pub returns-in_default-clause-count : goal.returns-in_default-clause-count
returns-in_default-clause-count g c =
    subst (λ bs. LooksAtMost (looked_at c.args.walked.now) bs c.args.view.now c.visit.new.view) (ap (λ runs. map (λ (run : ℕ × ℕ). run.0) runs) (sym c.in_ok-add_fault.ensures.seen))
    (looks_both c.loop-link.invariant.reads c.loop-link.invariant.count c.visit.ensures.count)

pub returns-in_default-clause-reads : goal.returns-in_default-clause-reads
returns-in_default-clause-reads g c = only_both c.loop-link.invariant.reads c.visit.ensures.reads

pub loop-link-smaller : goal.loop-link-smaller
loop-link-smaller g c =
    let longer = rw c.in-Some.is at c.in_ok-next.ensures.longer in
    omega (arith, longer, room_left (blocks_of c.args.geo.now) (looked_at c.visit.new.walked) c.visit.ensures.still_apart.apart)

pub loop-link-preserved : goal.loop-link-preserved
loop-link-preserved g c = record {
  walks = λ v shows before w h.
      let a = c.args.a.now in
      let link = c.loop-link.link in
      let left = c.loop-link.invariant.walks v shows before w h in
      let size : blocks v ≡ blocks_of c.args.geo.now = ap blocks_of shows.numbers in
      let room : 0 < left.most = some_left (blocks v) left.most c.loop-link.walked (rw size c.loop-link.invariant.apart) left.enough in
      let good = (rw c.in-Some.is at c.in_ok-next.ensures.good) v (still_shows c.loop-link.invariant.reads shows) before left.now left.keeps in
      let longer = rw c.in-Some.is at c.in_ok-next.ensures.longer in
      record {
        now = with_group left.now a c.args.chain link (group_desc v link).bits;
        most = left.most - 1;
        enough = omega (arith, left.enough, longer, room);
        keeps = good.2;
        gives = ap (λ next. chain_walk v a c.args.chain (left.most - 1) link next (with_group left.now a c.args.chain link (group_desc v link).bits)) good.1
            ∙ (sym (chain_goes_on v a c.args.chain left.most c.loop-link.holder link left.now c.loop-link-test.true room good.0) ∙ left.gives);
      };
  apart = c.visit.ensures.still_apart;
  count = looks_both c.loop-link.invariant.reads c.loop-link.invariant.count c.visit.ensures.count;
  reads = only_both c.loop-link.invariant.reads c.visit.ensures.reads;
}

pub returns-clause-walks : goal.returns-clause-walks
returns-clause-walks g c v shows before w h =
    let left = c.loop-link.invariant.walks v shows before w h in
    subst (Keeps v c.args.a.now before c.loop-link.walked)
    (sym (chain_ends v c.args.a.now c.args.chain left.most c.loop-link.holder c.loop-link.link left.now c.loop-link-test.false) ∙ left.gives)
    left.keeps
