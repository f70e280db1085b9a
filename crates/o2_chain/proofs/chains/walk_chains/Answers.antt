-- One chain more.
use Rattle.std.proofs.Common.{get_or, sym, ◌∙◌, ap, subst, arith}
use Rattle.std.proofs.lemmas.List.{drop_all, drop_more}
use Rattle.o2_model.specs.Volume.{blocks}
use Rattle.o2_model.specs.Groups.{walk_chain as chain_walk, walk_chains as chains_walk}
use Rattle.o2_view.proofs.Shown.{still_shows}
use Rattle.o2_extent.proofs.Views.{only_both, looks_both}
use Rattle.o2_chain.specs.Readings.{Keeps, heads_of}
use Rattle.o2_chain.proofs.chains.walk_chains.Goals as goal

pub loop-record-preserved : goal.loop-record-preserved
loop-record-preserved g c = record {
  number = omega (arith, c.loop-record.invariant.number);
  walks = λ v shows before w h.
      let a = c.args.a.now in
      let rs = c.args.records.now in
      let i = c.loop-record.record-index in
      let left = c.loop-record.invariant.walks v shows before w h in
      let r = get_or rs i _ in
      record {
        now = chain_walk v a c.loop-record.chain (blocks v) a.block r.blkno left.now;
        keeps = c.in_ok-walk_chain.ensures.walks v (still_shows c.loop-record.invariant.reads shows) before left.now left.keeps;
        gives = sym (ap (λ xs. chains_walk v a c.loop-record.chain (heads_of xs) left.now) (drop_more rs i _ c.loop-record-test.true)) ∙ left.gives;
      };
  apart = c.walk_chain.ensures.still_apart;
  count = looks_both c.loop-record.invariant.reads c.loop-record.invariant.count c.walk_chain.ensures.count;
  reads = only_both c.loop-record.invariant.reads c.walk_chain.ensures.reads;
}

pub returns-clause-walks : goal.returns-clause-walks
returns-clause-walks g c v shows before w h =
    let left = c.loop-record.invariant.walks v shows before w h in
    subst (Keeps v c.args.a.now before c.loop-record.walked)
    (sym (ap (λ xs. chains_walk v c.args.a.now c.loop-record.chain (heads_of xs) left.now) (drop_all c.loop-record.record-index c.args.records.now c.loop-record-test.false)) ∙ left.gives)
    left.keeps
