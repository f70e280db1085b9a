-- One record more, or the bad one.
use Rattle.std.proofs.Common.{rules, ◌+◌, ◌-◌, drop, get_or, sym, ◌∙◌, ap, subst, arith}
use Rattle.std.proofs.lemmas.List.{drop_all}
use Rattle.o2_model.specs.Words.{Apart}
use Rattle.o2_model.specs.Extents.{read_records, records_in_block, with_met, with_seen}
use Rattle.o2_extent.specs.Readings.{Keeps, Within}
use Rattle.o2_extent.specs.Rules.{rule_of}
use Rattle.o2_view.proofs.Shown.{still_shows}
use Rattle.o2_extent.proofs.Steps.{first_left, entered_block}
use Rattle.o2_extent.proofs.Views.{only_both, looks_both, still_in}
use Rattle.o2_extent.proofs.tree.+read_into.Goals as goal

pub read_into-requires : goal.read_into-requires
read_into-requires g t c κs within = (search rules, (search rules, (search rules, (omega arith, still_in c.requires.geo (only_both c.loop-r.invariant.reads c.enter.ensures.reads)))))

pub returns-then-depth-eq0-clause-read : goal.returns-then-depth-eq0-clause-read
returns-then-depth-eq0-clause-read g m c v shows t k =
    subst (λ d. Keeps v c.read_leaves.new.reading (read_records v (rule_of c.args.rule) d c.args.holder 0 c.args.records.now t)) (sym c.if-depth-eq0.true) (c.in_ok-read_leaves.ensures.read v shows.numbers t k)

pub returns-in-None-clause-read : goal.returns-in-None-clause-read
returns-in-None-clause-read g m c v shows t k =
    let rs = c.args.records.now in
    let i = c.loop-r.r-index in
    let left = c.loop-r.invariant.read v shows t k in
    let bad = rw c.in-None.is at c.in_ok-below.ensures.bad in
    subst (Keeps v _)
    (sym (first_left v (rule_of c.args.rule) c.args.depth c.args.holder c.loop-r.low rs i _ left.now c.loop-r-test.true) ∙ left.gives)
    (bad v (still_shows c.loop-r.invariant.reads shows) (rule_of c.args.rule) (drop (i + 1) rs) left.now left.keeps)

pub returns-clause-read : goal.returns-clause-read
returns-clause-read g m c v shows t k =
    let left = c.loop-r.invariant.read v shows t k in
    subst (Keeps v c.loop-r.reading)
    (sym (ap (λ rs. read_records v (rule_of c.args.rule) c.args.depth c.args.holder c.loop-r.low rs left.now) (drop_all c.loop-r.r-index c.args.records.now c.loop-r-test.false)) ∙ left.gives)
    left.keeps

pub loop-r-preserved : goal.loop-r-preserved
loop-r-preserved g m c = record {
  read = λ v shows t k.
      let rs = c.args.records.now in
      let i = c.loop-r.r-index in
      let depth = c.args.depth in
      let left = c.loop-r.invariant.read v shows t k in
      let shows1 = still_shows c.loop-r.invariant.reads shows in
      let shows2 = still_shows c.enter.ensures.reads shows1 in
      let good = rw c.in-Some.is at c.in_ok-below.ensures.good in
      let enters = good v shows1 left.now left.keeps in
      let r = get_or rs i _ in
      let met = with_met v r.blkno (with_seen left.now r.blkno) in
      let records = c.as_slice.ensures.value ∙ enters.records in
      record {
        now = read_records v (rule_of c.args.rule) (depth - 1) r.blkno 0 (records_in_block v r.blkno) met;
        keeps = rw records at (c.in_ok-read_into.ensures.read v shows2 met enters.keeps);
        gives = rw c.from-low.ensures
            (sym (entered_block v (rule_of c.args.rule) depth c.args.holder c.loop-r.low r (drop (i + 1) rs) left.now (omega arith) enters.names enters.is_one)
            ∙ (sym (first_left v (rule_of c.args.rule) depth c.args.holder c.loop-r.low rs i _ left.now c.loop-r-test.true) ∙ left.gives));
      };
  apart = λ h.
      let h1 = c.loop-r.invariant.apart h in
      let h2 = c.enter.ensures.apart (subst (λ n. Apart n c.loop-r.reading.seen) (sym c.loop-r.invariant.reads.same.blocks) h1) in
      subst (λ n. Apart n c.read_into.new.reading.seen) (c.enter.ensures.reads.same.blocks ∙ c.loop-r.invariant.reads.same.blocks)
      (c.read_into.ensures.apart (subst (λ n. Apart n c.enter.new.reading.seen) (sym c.enter.ensures.reads.same.blocks) h2));
  count = looks_both (only_both c.loop-r.invariant.reads c.enter.ensures.reads) (looks_both c.loop-r.invariant.reads c.loop-r.invariant.count c.enter.ensures.count) c.read_into.ensures.count;
  reads = only_both (only_both c.loop-r.invariant.reads c.enter.ensures.reads) c.read_into.ensures.reads;
  within = λ clusters h. c.read_into.ensures.within clusters (subst (λ leaves. Within c.args.geo.now leaves.items) (sym c.enter.ensures.leaves) (c.loop-r.invariant.within clusters h));
}
