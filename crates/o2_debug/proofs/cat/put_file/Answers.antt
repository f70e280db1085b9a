-- What was put before a fault, and a piece more.
use Rattle.std.proofs.Common.{arith, ap, ◌∙◌}
use Rattle.o2_ondisk.specs.declared.dinode.Dinode.{Dinode}
use Rattle.o2_extent.proofs.Views.{only_both}
use Rattle.o2_disk.proofs.Sinks.{fails_behind}
use Rattle.o2_view.proofs.Shown.{still_shows}
use Rattle.o2_debug.proofs.CatLemmas.{so_far, at_end, piece_more, some_more}
use Rattle.o2_debug.proofs.cat.put_file.Goals as goal

pub returns-in_err-piece-clause-some : goal.returns-in_err-piece-clause-some
returns-in_err-piece-clause-some g c v shows = so_far v c.args.reading.now.inode c.loop-at.at (c.loop-at.invariant.taken v shows)

pub returns-in_default-clause-some : goal.returns-in_default-clause-some
returns-in_default-clause-some g c v shows =
    some_more v c.args.reading.now.inode c.loop-at.at (c.loop-at.invariant.taken v shows) (g.K.Sink.state c.put_text.new.out) c.min-count.result c.as_slice.result.now
    (c.as_slice.ensures ∙ c.in_ok-piece.ensures.bytes v (still_shows c.loop-at.invariant.reads shows) c.args.reading.now.inode (c.requires.sound v shows)) c.put_text.ensures.some

pub returns-in_default-clause-fails : goal.returns-in_default-clause-fails
returns-in_default-clause-fails g c = (
  fails_behind (g.K.Sink.state c.args.out.now) (g.K.Sink.state c.loop-at.out) (g.K.Sink.state c.put_text.new.out) c.loop-at.invariant.faults c.in_default.ensures.stops,
  λ v shows.
      some_more v c.args.reading.now.inode c.loop-at.at (c.loop-at.invariant.taken v shows) (g.K.Sink.state c.put_text.new.out) c.min-count.result c.as_slice.result.now
      (c.as_slice.ensures ∙ c.in_ok-piece.ensures.bytes v (still_shows c.loop-at.invariant.reads shows) c.args.reading.now.inode (c.requires.sound v shows)) c.put_text.ensures.some,
)

pub loop-at-preserved : goal.loop-at-preserved
loop-at-preserved g c = record {
  within = omega (arith, c.loop-at-test.true, c.min-count.ensures);
  taken = λ v shows.
      piece_more v c.args.reading.now.inode c.loop-at.at (c.loop-at.invariant.taken v shows) (g.K.Sink.state c.put_text.new.out) c.min-count.result c.as_slice.result.now
      (c.as_slice.ensures ∙ c.in_ok-piece.ensures.bytes v (still_shows c.loop-at.invariant.reads shows) c.args.reading.now.inode (c.requires.sound v shows)) c.in-Ok.ensures.all;
  reads = only_both c.loop-at.invariant.reads c.part_of_file.ensures.reads;
  faults = c.in-Ok.ensures.cause.ok ∙ c.loop-at.invariant.faults;
}

pub returns-clause-told : goal.returns-clause-told
returns-clause-told g c v shows = at_end v c.args.reading.now.inode c.loop-at.at (c.loop-at.invariant.taken v shows) c.args.reading.now.dinode.size (ap (λ (d : Dinode). d.size) (c.requires.sound v shows).dinode) (omega (arith, c.loop-at-test.false))

pub returns-clause-some : goal.returns-clause-some
returns-clause-some g c v shows = so_far v c.args.reading.now.inode c.loop-at.at (c.loop-at.invariant.taken v shows)
