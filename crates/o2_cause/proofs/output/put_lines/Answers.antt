-- What was taken before a fault, and one line more.
use Rattle.std.proofs.Common.{◌+◌, drop, arith, ◌∙◌, ap, refl}
use Rattle.std.specs.List.{concat}
use Rattle.std.proofs.lemmas.List.{take_all}
use Rattle.o2_disk.proofs.Sinks.{err_behind}
use Rattle.o2_cause.proofs.Fronts.{takes_nothing, takes_both, takes_as, all_is_some, some_of_next, some_of_both, some_as, lines_more, lines_around}
use Rattle.o2_cause.proofs.output.put_lines.Goals as goal

pub loop-line-init : goal.loop-line-init
loop-line-init g c = record { taken = takes_nothing _; faults = refl }

pub returns-in_err-put_text-clause-some : goal.returns-in_err-put_text-clause-some
returns-in_err-put_text-clause-some g c =
    let lines = c.args.lines.now in
    let i = c.loop-line.line-index in
    some_as (lines_around lines i c.line-item.result c.as_slice.result.now c.loop-line-test.true c.line-item.is c.as_slice.ensures)
    (some_of_next c.loop-line.invariant.taken (some_of_both (concat (drop (i + 1) lines)) c.in_err-put_text.ensures.some))

pub loop-line-preserved : goal.loop-line-preserved
loop-line-preserved g c =
    let lines = c.args.lines.now in
    let i = c.loop-line.line-index in
    record {
      taken = takes_as (lines_more lines i c.line-item.result c.as_slice.result.now c.loop-line-test.true c.line-item.is c.as_slice.ensures) (takes_both c.loop-line.invariant.taken c.in_ok-put_text.ensures.all);
      faults = c.in_ok-put_text.ensures.cause.ok ∙ c.loop-line.invariant.faults;
    }

pub returns-clause-all : goal.returns-clause-all
returns-clause-all g c =
    let lines = c.args.lines.now in
    let i = c.loop-line.line-index in
    takes_as (ap concat (take_all i lines (omega (arith, c.loop-line-test.false)))) c.loop-line.invariant.taken

pub returns-clause-some : goal.returns-clause-some
returns-clause-some g c =
    let lines = c.args.lines.now in
    let i = c.loop-line.line-index in
    all_is_some (takes_as (ap concat (take_all i lines (omega (arith, c.loop-line-test.false)))) c.loop-line.invariant.taken)

pub returns-in_err-put_text-clause-stops : goal.returns-in_err-put_text-clause-stops
returns-in_err-put_text-clause-stops g c = err_behind c.from_residual.result (g.K.Sink.state c.args.out.now) (g.K.Sink.state c.loop-line.out) (g.K.Sink.state c.put_text.new.out) c.loop-line.invariant.faults c.in_err-put_text.ensures.stops
