-- What was taken before a fault, and one line more.
use Rattle.std.proofs.Common.{ℕ, ◌+◌, get_or, map, drop, arith, ◌∙◌, ap, refl}
use Rattle.std.specs.List.{concat}
use Rattle.std.proofs.lemmas.List.{take_all, get_or_default}
use Rattle.o2_model.specs.declared.check.Check.{Check}
use Rattle.o2_model.specs.declared.check.Check.TheVariants as check
use Rattle.o2_cause.proofs.Fronts.{takes_nothing, takes_both, takes_as, all_is_some, some_of_next, some_of_both, some_as}
use Rattle.o2_fsck.specs.Reports.{pair_line}
use Rattle.o2_fsck.proofs.PairLines.{texts_more, texts_around, texts_cut}
use Rattle.o2_fsck.proofs.report.put_pairs.Goals as goal

pub loop-check-init : goal.loop-check-init
loop-check-init g c = record { taken = takes_nothing _; faults = refl }

pub returns-in_err-line-clause-some : goal.returns-in_err-line-clause-some
returns-in_err-line-clause-some g c =
    let pairs = c.args.pairs.now in
    let i = c.loop-check.check-index in
    some_as (texts_cut pair_line pairs i) (some_of_both (concat (map pair_line (drop i pairs))) (all_is_some c.loop-check.invariant.taken))

pub returns-in_err-put_text-clause-some : goal.returns-in_err-put_text-clause-some
returns-in_err-put_text-clause-some g c =
    let pairs = c.args.pairs.now in
    let i = c.loop-check.check-index in
    let any : Check × ℕ = (check.Super, 0) in
    some_as (texts_around pair_line pairs i (get_or pairs i any) c.as_bytes.result.now c.loop-check-test.true (get_or_default pairs i any (get_or pairs i any) c.loop-check-test.true) (c.as_bytes.ensures.value ∙ c.in_ok-line.ensures))
    (some_of_next c.loop-check.invariant.taken (some_of_both (concat (map pair_line (drop (i + 1) pairs))) c.in_err-put_text.ensures.some))

pub loop-check-preserved : goal.loop-check-preserved
loop-check-preserved g c =
    let pairs = c.args.pairs.now in
    let i = c.loop-check.check-index in
    let any : Check × ℕ = (check.Super, 0) in
    record {
      taken = takes_as (texts_more pair_line pairs i (get_or pairs i any) c.as_bytes.result.now c.loop-check-test.true (get_or_default pairs i any (get_or pairs i any) c.loop-check-test.true) (c.as_bytes.ensures.value ∙ c.in_ok-line.ensures)) (takes_both c.loop-check.invariant.taken c.in_ok-put_text.ensures.all);
      faults = c.in_ok-put_text.ensures.cause.ok ∙ c.loop-check.invariant.faults;
    }

pub returns-clause-some : goal.returns-clause-some
returns-clause-some g c =
    let pairs = c.args.pairs.now in
    let i = c.loop-check.check-index in
    all_is_some (takes_as (ap (λ ps. concat (map pair_line ps)) (take_all i pairs (omega (arith, c.loop-check-test.false)))) c.loop-check.invariant.taken)
