-- The runs end where the last one does.
use Rattle.std.proofs.Common.{◌-◌, length, arith}
use Rattle.std.proofs.lemmas.Bool.Decides.{nat_tests}
use Rattle.o2_view.proofs.RunLists.{ends_with}
use Rattle.o2_view.proofs.run_list.ends_at.Goals as goal

pub returns-then-last-first-clause-meets : goal.returns-then-last-first-clause-meets
returns-then-last-first-clause-meets c meets =
    let item = c.in-Some.ensures.item in
    let end = ends_with c.args.runs.now (length c.args.runs.now - 1) c.in-Some.last.now (omega (arith, item.3.0)) item.1 in
    grind (arith, nat_tests, end, meets)

pub returns-then-last-first-clause-apart : goal.returns-then-last-first-clause-apart
returns-then-last-first-clause-apart c other some is =
    let item = c.in-Some.ensures.item in
    let end = ends_with c.args.runs.now (length c.args.runs.now - 1) c.in-Some.last.now (omega (arith, item.3.0)) item.1 in
    grind (arith, nat_tests, end, other, is)

pub returns-else-last-first-clause-apart : goal.returns-else-last-first-clause-apart
returns-else-last-first-clause-apart c other some is =
    let item = c.in-Some.ensures.item in
    let end = ends_with c.args.runs.now (length c.args.runs.now - 1) c.in-Some.last.now (omega (arith, item.3.0)) item.1 in
    omega (arith, end, is)
