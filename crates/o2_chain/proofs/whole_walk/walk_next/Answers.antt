-- The walk from the start.
use Rattle.std.proofs.Common.{arith}
use Rattle.o2_view.specs.Geos.{blocks_of}
use Rattle.o2_chain.proofs.Looking.{looked_none, calls_looked}
use Rattle.o2_chain.proofs.Answered.{keeps_from}
use Rattle.o2_chain.proofs.whole_walk.walk_next.Goals as goal

pub walk_chains-requires : goal.walk_chains-requires
walk_chains-requires g c = (
  omega arith,
  (
    c.requires,
    (looked_none (blocks_of c.args.geo.now) c.in_ok-walked.walked c.in_ok-walked.ensures.none (omega (arith, c.requires.numbers.root)), omega arith),
  ),
)

pub returns-in_err-walk_chains-clause-count : goal.returns-in_err-walk_chains-clause-count
returns-in_err-walk_chains-clause-count g c =
    calls_looked c.args.geo.now c.in_ok-walked.walked c.walk_chains.new.walked c.requires c.in_ok-walked.ensures.none c.walk_chains.ensures.count c.walk_chains.ensures.still_apart

pub returns-clause-told : goal.returns-clause-told
returns-clause-told g c v shows heads =
    keeps_from v c.args.a.now c.args.before.now c.args.chains.now c.walk_chains.new.walked heads
    (c.in_ok-walk_chains.ensures.walks v shows c.args.before.now _ (c.in_ok-walked.ensures.keeps v shows.numbers c.args.a.now))

pub returns-clause-count : goal.returns-clause-count
returns-clause-count g c =
    calls_looked c.args.geo.now c.in_ok-walked.walked c.walk_chains.new.walked c.requires c.in_ok-walked.ensures.none c.walk_chains.ensures.count c.walk_chains.ensures.still_apart
