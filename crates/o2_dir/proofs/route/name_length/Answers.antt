-- The first slash, or the end.
use Rattle.std.proofs.Common.{◌==◌, sym, arith}
use Rattle.std.proofs.lemmas.List.Sums.{position_or_len_is}
use Rattle.o2_dir.proofs.PathWays.{none_so_far, none_to, is_slash}
use Rattle.o2_dir.proofs.route.name_length.Goals as goal

pub loop-k-init : goal.loop-k-init
loop-k-init c j below = absurd (omega (arith, below))

pub returns-then-text-k-eq47-clause-first : goal.returns-then-text-k-eq47-clause-first
returns-then-text-k-eq47-clause-first c =
    sym (position_or_len_is (λ b. b == 47) c.args.text.now c.loop-k.k 0 (omega (arith, c.loop-k-test.true)) c.loop-k.invariant (λ inside. is_slash _ c.if-text-k-eq47.true))

pub loop-k-preserved : goal.loop-k-preserved
loop-k-preserved c = none_so_far c.args.text.now c.loop-k.k c.loop-k.invariant c.if-text-k-eq47.false

pub returns-clause-first : goal.returns-clause-first
returns-clause-first c =
    sym (position_or_len_is (λ b. b == 47) c.args.text.now _ 0 (omega arith) (none_to c.args.text.now _ c.loop-k.invariant c.loop-k-test.false) (λ inside. absurd (omega (arith, inside))))
