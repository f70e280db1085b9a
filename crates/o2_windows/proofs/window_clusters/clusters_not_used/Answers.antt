-- As many bits are set as are in use, or not.
use Rattle.std.proofs.Common.{rules, ◌≡◌, length, ◌∙◌, ap, arith}
use Rattle.o2_windows.specs.WindowBits.{clear_clusters}
use Rattle.o2_windows.proofs.WindowsTold.{by_bits, as_many_set, not_as_many_set}
use Rattle.o2_windows.proofs.window_clusters.clusters_not_used.Goals as goal

pub returns-then-len-from-clause-none : goal.returns-then-len-from-clause-none
returns-then-len-from-clause-none c =
    let w = c.args.window.now in
    let all : c.in-Ok.total ≡ w.total = search rules in
    let clusters : c.in_ok-clusters.clusters.items ≡ clear_clusters w = c.in_ok-clusters.ensures ∙ by_bits w c.as_slice.result.now c.in-Ok.total c.as_slice.ensures all in
    let count = ap length clusters in
    not_as_many_set w c.args.used (λ same. c.if-len-from.true (omega (arith, same, count, all, c.len.ensures, c.from.ensures, c.from-2.ensures)))

pub returns-clause-some : goal.returns-clause-some
returns-clause-some c =
    let w = c.args.window.now in
    let all : c.in-Ok.total ≡ w.total = search rules in
    let clusters : c.in_ok-clusters.clusters.items ≡ clear_clusters w = c.in_ok-clusters.ensures ∙ by_bits w c.as_slice.result.now c.in-Ok.total c.as_slice.ensures all in
    let count = ap length clusters in
    (as_many_set w c.args.used (omega (arith, c.if-len-from.false, count, all, c.len.ensures, c.from.ensures, c.from-2.ensures)), clusters)
