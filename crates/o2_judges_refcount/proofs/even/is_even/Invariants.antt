-- The clusters that are left decide.
use Rattle.std.proofs.Common.{◌≡◌, ◌+◌, ◌-◌, ◌==◌}
use Rattle.std.specs.List.{range_with_len, list_all}
use Rattle.o2_judges_refcount.specs.References.{times_of}
use Rattle.o2_judges_refcount.specs.TreeRows.{is_even}
use Rattle.o2_judges_refcount.proofs.even.is_even.Given as goal

abbrev pub invariant-loop-k : goal.invariant-loop-k
invariant-loop-k l =
    list_all (λ c. times_of l.references l.root c == times_of l.references l.root l.refcount.cpos) (range_with_len (l.refcount.cpos + l.k) (l.refcount.clusters - l.k))
    ≡ is_even l.references l.root l.refcount
