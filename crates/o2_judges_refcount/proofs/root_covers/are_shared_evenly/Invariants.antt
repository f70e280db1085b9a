-- The records that are left decide.
use Rattle.std.proofs.Common.{◌≡◌, drop}
use Rattle.std.specs.List.{list_all}
use Rattle.o2_judges_refcount.specs.TreeRows.{is_shared}
use Rattle.o2_judges_refcount.proofs.root_covers.are_shared_evenly.Given as goal

abbrev pub invariant-loop-placed : goal.invariant-loop-placed
invariant-loop-placed l = list_all (λ p. is_shared l.references l.root p.fields) (drop l.placed-index l.records) ≡ list_all (λ p. is_shared l.references l.root p.fields) l.records
