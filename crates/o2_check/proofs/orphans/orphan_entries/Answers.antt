-- All orphan directories were met.
use Rattle.std.proofs.Common.{◌∙◌, ap}
use Rattle.std.specs.Prelude.{flat_map}
use Rattle.std.proofs.lemmas.List.{take_all}
use Rattle.o2_check.specs.OrphanRows.{named_rows}
use Rattle.o2_check.proofs.OrphansTold.{orphans_are}
use Rattle.o2_check.proofs.orphans.orphan_entries.Goals as goal

pub returns : goal.returns
returns c v table are = record {
  listed = c.loop-b.invariant v table ∙ (ap (flat_map (named_rows v)) (take_all c.loop-b.b-index c.args.orphan_directories.now c.loop-b-test.false ∙ are) ∙ orphans_are v);
}
