-- Each table is the volume's.
use Rattle.std.proofs.Common.{◌<◌, ◌^◌, List, sym, subst, ◌∙◌}
use Rattle.o2_model.specs.declared.entry.Entry.{Entry}
use Rattle.o2_model.specs.declared.geo.Geo.{Geo}
use Rattle.o2_view.specs.Geos.{blocks_of}
use Rattle.o2_view.proofs.Shown.{still_shows}
use Rattle.o2_extent.proofs.Views.{only_both, few_blocks}
use Rattle.o2_tables.specs.Rows.{IsAllocatorTable, IsGroupTable}
use Rattle.o2_survey.specs.SystemInodes.{AreSystemInodes, named_by}
use Rattle.o2_skeleton.proofs.tables.read_skeleton.Goals as goal

pub returns-clause-told : goal.returns-clause-told
returns-clause-told g c v shows are =
    let at_allocators = still_shows c.in_ok-inodes.ensures.reads shows in
    let at_walk = still_shows c.in_ok-allocators.ensures.reads at_allocators in
    let at_groups = still_shows c.in_ok-walk.ensures.reads at_walk in
    let names = c.in_ok-names.ensures v (c.as_slice.ensures ∙ are) in
    let inodes = subst (λ (es : List Entry). AreSystemInodes v (named_by es) c.in_ok-inodes.inodes) c.as_slice-2.ensures (c.in_ok-inodes.ensures.told v shows) in
    let allocators = c.in_ok-allocators.ensures.told v at_allocators inodes.read names in
    let walk = c.in_ok-walk.ensures.told v at_walk (subst (IsAllocatorTable v) (sym c.as_slice-3.ensures) allocators) in
    let groups = c.in_ok-survey.ensures.told v at_groups walk in
    record {
      entries = are;
      names = names;
      inodes = inodes;
      allocators = allocators;
      links = walk.faults;
      groups = groups;
      discontiguous = c.in_ok-survey.ensures.discontiguous v at_groups walk;
      on_bits = c.in_ok-blocks.ensures v (subst (λ (geo : Geo). blocks_of geo < 2 ^ 64) (sym shows.numbers) (few_blocks c.requires)) (subst (IsGroupTable v) (sym c.as_slice-4.ensures) groups);
    }

pub returns-clause-reads : goal.returns-clause-reads
returns-clause-reads g c =
    only_both c.in_ok-inodes.ensures.reads (only_both c.in_ok-allocators.ensures.reads (only_both c.in_ok-walk.ensures.reads c.in_ok-survey.ensures.reads))
