-- The entries so far were judged.
use Rattle.std.proofs.Common.{◌≡◌, List, ◌++◌, map, take}
use Rattle.std.specs.Prelude.{flat_map}
use Rattle.o2_model.specs.declared.entry.Entry.{Entry}
use Rattle.o2_model.specs.Volume.{Volume}
use Rattle.o2_tables.specs.Rows.{IsInodeTable}
use Rattle.o2_tree.specs.TreeRows.{row_of}
use Rattle.o2_judges_tree.specs.EntryFaults.{is_typed_soundly, fault_of}
use Rattle.o2_judges_tree.proofs.named_types.judge_entries.Given as goal

abbrev pub invariant-loop-entry : goal.invariant-loop-entry
invariant-loop-entry l =
    (v : Volume) (es : List Entry) → IsInodeTable v l.inodes → map row_of es ≡ l.entries
    → l.blocks.items ≡ l.fn.blocks.items ++ flat_map (fault_of (is_typed_soundly v)) (take l.entry-index es)
