-- The row of the inode tells it.
use Rattle.std.proofs.Common.{false, ◌==◌, sym, ◌∙◌, ap, subst}
use Rattle.std.specs.Option.{option_map_or}
use Rattle.o2_ondisk.specs.Kinds.{type_of_kind}
use Rattle.o2_tree.specs.TreeRows.{IsInodeAt}
use Rattle.o2_tree.specs.declared.directories.EntryRow.{EntryRow}
use Rattle.o2_judges_tree.proofs.EntriesTold.{type_is}
use Rattle.o2_judges_tree.proofs.named_types.is_sound.Goals as goal

pub returns-in-Some : goal.returns-in-Some
returns-in-Some c = λ v e table row.
    c.is_type_of.ensures
    ∙ (ap (λ (r : EntryRow). option_map_or (λ k. r.file_type == type_of_kind k) c.in-Some.row.now.kind false) (sym row)
    ∙ type_is v e c.in-Some.row.now (subst (λ (r : EntryRow). IsInodeAt v r.inode c.in-Some.row.now) (sym row) (c.in-Some.ensures v table)))
