-- The row tells what the dinode and its list say.
use Rattle.std.proofs.Common.{map, sym, ◌∙◌, ap}
use Rattle.o2_ondisk.specs.Kinds.{kind_of_mode}
use Rattle.o2_ondisk.specs.declared.dinode.Dinode.{Dinode}
use Rattle.o2_model.specs.Files.{links_of}
use Rattle.o2_tables.specs.Rows.{run_of}
use Rattle.o2_indexes.specs.Readings.{origin_row}
use Rattle.o2_inodes.proofs.ListsTold.{blocks_of_lists_told, records_of_list}
use Rattle.o2_inodes.proofs.row.row_of.Goals as goal

pub returns-clause-told : goal.returns-clause-told
returns-clause-told c v same is kept =
    let b = c.args.b in
    record {
      kind = c.kind.ensures ∙ ap (λ (d : Dinode). kind_of_mode d.mode) is;
      flags = ap (λ (d : Dinode). d.flags) is;
      links = c.links.ensures ∙ ap links_of is;
      clusters = ap (λ (d : Dinode). d.clusters) is;
      origin = ap (λ (d : Dinode). record { slot = d.suballoc_slot; bit = d.suballoc_bit; loc = d.suballoc_loc }) is;
      named = c.named_tree.ensures v b is;
      tree = c.tree.ensures v b same is;
      runs = c.from.ensures ∙ (c.in_ok-runs.ensures v same ∙ ap (map (run_of v)) (c.deref.ensures.value ∙ (kept.leaves ∙ sym (records_of_list v b))));
      extent_blocks = blocks_of_lists_told v b c.args.reading.now.blocks.items c.from-2.result kept.blocks (c.from-2.ensures ∙ (c.in_ok-extent_blocks.ensures ∙ ap (map origin_row) c.deref-2.ensures.value));
    }
