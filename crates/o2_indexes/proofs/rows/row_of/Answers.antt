-- The row tells what the root and its list say.
use Rattle.std.proofs.Common.{map, sym, ◌∙◌, ap}
use Rattle.o2_ondisk.specs.declared.dx_root.DxRoot.{DxRoot}
use Rattle.o2_model.specs.SoundIndexes.{index_root_origin}
use Rattle.o2_tables.specs.Rows.{run_of}
use Rattle.o2_indexes.specs.Readings.{origin_row}
use Rattle.o2_indexes.proofs.RowsTold.{blocks_told}
use Rattle.o2_indexes.proofs.rows.row_of.Goals as goal

pub returns-clause-told : goal.returns-clause-told
returns-clause-told c v numbers of fields keeps sound = record {
  root = sym of;
  alone = sound;
  origin = λ good.
      ap (λ (root : DxRoot). record { slot = root.suballoc_slot; bit = root.suballoc_bit; loc = root.suballoc_loc }) fields
      ∙ ap (index_root_origin v) (sym of);
  extent_blocks = blocks_told v _ c.args.reading.now.blocks.items c.from.result (c.from.ensures ∙ (c.in_ok-extent_blocks.ensures ∙ ap (map origin_row) c.deref-2.ensures.value)) keeps.blocks;
  runs = c.from-2.ensures ∙ (c.in_ok-runs.ensures v numbers ∙ ap (map (run_of v)) (c.deref.ensures.value ∙ keeps.leaves));
}
