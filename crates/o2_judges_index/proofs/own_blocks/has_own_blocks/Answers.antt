-- Its extent blocks decide.
use Rattle.std.proofs.Common.{sym, ◌∙◌, ap}
use Rattle.std.specs.List.{list_all}
use Rattle.o2_model.specs.SoundIndexes.{is_own_block}
use Rattle.o2_judges_index.proofs.SoundTold.{own_told}
use Rattle.o2_judges_index.proofs.own_blocks.has_own_blocks.Goals as goal
use Rattle.o2_judges_index.proofs.own_blocks.has_own_blocks.Goals.{then-row, else-row}

pub returns-then-is_own : goal.returns-then-is_own
returns-then-is_own c = λ v are is. elim c.if-row.branch [
  | then-row w ↦
      own_told v c.args.row.now w.is_own.result c.are_own.result is w.if-row.true (w.is_own.ensures v are) (sym w.value-is ∙ c.if-is_own.true)
      (c.are_own.ensures v are ∙ ap (list_all (λ x. is_own_block v x.origin x.block)) c.as_slice.ensures)
  | else-row w ↦ let e = sym w.value-is ∙ c.if-is_own.true in cc
]
