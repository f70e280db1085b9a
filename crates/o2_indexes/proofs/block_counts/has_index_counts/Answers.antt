-- With the same lengths the blocks decide.
use Rattle.std.proofs.Common.{sym, ◌∙◌}
use Rattle.o2_indexes.proofs.Agreements.{same_lengths}
use Rattle.o2_indexes.proofs.block_counts.has_index_counts.Goals as goal

pub returns : goal.returns
returns c v d says live stand indexed =
    c.are_as_many.ensures
    ∙ same_lengths v d c.args.num_entries c.args.entries.now c.args.blocks.now c.args.index.now says live stand indexed (sym c.has_lengths.ensures ∙ c.if-not-has_lengths.false)
    c.in_ok-indexed.indexed c.in_ok-listed.listed c.in_ok-indexed.ensures c.in_ok-listed.ensures
