-- A root out of range is none, and of another these are the bytes.
use Rattle.std.proofs.Common.{◌&&◌, nat_lt, sym, ◌∙◌, ap}
use Rattle.std.proofs.lemmas.Result.{IfOk-weaker}
use Rattle.o2_model.specs.declared.geo.Geo.{Geo}
use Rattle.o2_view.specs.Geos.{blocks_of}
use Rattle.o2_view.proofs.Shown.{still_shows}
use Rattle.o2_indexes.proofs.RowsTold.{out_of_range}
use Rattle.o2_indexes.proofs.read.read_index.Goals as goal

pub returns-then-not-is_block_in_range-clause-told : goal.returns-then-not-is_block_in_range-clause-told
returns-then-not-is_block_in_range-clause-told g c v shows of listed =
    let out = ap (λ (geo : Geo). nat_lt 0 c.args.root && nat_lt c.args.root (blocks_of geo)) shows.numbers ∙ (sym c.is_block_in_range.ensures ∙ c.if-not-is_block_in_range.true) in
    c.row_without_root.ensures.told v of (out_of_range v c.args.directory c.args.root out)

pub returns-clause-told : goal.returns-clause-told
returns-clause-told g c =
    IfOk-weaker c.read_index_in.result _ _
    (λ row told v shows of listed.
    told v (record { shows = still_shows c.look.ensures.reads shows; is = c.as_slice.ensures ∙ c.in_ok-block.ensures.bytes v shows }) of listed)
    c.read_index_in.ensures.told
