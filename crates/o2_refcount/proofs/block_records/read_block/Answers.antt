-- No refcount block stands out of range.
use Rattle.std.proofs.Common.{◌≡◌, false, ◌&&◌, nat_lt, sym, ◌∙◌, ap, subst}
use Rattle.o2_model.specs.Volume.{is_in_range}
use Rattle.o2_model.specs.declared.geo.Geo.{Geo}
use Rattle.o2_view.specs.Geos.{blocks_of}
use Rattle.o2_refcount.specs.Readings.{Keeps}
use Rattle.o2_refcount.proofs.Steps.{bad_block}
use Rattle.o2_refcount.proofs.block_records.read_block.Goals as goal

pub returns-then-not-is_block_in_range-clause-read : goal.returns-then-not-is_block_in_range-clause-read
returns-then-not-is_block_in_range-clause-read g c v shows before t keeps =
    let b = c.args.b in
    let out : is_in_range v b ≡ false = ap (λ (geo : Geo). nat_lt 0 b && nat_lt b (blocks_of geo)) shows.numbers ∙ (sym c.is_block_in_range.ensures ∙ c.if-not-is_block_in_range.true) in
    subst (Keeps before _) (bad_block v t b out) (c.in_ok-add_fault.ensures before t keeps)
