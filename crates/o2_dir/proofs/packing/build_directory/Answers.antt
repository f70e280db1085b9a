-- A piece is as long as its entries, the last of which reaches its end.
use Rattle.std.proofs.Common.{◌≡◌, All, List, ℕ, length, sym, ◌∙◌, subst}
use Rattle.o2_dir.proofs.Pieces.{all_long}
use Rattle.o2_dir.proofs.packing.build_directory.Goals as goal

pub returns-in-Ok-clause-sizes : goal.returns-in-Ok-clause-sizes
returns-in-Ok-clause-sizes c =
    let pieces = c.in-Ok.ensures in
    subst (λ (blocks : List (List ℕ)). All (λ block. length block ≡ c.args.room) blocks) (sym (c.from.ensures ∙ pieces.bytes)) (all_long c.args.room pieces.groups pieces.packing.some pieces.packing.fit)
