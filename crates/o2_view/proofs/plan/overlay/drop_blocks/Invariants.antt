-- Blocks outside stand as they did.
use Rattle.std.proofs.Common.{◌≡◌, ℕ, ◌≤◌, length, All, nat_cmp}
use Rattle.std.specs.BTreeMap.{get, values, btree_map_len}
use Rattle.o2_view.proofs.plan.overlay.drop_blocks.Given as goal

abbrev pub invariant-loop-b : goal.invariant-loop-b
invariant-loop-b l =
    ((b : ℕ) → (l.first ≤ b → l.end ≤ b) → get nat_cmp l.blocks b ≡ get nat_cmp l.fn.blocks b)
    × ((size : ℕ) → All (λ bytes. length bytes ≡ size) (values l.fn.blocks) → All (λ bytes. length bytes ≡ size) (values l.blocks))

abbrev pub decreases-loop-b : goal.decreases-loop-b
decreases-loop-b l = btree_map_len l.blocks
