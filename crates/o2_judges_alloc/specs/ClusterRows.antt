-- What CLUSTER_ALLOC_BIT asks of a row, beside the claims.
use Rattle.std.specs.Prelude.{ℕ, ◌+◌, ◌%◌, ◌^◌, Bool}
use Rattle.std.specs.Bool.{beq}
use Rattle.std.specs.List.{range_with_len, list_all}
use Rattle.o2_model.specs.Groups.{is_bit_set_in}
use Rattle.o2_tables.specs.declared.groups.GroupRow.{GroupRow}
use Rattle.o2_claims.specs.Owners.{has_owner}
use Rattle.o2_claims.specs.declared.claims.Claims.{Claims}

-- the number of 32 bits of the cluster that bit k stands for
abbrev pub cluster_at : GroupRow → ℕ → ℕ
cluster_at r k = (r.first + k) % 2 ^ 32

-- bit k is set just where its cluster has an owner
abbrev pub is_set_for_owner : Claims → GroupRow → ℕ → Bool
is_set_for_owner claims r k = beq (is_bit_set_in 0 r.bitmap k) (has_owner claims (cluster_at r k))

abbrev pub has_bits_of_claims : Claims → GroupRow → Bool
has_bits_of_claims claims r = list_all (is_set_for_owner claims r) (range_with_len 0 r.group.bits)
