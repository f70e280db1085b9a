-- What the checks of allocators ask of a row.
use Rattle.std.specs.Prelude.{◌+◌, ◌%◌, ◌^◌, Bool, ◌&&◌, ◌==◌, sum_by}
use Rattle.o2_tables.specs.declared.allocators.AllocatorRow.{AllocatorRow}

-- the totals are the sums over the chains, modulo 2^32
abbrev pub has_totals : AllocatorRow → Bool
has_totals r =
    r.total == sum_by (λ c. c.total) r.chains % 2 ^ 32
    && (r.used + sum_by (λ c. c.free) r.chains) % 2 ^ 32 == sum_by (λ c. c.total) r.chains % 2 ^ 32
