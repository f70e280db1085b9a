-- The bytes that are padded are the last ones.
use Rattle.std.proofs.Common.{◌≡◌, ◌-◌, ◌++◌, length, take, drop, ap, ◌∙◌}
use Rattle.std.proofs.lemmas.List.{take_rest}
use Rattle.o2_dir.proofs.Trailers.{zeros, trailer_padded}
use Rattle.o2_dir.proofs.trailer.last_bytes.Goals as goal

pub returns : goal.returns
returns c =
    let bytes = c.args.bytes.now in
    let from = c.saturating_sub-from.result in
    let part : take (length bytes - from) (drop from bytes) ≡ drop (length bytes - 64) bytes = take_rest bytes from ∙ ap (λ n. drop n bytes) c.saturating_sub-from.ensures in
    trailer_padded (drop (length bytes - 64) bytes) c.padded.result _ (c.padded.ensures ∙ ap (λ xs. xs ++ zeros (64 - length xs)) part)
