-- The bytes stand in front of the zeros that are left.
use Rattle.std.proofs.Common.{◌++◌, length, drop, ap, ◌∙◌}
use Rattle.o2_dir.proofs.Trailers.{zeros, zeros_left}
use Rattle.o2_dir.proofs.trailer.padded.Goals as goal

pub returns : goal.returns
returns c = ap (λ xs. xs ++ drop (length c.args.bytes.now) (zeros 64)) c.copy_from_slice.ensures.after ∙ ap (λ xs. c.args.bytes.now ++ xs) (zeros_left (length c.args.bytes.now) 64)
