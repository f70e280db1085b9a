use Rattle.o2_ondisk.specs.Number.{number_at, big_number_at}
use Rattle.o2_ondisk.proofs.Told.{bytes_fit, number_at_tells, big_number_at_tells, all_told}
use Rattle.o2_ondisk.proofs.layout.numbers_tell_bytes.Goals as goal

pub returns-clause-low_first : goal.returns-clause-low_first
returns-clause-low_first c fields xs ys fits fits' same = all_told number_at xs ys (number_at_tells xs ys (bytes_fit xs fits) (bytes_fit ys fits')) fields same

pub returns-clause-high_first : goal.returns-clause-high_first
returns-clause-high_first c fields xs ys fits fits' same = all_told big_number_at xs ys (big_number_at_tells xs ys (bytes_fit xs fits) (bytes_fit ys fits')) fields same
