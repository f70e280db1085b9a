use Rattle.std.proofs.Common.{inl, refl, arith}
use Rattle.o2_disk.specs.Image.{Torn}
use Rattle.o2_disk.proofs.Images.{torn_one}
use Rattle.o2_disk.proofs.Moments.{runs_first, runs_keep}
use Rattle.o2_disk.proofs.sector.put_sector.Goals as goal

pub returns-in_err-write-clause-either : goal.returns-in_err-write-clause-either
returns-in_err-write-clause-either g c I told =
    let fits = g.met.D.Disk.has_sectors c.args.disk.now I told in
    let after = c.write.ensures.torn I told in
    (after.0, after.1, torn_one c.args.at c.args.bytes.now I after.0 (omega arith) (omega (arith, fits, c.requires.range.within)) after.2)

pub returns-in_err-write-clause-any_moment : goal.returns-in_err-write-clause-any_moment
returns-in_err-write-clause-any_moment g c I settled =
    let fits = g.met.D.Disk.has_sectors c.args.disk.now I settled.content in
    let first = runs_first (Torn c.args.at c.args.bytes.now) I (g.met.D.Disk.only_now c.args.disk.now) settled.only c.write.ensures.crash c.write.ensures.time (inl refl) (λ X torn. torn_one c.args.at c.args.bytes.now I X (omega arith) (omega (arith, fits, c.requires.range.within)) torn) in
    first.so_far

pub returns-clause-any_moment : goal.returns-clause-any_moment
returns-clause-any_moment g c I settled =
    let fits = g.met.D.Disk.has_sectors c.args.disk.now I settled.content in
    let first = runs_first (Torn c.args.at c.args.bytes.now) I (g.met.D.Disk.only_now c.args.disk.now) settled.only c.write.ensures.crash c.write.ensures.time (inl refl) (λ X torn. torn_one c.args.at c.args.bytes.now I X (omega arith) (omega (arith, fits, c.requires.range.within)) torn) in
    (runs_keep first c.sync.ensures.same c.sync.ensures.time).so_far
