-- What a check prints: a line for each check that fails at a block, and then the verdict.
use Rattle.std.specs.Prelude.{ℕ, zero, suc, List, ◌++◌, length, map, codes, decimal}
use Rattle.std.specs.List.{concat}
use Rattle.o2_disk.specs.Output.{SinkState, FailsLast}
use Rattle.o2_model.specs.Names.{check_name}
use Rattle.o2_model.specs.declared.check.Check.{Check}
use Rattle.o2_fsck.specs.declared.report.ReportFault.{ReportFault}
use Rattle.o2_fsck.specs.declared.report.ReportFault.TheVariants.{NoMemory, OutputFault}

-- the check, and the block at which it fails
abbrev pub pair_line : Check × ℕ → List ℕ
pair_line pair = codes "[" ++ (check_name pair.0 ++ (codes "] block " ++ (decimal pair.1 ++ codes "\n")))

-- the last line, where so many pairs fail
abbrev pub verdict_line : ℕ → List ℕ
verdict_line zero = codes "fsck: volume is consistent\n"
verdict_line (suc n) = codes "fsck: " ++ (decimal (suc n) ++ codes " checks fail\n")

-- the whole report
abbrev pub report_text : List (Check × ℕ) → List ℕ
report_text pairs = concat (map pair_line pairs) ++ verdict_line (length pairs)

-- why a report was not put to its end: memory may end before any line of it, and the output at any
abbrev pub ReportFails : SinkState → SinkState → ReportFault → Type 0
ReportFails old new NoMemory = Unit {0}
ReportFails old new OutputFault = FailsLast old new
