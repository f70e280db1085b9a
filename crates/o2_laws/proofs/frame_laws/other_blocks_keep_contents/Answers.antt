use Rattle.o2_laws.proofs.SameContents.{bytes_same, content_same, file_same}
use Rattle.o2_laws.proofs.frame_laws.other_blocks_keep_contents.Goals as goal

pub returns-clause-bytes : goal.returns-clause-bytes
returns-clause-bytes c = bytes_same

pub returns-clause-content : goal.returns-clause-content
returns-clause-content c = content_same

pub returns-clause-file : goal.returns-clause-file
returns-clause-file c = file_same
