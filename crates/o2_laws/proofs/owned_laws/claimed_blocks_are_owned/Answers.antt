use Rattle.o2_laws.proofs.Held.LastingClaims.{structures_claim, inodes_claim, claimed_owned}
use Rattle.o2_laws.proofs.owned_laws.claimed_blocks_are_owned.Goals as goal

pub returns-clause-structures : goal.returns-clause-structures
returns-clause-structures c = structures_claim

pub returns-clause-inodes : goal.returns-clause-inodes
returns-clause-inodes c = inodes_claim

pub returns-clause-owned : goal.returns-clause-owned
returns-clause-owned c = claimed_owned
