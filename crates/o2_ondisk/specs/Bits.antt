-- Numbers whose bits each say something.
use Rattle.std.specs.Prelude.{ℕ, Bool, not, nat_eq, bit_and}

-- one of the bits of the second number is set in the first
abbrev pub has_bits : ℕ → ℕ → Bool
has_bits value bits = not (nat_eq (bit_and value bits) 0)

-- ---- the flags of an inode
abbrev pub valid_inode_flag : ℕ
valid_inode_flag = 0x1

abbrev pub orphaned_inode_flag : ℕ
orphaned_inode_flag = 0x4

abbrev pub system_inode_flag : ℕ
system_inode_flag = 0x10

abbrev pub super_block_inode_flag : ℕ
super_block_inode_flag = 0x20

abbrev pub local_alloc_inode_flag : ℕ
local_alloc_inode_flag = 0x40

abbrev pub bitmap_inode_flag : ℕ
bitmap_inode_flag = 0x80

abbrev pub journal_inode_flag : ℕ
journal_inode_flag = 0x100

abbrev pub heartbeat_inode_flag : ℕ
heartbeat_inode_flag = 0x200

abbrev pub chain_inode_flag : ℕ
chain_inode_flag = 0x400

abbrev pub dealloc_inode_flag : ℕ
dealloc_inode_flag = 0x800

abbrev pub dio_orphaned_inode_flag : ℕ
dio_orphaned_inode_flag = 0x2000

-- ---- how an inode keeps what it holds
abbrev pub inline_data_dyn_feature : ℕ
inline_data_dyn_feature = 0x1

abbrev pub has_xattr_dyn_feature : ℕ
has_xattr_dyn_feature = 0x2

abbrev pub inline_xattr_dyn_feature : ℕ
inline_xattr_dyn_feature = 0x4

abbrev pub indexed_dir_dyn_feature : ℕ
indexed_dir_dyn_feature = 0x8

abbrev pub has_refcount_dyn_feature : ℕ
has_refcount_dyn_feature = 0x10

-- ---- the flags of a leaf record
abbrev pub unwritten_extent_flag : ℕ
unwritten_extent_flag = 0x1

abbrev pub refcounted_extent_flag : ℕ
refcounted_extent_flag = 0x2

-- ---- the flags of a journal
abbrev pub dirty_journal_flag : ℕ
dirty_journal_flag = 0x1

-- ---- the flags of other structures
-- the index's entries stand in its root, in place of a list of leaves (dr_flags)
abbrev pub inline_index_flag : ℕ
inline_index_flag = 0x1

-- the root of a refcount tree has a list of leaf blocks in place of records (rf_flags)
abbrev pub tree_refcount_flag : ℕ
tree_refcount_flag = 0x2

-- of a tag of a log: the block that it tells was escaped, no identifier stands behind the tag, it is the descriptor's last
abbrev pub escaped_tag_flag : ℕ
escaped_tag_flag = 0x1

abbrev pub same_identifier_tag_flag : ℕ
same_identifier_tag_flag = 0x2

abbrev pub last_tag_flag : ℕ
last_tag_flag = 0x8

-- ---- the features of a volume and of a journal
-- there are copies of the superblock (s_feature_compat)
abbrev pub backup_super_feature : ℕ
backup_super_feature = 0x1

-- an entry of the slot map has 8 bytes (s_feature_incompat)
abbrev pub extended_slot_map_feature : ℕ
extended_slot_map_feature = 0x100

-- a log may revoke writes, and its block numbers have 8 bytes (s_feature_incompat of a journal)
abbrev pub revoke_log_feature : ℕ
revoke_log_feature = 0x1

abbrev pub wide_log_feature : ℕ
wide_log_feature = 0x2
