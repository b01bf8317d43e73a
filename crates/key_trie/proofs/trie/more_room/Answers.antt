use Rattle.std.proofs.Common.{rules}
use Rattle.key_trie.proofs.trie.more_room.Goals as goal

-- only there for speed
pub returns-then-room-ge-MOST : goal.returns-then-room-ge-MOST
returns-then-room-ge-MOST c = search rules
