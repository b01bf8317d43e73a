use Rattle.std.proofs.Common.{rules}
use Rattle.sgf_properties.proofs.scan.letters_end.Goals as goal

pub returns-else-is_ascii_alphabetic : goal.returns-else-is_ascii_alphabetic
returns-else-is_ascii_alphabetic c = search rules
