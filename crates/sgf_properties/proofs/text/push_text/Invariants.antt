use Rattle.sgf_properties.proofs.Common.{◌≡◌, ◌+◌, ◌≤◌, ◌++◌, length, vec_len, vec_capacity, text_of}
use Rattle.sgf_properties.proofs.text.push_text.Given as goal

-- what is appended so far and the text of the rest are the whole text, and there is room for the rest
abbrev pub invariant-loop-rest : goal.invariant-loop-rest
invariant-loop-rest l = record {
  so_far : l.out.items ++ text_of l.rest ≡ l.initial.out.items ++ text_of l.raw;
  room : vec_len l.out + length l.rest ≤ vec_capacity l.out;
}

abbrev pub decreases-loop-rest : goal.decreases-loop-rest
decreases-loop-rest l = length l.rest
