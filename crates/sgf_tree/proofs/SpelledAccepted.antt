-- What a text spells, the machine accepts; so a text spells one collection at most.
use Rattle.sgf_tree.proofs.Common.{◌≡◌, ℕ, List, [], ◌∷◌, length, Some, option_and_then, refl, sym, ◌∙◌, rules, same_Some, start, after_game, next_state, accepted, collection_of, WhiteSpace, no_white_space, white_space, games, ByteOrderMark, no_byte_order_mark, byte_order_mark, Spells, spells, Games, no_games, game, white-not_mark}
use Rattle.sgf_tree.proofs.Transitions.{no_stack}
use Rattle.sgf_tree.proofs.Reading.{read, run-whole, over-white}
use Rattle.sgf_tree.proofs.ReadingGames.{over-games}

-- where no byte order mark stands, the start is like the end of a game
from-start : (whole : ℕ) {s t : List ℕ} → WhiteSpace s (40 ∷ t) → read whole start s ≡ read whole (after_game no_stack) s
unfolding read next_state
from-start whole no_white_space = refl
from-start whole (white_space {b} h w) = rw (white-not_mark b h, h)

over-mark : (whole : ℕ) {s t u : List ℕ} → ByteOrderMark t s → WhiteSpace s (40 ∷ u) → read whole start t ≡ read whole (after_game no_stack) s
unfolding read next_state
over-mark whole no_byte_order_mark w = from-start whole w
over-mark whole byte_order_mark w = refl

-- a text that spells a collection
spelled-read : (c : Games) (t : List ℕ) → Spells c t
    → read (length t) start t ≡ Some (after_game (record { closed = c; unclosed = [] }))
unfolding read next_state
spelled-read c t (spells {first} {more} {below} {after} m (games w n ns bs last hs) end) =
    over-mark (length t) m w
    ∙ over-games (length t) no_games [] (games w n ns bs last hs)
    ∙ over-white (length t) (after_game (record no_stack { closed = game first more below after })) (λ b at h. rw h) end

pub spelled-accepted : (c : Games) (t : List ℕ) → Spells c t → collection_of t ≡ Some c
unfolding collection_of accepted
spelled-accepted c t h = search (rules, option_and_then, run-whole, spelled-read)

pub one_collection : (c d : Games) (t : List ℕ) → Spells c t → Spells d t → c ≡ d
one_collection c d t h i = same_Some c d (sym (spelled-accepted c t h) ∙ spelled-accepted d t i)
