-- The sgf output of a collection is itself a text of the grammar, with the same sgf output and the same verdicts.
use Rattle.sgf_lines.proofs.Common.{AllZip, common_steps, WhiteSpace, no_white_space, white_space, Letters, no_letter, upper, lower, IsPropValue, prop_value, ArePropValues, no_value, value, IsProperty, property, AreProperties, no_property, properties, IsNode, node, AreNodes, no_node, nodes, AreGames, no_game, games, no_byte_order_mark, Spells, spells, Property, Node, Games, no_games, game, Line, through, node_lines, lines_from, lines, Reason, State, starting, GameKind, not_go, bad_size, board, moves_in, stones_in, players_in, step_by, step, score_in, verdict_with, verdict_at, verdict_by, verdict_of, LegalNode, IllegalNode, Walk, stepped, next, walk, Options, page, value_text, property_text, node_text, sgf_record, output, HaveSame, SaysSame, scored, illegal_at, another_game, another_size, IsKept, ◌≡◌, ℕ, suc, ◌+◌, List, [], ◌∷◌, ◌++◌, fold, slice_get, Some, None, Result, Ok, Err, refl, sym, ap, ◌∙◌, subst, ◌≢◌, length, map, arith, append_assoc, length-append, rules, flat_map, Each, each_append, each_parts, each_map, each_through}
use Rattle.judged_lines.specs.declared.verdict.Verdict.TheVariants.{Illegal}
use Rattle.judged_lines.proofs.Walking.{after_illegal}
use Rattle.sgf_properties.specs.RawValue.{IsValue, no_unit, ordinary, escaped}
use Rattle.sgf_lines.specs.declared.options.Form.TheVariants.{Sgf as sgf_form}
use Rattle.sgf_lines.proofs.Pages.{on_page}

-- two walks end in the same state, and met no illegal node, or one at the same index for the same reason
data Alike (w v : Walk) (nodes others : List Node) : Type 0 where
  legal : w.state ≡ v.state → w.illegal ≡ None → v.illegal ≡ None → Alike w v nodes others
  met : (index : ℕ) (node other : Node) (reason : Reason) → slice_get nodes index ≡ Some node → slice_get others index ≡ Some other
      → w.state ≡ v.state → w.illegal ≡ Some (record { node = node; reason = reason }) → v.illegal ≡ Some (record { node = other; reason = reason })
      → Alike w v nodes others

later : (w v : Walk) (n m : Node) (ns ms : List Node) → Alike w v ns ms → Alike w v (n ∷ ns) (m ∷ ms)
later w v n m ns ms (legal s e f) = legal s e f
later w v n m ns ms (met index one other reason a b s e f) = met (suc index) one other reason a b s e f

step_same : (s : State) (n m : Node) → HaveSame n m → step s n ≡ step s m
step_same s n m e = ap (λ (ps : List Property). step_by s (flat_map moves_in ps) (flat_map stones_in ps) (flat_map players_in ps)) e

-- a walk that has met no illegal node
abbrev going : List LegalNode → State → Walk
going taken state = record { taken = taken; state = state; illegal = None }

step_alike : (ts us : List LegalNode) (s : State) (n m : Node) (ns ms : List Node) (a b : Result State Reason) → a ≡ b
    → ((ts us : List LegalNode) (t : State) → Alike (fold next (going ts t) ns) (fold next (going us t) ms) ns ms)
    → Alike (fold next (stepped (going ts s) n a) ns) (fold next (stepped (going us s) m b) ms) (n ∷ ns) (m ∷ ms)
step_alike ts us s n m ns ms (Ok t) (Ok u) e goes = let same : t ≡ u = cc in rw (← same) (later _ _ n m ns ms (goes _ _ t))
step_alike ts us s n m ns ms (Err r) (Err q) e goes =
    let same : r ≡ q = cc in
    let one : IllegalNode = record { node = n; reason = r } in
    let two : IllegalNode = record { node = m; reason = r } in
    let w : Walk = record { taken = ts; state = s; illegal = Some one } in
    let v : Walk = record { taken = us; state = s; illegal = Some two } in
    rw (← same, after_illegal w one ns refl, after_illegal v two ms refl) (met 0 n m r refl refl refl refl refl)
step_alike ts us s n m ns ms (Ok t) (Err q) e goes = absurd cc
step_alike ts us s n m ns ms (Err r) (Ok u) e goes = absurd cc

alike : (ns ms : List Node) → AllZip HaveSame ns ms → (ts us : List LegalNode) (s : State) → Alike (fold next (going ts s) ns) (fold next (going us s) ms) ns ms
alike [] [] h ts us s = legal refl refl refl
alike [] (m ∷ ms) h ts us s = absurd h
alike (n ∷ ns) [] h ts us s = absurd h
alike (n ∷ ns) (m ∷ ms) h ts us s = step_alike ts us s n m ns ms (step s n) (step s m) (step_same s n m h.0) (alike ns ms h.1)

walks_say : (w v : Walk) (ns ms : List Node) → Alike w v ns ms → SaysSame ns ms (verdict_at w) (verdict_at v)
walks_say w v ns ms (legal s e f) = rw (e, f, s) scored
walks_say w v ns ms (met index own other reason a b s e f) = rw (e, f, s) (illegal_at index a b)

says_by : (kind : GameKind) (ns ms : List Node) → AllZip HaveSame ns ms → SaysSame ns ms (verdict_by kind ns) (verdict_by kind ms)
says_by not_go ns ms h = another_game
says_by bad_size ns ms h = another_size
says_by (board side) ns ms h = walks_say (walk side ns) (walk side ms) ns ms (alike ns ms h [] [] (starting side))

pub says_same : (ns ms : List Node) → AllZip HaveSame ns ms → SaysSame ns ms (verdict_of ns) (verdict_of ms)
says_same ns ms h = grind (arith, common_steps, says_by)

-- ---- What is spelled somewhere is spelled by its text, whatever follows.

letters_again : {name s r : List ℕ} → Letters name s r → (u : List ℕ) → Letters name (name ++ u) u
letters_again no_letter u = no_letter
letters_again (upper h l) u = upper h (letters_again l u)
letters_again (lower h l) u = letters_again l u

value_again : {v s r : List ℕ} → IsValue v s r → (u : List ℕ) → IsValue v (v ++ u) u
value_again no_unit u = no_unit
value_again (ordinary h k v) u = ordinary h k (value_again v u)
value_again (escaped v) u = escaped (value_again v u)

prop_value_again : {v s r : List ℕ} → IsPropValue v s r → (u : List ℕ) → IsPropValue v (value_text v ++ u) u
prop_value_again {v} (prop_value w h) u =
    let one : IsPropValue v (91 ∷ (v ++ (93 ∷ u))) u = prop_value no_white_space (value_again h (93 ∷ u)) in
    rw (append_assoc v (93 ∷ []) u) one

prop_values_again : {vs : List (List ℕ)} {s r : List ℕ} → ArePropValues vs s r → (u : List ℕ) → ArePropValues vs (flat_map value_text vs ++ u) u
prop_values_again no_value u = no_value
prop_values_again {vs = v ∷ vs} (value h hs) u =
    rw (append_assoc (value_text v) (flat_map value_text vs) u) (value (prop_value_again h (flat_map value_text vs ++ u)) (prop_values_again hs u))

property_again : {p : Property} {s r : List ℕ} → IsProperty p s r → (u : List ℕ) → IsProperty p (property_text p ++ u) u
property_again (property {b = b} {name = name} {v = v} {vs = vs} w h l first more) u =
    let rest = flat_map value_text vs ++ u in
    let all : IsProperty (record { name = b ∷ name; first = v; more = vs }) (b ∷ (name ++ (value_text v ++ rest))) u =
    property no_white_space h (letters_again l (value_text v ++ rest)) (prop_value_again first rest) (prop_values_again more u) in
    grind (arith, common_steps, append_assoc)

properties_again : {ps : List Property} {s r : List ℕ} → AreProperties ps s r → (u : List ℕ) → AreProperties ps (flat_map property_text ps ++ u) u
properties_again no_property u = no_property
properties_again {ps = p ∷ ps} (properties h hs) u =
    rw (append_assoc (property_text p) (flat_map property_text ps) u) (properties (property_again h (flat_map property_text ps ++ u)) (properties_again hs u))

-- ---- Each node on a line of games that are spelled has properties that are spelled.

-- the properties of a node are spelled somewhere
abbrev IsSpelled : Node → Type 0
IsSpelled n = (s r : List ℕ) × AreProperties n.properties s r

-- a line that has a node, and nodes whose properties are spelled
abbrev IsSpelledLine : List Node → Type 0
IsSpelledLine ns = (ns ≢ []) × Each IsSpelled ns

node_spelled : {whole : ℕ} {n : Node} {s r : List ℕ} → IsNode whole n s r → IsSpelled n
node_spelled (node {t = t} {r = r} w e ps) = (t, r, ps)

nodes_spelled : {whole : ℕ} {ns : List Node} {s r : List ℕ} → AreNodes whole ns s r → Each IsSpelled ns
nodes_spelled no_node = tt
nodes_spelled (nodes n ns) = (node_spelled n, nodes_spelled ns)

lines_spelled : {whole : ℕ} {g : Games} {s r : List ℕ} → AreGames whole g s r → Each IsSpelledLine (node_lines g)
lines_spelled no_game = tt
lines_spelled (games {first = first} {more = more} {below = below} {after = after} w n ns g v h) =
    let own : Each IsSpelled (first ∷ more) = (node_spelled n, nodes_spelled ns) in
    each_append IsSpelledLine (through (first ∷ more) (node_lines below)) (node_lines after)
    (each_through IsSpelledLine IsSpelledLine (first ∷ more) (node_lines below) (λ none. ((λ e. cc), own))
    (λ l spelled. ((λ e. cc), each_append IsSpelled (first ∷ more) l own spelled.1)) (lines_spelled g))
    (lines_spelled h)

-- ---- The collection that the records of lines spell: a game of one line for each, with the places in their text.

abbrev all_moved : ℕ → List Node → List Node
all_moved at [] = []
all_moved at (n ∷ ns) = record { place = at; properties = n.properties } ∷ all_moved (at + length (node_text n)) ns

abbrev single_games : ℕ → List (List Node) → Games
single_games at [] = no_games
single_games at ([] ∷ ls) = no_games
single_games at ((n ∷ ns) ∷ ls) =
    game (record { place = at + 1; properties = n.properties }) (all_moved (at + 1 + length (node_text n)) ns) no_games
    (single_games (at + length (sgf_record (n ∷ ns))) ls)

node_again : {whole : ℕ} (at : ℕ) (n : Node) (u : List ℕ) → IsSpelled n → at + length (node_text n ++ u) ≡ whole
    → IsNode whole (record { place = at; properties = n.properties }) (node_text n ++ u) u
node_again at n u h e = node no_white_space e (properties_again h.2 u)

nodes_again : {whole : ℕ} (at : ℕ) (ns : List Node) (u : List ℕ) → Each IsSpelled ns → at + length (flat_map node_text ns ++ u) ≡ whole
    → AreNodes whole (all_moved at ns) (flat_map node_text ns ++ u) u
nodes_again at [] u h e = no_node
nodes_again {whole} at (n ∷ ns) u h e =
    let rest = flat_map node_text ns ++ u in
    let joined = append_assoc (node_text n) (flat_map node_text ns) u in
    let here : at + length (node_text n ++ rest) ≡ whole = ap (λ t. at + length t) (sym joined) ∙ e in
    let sums = length-append (node_text n) rest in
    rw joined (nodes (node_again at n rest h.0 here) (nodes_again (at + length (node_text n)) ns u h.1 (omega arith)))

line_again : {whole : ℕ} (at : ℕ) (n : Node) (ns : List Node) (ls : List (List Node)) (u w : List ℕ) → Each IsSpelled (n ∷ ns)
    → WhiteSpace w (sgf_record (n ∷ ns) ++ u) → at + length (sgf_record (n ∷ ns) ++ u) ≡ whole
    → AreGames whole (single_games (at + length (sgf_record (n ∷ ns))) ls) (10 ∷ u) (10 ∷ [])
    → AreGames whole (single_games at ((n ∷ ns) ∷ ls)) w (10 ∷ [])
line_again {whole} at n ns ls u w h opens e others =
    let tail = 41 ∷ 10 ∷ u in
    let texts = flat_map node_text ns in
    let split : sgf_record (n ∷ ns) ++ u ≡ 40 ∷ (node_text n ++ (texts ++ tail)) =
    ap (λ t. 40 ∷ t) (append_assoc (node_text n ++ texts) (41 ∷ 10 ∷ []) u ∙ append_assoc (node_text n) texts tail) in
    let game_kind : WhiteSpace w (40 ∷ (node_text n ++ (texts ++ tail))) = rw split at opens in
    let sizes : at + length (40 ∷ (node_text n ++ (texts ++ tail))) ≡ whole = ap (λ t. at + length t) (sym split) ∙ e in
    let sums = length-append (node_text n) (texts ++ tail) in
    games game_kind (node_again (at + 1) n (texts ++ tail) h.0 (omega arith))
    (nodes_again (at + 1 + length (node_text n)) ns tail h.1 (omega arith)) no_game no_white_space others

-- after a line feed, or at the beginning, records of lines spell their games
lines_again : {whole : ℕ} (at : ℕ) (ls : List (List Node)) → Each IsSpelledLine ls → at + length (flat_map sgf_record ls) ≡ whole
    → AreGames whole (single_games at ls) (10 ∷ flat_map sgf_record ls) (10 ∷ [])
lines_again at [] h e = no_game
lines_again at ([] ∷ ls) h e = absurd (h.0.0 refl)
lines_again at ((n ∷ ns) ∷ ls) h e =
    let u = flat_map sgf_record ls in
    let sums = length-append (sgf_record (n ∷ ns)) u in
    line_again at n ns ls u (10 ∷ (sgf_record (n ∷ ns) ++ u)) h.0.1 (white_space refl no_white_space) e
    (lines_again (at + length (sgf_record (n ∷ ns))) ls h.1 (omega arith))

spells_again : (n : Node) (ns : List Node) (ls : List (List Node)) → Each IsSpelledLine ((n ∷ ns) ∷ ls)
    → Spells (single_games 0 ((n ∷ ns) ∷ ls)) (flat_map sgf_record ((n ∷ ns) ∷ ls))
spells_again n ns ls h =
    let u = flat_map sgf_record ls in
    let sums = length-append (sgf_record (n ∷ ns)) u in
    spells no_byte_order_mark (line_again 0 n ns ls u (sgf_record (n ∷ ns) ++ u) h.0.1 no_white_space (omega arith)
    (lines_again (0 + length (sgf_record (n ∷ ns))) ls h.1 (omega arith))) (white_space refl no_white_space)

-- ---- Its records are the same.

nodes_same : (at : ℕ) (ns : List Node) → flat_map node_text (all_moved at ns) ≡ flat_map node_text ns
nodes_same at [] = refl
nodes_same at (n ∷ ns) = ap (λ t. node_text n ++ t) (nodes_same (at + length (node_text n)) ns)

-- ---- The lines of a page, and what they became.

abbrev nodes_of : List Line → List (List Node)
nodes_of ls = map (λ line. line.nodes) ls

-- each line of a collection that is spelled is spelled
each_line : (number : ℕ) (g : Games) → Each IsSpelledLine (node_lines g) → Each (λ line. IsSpelledLine line.nodes) (lines_from number g)
each_line number no_games h = tt
each_line number (game first more below after) h =
    let own = through (first ∷ more) (node_lines below) in
    let parts = each_parts IsSpelledLine own (node_lines after) h in
    search (rules, each_append, each_map, (each_line (number + 1) after parts.1))

-- and so is each line of a page
page_spelled : (c : Games) (t : List ℕ) → Spells c t → (o : Options) (asked : List Line) → page o c ≡ Some asked → Each IsSpelledLine (nodes_of asked)
page_spelled c t (spells {first} {more} {below} {after} m g w) o asked e =
    let all = each_line 1 (game first more below after) (lines_spelled g) in
    let within = on_page c o asked e in
    let rest = each_parts (λ line. IsSpelledLine line.nodes) within.0 (asked ++ within.1) (subst (Each (λ line. IsSpelledLine line.nodes)) within.2 all) in
    let mine = each_parts (λ line. IsSpelledLine line.nodes) asked within.1 rest.1 in
    each_map IsSpelledLine (λ line. line.nodes) asked mine.0

records_of : (ls : List Line) → flat_map sgf_record (nodes_of ls) ≡ output sgf_form ls
records_of [] = refl
records_of (line ∷ ls) = ap (λ t. sgf_record line.nodes ++ t) (records_of ls)

-- ---- The lines of single games.

moved_same : (at : ℕ) (ns : List Node) → AllZip HaveSame ns (all_moved at ns)
moved_same at [] = tt
moved_same at (n ∷ ns) = (refl, moved_same (at + length (node_text n)) ns)

record AreSingle (asked : List Line) (others : List Line) : Type 0 where
  texts : output sgf_form others ≡ flat_map sgf_record (nodes_of asked)
  kept : AllZip IsKept asked others

single_lines : (at number : ℕ) (asked : List Line) (ls : List (List Node)) → nodes_of asked ≡ ls → Each IsSpelledLine ls
    → AreSingle asked (lines_from number (single_games at ls))
single_lines at number [] [] e h = record { texts = refl; kept = tt }
single_lines at number [] (l ∷ ls) e h = absurd cc
single_lines at number (line ∷ asked) [] e h = absurd cc
single_lines at number (line ∷ asked) ([] ∷ ls) e h = absurd (h.0.0 refl)
single_lines at number (line ∷ asked) ((n ∷ ns) ∷ ls) e h =
    let here : line.nodes ≡ n ∷ ns = cc in
    let others : nodes_of asked ≡ ls = cc in
    let rest = single_lines (at + length (sgf_record (n ∷ ns))) (number + 1) asked ls others h.1 in
    let moved = all_moved (at + 1 + length (node_text n)) ns in
    let first : Node = record { place = at + 1; properties = n.properties } in
    let same : AllZip HaveSame line.nodes (first ∷ moved) =
    subst (λ l. AllZip HaveSame l (first ∷ moved)) (sym here) (refl, moved_same (at + 1 + length (node_text n)) ns) in
    let text : sgf_record (first ∷ moved) ≡ sgf_record line.nodes =
    ap (λ t. 40 ∷ ((node_text n ++ t) ++ (41 ∷ 10 ∷ []))) (nodes_same (at + 1 + length (node_text n)) ns) ∙ ap sgf_record (sym here) in
    grind (arith, common_steps, says_same line.nodes (first ∷ moved) same)

-- the sgf output of lines is spelled by a collection with that output, whose lines are these
pub record IsSplit (asked : List Line) : Type 0 where
  pub games : Games
  pub spelled : Spells games (output sgf_form asked)
  pub texts : output sgf_form (lines games) ≡ output sgf_form asked
  pub kept : AllZip IsKept asked (lines games)

split_by : (asked : List Line) (ls : List (List Node)) → nodes_of asked ≡ ls → ls ≢ [] → Each IsSpelledLine ls → IsSplit asked
split_by asked [] e some h = absurd (some refl)
split_by asked ([] ∷ ls) e some h = absurd (h.0.0 refl)
split_by asked ((n ∷ ns) ∷ ls) e some h = grind (arith, common_steps, single_lines 0 1 asked ((n ∷ ns) ∷ ls) e h, records_of asked, spells_again n ns ls h)

some_nodes : (asked : List Line) → asked ≢ [] → nodes_of asked ≢ []
some_nodes [] some e = some refl
some_nodes (line ∷ asked) some e = cc

pub page_split : (c : Games) (t : List ℕ) → Spells c t → (o : Options) (asked : List Line) → page o c ≡ Some asked → asked ≢ [] → IsSplit asked
page_split c t h o asked e some = split_by asked (nodes_of asked) refl (some_nodes asked some) (page_spelled c t h o asked e)

pub sgf_again : (c : Games) (t : List ℕ) → Spells c t → (o : Options) (asked : List Line) → page o c ≡ Some asked → asked ≢ []
    → (d : Games) × Spells d (output sgf_form asked) × (output sgf_form (lines d) ≡ output sgf_form asked)
sgf_again c t h o asked e some = let s = page_split c t h o asked e some in (s.games, s.spelled, s.texts)

pub verdicts_kept : ((c d : Games) (t : List ℕ) → Spells c t → Spells d t → c ≡ d) → (c d : Games) (t : List ℕ) → Spells c t
    → (o : Options) (asked : List Line) → page o c ≡ Some asked → asked ≢ [] → Spells d (output sgf_form asked) → AllZip IsKept asked (lines d)
verdicts_kept one c d t h o asked e some also = grind (arith, common_steps, page_split c t h o asked e some)
