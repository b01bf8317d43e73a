-- What properties hold, gathered one after the other.
use Rattle.judged_lines.proofs.Common.{◌≡◌, ◌<◌, ℕ, Bor, Bool, Option, Some, None, List, [], ◌∷◌, ◌++◌, map, length, All, refl, sym, ap, subst, ◌∙◌, append_assoc, arith, append-nil, length-append, rules, option_map, option_and_then, option_copied, codes, flat_map, cases_Bool, false_from_ne_true, common_steps, flat_map-append, map-append, All-nil, All-head, All-tail, NextNode, IsTakenOff, Property, Node, values, lone_property, told_property, IsRectOn, rect_value, SetupOp, Colour, Several, moves_in, moves_by, stones_in, stones_of, players_in, first_value, player_value, operations, last_player, kind_of, AreMoves, IsSetup, setup_with, AddsRectangles, HoldsAlone, IsGathered, ComesAs, option_or, Move, Stones, find-append}
use Rattle.std.specs.Prelude.{IfSome, IsSome}
use Rattle.std.specs.Bool.{then_some}
use Rattle.std.proofs.lemmas.Slice.Eq.{bytes_eq-Decides}
use Rattle.sgf_outline.specs.declared.traversal.NextNode.TheVariants.{Led, Empty as EmptyNode, Unread}
use Rattle.sgf_outline.specs.Lead.{IsLedBy}
use Rattle.board_stones.specs.declared.stones.Cell.{Cell}
use Rattle.board_points.specs.declared.points.Rect.{Rect}
use Rattle.judged_lines.specs.declared.judging.contents.Moves.{Moves}
use Rattle.judged_lines.specs.declared.judging.contents.Setup.{Setup}
use Rattle.judged_lines.specs.declared.judging.contents.Contents.{Contents}
use Rattle.judged_lines.specs.declared.judging.contents.Kind.{Kind}
use Rattle.judged_lines.specs.declared.judging.contents.Kind.TheVariants.{Move as move_kind, Stones as stones_kind, Player as player_kind, Comment as comment_kind}

-- all of two lists, if each is there
abbrev pub both : Option (List SetupOp) → Option (List SetupOp) → Option (List SetupOp)
both a b = option_and_then (λ xs. option_map (λ ys. xs ++ ys) b) a

pub operations-append : (side : ℕ) (ss ts : List Stones) → operations (ss ++ ts) side ≡ both (operations ss side) (operations ts side)
operations-append side [] ts = search rules
operations-append side (s ∷ ss) ts = search (rules, (operations-append side ss ts))

both_none : (a : Option (List SetupOp)) → both a None ≡ None
both_none a = search rules

pub last_player-append : (before : Option Colour) (rs qs : List (List ℕ)) → last_player before (rs ++ qs) ≡ option_and_then (λ b. last_player b qs) (last_player before rs)
last_player-append before [] qs = refl
last_player-append before (r ∷ rs) qs = each (λ k. last_player-append (Some k) rs qs) (player_value r)
  where
    each : ((k : Colour) → last_player (Some k) (rs ++ qs) ≡ option_and_then (λ b. last_player b qs) (last_player (Some k) rs))
        → (o : Option Colour) → option_and_then (λ k. last_player (Some k) (rs ++ qs)) o ≡ option_and_then (λ b. last_player b qs) (option_and_then (λ k. last_player (Some k) rs) o)
    each h None = refl
    each h (Some k) = h k

-- values that are rectangles of the board, and one more or one that is none
pub rectangles_more : (side : ℕ) (cell : Cell) (front : List (List ℕ)) (raw : List ℕ) (area : Rect) (ops : List SetupOp)
    → operations (map (λ r. record { cell = cell; raw = r }) front) side ≡ Some ops → rect_value raw side ≡ Some area
    → operations (map (λ r. record { cell = cell; raw = r }) (front ++ raw ∷ [])) side ≡ Some (ops ++ record { cell = cell; area = area } ∷ [])
rectangles_more side cell front raw area ops are is = grind (arith, common_steps, map-append, operations-append)

pub rectangles_stop : (side : ℕ) (cell : Cell) (front : List (List ℕ)) (raw : List ℕ) (left all : List (List ℕ)) → front ++ raw ∷ left ≡ all → rect_value raw side ≡ None
    → operations (map (λ r. record { cell = cell; raw = r }) all) side ≡ None
rectangles_stop side cell front raw left all whole is = grind (arith, common_steps, both_none, map-append, operations-append)

-- one value of a player later
pub later_player : (last : Colour) (raw : List ℕ) (left all : List (List ℕ)) (o : Option Colour) → all ≡ raw ∷ left → o ≡ player_value raw
    → last_player (Some last) all ≡ option_and_then (λ k. last_player (Some k) left) o
later_player last raw left all o e is = ap (last_player (Some last)) e ∙ ap (option_and_then (λ k. last_player (Some k) left)) (sym is)

-- stones more
module _ (side : ℕ) (ops new : List SetupOp) (stones more : List Stones) (players : List (List ℕ)) (some : 0 < length more) where
  pub more_stones : (setup : Setup) (good : Bool) → IsSetup side setup ops stones players → AddsRectangles side more ops new good → IsSetup side (setup_with setup (then_some good None)) new (stones ++ more) players
  more_stones setup good known known2 = search (rules, length-append, operations-append, both_none)

-- players more
module _ (side : ℕ) (ops : List SetupOp) (stones : List Stones) (players more : List (List ℕ)) (some : 0 < length more) where
  pub more_players : (setup : Setup) (last : Option (Option Colour)) → IsSetup side setup ops stones players → ((before : Option Colour) → last_player before more ≡ last) → IfSome last IsSome
      → IsSetup side (setup_with setup last) ops stones (players ++ more)
  more_players setup last known known2 some_last = search (rules, last_player-append, length-append)

-- what a property holds
record Held : Type 0 where
  moves : List Move
  stones : List Stones
  players : List (List ℕ)
  comment : Option (List ℕ)

abbrev nothing : Held
nothing = record { moves = []; stones = []; players = []; comment = None }

abbrev held : Property → Held
held p = record { moves = moves_in p; stones = stones_in p; players = players_in p; comment = first_value (codes "C") (p ∷ []) }

-- by its kind
abbrev held_by : Option Kind → Property → Held
held_by None p = nothing
held_by (Some (move_kind k)) p = record nothing { moves = moves_by k p }
held_by (Some (stones_kind cell)) p = record nothing { stones = stones_of cell p }
held_by (Some player_kind) p = record nothing { players = values p }
held_by (Some comment_kind) p = record nothing { comment = Some p.first }

by_name : (name first : List ℕ) (more : List (List ℕ)) → let p : Property = record { name = name; first = first; more = more } in held p ≡ held_by (kind_of p) p
by_name name first more = search (rules, cases_Bool, bytes_eq-Decides)

one_more : {A : Type 0} (f : Property → List A) (ps : List Property) (p : Property) (xs : List A) → f p ≡ xs → flat_map f (ps ++ p ∷ []) ≡ flat_map f ps ++ xs
one_more f ps p xs is = flat_map-append f ps (p ∷ []) ∙ ap (λ t. flat_map f ps ++ t) (append-nil (f p) ∙ is)

no_comment : (o : Option (List ℕ)) → o ≡ option_or o None
no_comment o = search rules

first_is : (o : Option (Bor (List ℕ))) (first : Bor (List ℕ)) → option_copied (option_or o (Some first)) ≡ option_or (option_copied o) (Some first.now)
first_is o first = search rules

-- what properties hold, and one more
module _ (side : ℕ) (ps : List Property) (ops : List SetupOp) (old : Contents) (h : IsGathered side ps ops old) (p : Property) where
  gathered_more : (k : Option Kind) (new_ops : List SetupOp) (new : Contents) → kind_of p ≡ k → AreMoves new.moves (flat_map moves_in ps ++ (held_by k p).moves)
      → IsSetup side new.setup new_ops (flat_map stones_in ps ++ (held_by k p).stones) (flat_map players_in ps ++ (held_by k p).players)
      → option_copied new.comment ≡ option_or (option_copied old.comment) (held_by k p).comment → All (λ (op : SetupOp). IsRectOn side op.area) new_ops
      → IsGathered side (ps ++ p ∷ []) new_ops new
  gathered_more k new_ops new is moves setup comment on_board = search (rules, by_name, find-append, one_more)

  -- the moves and the setup as they were
  moves_stay : AreMoves old.moves (flat_map moves_in ps ++ [])
  moves_stay = rw (append-nil (flat_map moves_in ps)) h.moves_are

  setup_stays : IsSetup side old.setup ops (flat_map stones_in ps ++ []) (flat_map players_in ps ++ [])
  setup_stays = rw (append-nil (flat_map stones_in ps), append-nil (flat_map players_in ps)) h.setup_is

  pub gathered_moves : (k : Colour) (moves : Moves) → kind_of p ≡ Some (move_kind k) → AreMoves moves (flat_map moves_in ps ++ moves_by k p) → IsGathered side (ps ++ p ∷ []) ops (record old { moves = moves })
  gathered_moves k moves is are = gathered_more (Some (move_kind k)) ops (record old { moves = moves }) is are setup_stays (no_comment (option_copied old.comment)) h.on_board

  pub gathered_stones : (cell : Cell) (new_ops : List SetupOp) (good : Bool) → kind_of p ≡ Some (stones_kind cell) → AddsRectangles side (stones_of cell p) ops new_ops good
      → IsGathered side (ps ++ p ∷ []) new_ops (record old { setup = setup_with old.setup (then_some good None) })
  gathered_stones cell new_ops good is adds =
      gathered_more (Some (stones_kind cell)) new_ops (record old { setup = setup_with old.setup (then_some good None) }) is moves_stay
      (rw (append-nil (flat_map players_in ps)) (more_stones side ops new_ops (flat_map stones_in ps) (stones_of cell p) (flat_map players_in ps) (omega arith) old.setup good h.setup_is adds))
      (no_comment (option_copied old.comment)) (adds.on_board h.on_board)

  pub gathered_players : (last : Option (Option Colour)) → kind_of p ≡ Some player_kind → ((before : Option Colour) → last_player before (values p) ≡ last) → IfSome last IsSome
      → IsGathered side (ps ++ p ∷ []) ops (record old { setup = setup_with old.setup last })
  gathered_players last is told some =
      gathered_more (Some player_kind) ops (record old { setup = setup_with old.setup last }) is moves_stay
      (rw (append-nil (flat_map stones_in ps)) (more_players side ops (flat_map stones_in ps) (flat_map players_in ps) (values p) (omega arith) old.setup last h.setup_is told some))
      (no_comment (option_copied old.comment)) h.on_board

  pub gathered_comment : (first : Bor (List ℕ)) → kind_of p ≡ Some comment_kind → p.first ≡ first.now → IsGathered side (ps ++ p ∷ []) ops (record old { comment = option_or old.comment (Some first) })
  gathered_comment first is value =
      gathered_more (Some comment_kind) ops (record old { comment = option_or old.comment (Some first) }) is moves_stay setup_stays
      (first_is old.comment first ∙ ap (λ v. option_or (option_copied old.comment) (Some v)) (sym value)) h.on_board

  pub gathered_nothing : kind_of p ≡ None → IsGathered side (ps ++ p ∷ []) ops old
  gathered_nothing is = gathered_more None ops old is moves_stay setup_stays (no_comment (option_copied old.comment)) h.on_board

-- a move after others, or before others
pub two_at_least : (ms : List Move) (m : Move) (rest : List Move) → (ms ≡ [] → (l : Move) × (more : List Move) × (rest ≡ l ∷ more)) → AreMoves Several (ms ++ m ∷ rest)
two_at_least [] m rest h = let r = h refl in (m, r.0, r.1, ap (λ t. m ∷ t) r.2)
two_at_least (a ∷ []) m rest h = (a, m, rest, refl)
two_at_least (a ∷ b ∷ more) m rest h = (a, b, more ++ m ∷ rest, refl)

pub values_two : (k : Colour) (ms : List Move) (p : Property) (raw : List ℕ) (left : List (List ℕ)) → p.more ≡ raw ∷ left → ms ≡ [] → AreMoves Several (ms ++ moves_by k p)
values_two k ms p raw left is none =
    let mk : List ℕ → Move = λ raw. record { player = k; raw = raw } in
    two_at_least ms (mk p.first) (map mk p.more) (λ e. (mk raw, map mk left, ap (map mk) is))

-- properties that hold nothing, after others
pub gathered_others : (side : ℕ) (ps rest : List Property) (contents : Contents) → IsGathered side ps [] contents → All (λ (p : Property). kind_of p ≡ None) rest → IsGathered side (ps ++ rest) [] contents
gathered_others side ps [] contents h none = subst (λ qs. IsGathered side qs [] contents) (sym (append-nil ps)) h
gathered_others side ps (p ∷ rest) contents h none = grind (arith, common_steps, All-head, All-tail, append_assoc, gathered_others side (ps ++ p ∷ []) rest contents (gathered_nothing side ps [] contents h p (All-head (λ (p : Property). kind_of p ≡ None) p rest none)) (All-tail (λ (p : Property). kind_of p ≡ None) p rest none))

pub gathered_alone : (side : ℕ) (first : Property) (properties : List Property) (contents : Contents) → IsGathered side (first ∷ []) [] contents → HoldsAlone first properties → IsGathered side properties [] contents
gathered_alone side first properties contents h alone = grind (arith, common_steps, gathered_others side (first ∷ []) alone.rest contents h alone.nothing)

-- the names of setup properties
abbrev pub setup_names : List (List ℕ)
setup_names = codes "AB" ∷ codes "AW" ∷ codes "AE" ∷ codes "PL" ∷ []

led_alone : (first : Property) (properties : List Property) → IsLedBy setup_names first properties → HoldsAlone first properties
led_alone first properties led = search (rules, bytes_eq-Decides, false_from_ne_true)

-- a node that was taken off
pub comes : (node : Node) (left : List Property) (next : NextNode) → IsTakenOff setup_names node left next → ComesAs node left next
comes node left next is = grind (arith, common_steps, led_alone)

-- there is a node that comes so
pub coming : (left : List Property) (next : NextNode) → (node : Node) × ComesAs node left next
coming left (Led place letter value) =
    let lone : Property = lone_property letter value.now in
    (record { place = place; properties = lone ∷ [] }, (refl, record { rest = []; all = refl; nothing = All-nil (λ (p : Property). kind_of p ≡ None) }))
coming left (EmptyNode place) = (record { place = place; properties = [] }, (refl, refl))
coming left (Unread place front) = (record { place = place; properties = told_property front ++ left }, (refl, refl))
