-- A script that has commands leads to the colouring at the end of its line's walk.
use Rattle.sgf_lines.proofs.Common.{list_any, not-false, or_parts, nat_tests, common_steps, flat_map-append, length-map, length-replicate, list_any-append, Property, Node, Line, Point, IsOn, points, point_value, Cell, Colour, play, has_unreaching, Grid, empty_grid, with_rectangle, Reason, Stone, reason_of, State, set_up, turned, board, game_kind, root_properties, Move, moves, stones, players, first_value, side_in, turn_step, move_step, setup_step, step_by, step, LegalNode, IllegalNode, Walk, before_root, stepped, next, walk, list_row, Engine, no_board, sized, shows, refused, after_command, after_row, after_text, replayed, comment_row, comment_text, play_command, setup_commands, move_commands, node_script, legal_script, leaves_unreaching_by, leaves_unreaching, has_no_commands, board_commands, commands_by, script, ◌≡◌, ℕ, ◌*◌, ◌≤◌, List, [], ◌∷◌, ◌++◌, length, map, fold, Option, Some, None, Bool, true, false, refl, sym, ap, ◌∙◌, arith, subst, cond, append-nil, append_assoc, decimal, Result, Ok, Err, nat_lt, nat_le, ◌&&◌, flat_map, Empty, codes, Each, Stones}
use Rattle.board_points.specs.declared.vertices.TheConstants.{MAX_VERTEX_SIDE}
use Rattle.go_board.specs.declared.referee.plays.Play.{Play}
use Rattle.board_stones.specs.declared.setup_op.SetupOp.{SetupOp}
use Rattle.judged_lines.specs.NodeValues.{move_value, operations, last_player}
use Rattle.judged_lines.specs.Walk.{next_by}
use Rattle.sgf_lines.proofs.ScriptRows.{IsWithin, Carries, takes_row, takes_nothing, takes_both, takes_comment, takes_text_rows, row_within, decimal_within, within_both, size_reads}
use Rattle.sgf_lines.proofs.Placing.{BoardLaws, is_same, takes_play, takes_board}

-- ---- What the parts of a test tell.

-- an element that isn't found doesn't pass
not-found : {A : Type 0} (b : Bool) (y : A) (o : Option A) → cond b (Some y) o ≡ None → (b ≡ false) × (o ≡ None)
not-found b y o h = grind (arith, common_steps)

any_append : {A : Type 0} (p : A → Bool) (xs ys : List A) → list_any p (xs ++ ys) ≡ false → (list_any p xs ≡ false) × (list_any p ys ≡ false)
any_append p xs ys e = or_parts (list_any p xs) (list_any p ys) (sym (list_any-append p xs ys) ∙ e)

-- ---- The points that values name are on the board.

point_on : (side : ℕ) (raw : List ℕ) (p : Point) → point_value raw side ≡ Some p → IsOn side p
unfolding point_value
point_on side [] p e = absurd cc
point_on side (c ∷ []) p e = absurd cc
point_on side (c ∷ r ∷ []) p e = grind (arith, common_steps)
point_on side (c ∷ r ∷ d ∷ more) p e = absurd cc

-- ---- A node's step.

-- a grid with a cell for each point
abbrev IsFull : ℕ → Grid → Type 0
IsFull side g = (g.side ≡ side) × (length g.cells ≡ side * side)

module _ (laws : BoardLaws) (side : ℕ) (small : side ≤ 25) where
  -- a step leads to a grid with a cell for each point, and its node's commands lead there
  record StepReplayed (s t : State) (ts : List Stones) (ms : List Move) : Type 0 where
    full : IsFull side t.colouring
    middle : Engine
    set : Carries (shows s.colouring) (setup_commands t.colouring ts) middle
    moved : Carries middle (move_commands t.colouring.side ms) (shows t.colouring)

  stays : (s t : State) → IsFull side s.colouring → t.colouring ≡ s.colouring → StepReplayed s t [] []
  stays s t full e = record {
    full = subst (λ g. IsFull side g) (sym e) full;
    middle = shows s.colouring;
    set = takes_nothing (shows s.colouring);
    moved = subst (λ g. Carries (shows s.colouring) [] (shows g)) (sym e) (takes_nothing (shows s.colouring));
  }

  play_full : (g : Grid) (k : Colour) (p : Point) → IsFull side g → IsFull side (play g k p)
  unfolding play
  play_full g k p full = grind (arith, common_steps)

  setup_full : (g : Grid) (ops : List SetupOp) → IsFull side g → IsFull side (fold with_rectangle g ops)
  unfolding with_rectangle
  setup_full g [] full = full
  setup_full g (op ∷ ops) full =
      let listed : (colour : Point → Cell) → length (map colour (points g.side)) ≡ side * side =
      λ colour. length-map (points g.side) colour ∙ laws.listed g.side ∙ ap (λ n. n * n) full.0 in
      setup_full (with_rectangle g op) ops (full.0, listed _)

  set_full : (s : State) (ops : List SetupOp) (player : Option Colour) → IsFull side s.colouring → IsFull side (set_up s ops player).colouring
  set_full s [] player full = full
  set_full s (op ∷ ops) player full = setup_full s.colouring (op ∷ ops) full

  stone_on : (n : ℕ) (raw : List ℕ) (p : Point) → move_value raw n ≡ Some (Stone p) → IsOn n p
  stone_on n raw p e = grind (arith, common_steps, point_on)

  -- the command of a legal play
  plays_on : (s t : State) (k : Colour) (raw : List ℕ) (x : Play) → IsFull side s.colouring → move_value raw (side_in s) ≡ Some x → reason_of s k x ≡ None
      → t ≡ turned s k x → Carries (shows s.colouring) (play_command side k x) (shows t.colouring) × IsFull side t.colouring
  plays_on s t k raw x full value none is = grind (arith, common_steps, takes_row, stone_on, takes_play, not-found, is_same, not-false, play_full)

  turn_leads : (s t : State) (m : Move) (x : Play) (reason : Option Reason) → IsFull side s.colouring → move_value m.raw (side_in s) ≡ Some x
      → reason_of s m.player x ≡ reason → turn_step s m.player x reason ≡ Ok t → StepReplayed s t [] (m ∷ [])
  turn_leads s t m x (Some reason) full e r is = absurd cc
  turn_leads s t m x None full e r is =
      let after : t ≡ turned s m.player x = cc in
      let does = plays_on s t m.player m.raw x full e r after in
      let line : move_commands t.colouring.side (m ∷ []) ≡ play_command side m.player x =
      grind (arith, common_steps, append-nil) in
      record {
        full = does.1;
        middle = shows s.colouring;
        set = takes_nothing (shows s.colouring);
        moved = subst (λ text. Carries (shows s.colouring) text (shows t.colouring)) (sym line) does.0;
      }

  move_leads : (s t : State) (m : Move) (value : Option Play) → IsFull side s.colouring → move_value m.raw (side_in s) ≡ value
      → move_step s m.player value ≡ Ok t → StepReplayed s t [] (m ∷ [])
  move_leads s t m None full e is = absurd cc
  move_leads s t m (Some x) full e is = turn_leads s t m x (reason_of s m.player x) full e refl is

  setup_leads : (s t : State) (first : Stones) (others : List Stones) (ops : Option (List SetupOp)) (last : Option (Option Colour)) → IsFull side s.colouring
      → has_unreaching t.colouring ≡ false → setup_step s ops last ≡ Ok t → StepReplayed s t (first ∷ others) []
  setup_leads s t first others None last full settled is = absurd cc
  setup_leads s t first others (Some ops) None full settled is = absurd cc
  setup_leads s t first others (Some ops) (Some player) full settled is =
      let after : t ≡ set_up s ops player = cc in
      let now : IsFull side t.colouring = subst (λ u. IsFull side u.colouring) (sym after) (set_full s ops player full) in
      let cells : length t.colouring.cells ≡ t.colouring.side * t.colouring.side = now.1 ∙ ap (λ n. n * n) (sym now.0) in
      let low : t.colouring.side ≤ 25 = rw now.0 small in
      record {
        full = now;
        middle = shows t.colouring;
        set = takes_board laws t.colouring cells settled low s.colouring (full.0 ∙ sym now.0);
        moved = takes_nothing (shows t.colouring);
      }

  step_leads : (s t : State) (ms : List Move) (ts : List Stones) (ps : List (List ℕ)) → IsFull side s.colouring → leaves_unreaching_by t.colouring ts ≡ false
      → step_by s ms ts ps ≡ Ok t → StepReplayed s t ts ms
  step_leads s t [] [] [] full settled is = let same : s ≡ t = cc in stays s t full (ap (λ u. u.colouring) (sym same))
  step_leads s t (m ∷ ms) (first ∷ others) ps full settled is = absurd cc
  step_leads s t (m ∷ ms) [] (p ∷ ps) full settled is = absurd cc
  step_leads s t (m ∷ l ∷ ms) [] [] full settled is = absurd cc
  step_leads s t (m ∷ []) [] [] full settled is = move_leads s t m (move_value m.raw (side_in s)) full refl is
  step_leads s t [] (first ∷ others) ps full settled is =
      setup_leads s t first others (operations (first ∷ others) (side_in s)) (last_player None ps) full settled is
  step_leads s t [] [] (p ∷ ps) full settled is = grind (arith, common_steps, stays)

  node_leads : (s t : State) (n : Node) → IsFull side s.colouring → leaves_unreaching (record { node = n; after = t }) ≡ false → step s n ≡ Ok t
      → Carries (shows s.colouring) (node_script t n) (shows t.colouring) × IsFull side t.colouring
  node_leads s t n full settled is =
      grind (arith, common_steps, step_leads s t (moves n) (stones n) (players n) full settled is, takes_text_rows (shows s.colouring) (comment_text (first_value (codes "C") n.properties)), takes_both)

  -- ---- A walk.

  -- what the walk so far says in commands leads to its board
  abbrev IsSaid : Walk → Type 0
  IsSaid w = list_any leaves_unreaching w.taken ≡ false
      → Carries (shows (empty_grid side)) (flat_map legal_script w.taken) (shows w.state.colouring) × IsFull side w.state.colouring

  stepped_said : (w : Walk) (n : Node) (result : Result State Reason) → step w.state n ≡ result → IsSaid w → IsSaid (stepped w n result)
  stepped_said w n (Err reason) e said = said
  stepped_said w n (Ok t) e said = λ settled.
      let p : LegalNode = record { node = n; after = t } in
      let parts = any_append leaves_unreaching w.taken (p ∷ []) settled in
      let before = said parts.0 in
      let one = node_leads w.state t n before.1 (or_parts (leaves_unreaching p) false parts.1).0 e in
      let empty = shows (empty_grid side) in
      let both = takes_both empty (shows w.state.colouring) (shows t.colouring) (flat_map legal_script w.taken) (node_script t n) before.0 one.0 in
      let texts : flat_map legal_script (w.taken ++ p ∷ []) ≡ flat_map legal_script w.taken ++ node_script t n =
      flat_map-append legal_script w.taken (p ∷ []) ∙ ap (λ x. flat_map legal_script w.taken ++ x) (append-nil (node_script t n)) in
      (subst (λ x. Carries empty x (shows t.colouring)) (sym texts) both, one.1)

  next_said : (w : Walk) (met : Option IllegalNode) (n : Node) → IsSaid w → IsSaid (next_by w met n)
  next_said w met n said = grind (arith, common_steps, stepped_said)

  walk_said : (w : Walk) (nodes : List Node) → IsSaid w → IsSaid (fold next w nodes)
  walk_said w [] said = said
  walk_said w (n ∷ ns) said = walk_said (next w n) ns (next_said w w.illegal n said)

  begun_said : IsSaid (before_root side)
  begun_said = λ settled. (takes_nothing (shows (empty_grid side)), (refl, length-replicate (side * side) Empty))

  -- ---- The whole script.

  takes_commands : 1 ≤ side → Carries no_board (board_commands side) (shows (empty_grid side))
  takes_commands least =
      let line = codes "boardsize " ++ decimal side in
      let within : Each IsWithin line = within_both (codes "boardsize ") (decimal side) (search) (decimal_within side) in
      let test : (nat_le 1 side && nat_le side MAX_VERTEX_SIDE) ≡ true = grind (arith, nat_tests, least, small) in
      let read : after_row no_board line ≡ sized side =
      ap (λ c. after_command no_board c) (size_reads side small) ∙ ap (λ b. cond b (sized side) refused) test in
      let told : Carries no_board (line ++ (10 ∷ [])) (sized side) =
      subst (λ b. Carries no_board (line ++ (10 ∷ [])) b) read (takes_row no_board line within) in
      let cleared : Carries (sized side) (codes "clear_board\n") (shows (empty_grid side)) = takes_row (sized side) (codes "clear_board") (search) in
      subst (λ x. Carries no_board x (shows (empty_grid side))) (append_assoc line (10 ∷ []) (codes "clear_board\n"))
      (takes_both no_board (sized side) (shows (empty_grid side)) (line ++ (10 ∷ [])) (codes "clear_board\n") told cleared)

has_point : (properties : List Property) (side : ℕ) → game_kind properties ≡ board side → 1 ≤ side
has_point properties side e = grind (arith, common_steps)

pub script_replayed : BoardLaws → (line : Line) (side : ℕ) → game_kind (root_properties line.nodes) ≡ board side
    → has_no_commands side (walk side line.nodes) ≡ false → replayed (script line) ≡ shows (walk side line.nodes).state.colouring
script_replayed laws line side opens says =
    let w = walk side line.nodes in
    let parts = or_parts (nat_lt MAX_VERTEX_SIDE side) (list_any leaves_unreaching w.taken) says in
    let small : side ≤ 25 = grind (arith, nat_tests, parts.0) in
    let empty = shows (empty_grid side) in
    let said = walk_said laws side small (before_root side) line.nodes (begun_said laws side small) parts.1 in
    let played = flat_map legal_script w.taken in
    let all : Carries no_board (board_commands side ++ played) (shows w.state.colouring) =
    grind (arith, common_steps, takes_both, takes_commands, has_point) in
    let commands : commands_by (game_kind (root_properties line.nodes)) line.nodes ≡ board_commands side ++ played =
    ap (λ o. commands_by o line.nodes) opens ∙ ap (λ b. cond b [] (board_commands side ++ played)) says in
    let row : Carries no_board (comment_row (list_row line)) no_board = takes_comment no_board (list_row line) (row_within line) in
    let both : Carries no_board (comment_row (list_row line) ++ (board_commands side ++ played)) (shows w.state.colouring) =
    takes_both no_board no_board (shows w.state.colouring) (comment_row (list_row line)) (board_commands side ++ played) row all in
    ap (λ x. after_text no_board (comment_row (list_row line) ++ x ++ codes "\n")) commands ∙ both (codes "\n")
