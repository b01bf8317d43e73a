-- Where the listed sequences stand among the ordered nodes.
use Rattle.sgf_outline.proofs.Common.{◌≡◌, ℕ, zero, suc, ◌+◌, ◌-◌, ◌<◌, ◌⊎◌, inl, inr, true, List, [], ◌∷◌, ◌++◌, length, map, get_or, slice_get, Option, Some, refl, sym, ap, subst, ◌∙◌, arith, append_assoc, length-append, rules, get_or-append-add, cases_lt, common_steps, map-append, length-map, OrderedNode, further_nodes, nodes_from, game_of, Listed, listed, Node, Games, no_games, game, node_count}
use Rattle.sgf_outline.proofs.Lists.{slice_get-left, slice_get-right, get_or-joined}
use Rattle.sgf_outline.proofs.Rises.{Rises, rises-low, rises-append}
use Rattle.sgf_outline.proofs.OrderedNodes.{length-further_nodes, length-nodes_from, game-first, game-after}
use Rattle.sgf_outline.proofs.Starts.{starts_from, first-start}

abbrev pub number_of : Listed → ℕ
number_of s = s.number

-- the number of its last node
abbrev pub last_number : Listed → ℕ
last_number s = s.number + length s.more

-- its nodes among the ordered ones
abbrev pub own_ordered : Listed → Option ℕ → List OrderedNode
own_ordered s parent = record { node = s.first; parent = parent; opens = true } ∷ further_nodes s.number s.more

-- the sequences begin at their numbers
pub starts-listed : (index at : ℕ) (outer : Option ℕ) (ordinal : ℕ) (g : Games) → map number_of (listed index at outer ordinal g) ≡ starts_from at g
starts-listed index at outer ordinal no_games = refl
starts-listed index at outer ordinal (game first more below after) =
    let next : ℕ = at + 1 + length more in
    let inner : List Listed = listed (index + 1) next (Some index) 1 below in
    grind (arith, common_steps, map-append, starts_from, (starts-listed (index + 1) next (Some index) 1 below), (starts-listed (index + 1 + length inner) (next + node_count below) outer (ordinal + 1) after))

pub length-listed : (index at : ℕ) (outer : Option ℕ) (ordinal : ℕ) (g : Games) → length (listed index at outer ordinal g) ≡ length (starts_from at g)
length-listed index at outer ordinal g = omega (arith, length-map (listed index at outer ordinal g) number_of, ap length (starts-listed index at outer ordinal g))

-- they rise
pub starts-rise : (at : ℕ) (g : Games) → Rises at (starts_from at g) (at + node_count g)
starts-rise at no_games = omega arith
starts-rise at (game first more below after) =
    let next : ℕ = at + length more + 1 in
    let e : next + node_count below + node_count after ≡ at + node_count (game first more below after) = omega arith in (
      omega arith,
      subst (Rises (at + 1) (starts_from next below ++ starts_from (next + node_count below) after)) e
          (rises-low (at + 1) next _ _ (omega arith)
          (rises-append next (next + node_count below) _ (starts_from next below) (starts_from (next + node_count below) after) (starts-rise next below) (starts-rise (next + node_count below) after))),
    )

-- a sequence ends where the next one begins
pub ends-listed : (index at : ℕ) (outer : Option ℕ) (ordinal : ℕ) (g : Games) (i end : ℕ) (s : Listed) → end ≡ at + node_count g → slice_get (listed index at outer ordinal g) i ≡ Some s
    → get_or (starts_from at g) (suc i) end ≡ last_number s + 1
ends-listed index at outer ordinal no_games i end s all h = absurd (cc)
ends-listed index at outer ordinal (game first more below after) zero end s all h = grind (arith, common_steps, get_or-joined, starts_from, first-start)
ends-listed index at outer ordinal (game first more below after) (suc i) end s all h =
    let next : ℕ = at + 1 + length more in
    let inner : List Listed = listed (index + 1) next (Some index) 1 below in
    let later : List Listed = listed (index + 1 + length inner) (next + node_count below) outer (ordinal + 1) after in
    let under : List ℕ = starts_from next below in
    let past : List ℕ = starts_from (next + node_count below) after in
    let e : next ≡ at + length more + 1 = omega arith in
    let count : length inner ≡ length under = length-listed (index + 1) next (Some index) 1 below in
    rw (← e) (elim (cases_lt i (length inner)) [
      | inl lt ↦
          get_or-joined under past (suc i) end (next + node_count below) (omega (arith, count, lt)) (first-start (next + node_count below) end after (omega (arith, all)))
          ∙ ends-listed (index + 1) next (Some index) 1 below i (next + node_count below) s refl (sym (slice_get-left inner later i lt) ∙ h)
      | inr le ↦
          let k : ℕ = i - length inner in
          let at_k : i ≡ length inner + k = omega (arith, le) in
          let j : suc i ≡ length under + suc k = omega (arith, count, le) in
          ap (λ m. get_or (under ++ past) m end) j ∙ get_or-append-add under past (suc k) end
          ∙ ends-listed (index + 1 + length inner) (next + node_count below) outer (ordinal + 1) after k end s (omega (arith, all)) (sym (slice_get-right inner later i k at_k) ∙ h)
    ])

regroup : {A : Type 0} (own b o a n : List A) → (own ++ (b ++ (o ++ a))) ++ n ≡ (own ++ b) ++ (o ++ (a ++ n))
regroup own b o a n = grind (arith, common_steps, append_assoc)

-- it has the parent of them all, and begins one of the games that stand side by side
pub record BeginsGame (outer parent : Option ℕ) (ordinal place : ℕ) (g : Games) (s : Listed) (own : Option ℕ) : Type 0 where
  pub outer_is : s.outer ≡ outer
  pub parent_is : own ≡ parent
  pub ordinal_is : s.ordinal + 1 ≡ ordinal + game_of g place

-- its parent is the last node of another one of these sequences
pub record GoesOnFrom (index : ℕ) (sequences : List Listed) (i : ℕ) (s : Listed) (own : Option ℕ) : Type 0 where
  pub other : ℕ
  pub sequence : Listed
  pub before : other < i
  pub is : slice_get sequences other ≡ Some sequence
  pub outer_is : s.outer ≡ Some (index + other)
  pub parent_is : own ≡ Some (last_number sequence)

-- where a listed sequence stands
pub record IsListedAt (index at : ℕ) (outer parent : Option ℕ) (ordinal : ℕ) (g : Games) (i : ℕ) (s : Listed) : Type 0 where
  pub own : Option ℕ
  pub before : List OrderedNode
  pub after : List OrderedNode
  pub split : nodes_from at parent g ≡ before ++ (own_ordered s own ++ after)
  pub number_is : s.number ≡ at + length before
  pub goes_on : BeginsGame outer parent ordinal (length before) g s own ⊎ GoesOnFrom index (listed index at outer ordinal g) i s own

module _ (index at : ℕ) (outer parent : Option ℕ) (ordinal : ℕ) (first : Node) (more : List Node) (below after : Games) where
  abbrev next : ℕ
  next = at + 1 + length more

  abbrev own_nodes : List OrderedNode
  own_nodes = record { node = first; parent = parent; opens = true } ∷ further_nodes at more

  abbrev inner : List Listed
  inner = listed (index + 1) next (Some index) 1 below

  abbrev later : List Listed
  later = listed (index + 1 + length inner) (next + node_count below) outer (ordinal + 1) after

  -- the game's nodes, those of the games below it, and those of the games after it
  nodes-split : nodes_from at parent (game first more below after) ≡ (own_nodes ++ nodes_from next (Some (at + length more)) below) ++ nodes_from (next + node_count below) parent after
  nodes-split = grind (arith, common_steps)

  -- the game's own sequence
  first-listed : IsListedAt index at outer parent ordinal (game first more below after) 0 (record { first = first; more = more; number = at; outer = outer; ordinal = ordinal })
  first-listed = record {
    own = parent;
    before = [];
    after = nodes_from next (Some (at + length more)) below ++ nodes_from (next + node_count below) parent after;
    split = nodes-split ∙ append_assoc own_nodes (nodes_from next (Some (at + length more)) below) (nodes_from (next + node_count below) parent after);
    number_is = omega arith;
    goes_on = inl (record { outer_is = refl; parent_is = refl; ordinal_is = omega (arith, game-first first more below after 0 (omega arith)) });
  }

  -- a sequence below the game
  below-listed : (i : ℕ) (s : Listed) → i < length inner → IsListedAt (index + 1) next (Some index) (Some (at + length more)) 1 below i s
      → IsListedAt index at outer parent ordinal (game first more below after) (suc i) s
  below-listed i s lt w =
      let past : List OrderedNode = nodes_from (next + node_count below) parent after in
      record {
        own = w.own;
        before = own_nodes ++ w.before;
        after = w.after ++ past;
        split = nodes-split ∙ ap (λ rs. (own_nodes ++ rs) ++ past) w.split ∙ regroup own_nodes w.before (own_ordered s w.own) w.after past;
        number_is = omega (arith, w.number_is, length-append own_nodes w.before, length-further_nodes at more);
        goes_on = inr (elim w.goes_on [
          | inl begins ↦
              let z : index ≡ index + 0 = omega arith in
              record {
                other = 0;
                sequence = record { first = first; more = more; number = at; outer = outer; ordinal = ordinal };
                before = omega arith;
                is = refl;
                outer_is = begins.outer_is ∙ ap Some z;
                parent_is = begins.parent_is;
              }
          | inr from ↦
              let z : index + 1 + from.other ≡ index + suc from.other = omega arith in
              search (rules, slice_get-left)
        ]);
      }

  -- a sequence of the games after it
  after-listed : (i k : ℕ) (s : Listed) → i ≡ length inner + k → IsListedAt (index + 1 + length inner) (next + node_count below) outer parent (ordinal + 1) after k s
      → IsListedAt index at outer parent ordinal (game first more below after) (suc i) s
  after-listed i k s at_k w =
      let under : List OrderedNode = nodes_from next (Some (at + length more)) below in
      let places : length ((own_nodes ++ under) ++ w.before) ≡ 1 + length more + node_count below + length w.before =
      omega (arith, length-append (own_nodes ++ under) w.before, length-append own_nodes under, length-further_nodes at more, length-nodes_from next (Some (at + length more)) below) in
      record {
        own = w.own;
        before = (own_nodes ++ under) ++ w.before;
        after = w.after;
        split = nodes-split ∙ ap (λ rs. (own_nodes ++ under) ++ rs) w.split ∙ sym (append_assoc (own_nodes ++ under) w.before (own_ordered s w.own ++ w.after));
        number_is = omega (arith, w.number_is, places);
        goes_on = elim w.goes_on [
          | inl begins ↦ search (rules, game-after)
          | inr from ↦
              let z : index + 1 + length inner + from.other ≡ index + suc (length inner + from.other) = omega arith in
              search (rules, slice_get-right)
        ];
      }

pub listed-at : (index at : ℕ) (outer parent : Option ℕ) (ordinal : ℕ) (g : Games) (i : ℕ) (s : Listed) → slice_get (listed index at outer ordinal g) i ≡ Some s
    → IsListedAt index at outer parent ordinal g i s
listed-at index at outer parent ordinal no_games i s h = absurd (cc)
listed-at index at outer parent ordinal (game first more below after) zero s h = grind (arith, common_steps, first-listed)
listed-at index at outer parent ordinal (game first more below after) (suc i) s h =
    let next : ℕ = at + 1 + length more in
    let inner : List Listed = listed (index + 1) next (Some index) 1 below in
    let later : List Listed = listed (index + 1 + length inner) (next + node_count below) outer (ordinal + 1) after in
    elim (cases_lt i (length inner)) [
      | inl lt ↦ search (rules, below-listed, slice_get-left, (listed-at (index + 1) next (Some index) (Some (at + length more)) 1 below i s (sym (slice_get-left inner later i lt) ∙ h)))
      | inr le ↦
          let k : ℕ = i - length inner in
          let at_k : i ≡ length inner + k = omega (arith, le) in
          search (rules, after-listed, slice_get-right, (listed-at (index + 1 + length inner) (next + node_count below) outer parent (ordinal + 1) after k s (sym (slice_get-right inner later i k at_k) ∙ h)))
    ]
