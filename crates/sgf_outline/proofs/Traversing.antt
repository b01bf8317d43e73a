-- Going over the nodes of a sequence on the text.
use Rattle.sgf_outline.proofs.Common.{◌≡◌, ℕ, suc, ◌+◌, ◌-◌, ◌<◌, ◌≤◌, List, [], ◌∷◌, ◌++◌, length, get_or, slice_get, slice_range, drop, All, Option, Some, None, option_map, refl, sym, ap, subst, ◌∙◌, inl, inr, arith, get_or-drop, length-drop, rules, drop-drop, cases_lt, common_steps, drop_all, All-nil, All-cons, All-append, slice_get_cases, slice_get_within, get_or_from_slice_get, same_Some, properties_in, NoValueFollows, NoPropertyFollows, ArePropertiesIn, IsSpan, Sequence, Sequences, OrderedNode, further_nodes, ordered_nodes, node_at, nodes_at, place_at, sequence_starts, sequence_start, sequence_end, Listed, listed, sequences_of, games_in, IsOutlined, is_white_space, WhiteSpace, no_white_space, white_space, IsProperty, AreProperties, no_property, properties, IsNode, node, AreNodes, no_node, nodes, AreGames, no_game, games, Spells, spells, Property, lone_property, Node, Games, node_count, IsNodeEnd, IsLoneFront, node_in, nodes_between, IsRest, IsTraversal, range_with_len, empty-span, byte-at, held-past, white-between, IsEnd, all, tail, end-drop, end-WhiteSpace, white-same, white-none, white-join, white-past, ends-values, properties-in, left-after, head-same, upper-first}
use Rattle.sgf_outline.proofs.LoneNodes.{lone, ends-node, lone-ends, spelled as front-spelled}
use Rattle.sgf_outline.proofs.Ends.{end-IsNode, end-AreNodes, end-AreGames, end-ByteOrderMark}
use Rattle.sgf_outline.proofs.NodesSpelled.{ends-at, ends-nodes}
use Rattle.sgf_outline.proofs.OrderedNodes.{length-ordered_nodes}
use Rattle.sgf_outline.proofs.Outlined.{start-listed, end-listed, place-listed, nodes-listed, one-listed, sequence-within, entry-in}

-- properties end at one place
properties-same : {us vs : List Property} {s q r : List ℕ} → AreProperties us s q → NoPropertyFollows q → AreProperties vs s r → NoPropertyFollows r → q ≡ r
properties-same no_property ends no_property done = refl
properties-same no_property ends (properties p ps) done = absurd (upper-first p ends)
properties-same (properties p ps) ends no_property done = absurd (upper-first p done)
properties-same (properties p ps) ends (properties q qs) done = properties-same ps ends (head-same p (ends-values ps ends) (properties q qs) done).1 done

-- nodes stand after white space that is passed over
nodes-past : {whole : ℕ} {ns : List Node} {r s m : List ℕ} → AreNodes whole ns r m → NoPropertyFollows m → WhiteSpace r s → (n : List ℕ) × AreNodes whole ns s n × NoPropertyFollows n
nodes-past {s = s} no_node ends w = (s, no_node, λ b u v. ends b u (white-join w v))
nodes-past {m = m} (nodes (node v e ps) ns) ends w = (m, nodes (node (white-past w v refl) e ps) ns, ends)

-- no property follows before a node
nodes-end : {whole : ℕ} {ns : List Node} {s r : List ℕ} → AreNodes whole ns s r → NoPropertyFollows r → NoPropertyFollows s
nodes-end no_node ends = ends
nodes-end (nodes (node w e ps) ns) ends = ends-at 59 refl (λ f. absurd (omega (arith, f))) refl w

module _ {whole : ℕ} {ns : List Node} where
  rest-white : {r s : List ℕ} → IsRest whole ns r → WhiteSpace r s → IsRest whole ns s × (properties_in r ≡ properties_in s)
  rest-white is w =
      let past = held-past is.held w in
      let further = nodes-past is.further is.ends past.2 in
      (record { held = past.1; past = further.0; further = further.1; ends = further.2 }, past.0)

  -- on past a property, or past all properties
  rest-property : {p : Property} {s r : List ℕ} → IsRest whole ns s → IsProperty p s r → NoValueFollows r → IsRest whole ns r × (properties_in s ≡ p ∷ properties_in r)
  rest-property is one ends =
      let left = left-after is.held one ends in
      let same = properties-same is.held.spelled is.held.ends (properties one left.1.spelled) left.1.ends in
      (record { held = left.1; past = is.past; further = subst (λ m. AreNodes whole ns m is.past) same is.further; ends = is.ends }, left.0)

  rest-properties : {ps : List Property} {s r : List ℕ} → IsRest whole ns s → AreProperties ps s r → NoPropertyFollows r → IsRest whole ns r
  rest-properties {r = r} is are ends =
      record {
        held = record { properties = []; rest = r; spelled = no_property; ends = ends };
        past = is.past;
        further = subst (λ m. AreNodes whole ns m is.past) (properties-same is.held.spelled is.held.ends are ends) is.further;
        ends = is.ends;
      }

-- the first of the nodes between two numbers
nodes-first : (g : Games) (k end : ℕ) (n : Node) → k < end → node_at g k ≡ Some n → nodes_between g k end ≡ n ∷ nodes_between g (k + 1) end
nodes-first g k end n lt e = grind (arith, common_steps)

pub between_none : (g : Games) (k end : ℕ) → end ≤ k → length (nodes_between g k end) ≡ 0
between_none g k end le = let none : end - k ≡ 0 = omega arith in ap (λ n. length (nodes_at g (range_with_len k n))) none

pub some-between : (g : Games) (k end : ℕ) → 0 < length (nodes_between g k end) → k < end
some-between g k end some = grind (arith, common_steps, cases_lt, between_none)

between-first : (g : Games) (k end : ℕ) → k < end → end ≤ node_count g → (n : Node) × (nodes_between g k end ≡ n ∷ nodes_between g (k + 1) end)
between-first g k end lt within =
    elim (slice_get_cases (ordered_nodes g) k).1 [
      | inl there ↦ (there.0.node, nodes-first g k end there.0.node lt (ap (option_map (λ (r : OrderedNode). r.node)) there.2))
      | inr past ↦ absurd (omega (arith, past.0, length-ordered_nodes g))
    ]

pub between_some : (g : Games) (k end : ℕ) → k < end → end ≤ node_count g → 0 < length (nodes_between g k end)
between_some g k end lt within = omega (arith, ap length (between-first g k end lt within).1)

module _ (t : List ℕ) where
  -- a traversal from where white space has ended
  traversal-to : {r : List ℕ} (to number end : ℕ) → number ≤ end → end ≤ node_count (games_in t) → WhiteSpace r (drop to t) → IsSpan is_white_space t to to → IsRest (length t) (nodes_between (games_in t) number end) r
      → IsTraversal t to number end × (properties_in r ≡ properties_in (drop to t))
  traversal-to to number end rises within white stands left =
      let after = rest-white left white in (record { rises = rises; within = within; stands = stands; left = after.0 }, after.1)

  -- white space from an offset of a part of the text
  white-on : (at : ℕ) (s : List ℕ) → s ≡ drop at t → (k to : ℕ) → IsSpan is_white_space t (at + k) to → WhiteSpace (drop k s) (drop to t) × IsSpan is_white_space t to to
  white-on at s e k to run = search (rules, drop-drop, white-between, empty-span)

  -- on past the next property, and the white space after it
  pub past-property : (at number end : ℕ) → IsTraversal t at number end → (s : List ℕ) → s ≡ drop at t → (e to : ℕ) (p : Property) → IsProperty p s (drop e s) → ArePropertiesIn (drop e s) → IsSpan is_white_space t (at + e) to
      → IsTraversal t to number end × (properties_in (drop e s) ≡ properties_in (drop to t))
  past-property at number end w s here e to p one held run =
      let left = rest-property (subst (IsRest (length t) (nodes_between (games_in t) number end)) (sym here) w.left) one (ends-values held.spelled held.ends) in
      let white = white-on at s here e to run in traversal-to to number end w.rises w.within white.0 white.1 left.0

  -- the first node, where no property is left before it
  first-node : (at : ℕ) {n : Node} {ns : List Node} → IsSpan is_white_space t at at → IsRest (length t) (n ∷ ns) (drop at t) → properties_in (drop at t) ≡ []
      → (n ≡ node_in t at) × (at < length t) × IsRest (length t) ns (drop 1 (drop at t))
  first-node at {n} {ns} stands is none = by is.held.properties is.held.rest (sym (properties-in is.held.spelled is.held.ends) ∙ none) is.held.spelled is.further
    where
      by : (ps : List Property) (m : List ℕ) → ps ≡ [] → AreProperties ps (drop at t) m → AreNodes (length t) (n ∷ ns) m is.past → (n ≡ node_in t at) × (at < length t) × IsRest (length t) ns (drop 1 (drop at t))
      by (p ∷ ps) m e are further = absurd (cc)
      by [] m e no_property (nodes {t = r} (node {place} {ps} {t = u} w place_is own) further) =
          elim (cases_lt at (length t)) [
            | inl lt ↦
                let same = white-same (subst (WhiteSpace (drop at t)) (byte-at t at lt) no_white_space) w (stands.stops lt) refl in
                let ends = nodes-end further is.ends in
                let here : place ≡ at = omega (arith, place_is, ap length same.1, length-drop (at + 1) t) in
                let left : AreProperties ps (drop 1 (drop at t)) r = subst (λ s. AreProperties ps s r) (sym (drop-drop 1 at t ∙ same.1)) own in (
                  ap (λ k. record { place = k; properties = ps }) here ∙ ap (λ qs. record { place = at; properties = qs }) (sym (properties-in left ends)),
                  lt,
                  record { held = record { properties = ps; rest = r; spelled = left; ends = ends }; past = is.past; further = further; ends = is.ends },
                )
            | inr le ↦ absurd (white-none (subst (WhiteSpace (drop at t)) (drop_all at t le) no_white_space) w refl)
          ]

-- a traversal at its next node, before which no property is left
module _ (t : List ℕ) (at number end : ℕ) (w : IsTraversal t at number end) (lt : number < end) where
  pub record IsNextAt : Type 0 where
    pub nodes : nodes_between (games_in t) number end ≡ node_in t at ∷ nodes_between (games_in t) (number + 1) end
    pub inside : at < length t
    pub left : IsRest (length t) (nodes_between (games_in t) (number + 1) end) (drop 1 (drop at t))

  -- if no property is left
  pub next-closed : properties_in (drop at t) ≡ [] → IsNextAt
  next-closed none =
      let first = between-first (games_in t) number end lt w.within in
      let is = first-node t at w.stands (subst (λ ns. IsRest (length t) ns (drop at t)) first.1 w.left) none in
      record { nodes = first.1 ∙ ap (λ n. n ∷ nodes_between (games_in t) (number + 1) end) is.0; inside = is.1; left = is.2 }

  module _ (here : IsNextAt) where
    -- into the node
    pub into-node : (to : ℕ) → IsSpan is_white_space t (at + 1) to → IsTraversal t to (number + 1) end × (properties_in (drop 1 (drop at t)) ≡ properties_in (drop to t))
    into-node to run =
        let white = white-on t at (drop at t) refl 1 to run in traversal-to t to (number + 1) end (omega arith) w.within white.0 white.1 here.left

    -- into it, past its first property
    pub past-front : (s : List ℕ) → s ≡ drop at t → IsLoneFront s → (to : ℕ) → IsSpan is_white_space t (at + 6) to
        → IsTraversal t to (number + 1) end × (properties_in (drop 1 (drop at t)) ≡ lone_property (get_or s 1 0) (slice_range s 3 5) ∷ properties_in (drop to t))
    past-front s e is to run =
        let left = rest-property (subst (λ x. IsRest (length t) (nodes_between (games_in t) (number + 1) end) (drop 1 x)) (sym e) here.left) (front-spelled s is.front) (lone-ends s is) in
        let white = white-on t at s e 6 to run in
        let traversal = traversal-to t to (number + 1) end (omega arith) w.within white.0 white.1 left.0 in
        (traversal.0, ap (λ x. properties_in (drop 1 x)) (sym e) ∙ left.1 ∙ ap (λ ps. lone s is.front ∷ ps) traversal.1)

  -- past a node that is known to end
  pub past-node : {ps : List Property} (close next : ℕ) → get_or (drop at t) 0 0 ≡ 59 → AreProperties ps (drop 1 (drop at t)) (drop close (drop at t)) → IsNodeEnd (drop at t) close next
      → (nodes_between (games_in t) number end ≡ node_in t at ∷ nodes_between (games_in t) (number + 1) end) × IsTraversal t (at + next) (number + 1) end × (properties_in (drop (at + next) t) ≡ [])
  past-node close next semicolon are ended =
      let inside : at + next < length t = omega (arith, ended.inside, length-drop at t) in
      let begins : drop at t ≡ get_or (drop at t) 0 0 ∷ drop 1 (drop at t) = byte-at (drop at t) 0 (omega (arith, ended.inside)) in
      let starts : WhiteSpace (drop at t) (59 ∷ drop 1 (drop at t)) = subst (WhiteSpace (drop at t)) (begins ∙ ap (λ b. b ∷ drop 1 (drop at t)) semicolon) no_white_space in
      let here = next-closed (properties-in no_property (ends-at 59 refl (λ f. absurd (omega (arith, f))) refl starts)) in
      let ends = ends-node (drop at t) close next ended in
      let white = subst (WhiteSpace (drop close (drop at t))) (drop-drop next at t) (white-between (drop at t) close next ended.white_space) in
      let stands = empty-span t (at + next) (omega arith) (λ _. ap is_white_space (sym (get_or-drop at t next 0)) ∙ ended.white_space.stops ended.inside) in
      let traversal = traversal-to t (at + next) (number + 1) end (omega arith) w.within white stands (rest-properties here.left are ends) in
      (here.nodes, traversal.0, sym traversal.1 ∙ properties-in no_property ends)

-- the nodes of a listed sequence stand in the text
module _ (t : List ℕ) where
  record IsListedSpelled (s : Listed) : Type 0 where
    pub after : List ℕ
    pub begins : drop s.first.place t ≡ 59 ∷ after
    pub past : List ℕ
    pub spelled : AreNodes (length t) (s.first ∷ s.more) (59 ∷ after) past
    pub ends : NoPropertyFollows past

  listed-spelled : {g : Games} {s r : List ℕ} (index at : ℕ) (outer : Option ℕ) (ordinal : ℕ) → AreGames (length t) g s r → IsEnd t s → All IsListedSpelled (listed index at outer ordinal g)
  listed-spelled index at outer ordinal no_game end = All-nil IsListedSpelled
  listed-spelled index at outer ordinal (games {first} {more} {below} {after} {children = children} w (node {t = u} v e ps) ns low x high) end =
      let next : ℕ = at + 1 + length more in
      let inner : List Listed = listed (index + 1) next (Some index) 1 below in
      let one : IsNode (length t) first (59 ∷ u) _ = node no_white_space e ps in
      let starts = end-WhiteSpace v (tail (end-WhiteSpace w end)) in
      let low_end = end-AreNodes ns (end-IsNode one starts) in
      let here : first.place ≡ length t - length (59 ∷ u) = omega (arith, e) in
      All-cons IsListedSpelled (record { first = first; more = more; number = at; outer = outer; ordinal = ordinal }) (inner ++ listed (index + 1 + length inner) (next + node_count below) outer (ordinal + 1) after)
      (record {
        after = u;
        begins = ap (λ k. drop k t) here ∙ (end-drop starts).1;
        past = children;
        spelled = nodes (node no_white_space e ps) ns;
        ends = ends-nodes no_node low x;
      })
      (All-append IsListedSpelled inner (listed (index + 1 + length inner) (next + node_count below) outer (ordinal + 1) after)
      (listed-spelled (index + 1) next (Some index) 1 low low_end)
      (listed-spelled (index + 1 + length inner) (next + node_count below) outer (ordinal + 1) high (tail (end-WhiteSpace x (end-AreGames low low_end)))))

  all-spelled : (g : Games) → Spells g t → All IsListedSpelled (sequences_of g)
  all-spelled g (spells m are end) = listed-spelled 0 0 None 1 are (end-ByteOrderMark m all)

-- all nodes of a sequence, from its entry in the table
pub sequence-traversal : (text : List ℕ) (kept : Sequences) (outlined : IsOutlined text kept) (i : ℕ) (entry : Sequence) → i < length (sequence_starts (games_in text))
    → entry ≡ get_or kept.table.items i entry
    → IsTraversal text entry.first (sequence_start (games_in text) i) (sequence_end (games_in text) i) × (properties_in (drop entry.first text) ≡ [])
sequence-traversal text kept outlined i entry lt here =
    let g : Games = games_in text in
    let (s, is) = one-listed g i lt in
    let start = start-listed g i s is in
    let end = end-listed g i s is in
    let from : s.number + 0 ≡ sequence_start g i = omega arith in
    let nodes : nodes_between g (sequence_start g i) (sequence_end g i) ≡ s.first ∷ s.more = nodes-listed g i s is in
    let place : Some s.first.place ≡ Some entry.first = sym (place-listed g i s is 0 (omega arith)) ∙ ap (place_at g) from ∙ (entry-in text kept outlined g refl i entry lt here).first_is in
    let listed = subst (IsListedSpelled text) (get_or_from_slice_get (sequences_of g) i s s is) (all-spelled text g outlined.spelled i s (slice_get_within (sequences_of g) i s is)) in
    let begins : drop entry.first text ≡ 59 ∷ listed.after = ap (λ k. drop k text) (sym (same_Some s.first.place entry.first place)) ∙ listed.begins in
    let spelled = subst (λ x. AreNodes (length text) (s.first ∷ s.more) x listed.past) (sym begins) listed.spelled in
    let inside : entry.first < length text = omega (arith, ap length begins, length-drop entry.first text) in
    let at = byte-at text entry.first inside in
    let byte : get_or text entry.first 0 ≡ 59 = cc in
    let ends = nodes-end spelled listed.ends in (
      record {
        rises = omega arith;
        within = sequence-within g i lt;
        stands = empty-span text entry.first (omega arith) (λ _. ap is_white_space byte);
        left = record {
          held = record { properties = []; rest = drop entry.first text; spelled = no_property; ends = ends };
          past = listed.past;
          further = subst (λ ns. AreNodes (length text) ns (drop entry.first text) listed.past) (sym nodes) spelled;
          ends = listed.ends;
        };
      },
      properties-in no_property ends,
    )

-- no nodes, after the text
pub no-traversal : (text : List ℕ) → Spells (games_in text) text → IsTraversal text (length text) 0 0 × (properties_in (drop (length text) text) ≡ [])
no-traversal text spelled =
    let rest : List ℕ = drop (length text) text in (
      record {
        rises = omega arith;
        within = omega arith;
        stands = empty-span text (length text) (omega arith) (λ lt. absurd (omega arith));
        left = record { held = record { properties = []; rest = rest; spelled = no_property; ends = ends }; past = rest; further = no_node; ends = ends };
      },
      properties-in no_property ends,
    )
  where
    none : {s u : List ℕ} {b : ℕ} → s ≡ [] → ¬ WhiteSpace s (b ∷ u)
    none e no_white_space = cc
    none e (white_space h w) = cc

    ends : NoPropertyFollows (drop (length text) text)
    ends b u w = absurd (none (drop_all (length text) text (omega arith)) w)
