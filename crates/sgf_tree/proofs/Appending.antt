-- What a text spells, it spells before and after another text too, with the places counted anew.
use Rattle.sgf_tree.proofs.Common.{ℕ, ◌+◌, List, ◌++◌, length, map, refl, sym, subst, arith, length-append, IsValue, no_unit, ordinary, escaped, joined, WhiteSpace, no_white_space, white_space, Letters, no_letter, upper, lower, IsPropValue, prop_value, ArePropValues, no_value, value, IsProperty, property, AreProperties, no_property, properties, IsNode, node, AreNodes, no_node, nodes, AreGames, no_game, games, ByteOrderMark, no_byte_order_mark, byte_order_mark, Spells, spells, Property, Node, Games, game}
use Rattle.sgf_tree.specs.Appending.{raised_node, raised, BeginsWithByteOrderMark}
use Rattle.sgf_properties.proofs.FrontSpelled.{white-join}

-- ---- with u after the text

WhiteSpace-before : {s r : List ℕ} (u : List ℕ) → WhiteSpace s r → WhiteSpace (s ++ u) (r ++ u)
WhiteSpace-before u no_white_space = no_white_space
WhiteSpace-before u (white_space h w) = white_space h (WhiteSpace-before u w)

Letters-before : {name s r : List ℕ} (u : List ℕ) → Letters name s r → Letters name (s ++ u) (r ++ u)
Letters-before u no_letter = no_letter
Letters-before u (upper h l) = upper h (Letters-before u l)
Letters-before u (lower h l) = lower h (Letters-before u l)

IsValue-before : {v s r : List ℕ} (u : List ℕ) → IsValue v s r → IsValue v (s ++ u) (r ++ u)
IsValue-before u no_unit = no_unit
IsValue-before u (ordinary h k v) = ordinary h k (IsValue-before u v)
IsValue-before u (escaped v) = escaped (IsValue-before u v)

IsPropValue-before : {v s r : List ℕ} (u : List ℕ) → IsPropValue v s r → IsPropValue v (s ++ u) (r ++ u)
IsPropValue-before u (prop_value w v) = prop_value (WhiteSpace-before u w) (IsValue-before u v)

ArePropValues-before : {vs : List (List ℕ)} {s r : List ℕ} (u : List ℕ) → ArePropValues vs s r → ArePropValues vs (s ++ u) (r ++ u)
ArePropValues-before u no_value = no_value
ArePropValues-before u (value v vs) = value (IsPropValue-before u v) (ArePropValues-before u vs)

IsProperty-before : {p : Property} {s r : List ℕ} (u : List ℕ) → IsProperty p s r → IsProperty p (s ++ u) (r ++ u)
IsProperty-before u (property w h l v vs) =
    property (WhiteSpace-before u w) h (Letters-before u l) (IsPropValue-before u v) (ArePropValues-before u vs)

AreProperties-before : {ps : List Property} {s r : List ℕ} (u : List ℕ) → AreProperties ps s r → AreProperties ps (s ++ u) (r ++ u)
AreProperties-before u no_property = no_property
AreProperties-before u (properties p ps) = properties (IsProperty-before u p) (AreProperties-before u ps)

IsNode-before : {whole : ℕ} {n : Node} {s r : List ℕ} (u : List ℕ) → IsNode whole n s r → IsNode (whole + length u) n (s ++ u) (r ++ u)
IsNode-before u (node {t = t} w e ps) =
    node (WhiteSpace-before u w) (omega (arith, length-append t u)) (AreProperties-before u ps)

AreNodes-before : {whole : ℕ} {ns : List Node} {s r : List ℕ} (u : List ℕ) → AreNodes whole ns s r → AreNodes (whole + length u) ns (s ++ u) (r ++ u)
AreNodes-before u no_node = no_node
AreNodes-before u (nodes n ns) = nodes (IsNode-before u n) (AreNodes-before u ns)

AreGames-before : {whole : ℕ} {g : Games} {s r : List ℕ} (u : List ℕ) → AreGames whole g s r → AreGames (whole + length u) g (s ++ u) (r ++ u)
AreGames-before u no_game = no_game
AreGames-before u (games w n ns g v h) =
    games (WhiteSpace-before u w) (IsNode-before u n) (AreNodes-before u ns) (AreGames-before u g) (WhiteSpace-before u v) (AreGames-before u h)

ByteOrderMark-before : {s r : List ℕ} (u : List ℕ) → ByteOrderMark s r → ByteOrderMark (s ++ u) (r ++ u)
ByteOrderMark-before u no_byte_order_mark = no_byte_order_mark
ByteOrderMark-before u byte_order_mark = byte_order_mark

-- ---- `by` bytes further on

IsNode-raised : {whole : ℕ} {n : Node} {s r : List ℕ} (by : ℕ) → IsNode whole n s r → IsNode (by + whole) (raised_node by n) s r
IsNode-raised by (node w e ps) = node w (omega arith) ps

AreNodes-raised : {whole : ℕ} {ns : List Node} {s r : List ℕ} (by : ℕ) → AreNodes whole ns s r → AreNodes (by + whole) (map (raised_node by) ns) s r
AreNodes-raised by no_node = no_node
AreNodes-raised by (nodes n ns) = nodes (IsNode-raised by n) (AreNodes-raised by ns)

AreGames-raised : {whole : ℕ} {g : Games} {s r : List ℕ} (by : ℕ) → AreGames whole g s r → AreGames (by + whole) (raised by g) s r
AreGames-raised by no_game = no_game
AreGames-raised by (games w n ns g v h) =
    games w (IsNode-raised by n) (AreNodes-raised by ns) (AreGames-raised by g) v (AreGames-raised by h)

-- ---- one after the other

AreGames-joined : {whole : ℕ} {g h : Games} {s t r : List ℕ} → AreGames whole g s t → AreGames whole h t r → AreGames whole (joined g h) s r
AreGames-joined no_game k = k
AreGames-joined (games w n ns g v h) k = games w n ns g v (AreGames-joined h k)

-- white space may stand before a game
AreGames-after_white : {whole : ℕ} {first : Node} {more : List Node} {below after : Games} {s t r : List ℕ} → WhiteSpace s t
    → AreGames whole (game first more below after) t r
    → AreGames whole (game first more below after) s r
AreGames-after_white w (games v n ns g x h) = games (white-join w v) n ns g x h

pub spells_append : (c d : Games) (t u : List ℕ) → Spells c t → Spells d u → ¬ BeginsWithByteOrderMark u → Spells (joined c (raised (length t) d)) (t ++ u)
spells_append c d t u (spells m g w) (spells byte_order_mark h v) unmarked = absurd (unmarked refl)
spells_append c d t u (spells {first} {more} {below} {after} {s = s} {r = r} m g w) (spells {first = first'} {more = more'} {below = below'} {after = after'} {r = r'} no_byte_order_mark h v) unmarked =
    let later = AreGames-after_white (WhiteSpace-before u w) (AreGames-raised (length t) h) in
    let both = AreGames-joined (AreGames-before u g) later in
    spells (ByteOrderMark-before u m) (subst (λ n. AreGames n (joined c (raised (length t) d)) (s ++ u) r') (sym (length-append t u)) both) v
