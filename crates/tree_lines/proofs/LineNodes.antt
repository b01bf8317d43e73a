-- The nodes of the line before a cursor, by its path.
use Rattle.tree_lines.proofs.Common.{◌≡◌, ℕ, zero, suc, ◌-◌, ◌<◌, List, [], ◌∷◌, length, map, drop, get_or, slice_get, Option, Some, refl, sym, ap, ◌∙◌, arith, option_to_list, flat_map, drop-map, cases_lt, common_steps, length-map, slice_get_past, node_at, nodes_at, Node, Games, CursorState, nodes_of, line_in, line_before, nodes_before, path_before, numbers_before, lines_before, lines, paths, IsAfterLeaf, slice_get-map, slice_get-get_or}
use Rattle.tree_lines.proofs.Lists.{element}
use Rattle.tree_lines.proofs.Named.{line_at, length-paths}
use Rattle.tree_lines.proofs.CursorStates.{before}
use Rattle.tree_lines.proofs.Descending.{path_is}

-- as many nodes as numbers
pub as_many : {X : Type 0} (f : ℕ → Option X) (nodes : List X) (path : List ℕ) → map Some nodes ≡ map f path → length nodes ≡ length path
as_many f nodes path e = sym (length-map nodes Some) ∙ ap length e ∙ length-map path f

-- the node that a path names at an index
node_named : {X : Type 0} (f : ℕ → Option X) (nodes : List X) (path : List ℕ) (i d : ℕ) (x : X) → map Some nodes ≡ map f path → i < length path
    → f (get_or path i d) ≡ Some x → slice_get nodes i ≡ Some x
node_named f nodes path i d x e lt is =
    grind (arith, common_steps, ap (λ xs. slice_get xs i) e, slice_get-map Some nodes i, slice_get-map f path i, slice_get-get_or path i d lt)

-- nodes that numbers name
named_nodes : (f : ℕ → Option Node) (nodes : List Node) (numbers : List ℕ) → map Some nodes ≡ map f numbers → flat_map (λ k. option_to_list (f k)) numbers ≡ nodes
named_nodes f [] [] e = refl
named_nodes f [] (k ∷ ks) e = absurd cc
named_nodes f (n ∷ ns) [] e = absurd cc
named_nodes f (n ∷ ns) (k ∷ ks) e = grind (arith, common_steps, named_nodes f ns ks)

-- they are those that the path names
pub named_in : (c : Games) (k : ℕ) → map Some (nodes_of (line_in c k)) ≡ map (node_at c) (numbers_before c k)
named_in c zero = refl
named_in c (suc k) = grind (arith, common_steps, cases_lt k (length (paths c)), element (paths c) k, line_at, slice_get_past, length-paths)

-- as many as the path names
pub as_long : (at : CursorState) → length (nodes_before at) ≡ length (path_before at)
as_long at = as_many (node_at at.games) (nodes_before at) (path_before at) (named_in at.games at.index)

module _ (c : Games) (next : ℕ) (at : CursorState) (is : before c next ≡ at) (path : List ℕ) (stands : IsAfterLeaf c next path) where
  pub path_named : map Some (nodes_before at) ≡ map (node_at c) path
  path_named = rw (← is) (named_in c (lines_before c next) ∙ ap (map (node_at c)) (path_is c next path stands))

  pub as_many_nodes : length (nodes_before at) ≡ length path
  as_many_nodes = as_many (node_at c) (nodes_before at) path path_named

  pub node_is : (i d : ℕ) (n : Node) → i < length (nodes_before at) → node_at c (get_or path i d) ≡ Some n → slice_get (nodes_before at) i ≡ Some n
  node_is i d n lt e = node_named (node_at c) (nodes_before at) path i d n path_named (omega (arith, as_many_nodes)) e

  -- those that the path names from an index on
  pub nodes_after : (i : ℕ) → nodes_at c (drop i path) ≡ drop i (nodes_before at)
  nodes_after i = named_nodes (node_at c) (drop i (nodes_before at)) (drop i path) (sym (drop-map Some i (nodes_before at)) ∙ ap (drop i) path_named ∙ drop-map (node_at c) i path)

-- if it has a node, there is a line
pub some_before : (at : CursorState) → 0 < length (nodes_before at) → 0 < at.index
some_before at some = grind (arith, common_steps)

pub line_is : (at : CursorState) → 0 < at.index → line_before at ≡ slice_get (lines at.games) (at.index - 1)
line_is at lt = grind (arith, common_steps, before)
