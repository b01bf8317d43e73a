-- A leaf is the last node below itself.
use Rattle.sgf_tree.proofs.Common.{◌≡◌, ℕ, refl, arith, rules, IsLeaf, IsAtOrBelow, itself, below, IsLastBelow, Games, parent_at-lt}

-- nothing is below a leaf
under-leaf : (g : Games) (i k : ℕ) → IsLeaf g i → IsAtOrBelow g i k → k ≡ i
under-leaf g i k leaf itself = refl
under-leaf g i k leaf (below {parent = j} p under) = search (rules, (under-leaf g i j leaf under))

pub leaf_last : (g : Games) (i last : ℕ) → IsLastBelow g i last → IsLeaf g i → last ≡ i
leaf_last g i last is leaf = under-leaf g i last leaf is.under

-- a node below it would have a greater number
pub last_leaf : (g : Games) (i last : ℕ) → IsLastBelow g i last → last ≡ i → IsLeaf g i
last_leaf g i last is e j p =
    let greatest = is.greatest j (below p itself) in omega (arith, greatest, parent_at-lt g j i p)
