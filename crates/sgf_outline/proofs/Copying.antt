-- What the sgf form copies of a text, as a reader tells it.
use Rattle.sgf_outline.proofs.Common.{◌≡◌, ℕ, ◌≤◌, List, [], ◌++◌, length, slice_range, append_assoc, append-nil, rules, Segment, Stack, Coming, IsCopied, Copies, span-join}

-- a visitor that keeps the same in other words
pub copied-as : (kept keeps : List ℕ → Type 0) (t : List ℕ) (first : ℕ) (present : Segment) (written : List ℕ) → ((told : List ℕ) → kept told → keeps told) → IsCopied kept t first present written
    → IsCopied keeps t first present written
copied-as kept keeps t first present written other is =
    record { told = is.told; kept = other is.told is.kept; are = is.are; alone = is.alone; low = is.low; rises = is.rises; within = is.within }

-- nothing more
pub copies-none : (keeps : Stack → Coming → Type 0) (t : List ℕ) (present : Segment) → Copies keeps keeps t present present []
copies-none keeps t present k places first written is = rw append-nil is

module _ (t : List ℕ) (first : ℕ) (before : Segment) (written : List ℕ) (from to : ℕ) (le : from ≤ to) (within : to ≤ length t) where
  -- a part that goes on with the present segment
  pub goes-on : (keeps : List ℕ → Type 0) → IsCopied keeps t first before written → before.end ≡ from
      → IsCopied keeps t first (record { start = before.start; end = to }) (written ++ slice_range t from to)
  goes-on keeps is same = search (rules, span-join, append_assoc, slice_range)

-- two parts, one after another
pub copies-then : (kept keeps told : Stack → Coming → Type 0) (t : List ℕ) (before between after : Segment) (part next : List ℕ)
    → Copies kept keeps t before between part → Copies keeps told t between after next → Copies kept told t before after (part ++ next)
copies-then kept keeps told t before between after part next one other k places first written is =
    rw (← append_assoc) (other k places first (written ++ part) (one k places first written is))
