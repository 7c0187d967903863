-- What a mark holds in the course of the test. Its rest by 4 says how often the node was named so far, 2 for more than once. Its quotient by 4 is the home of what named it, a node or a body, 0 as long as nothing with a home did.
use Rattle.std.specs.Prelude.{ℕ, zero, suc, ◌+◌, ◌*◌, ◌/◌, ◌%◌, ◌≤◌, ◌<◌, ◌≡◌, List, true, false, length, get_or, ltb, leb, eqb}
use Rattle.sheet.specs.declared.Record.{Record}
use Rattle.sheet.specs.Names.{charts, bindings}
use Rattle.sheet.specs.Sheet.{count_of, record_of}
use Rattle.sheet_rules.specs.Fields.{field_of, number_or0, sum_below, count_below}
use Rattle.sheet_rules.specs.Bindings.{behind}
use Rattle.sheet_rules.specs.Uses.{stands_in_bodies, root_uses, mark_of}

-- named once more
unfoldable pub named : ℕ → ℕ
named v = elim (ltb (v % 4) 2) [ true ↦ v + 1 | false ↦ v ]

-- named once more by a body or node with home k. A home that the mark has stays; a node that lies in no body has home 0 and gives none
unfoldable pub marked : ℕ → ℕ → ℕ
marked k v = elim (ltb v 4) [ true ↦ named v + 4 * k | false ↦ named v ]

unfoldable pub marked_times : ℕ → ℕ → ℕ → ℕ
marked_times k zero v = v
marked_times k (suc c) v = marked k (marked_times k c v)

-- the marks from `top` on stayed
pub record Kept (top : ℕ) (before after : List ℕ) : Type 0 where
  pub long : length after ≡ length before
  pub outside : (n : ℕ) → top ≤ n → get_or after n 0 ≡ get_or before n 0

-- the others: no node is named yet
pub record Cleared (top : ℕ) (before after : List ℕ) : Type 0 where
  pub kept : Kept top before after
  pub inside : (n : ℕ) → n < top → get_or after n 0 ≡ 0

-- or node n was named `added n` times more with home k
pub record Marked (top k : ℕ) (before after : List ℕ) (added : ℕ → ℕ) : Type 0 where
  pub kept : Kept top before after
  pub inside : (n : ℕ) → n < top → get_or after n 0 ≡ marked_times k (added n) (get_or before n 0)

-- mark v of node n, which is the root of u bodies, and of one of its home if it has one
pub record Rooted (s : List ℕ) (n u v : ℕ) : Type 0 where
  pub rest : v % 4 ≡ mark_of u
  pub home : (k : ℕ) → v / 4 ≡ suc k → 1 ≤ number_or0 (record_of s charts k) (stands_in_bodies s n)
  pub none : v / 4 ≡ 0 → u ≡ 0

-- the bodies of the first i charts have named their roots
pub record RootsMarked (s : List ℕ) (i top : ℕ) (before after : List ℕ) : Type 0 where
  pub kept : Kept top before after
  pub inside : (n : ℕ) → n < top → Rooted s n (sum_below i (λ k. number_or0 (record_of s charts k) (root_uses s n))) (get_or after n 0)

-- ---- binding records

-- how many of the first n fields of record b from f1 on name node m
unfoldable pub constants_named : Record → ℕ → ℕ → ℕ
constants_named b n m = count_below n (λ j. eqb (field_of b (1 + j)) m)

-- the record that is next when those of the element whose first one is k have been gone over, as far as they are there
unfoldable pub gone_to : List ℕ → ℕ → ℕ
gone_to s k = elim (leb (behind s k) (count_of s bindings)) [ true ↦ behind s k | false ↦ count_of s bindings ]
