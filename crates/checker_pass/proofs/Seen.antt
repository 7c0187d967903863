-- What the marks say when the nodes from `top` on are gone over, and that going over one more keeps it.
use Prim.Native.Nat.{ℕ, zero, suc, ◌+◌, ◌*◌, ◌/◌, ◌%◌, ◌≤◌, ◌<◌}
use mathlib.Core.Path.{◌≡◌, refl, sym, ap, ◌∙◌}
use mathlib.Core.List.{List}
use native.Mathlib.Omega.{arith}
use native.Mathlib.Decide.{dec_lt}
use native.Mathlib.Nat.{zero-mul, mul-zero, one-mul, one-le-mul}
use lib.ListN.{get_or}
use lib.Dec.{ltb}
use borrow.Author.Tests.{lt-ltb, le-ltb}
use Rattle.sheet.specs.Names.{charts, nodes}
use Rattle.sheet.specs.Sheet.{count_of, record_of}
use Rattle.sheet_rules.specs.Fields.{one_if, number_or0, sum_below}
use Rattle.sheet_rules.specs.Uses.{over_charts, over_bindings, home_chart, operand_uses, root_uses, constant_uses, uses_of, mark_of}
use Rattle.sheet_rules.proofs.Fields.{sum_more}
use Rattle.sheet_rules.proofs.Sums.{sum-zero, sum_at}
use Rattle.sheet_uses.proofs.Trees.{higher_uses}
use Rattle.sheet_uses.proofs.Homes.{in_chart, in_bodies, home_uses, Agree, chart_above, bodies_above, no_home}
use Rattle.checker_pass.specs.Marks.{marked_times, Marked, Rooted, RootsMarked}
use Rattle.checker_pass.proofs.Times.{times-rest, times-kept, times-first}
use Rattle.checker_pass.proofs.Marking.{kept-all, kept_then}

module _ (s : List ℕ) where
  -- uses of node n as an operand of node m, where m lies in a body
  abbrev held_uses : ℕ → ℕ → ℕ
  held_uses n m = one_if (ltb 0 (in_bodies s m)) * home_uses s m n

  -- ---- a mark v of node n, with the nodes below `top` still to be gone over

  pub record Seen (top n v : ℕ) : Type 0 where
    pub used : ℕ
    pub all : used + sum_below top (λ m. home_uses s m n) ≡ uses_of s n
    pub rest : v % 4 ≡ mark_of used
    pub home : (k : ℕ) → v / 4 ≡ suc k → 1 ≤ in_chart s k n
    pub none : v / 4 ≡ 0 → sum_below top (held_uses n) ≡ over_charts s (root_uses s n) + sum_below (count_of s nodes) (held_uses n)

  pub record Agreed (top : ℕ) (ms : List ℕ) : Type 0 where
    pub below : (n : ℕ) → n < top → Seen top n (get_or ms n 0)
    pub above : (n : ℕ) → top ≤ n → n < count_of s nodes → get_or ms n 0 ≡ mark_of (uses_of s n)
    pub agree : (n : ℕ) → top ≤ n → n < count_of s nodes → Agree s n

  -- no node below has it as an operand
  none_below : (m : ℕ) → sum_below (m + 1) (λ i. home_uses s i m) ≡ 0
  none_below m = sum-zero _ _ (λ i l. higher_uses s _ i m (omega arith))

  held_below : (m : ℕ) → sum_below (m + 1) (held_uses m) ≡ 0
  held_below m = sum-zero _ _ (λ i l. ap (λ (x : ℕ). one_if (ltb 0 (in_bodies s i)) * x) (higher_uses s _ i m (omega arith)) ∙ mul-zero _)

  -- a node that lies in a body is its root, or an operand of a node that lies in one
  weight : (i n : ℕ) → held_uses n i ≡ 0 → in_bodies s i * home_uses s i n ≡ 0
  weight i n z = elim (dec_lt 0 (in_bodies s i)) [
    | yes l ↦ ap (λ (x : ℕ). in_bodies s i * x) (sym (one-mul _) ∙ ap (λ (x : ℕ). x * home_uses s i n) (one l) ∙ z) ∙ mul-zero _
    | no l ↦ ap (λ (x : ℕ). x * home_uses s i n) (let e : in_bodies s i ≡ 0 = omega arith in e) ∙ zero-mul _
  ]
    where
      one : 0 < in_bodies s i → 1 ≡ one_if (ltb 0 (in_bodies s i))
      one l = rw (lt-ltb 0 (in_bodies s i) l) refl

  in_none : (m : ℕ) → ((i : ℕ) → m < i → i < count_of s nodes → Agree s i) → over_charts s (root_uses s m) + sum_below (count_of s nodes) (held_uses m) ≡ 0 → in_bodies s m ≡ 0
  in_none m h z = omega (arith, z, bodies_above s m h, sum-zero (count_of s nodes) (λ i. in_bodies s i * home_uses s i m) (λ i l. weight i m (omega (arith, z, sum_at (count_of s nodes) (held_uses m) i l))))

  -- ---- at node m, the last that is not gone over

  module _ (m top : ℕ) (ms : List ℕ) (next : top ≡ m + 1) (inside : top ≤ count_of s nodes) (h : Agreed top ms) where
    seen : Seen (m + 1) m (get_or ms m 0)
    seen = rw (← next) (h.below m (omega arith))

    pub final : get_or ms m 0 % 4 ≡ mark_of (uses_of s m)
    final = seen.rest ∙ ap mark_of (let e : seen.used ≡ uses_of s m = omega (arith, seen.all, none_below m) in e)

    unheld : get_or ms m 0 / 4 ≡ 0 → in_bodies s m ≡ 0
    unheld z = in_none m (λ i l q. h.agree i (omega arith) q) (omega (arith, seen.none z, held_below m))

    module _ (a : Agree s m) where
      same_uses : (n : ℕ) → operand_uses s (home_chart s (get_or ms m 0 / 4)) m n ≡ home_uses s m n
      unfolding Agree
      same_uses n = go (get_or ms m 0 / 4) refl
        where
          go : (q : ℕ) → get_or ms m 0 / 4 ≡ q → operand_uses s (home_chart s q) m n ≡ home_uses s m n
          go zero e = ap (λ (x : ℕ). operand_uses s (home_chart s x) m n) (sym (no_home s m (unheld e)))
          go (suc k) e = a k (seen.home k e) n

      module _ (n w : ℕ) (x : Seen (m + 1) n w) where
        -- home of a node that was named by node m
        next_home : (c q : ℕ) → c ≡ home_uses s m n → w / 4 ≡ q → (k : ℕ) → marked_times (get_or ms m 0 / 4) c w / 4 ≡ suc k → 1 ≤ in_chart s k n
        unfolding marked_times Agree
        next_home c (suc j) d e k f = x.home k (e ∙ sym (times-kept (get_or ms m 0 / 4) c w j e) ∙ f)
        next_home zero zero d e k f = x.home k f
        next_home (suc c) zero d e k f = omega (arith, chart_above s k n, sum_at (count_of s nodes) (λ i. in_chart s k i * operand_uses s (home_chart s (suc k)) i n) m (omega arith), one-le-mul here named)
          where
            mine : get_or ms m 0 / 4 ≡ suc k
            mine = sym (times-first (get_or ms m 0 / 4) c w e) ∙ f

            here : 1 ≤ in_chart s k m
            here = seen.home k mine

            named : 1 ≤ operand_uses s (home_chart s (suc k)) m n
            named = omega (arith, a k here n, d)

        next-none : (c q : ℕ) → c ≡ home_uses s m n → w / 4 ≡ q → marked_times (get_or ms m 0 / 4) c w / 4 ≡ 0 → sum_below m (held_uses n) ≡ over_charts s (root_uses s n) + sum_below (count_of s nodes) (held_uses n)
        unfolding marked_times
        next-none c (suc j) d e f = absurd (omega (arith, times-kept (get_or ms m 0 / 4) c w j e, f))
        next-none zero zero d e f = omega (arith, x.none e, sum_more m (held_uses n), ap (λ (y : ℕ). one_if (ltb 0 (in_bodies s m)) * y) (sym d) ∙ mul-zero _)
        next-none (suc c) zero d e f = omega (arith, x.none e, sum_more m (held_uses n), ap (λ (y : ℕ). y * home_uses s m n) no_one ∙ zero-mul _)
          where
            no_one : one_if (ltb 0 (in_bodies s m)) ≡ 0
            no_one = rw (le-ltb 0 (in_bodies s m) (omega (arith, unheld (sym (times-first (get_or ms m 0 / 4) c w e) ∙ f)))) refl

        next_seen : (v : ℕ) → v ≡ marked_times (get_or ms m 0 / 4) (home_uses s m n) w → Seen m n v
        next_seen v e = rw e (record {
          used = home_uses s m n + x.used;
          all = omega (arith, x.all, sum_more m (λ i. home_uses s i n));
          rest = times-rest (get_or ms m 0 / 4) (home_uses s m n) w x.used x.rest;
          home = next_home (home_uses s m n) (w / 4) refl refl;
          none = next-none (home_uses s m n) (w / 4) refl refl;
        })

      -- its mark is told without its home, then its operands are marked
      pub agreed_more : (b d : List ℕ) → ((n : ℕ) → n < m → get_or b n 0 ≡ get_or ms n 0) → ((n : ℕ) → m < n → get_or b n 0 ≡ get_or ms n 0) → get_or b m 0 ≡ get_or ms m 0 % 4 → Marked m (get_or ms m 0 / 4) b d (operand_uses s (home_chart s (get_or ms m 0 / 4)) m) → Agreed m d
      agreed_more b d lower higher mine marks = record {
        below = λ n l. next_seen n (get_or ms n 0) (rw (← next) (h.below n (omega arith))) (get_or d n 0) (marks.inside n l ∙ ap (λ (x : ℕ). marked_times (get_or ms m 0 / 4) x (get_or b n 0)) (same_uses n) ∙ ap (marked_times (get_or ms m 0 / 4) (home_uses s m n)) (lower n l));
        above = λ n l q. marks.kept.outside n l ∙ elim (dec_lt m n) [
          | yes g ↦ higher n g ∙ h.above n (omega arith) q
          | no g ↦ (let e : m ≡ n = omega arith in rw (← e) (mine ∙ final))
        ];
        agree = λ n l q. elim (dec_lt m n) [
          | yes g ↦ h.agree n (omega arith) q
          | no g ↦ (let e : m ≡ n = omega arith in rw (← e) a)
        ];
      }

  -- ---- before the first node: roots, then constants

  pub rooted_start : (n v : ℕ) → v ≡ 0 → Rooted s n 0 v
  unfolding mark_of
  rooted_start n v e = rw e (record { rest = refl; home = λ k q. absurd (omega (arith, q)); none = λ _. refl })

  -- and of c bodies of the chart numbered k
  pub rooted_more : (n u v k c w : ℕ) → c ≡ number_or0 (record_of s charts k) (root_uses s n) → w ≡ marked_times (k + 1) c v → Rooted s n u v → Rooted s n (u + c) w
  unfolding marked_times
  rooted_more n u v k zero w e d h = rw d (record { rest = h.rest ∙ ap mark_of (let z : u ≡ u + zero = omega arith in z); home = h.home; none = λ q. omega (arith, h.none q) })
  rooted_more n u v k (suc c) w e d h = rw d (record { rest = times-rest (k + 1) (suc c) v u h.rest ∙ ap mark_of (let z : suc c + u ≡ u + suc c = omega arith in z); home = home (v / 4) refl; none = λ q. absurd (omega (arith, some (v / 4) refl, q)) })
    where
      home : (q : ℕ) → v / 4 ≡ q → (j : ℕ) → marked_times (k + 1) (suc c) v / 4 ≡ suc j → 1 ≤ in_chart s j n
      home zero z j f = rw (← (let i : k ≡ j = omega (arith, times-first (k + 1) c v z, f) in i)) (omega (arith, chart_above s k n, e))
      home (suc i) z j f = h.home j (z ∙ sym (times-kept (k + 1) (suc c) v i z) ∙ f)

      some : (q : ℕ) → v / 4 ≡ q → 1 ≤ marked_times (k + 1) (suc c) v / 4
      some zero z = omega (arith, times-first (k + 1) c v z)
      some (suc i) z = omega (arith, times-kept (k + 1) (suc c) v i z)

  pub roots_start : (top : ℕ) (a : List ℕ) → ((n : ℕ) → n < top → get_or a n 0 ≡ 0) → RootsMarked s 0 top a a
  unfolding sum_below
  roots_start top a h = record { kept = kept-all top a; inside = λ n l. rooted_start n (get_or a n 0) (h n l) }

  pub roots_more : (i top : ℕ) (a b d : List ℕ) → RootsMarked s i top a b → Marked top (i + 1) b d (λ n. number_or0 (record_of s charts i) (root_uses s n)) → RootsMarked s (i + 1) top a d
  roots_more i top a b d h marks = record {
    kept = kept_then top a b d h.kept marks.kept;
    inside = λ n l. rw (sum_more i (λ k. number_or0 (record_of s charts k) (root_uses s n))) (rooted_more n _ (get_or b n 0) i (number_or0 (record_of s charts i) (root_uses s n)) (get_or d n 0) refl (marks.inside n l) (h.inside n l));
  }

  pub roots_end : (i j top : ℕ) (a b : List ℕ) → i ≡ j → RootsMarked s i top a b → RootsMarked s j top a b
  roots_end i j top a b e h = rw (← e) h

  pub agreed_start : (top i : ℕ) (a b d : List ℕ) → top ≡ count_of s nodes → i ≡ count_of s charts → RootsMarked s i top a b → Marked top 0 b d (λ n. over_bindings s (constant_uses s n)) → Agreed top d
  unfolding uses_of over_charts marked_times
  agreed_start top i a b d e o h marks = record {
    below = λ n l. rw (marks.inside n l) (first n (get_or b n 0) (rw (← o) (h.inside n l)));
    above = λ n l q. absurd (omega arith);
    agree = λ n l q. absurd (omega arith);
  }
    where
      kept : (c v q : ℕ) → v / 4 ≡ q → marked_times 0 c v / 4 ≡ v / 4
      kept zero v q e = refl
      kept (suc c) v zero e = times-first 0 c v e ∙ sym e
      kept (suc c) v (suc h) e = times-kept 0 (suc c) v h e ∙ sym e

      first : (n v : ℕ) → Rooted s n (over_charts s (root_uses s n)) v → Seen top n (marked_times 0 (over_bindings s (constant_uses s n)) v)
      first n v x = record {
        used = over_bindings s (constant_uses s n) + over_charts s (root_uses s n);
        all = rw e (omega arith);
        rest = times-rest 0 (over_bindings s (constant_uses s n)) v (over_charts s (root_uses s n)) x.rest;
        home = λ k q. x.home k (sym (kept (over_bindings s (constant_uses s n)) v (v / 4) refl) ∙ q);
        none = λ q. omega (arith, x.none (sym (kept (over_bindings s (constant_uses s n)) v (v / 4) refl) ∙ q), ap (λ (y : ℕ). sum_below y (held_uses n)) e);
      }
