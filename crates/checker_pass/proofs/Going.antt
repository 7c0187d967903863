-- The course of the test: the nodes from `top` on are gone over, and `once` says whether each of them is used once.
use Prim.Native.Nat.{ℕ, ◌+◌, ◌/◌, ◌%◌, ◌≤◌, ◌<◌}
use mathlib.Core.Path.{◌≡◌, refl, sym, ap, ◌∙◌}
use mathlib.Core.List.{List}
use mathlib.Core.Bool.{Bool, true, false}
use native.Mathlib.Omega.{arith}
use native.Mathlib.Decide.{dec_lt}
use lib.ListN.{length, get_or, set}
use lib.Dec.{eqb}
use lib.Seq.{get_or-set_same, get_or-set_other}
use borrow.Author.Tests.{eq-eqb, ne_eqb, eqb-true, eqb-false}
use Rattle.sheet.specs.All.{◌and◌}
use Rattle.sheet.specs.Names.{nodes}
use Rattle.sheet.specs.Sheet.{count_of}
use Rattle.sheet.proofs.All.{and_first, and_second, all_true, all_fails_lem, true_false}
use Rattle.sheet_rules.specs.Uses.{home_chart, operand_uses, uses_of, used_once, mark_of, calls_in_one_body, gone_over}
use Rattle.sheet_uses.proofs.Homes.{in_bodies, agree_once, calls_agree_lem, stands_at_most}
use Rattle.sheet_uses.proofs.Bodies.{gone-over}
use Rattle.checker_pass.specs.Test.{TestGives}
use Rattle.checker_pass.specs.Marks.{marked_times, Kept, Marked}
use Rattle.checker_pass.proofs.Times.{times-rest, mark_two, mark_one, as_mark}
use Rattle.checker_pass.proofs.Seen.{Agreed, final, agreed_more}

module _ (s : List ℕ) where
  not_once : (n : ℕ) → n < count_of s nodes → (uses_of s n ≡ 1 → ⊥) → used_once s ≡ false
  unfolding used_once
  not_once n l d = all_fails_lem (count_of s nodes) (λ n. eqb (uses_of s n) 1) n l (ne_eqb _ _ d)

  each-once : ((n : ℕ) → n < count_of s nodes → uses_of s n ≡ 1) → used_once s ≡ true
  unfolding used_once
  each-once h = all_true (count_of s nodes) _ (λ n l. eq-eqb _ _ (h n l))

  abbrev Single : ℕ → Type 0
  Single top = (n : ℕ) → top ≤ n → n < count_of s nodes → (uses_of s n ≡ 1) × (in_bodies s n ≤ 1)

  pub record Going (top : ℕ) (ms : List ℕ) (once : Bool) : Type 0 where
    pub inside : top ≤ count_of s nodes
    pub calls : calls_in_one_body s ≡ true → Agreed s top ms
    pub single : once ≡ true → Agreed s top ms × Single top
    pub other : once ≡ false → used_once s ≡ false
    pub rests : (n : ℕ) → n < count_of s nodes → get_or ms n 0 % 4 ≤ 2
    pub told : (n : ℕ) → top ≤ n → n < count_of s nodes → get_or ms n 0 ≤ 2

  pub going_start : (top : ℕ) (ms : List ℕ) → top ≡ count_of s nodes → Agreed s top ms → Going top ms true
  going_start top ms e h = record {
    inside = omega arith;
    calls = λ _. h;
    single = λ _. (h, λ n l q. absurd (omega arith));
    other = λ q. absurd (true_false refl q);
    rests = λ n l. rw (h.below n (omega arith)).rest (mark_two _);
    told = λ n l q. absurd (omega arith);
  }

  going_end : (top : ℕ) (ms : List ℕ) (once : Bool) → top ≡ 0 → Going top ms once → once ≡ used_once s
  going_end top ms true z h = sym (each-once (λ n l. ((h.single refl).1 n (omega arith) l).0))
  going_end top ms false z h = sym (h.other refl)

  pub test_gives : (top gone : ℕ) (before after : List ℕ) (once : Bool) → top ≡ 0 → Kept (count_of s nodes) before after → Going top after once → gone + top ≡ gone_over s → TestGives s before after (record { once = once; records = gone })
  test_gives top gone before after once z kept h g = record {
    once = going_end top after once z h;
    gone = all;
    all = λ ok. all ∙ gone-over s ok;
    marks = λ q n l. (h.calls q).above n (omega arith) l;
    small = λ n l. h.told n (omega arith) l;
    rest = kept.outside;
    long = kept.long;
  }
    where
      all : gone ≡ gone_over s
      all = omega (arith, g)

  module _ (m top : ℕ) (ms : List ℕ) (once : Bool) (next : top ≡ m + 1) (h : Going top ms once) where
    -- used once, so that it stands in at most one body
    alone : Agreed s top ms → Single top → get_or ms m 0 % 4 ≡ 1 → (uses_of s m ≡ 1) × (in_bodies s m ≤ 1)
    alone g o e = (one, omega (arith, one, stands_at_most s m (λ n l q. (g.agree n (omega arith) q, (o n (omega arith) q).1))))
      where
        one : uses_of s m ≡ 1
        one = mark_one _ (sym (final s m top ms next h.inside g) ∙ e)

    single_more : (x : Bool) → once ≡ x → (b d : List ℕ) → ((n : ℕ) → n < m → get_or b n 0 ≡ get_or ms n 0) → ((n : ℕ) → m < n → get_or b n 0 ≡ get_or ms n 0) → get_or b m 0 ≡ get_or ms m 0 % 4 → Marked m (get_or ms m 0 / 4) b d (operand_uses s (home_chart s (get_or ms m 0 / 4)) m) → eqb (get_or ms m 0 % 4) 1 and once ≡ true → Agreed s m d × Single m
    single_more x e b d lower higher mine marks q =
        let g = h.single (and_second _ _ q) in
        let o = alone g.0 g.1 (eqb-true _ _ (and_first _ _ q)) in (
          agreed_more s m top ms next h.inside g.0 (agree_once s m o.1) b d lower higher mine marks,
          λ n l k. elim (dec_lt m n) [
            | yes i ↦ g.1 n (omega arith) k
            | no i ↦ (let e : m ≡ n = omega arith in rw (← e) o)
          ],
        )

    other_more : (x t : Bool) → once ≡ x → eqb (get_or ms m 0 % 4) 1 ≡ t → t and x ≡ false → used_once s ≡ false
    unfolding ◌and◌ mark_of
    other_more false t e p q = h.other e
    other_more true true e p q = absurd (true_false refl q)
    other_more true false e p q = not_once m (omega (arith, h.inside)) (λ u. eqb-false _ _ p (final s m top ms next h.inside (h.single e).0 ∙ ap mark_of u ∙ refl_one))
      where
        refl_one : mark_of 1 ≡ 1
        refl_one = refl

    pub going_more : (b d : List ℕ) (once' : Bool) → m < length ms → b ≡ set ms m (get_or ms m 0 % 4) → once' ≡ (eqb (get_or ms m 0 % 4) 1 and once) → Marked m (get_or ms m 0 / 4) b d (operand_uses s (home_chart s (get_or ms m 0 / 4)) m) → Going m d once'
    going_more b d once' l e o marks = record {
      inside = omega (arith, h.inside);
      calls = λ q. agreed_more s m top ms next h.inside (h.calls q) (calls_agree_lem s q m (omega (arith, h.inside))) b d lower higher mine marks;
      single = λ q. single_more once refl b d lower higher mine marks (sym o ∙ q);
      other = λ q. other_more once (eqb (get_or ms m 0 % 4) 1) refl refl (sym o ∙ q);
      rests = λ n q. elim (dec_lt n m) [
        | yes g ↦ low n g (h.rests n q)
        | no g ↦ rest n (omega arith) q
      ];
      told = λ n g q. plain n g q;
    }
      where
        lower : (n : ℕ) → n < m → get_or b n 0 ≡ get_or ms n 0
        lower n g = rw e (get_or-set_other ms m n (get_or ms m 0 % 4) 0 (λ d. omega arith))

        higher : (n : ℕ) → m < n → get_or b n 0 ≡ get_or ms n 0
        higher n g = rw e (get_or-set_other ms m n (get_or ms m 0 % 4) 0 (λ d. omega arith))

        mine : get_or b m 0 ≡ get_or ms m 0 % 4
        mine = rw e (get_or-set_same ms m (get_or ms m 0 % 4) 0 l)

        low : (n : ℕ) → n < m → get_or ms n 0 % 4 ≤ 2 → get_or d n 0 % 4 ≤ 2
        low n g r = rw (marks.inside n g ∙ ap (marked_times (get_or ms m 0 / 4) _) (lower n g)) (rw (times-rest (get_or ms m 0 / 4) (operand_uses s (home_chart s (get_or ms m 0 / 4)) m n) (get_or ms n 0) (get_or ms n 0 % 4) (as_mark _ r)) (mark_two _))

        plain : (n : ℕ) → m ≤ n → n < count_of s nodes → get_or d n 0 ≤ 2
        plain n g q = rw (marks.kept.outside n g) (elim (dec_lt m n) [
          | yes k ↦ rw (higher n k) (h.told n (omega arith) q)
          | no k ↦ (let i : m ≡ n = omega arith in rw (← i) (rw mine (h.rests m (omega (arith, h.inside)))))
        ])

        rest : (n : ℕ) → m ≤ n → n < count_of s nodes → get_or d n 0 % 4 ≤ 2
        rest n g q = omega (arith, plain n g q)
