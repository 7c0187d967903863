-- Laws of arrays of bodies by name: the table of internal reactions, and the chains of reactions to a name.
use Rattle.std.specs.Prelude.{Option, Some, None}
use Prim.Native.Nat.{ℕ, zero, suc, ◌+◌, ◌-◌, ◌≤◌, ◌<◌}
use mathlib.Core.Path.{◌≡◌, refl, sym, ap, ◌∙◌}
use mathlib.Core.List.{List}
use mathlib.Core.Bool.{Bool, true, false, not}
use native.Mathlib.Omega.{arith}
use native.Mathlib.Decide.{dec_lt}
use lib.ListN.{length, get_or, set, replicate, length-set, length-replicate, get_or-replicate, get_or-eq_default}
use lib.Seq.{get_or-set_same, get_or-set_other}
use lib.Dec.{eqb}
use borrow.Author.Tests.{ltb-true, leb-true, lt-ltb, le-ltb, le-leb, eq-eqb, ne_eqb, eqb-true, eqb-false}
use Rattle.sheet.specs.declared.Record.{Record}
use Rattle.checker_reactions.specs.declared.Tables.{Tables}
use Rattle.sheet.specs.All.{◌and◌, all_below}
use Rattle.sheet.specs.Sheet.{count_of, record_of}
use Rattle.sheet.proofs.All.{true_false, not_so, and-true, and_first, and_second, true-and, false-and, all_fails_lem}
use Rattle.sheet.proofs.Sheet.{count_limit, record_absent}
use Rattle.sheet_rules.specs.Fields.{holds}
use Rattle.sheet_rules.proofs.Fields.{holds-present, holds_absent}
use Rattle.sheet_rules.specs.Shape.{is_reaction}
use Rattle.sheet_rules.specs.Types.{reacts_to, has_reaction}
use Rattle.sheet_rules.specs.Static.{reaction_static, role_static, body_static, same_reaction, no_twin}
use Rattle.sheet_types.specs.Table.{tabled, Table}
use Rattle.sheet_types.proofs.Table.{no_reaction, reaction_found, reaction_none, class-small}
use Rattle.checker_reactions.specs.Entries.{is_a, Entries, Entered, named, up_to, Latest, Chains, Linked, Ready}

pub all-each : (n : ℕ) (p : ℕ → Bool) → ((i : ℕ) → i < n → p i ≡ true) → all_below n p ≡ true
unfolding all_below
all-each zero p h = refl
all-each (suc n) p h = and-true _ _ (all-each n p (λ i l. h i (omega arith))) (h n (omega arith))

-- a body that is there has a place in an array
pub body-small : (s : List ℕ) (i : ℕ) (b : Record) → record_of s 5 i ≡ Some b → i < 4095
unfolding holds
body-small s i b e = elim (dec_lt i (count_of s 5)) [
  | yes l ↦ omega (arith, count_limit s 5)
  | no l ↦ absurd (true_false {b = holds (record_of s 5 i) (λ a. true)} (holds-present _ _ (λ a. true) e) (holds_absent _ (λ a. true) (record_absent s 5 i (omega arith))))
]

-- ---- entries

zeros : (n : ℕ) → ◌≡◌ {A = ℕ} (get_or (replicate 4096 0) n 0) 0
zeros n = elim (dec_lt n 4096) [
  | yes l ↦ get_or-replicate 4096 n 0 0 l
  | no l ↦ get_or-eq_default (replicate 4096 0) 0 {n = n} (omega (arith, length-replicate {A = ℕ} 4096 0))
]

module _ (s : List ℕ) (p : ℕ → Record → Bool) where
  pub no_entries_lem : Entries s p (replicate 4096 0)
  no_entries_lem = record { size = length-replicate {A = ℕ} 4096 0; told = λ n h. absurd (omega (arith, zeros n)) }

  pub entered-entries : (i : ℕ) (t t' : List ℕ) → Entries s p t → Entered s p i t t' → Entries s p t'
  entered-entries i t t' e h = record { size = h.size; told = λ n l. elim (dec_lt n 4096) [ yes q ↦ go n q l (is_a s i (p n)) refl | no q ↦ absurd (omega (arith, get_or-eq_default t' 0 {n = n} (omega (arith, h.size)))) ] }
    where
      go : (n : ℕ) → n < 4096 → 0 < get_or t' n 0 → (b : Bool) → is_a s i (p n) ≡ b → is_a s (get_or t' n 0 - 1) (p n) ≡ true
      go n q l true k = let same : get_or t' n 0 - 1 ≡ i = omega (arith, h.new n q k) in rw same k
      go n q l false k = rw (h.old n q k) (e.told n (omega (arith, h.old n q k)))

  pub not_entered : (i : ℕ) (t : List ℕ) → length t ≡ 4096 → ((n : ℕ) → n < 4096 → is_a s i (p n) ≡ false) → Entered s p i t t
  not_entered i t l h = record { size = l; new = λ n q k. absurd (true_false k (h n q)); old = λ n q k. refl }

  pub entered_at : (i m : ℕ) (t : List ℕ) (b : Record) → record_of s 5 i ≡ Some b → length t ≡ 4096 → m < 4096 → ((n : ℕ) → p n b ≡ eqb m n) → Entered s p i t (set t m (i + 1))
  entered_at i m t b e l q h = record {
    size = length-set t m (i + 1) ∙ l;
    new = λ n r k. let same : m ≡ n = eqb-true m n (sym (h n) ∙ sym (holds-present _ b (p n) e) ∙ k) in rw (sym same) (get_or-set_same t m (i + 1) 0 (omega arith));
    old = λ n r k. get_or-set_other t m n (i + 1) 0 (λ z. eqb-false m n (sym (h n) ∙ sym (holds-present _ b (p n) e) ∙ k) (sym z));
  }

-- ---- the table of internal reactions

module _ (s : List ℕ) (i : ℕ) (t : List ℕ) (l : length t ≡ 4096) where
  pub enter_absent : record_of s 5 i ≡ None → Entered s reacts_to i t t
  enter_absent e = not_entered s reacts_to i t l (λ n q. holds_absent _ _ e)

  module _ (b : Record) (e : record_of s 5 i ≡ Some b) where
    pub enter_other : (b.f0 ≡ 3 → ⊥) → Entered s reacts_to i t t
    enter_other h = not_entered s reacts_to i t l (λ n q. holds-present _ b (reacts_to n) e ∙ false-and _ _ (ne_eqb _ 3 h))

    pub enter_past : b.f0 ≡ 3 → 4096 ≤ b.f2 → Entered s reacts_to i t t
    enter_past h k = not_entered s reacts_to i t l (λ n q. holds-present _ b (reacts_to n) e ∙ true-and _ _ (eq-eqb _ 3 h) ∙ ne_eqb _ n (λ z. omega arith))

    pub enter_it : b.f0 ≡ 3 → b.f2 < 4096 → Entered s reacts_to i t (set t b.f2 (i + 1))
    enter_it h k = entered_at s reacts_to i b.f2 t b e l k (λ n. true-and _ _ (eq-eqb _ 3 h))

-- every body of a chart's first j is entered
pub record Filled (s : List ℕ) (first j : ℕ) (t : List ℕ) : Type 0 where
  pub at : (n i : ℕ) → n < 4096 → first ≤ i → i < first + j → is_a s i (reacts_to n) ≡ true → (first < get_or t n 0) × (get_or t n 0 ≤ first + j)

module _ (s : List ℕ) (first : ℕ) where
  pub filled_none : (t : List ℕ) → Filled s first 0 t
  filled_none t = record { at = λ n i q a b k. absurd (omega arith) }

  pub filled_more : (j : ℕ) (t t' : List ℕ) → Filled s first j t → Entered s reacts_to (first + j) t t' → Filled s first (j + 1) t'
  filled_more j t t' f h = record { at = λ n i q a b k. go n i q a b k (is_a s (first + j) (reacts_to n)) refl }
    where
      go : (n i : ℕ) → n < 4096 → first ≤ i → i < first + (j + 1) → is_a s i (reacts_to n) ≡ true → (b : Bool) → is_a s (first + j) (reacts_to n) ≡ b → (first < get_or t' n 0) × (get_or t' n 0 ≤ first + (j + 1))
      go n i q a b k true e = (omega (arith, h.new n q e), omega (arith, h.new n q e))
      go n i q a b k false e = elim (dec_lt i (first + j)) [
        | yes l ↦ (omega (arith, h.old n q e, (f.at n i q a l k).0), omega (arith, h.old n q e, (f.at n i q a l k).1))
        | no l ↦ absurd (let same : i ≡ first + j = omega arith in true_false (rw same at k) e)
      ]

pub filled_table : (s : List ℕ) (c : Record) (j : ℕ) (t : List ℕ) → j ≤ c.f5 → c.f5 ≤ j → Entries s reacts_to t → Filled s c.f4 j t → Table s c t
unfolding tabled
filled_table s c j t a b e f = record { size = e.size; right = λ n l. go n l (tabled c (get_or t n 0)) refl }
  where
    reacts : (n i : ℕ) → n < 4096 → i < c.f5 → holds (record_of s 5 (c.f4 + i)) (reacts_to n) ≡ true → tabled c (get_or t n 0) ≡ true
    reacts n i l q k =
        let at : (c.f4 < get_or t n 0) × (get_or t n 0 ≤ c.f4 + j) = f.at n (c.f4 + i) l (omega arith) (omega arith) k in
        and-true _ _ (lt-ltb c.f4 (get_or t n 0) at.0) (le-leb (get_or t n 0) (c.f4 + c.f5) (omega (arith, at.1)))

    go : (n : ℕ) → n < 4096 → (x : Bool) → tabled c (get_or t n 0) ≡ x → tabled c (get_or t n 0) ≡ has_reaction s c n
    go n l true k =
        let above : c.f4 < get_or t n 0 = ltb-true c.f4 (get_or t n 0) (and_first _ _ k) in
        let below : get_or t n 0 ≤ c.f4 + c.f5 = leb-true (get_or t n 0) (c.f4 + c.f5) (and_second _ _ k) in
        let same : c.f4 + (get_or t n 0 - 1 - c.f4) ≡ get_or t n 0 - 1 = omega arith in
        k ∙ reaction_found s c n (get_or t n 0 - 1 - c.f4) (omega arith) (rw same (e.told n (omega arith)))
    go n l false k = k ∙ reaction_none s c n (all-each c.f5 (no_reaction s c.f4 n) (λ i q. ap not (not_so (holds (record_of s 5 (c.f4 + i)) (reacts_to n)) (λ h. true_false {b = tabled c (get_or t n 0)} (reacts n i l q h) k))))

-- ---- chains

pub up_past : (i e : ℕ) → i < e → up_to i e ≡ 0
unfolding up_to
up_past i e h = rw (up_to, lt-ltb i e h) refl

pub up_in : (i e : ℕ) → e ≤ i → up_to i e ≡ e
unfolding up_to
up_in i e h = rw (up_to, le-ltb i e h) refl

module _ (s : List ℕ) (first : ℕ) where
  pub chains_none : (i : ℕ) (last previous : List ℕ) → i ≤ first → Entries s named last → length previous ≡ 4096 → Chains s first i last previous
  chains_none i last previous r e l = record {
    entries = e;
    size = l;
    latest = λ n q. record { none = λ m a b k. absurd (omega arith); one = λ h. absurd (past (get_or last n 0) h) };
    earlier = λ m n a b q k. absurd (omega arith);
    present = λ m a b. absurd (omega arith);
  }
    where
      past : (e : ℕ) → first < up_to i e → ⊥
      past e h = elim (dec_lt i e) [ yes q ↦ omega (arith, up_past i e q) | no q ↦ omega (arith, up_in i e (omega arith)) ]

  module _ (i : ℕ) (b : Record) (there : record_of s 5 i ≡ Some b) (last last' previous previous' : List ℕ) (ch : Chains s first i last previous) (h : Linked b i last last' previous previous') where
    tests : (n : ℕ) → is_a s i (named n) ≡ named n b
    tests n = holds-present _ b (named n) there

    linked_entered : Entered s named i last last'
    linked_entered = record { size = h.size; new = λ n q k. h.new n q (sym (tests n) ∙ k); old = λ n q k. h.old n q (sym (tests n) ∙ k) }

    latest-new : (n e : ℕ) → e ≡ i + 1 → is_a s i (named n) ≡ true → Latest s first (i + 1) n e
    latest-new n e q k = record {
      none = λ m a r l. absurd (omega (arith, up_in (i + 1) e (omega arith)));
      one = λ l. let same : up_to (i + 1) e - 1 ≡ i = omega (arith, up_in (i + 1) e (omega arith)) in rw same k;
    }

    -- an entry stays the latest one where body i does not react to the name
    latest-old : (n e : ℕ) → Latest s first i n e → is_a s i (named n) ≡ false → (0 < e → is_a s (e - 1) (named n) ≡ true) → Latest s first (i + 1) n e
    latest-old n e was k told = record {
      none = λ m a r l. elim (dec_lt m i) [
        | yes q ↦ was.none m a (omega (arith, same)) q
        | no q ↦ (let is : m ≡ i = omega arith in rw is k)
      ];
      one = λ l. rw same (was.one (omega (arith, same)));
    }
      where
        same : up_to (i + 1) e ≡ up_to i e
        same = elim (dec_lt i e) [
          | no q ↦ up_in (i + 1) e (omega arith) ∙ sym (up_in i e (omega arith))
          | yes q ↦ elim (dec_lt (i + 1) e) [
            | yes r ↦ up_past (i + 1) e r ∙ sym (up_past i e q)
            | no r ↦ absurd (let is : e - 1 ≡ i = omega arith in true_false (rw is at (told (omega arith))) k)
          ]
        ]

    chained_latest : (n : ℕ) → n < 4096 → (x : Bool) → is_a s i (named n) ≡ x → Latest s first (i + 1) n (get_or last' n 0)
    chained_latest n q true k = latest-new n (get_or last' n 0) (linked_entered.new n q k) k
    chained_latest n q false k = rw (linked_entered.old n q k) (latest-old n (get_or last n 0) (ch.latest n q) k (ch.entries.told n))

    chained_earlier : (m n : ℕ) → first ≤ m → m < i + 1 → n < 4096 → is_a s m (named n) ≡ true → Latest s first m n (get_or previous' m 0)
    chained_earlier m n a l q k = elim (dec_lt m i) [
      | yes r ↦ rw (h.others m (λ z. omega arith)) (ch.earlier m n a r q k)
      | no r ↦ (let is : m ≡ i = omega arith in rw is (rw (h.before n q (sym (tests n) ∙ (rw is at k))) (ch.latest n q)))
    ]

    chained_present : (m : ℕ) → first ≤ m → m < i + 1 → is_a s m (λ a. true) ≡ true
    chained_present m a l = elim (dec_lt m i) [
      | yes r ↦ ch.present m a r
      | no r ↦ (let is : m ≡ i = omega arith in rw is (holds-present _ b (λ a. true) there))
    ]

    pub chained : Chains s first (i + 1) last' previous'
    chained = record {
      entries = entered-entries s named i last last' ch.entries linked_entered;
      size = h.previous_size;
      latest = λ n q. chained_latest n q (is_a s i (named n)) refl;
      earlier = chained_earlier;
      present = chained_present;
    }

-- ---- a body entered

module _ (b : Record) (i : ℕ) (last previous : List ℕ) (l : length last ≡ 4096) (p : length previous ≡ 4096) where
  pub not_linked : is_reaction b.f0 ≡ false → Linked b i last last previous previous
  not_linked h = record {
    size = l;
    previous_size = p;
    new = λ n q k. absurd (true_false (and_first _ _ k) h);
    old = λ n q k. refl;
    before = λ n q k. absurd (true_false (and_first _ _ k) h);
    others = λ m d. refl;
  }

  pub linked : is_reaction b.f0 ≡ true → b.f2 < 4096 → i < 4096 → Linked b i last (set last b.f2 (i + 1)) previous (set previous i (get_or last b.f2 0))
  linked h q r = record {
    size = length-set last b.f2 (i + 1) ∙ l;
    previous_size = length-set previous i _ ∙ p;
    new = λ n u k. let same : b.f2 ≡ n = eqb-true _ _ (and_second _ _ k) in rw (sym same) (get_or-set_same last b.f2 (i + 1) 0 (omega arith));
    old = λ n u k. get_or-set_other last b.f2 n (i + 1) 0 (λ z. true_false (and-true _ _ h (eq-eqb b.f2 n (sym z))) k);
    before = λ n u k. let same : b.f2 ≡ n = eqb-true _ _ (and_second _ _ k) in get_or-set_same previous i _ 0 (omega arith) ∙ ap (λ m. get_or last m 0) same;
    others = λ m d. get_or-set_other previous i m _ 0 d;
  }

-- ---- twins

same_named : (a b : Record) → same_reaction a b ≡ true → named b.f2 a ≡ true
unfolding same_reaction
same_named a b h = and-true _ _ (and_first _ _ h) (and_second _ _ (and_second _ _ (and_second _ _ h)))

same_role_lem : (a b : Record) → same_reaction a b ≡ true → is_reaction b.f0 ≡ true
unfolding same_reaction
same_role_lem a b h = ap is_reaction (sym (eqb-true _ _ (and_first _ _ (and_second _ _ h)))) ∙ and_first _ _ h

-- no twin of b
abbrev pub differs : Record → Record → Bool
differs b a = not (same_reaction a b)

other_name : (f : Option Record) (b : Record) → holds f (λ a. true) ≡ true → holds f (named b.f2) ≡ false → holds f (differs b) ≡ true
unfolding holds
other_name (Some a) b h k = ap not (not_so _ (λ e. true_false (same_named a b e) k))
other_name None b h k = h

not_reaction : (f : Option Record) (b : Record) → holds f (λ a. true) ≡ true → is_reaction b.f0 ≡ false → holds f (differs b) ≡ true
unfolding holds
not_reaction (Some a) b h k = ap not (not_so _ (λ e. true_false (same_role_lem a b e) k))
not_reaction None b h k = h

module _ (s : List ℕ) (c : Record) (j : ℕ) (b : Record) where
  pub no_twins : ((m : ℕ) → c.f4 ≤ m → m < c.f4 + j → is_a s m (differs b) ≡ true) → true ≡ no_twin s c j b
  unfolding no_twin
  no_twins h = sym (all-each j _ (λ i l. h (c.f4 + i) (omega arith) (omega arith)))

  pub a_twin : (m : ℕ) → c.f4 ≤ m → m < c.f4 + j → is_a s m (differs b) ≡ false → false ≡ no_twin s c j b
  unfolding no_twin
  a_twin m a l h = let same : c.f4 + (m - c.f4) ≡ m = omega arith in sym (all_fails_lem j (λ i. is_a s (c.f4 + i) (differs b)) (m - c.f4) (omega arith) (rw same h))

  pub twin_less : (last previous : List ℕ) → Chains s c.f4 (c.f4 + j) last previous → is_reaction b.f0 ≡ false → true ≡ no_twin s c j b
  twin_less last previous ch h = no_twins (λ m a l. not_reaction _ b (ch.present m a l) h)

-- the bodies from entry e on, before body i, were compared
pub record Walked (s : List ℕ) (first i : ℕ) (b : Record) (e : ℕ) : Type 0 where
  pub inside : e ≤ i
  pub seen : (m : ℕ) → first ≤ m → e ≤ m → m < i → is_a s m (differs b) ≡ true
  pub one : first < e → is_a s (e - 1) (named b.f2) ≡ true

module _ (s : List ℕ) (first i : ℕ) (b : Record) (last previous : List ℕ) (ch : Chains s first i last previous) (q : b.f2 < 4096) where
  pub walk_start : (e : ℕ) → e ≡ up_to i (get_or last b.f2 0) → e ≤ i → Walked s first i b e
  walk_start e h l = record {
    inside = l;
    seen = λ m a r k. other_name _ b (ch.present m a k) ((ch.latest b.f2 q).none m a (omega (arith, h)) k);
    one = λ k. rw h ((ch.latest b.f2 q).one (omega (arith, h)));
  }

  pub walk_more : (e e' : ℕ) (a : Record) → Walked s first i b e → first < e → record_of s 5 (e - 1) ≡ Some a → same_reaction a b ≡ false → e' ≡ up_to (e - 1) (get_or previous (e - 1) 0) → e' ≤ e - 1 → Walked s first i b e'
  walk_more e e' a w f there d h l = record {
    inside = omega (arith, w.inside);
    seen = λ m u r k. elim (dec_lt m (e - 1)) [
      | yes z ↦ other_name _ b (ch.present m u k) (chain.none m u (omega (arith, h)) z)
      | no z ↦ elim (dec_lt m e) [
        | no y ↦ w.seen m u (omega arith) k
        | yes y ↦ (let is : m ≡ e - 1 = omega arith in rw is (holds-present _ a (differs b) there ∙ ap not d))
      ]
    ];
    one = λ k. rw h (chain.one (omega (arith, h)));
  }
    where
      chain : Latest s first (e - 1) b.f2 (get_or previous (e - 1) 0)
      chain = ch.earlier (e - 1) b.f2 (omega arith) (omega (arith, w.inside)) q (w.one f)

-- a reaction that meets the static rules has a name that is there
pub static-small : (s : List ℕ) (c b : Record) → body_static s c b ≡ true → is_reaction b.f0 ≡ true → b.f2 < 4096
unfolding body_static role_static reaction_static
static-small s c b h k = class-small s b.f2 _ (and_first _ _ (rw (role_static, k) at (and_first _ _ (and_second _ _ (and_second _ _ h)))))

-- ---- from body to body, and from chart to chart

pub chained_next : (s : List ℕ) (first j : ℕ) (b : Record) (last last' previous previous' : List ℕ) → record_of s 5 (first + j) ≡ Some b → Chains s first (first + j) last previous → Linked b (first + j) last last' previous previous' → Chains s first (first + (j + 1)) last' previous'
chained_next s first j b last last' previous previous' there ch h = let same : first + j + 1 ≡ first + (j + 1) = omega arith in rw same at (chained s first (first + j) b there last last' previous previous' ch h)

pub chains_start : (s : List ℕ) (first : ℕ) (t : Tables) → Ready s t → Chains s first (first + 0) t.last t.previous
chains_start s first t r = chains_none s first (first + 0) t.last t.previous (omega arith) r.last_entries r.previous_size

pub ready : (s : List ℕ) (first i : ℕ) (t : Tables) → Entries s reacts_to t.internal → Chains s first i t.last t.previous → Ready s t
ready s first i t e ch = record { table_entries = e; last_entries = ch.entries; previous_size = ch.size }

pub ready-zeros : (s : List ℕ) → Ready s (record { internal = replicate 4096 0; last = replicate 4096 0; previous = replicate 4096 0 })
ready-zeros s = record { table_entries = no_entries_lem s reacts_to; last_entries = no_entries_lem s named; previous_size = length-replicate {A = ℕ} 4096 0 }
