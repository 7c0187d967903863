-- On a passed sheet an internal name that waits or is armed has one reaction.
use Rattle.std.specs.Prelude.{Some}
use Prim.Native.Nat.{ℕ, zero, suc, ◌<◌}
use mathlib.Core.Path.{◌≡◌, refl, sym, ap, subst, ◌∙◌}
use mathlib.Core.List.{List}
use mathlib.Core.Bool.{Bool, true, false}
use native.Mathlib.Omega.{arith}
use native.Mathlib.Decide.{ℕ_discrete}
use lib.Dec.{ltb, leb, eqb}
use lib.IntN.{ℤ}
use borrow.Author.Tests.{eqb-true, eq-eqb, not-true}
use Rattle.sheet.specs.declared.Record.{Record}
use Rattle.sheet.specs.All.{◌and◌}
use Rattle.sheet.specs.Names.{charts, chart_bodies, role, internal_reaction, external_reaction, reaction_port, reaction_name, bound_chart}
use Rattle.sheet.specs.Sheet.{record_of}
use Rattle.sheet.proofs.All.{true_false, not_so, and_first, and_second, and-true, all-at}
use Rattle.sheet_rules.specs.declared.Checked.TheVariants.{Passed}
use Rattle.sheet_rules.specs.Fields.{ports_of, holds, one_if, sum_below, count_below}
use Rattle.sheet_rules.specs.Shape.{is_reaction, reaction_shape, body_shape}
use Rattle.sheet_rules.specs.Types.{has_reaction, reacts_to}
use Rattle.sheet_rules.specs.Static.{body_of, same_reaction, no_twin}
use Rattle.machine.specs.Values.{chart_of}
use Rattle.machine.specs.Valid.{internal_fits, reaction_awaits, OfSheet}
use Rattle.sheet_rules.specs.Check.{check_of}
use Rattle.sheet_rules.proofs.Fields.{holds-present, number-present}
use Rattle.machine_passed.proofs.Records.{held, body-shape}
use Rattle.machine_passed.proofs.Charts.{One, body-there, chart-element, some_reacts}
use Rattle.machine_passed.proofs.Indices.{has_cell, clock-plain}
use Rattle.machine_states.proofs.Parts.{cell_of_lem, telegram_of_lem}
use Rattle.machine_states.proofs.Telegrams.{internal_part}
use Rattle.machine_states.proofs.Clocks.{running, clock_awaits}
use Rattle.machine_promise.specs.Promise.{reactions_to, OneReaction}

-- ---- counting what is there once

none-counted : (n : ℕ) (p : ℕ → Bool) → ((j : ℕ) → j < n → p j ≡ false) → count_below n p ≡ 0
unfolding count_below sum_below
none-counted zero p h = refl
none-counted (suc n) p h = let z : one_if (p n) ≡ 0 = ap one_if (h n (omega arith)) in let k = none-counted n p (λ j l. h j (omega arith)) in omega arith

once-counted : (n : ℕ) (p : ℕ → Bool) → One n p → ((j k : ℕ) → j < k → k < n → p j ≡ true → p k ≡ true → ⊥) → count_below n p ≡ 1
unfolding count_below sum_below
once-counted zero p one h = absurd (let l = one.1 in omega arith)
once-counted (suc n) p one h = go (once-counted n p) (p n) refl
  where
    go : (One n p → ((j k : ℕ) → j < k → k < n → p j ≡ true → p k ≡ true → ⊥) → count_below n p ≡ 1) → (t : Bool) → p n ≡ t → count_below (suc n) p ≡ 1
    go lower true q =
        let z : one_if (p n) ≡ 1 = ap one_if q in
        let k = none-counted n p (λ j l. not_so (p j) (λ r. h j n l (omega arith) r q)) in
        omega arith
    go lower false q =
        let z : one_if (p n) ≡ 0 = ap one_if q in
        let i = one.0 in
        let low : i < n = below i one.1 one.2 in
        let k = lower (i, low, one.2) (λ j k a b. h j k a (omega arith)) in
        omega arith
      where
        below : (i : ℕ) → i < suc n → p i ≡ true → i < n
        below i l r = elim (ℕ_discrete i n) [ yes e ↦ absurd (true_false r (ap p e ∙ q)) | no e ↦ omega arith ]

module _ (s : List ℕ) (ok : check_of s ≡ Passed) where
  -- ---- "no chart has two .. internal ones with equal name"

  module _ (k : ℕ) (c : Record) (chart : record_of s charts k ≡ Some c) (n : ℕ) where
    abbrev reacts : ℕ → Bool
    reacts j = holds (body_of s c j) (reacts_to n)

    -- a body that is no external reaction has port 0
    no_port_lem : (j : ℕ) (b : Record) → body_of s c j ≡ Some b → role b ≡ internal_reaction → reaction_port b ≡ 0
    unfolding body_shape reaction_shape
    no_port_lem j b e three = eqb-true _ _ (subst (λ r. ◌≡◌ {A = Bool} (elim (eqb r external_reaction) [ true ↦ ltb (reaction_port b) (ports_of s) | false ↦ eqb (reaction_port b) 0 ]) true) three (and_first _ _ (and_first _ _ (and_second _ _ (body-shape s ok _ b e)))))

    no_two : (j m : ℕ) → j < m → m < (chart_bodies c).count → reacts j ≡ true → reacts m ≡ true → ⊥
    unfolding no_twin same_reaction is_reaction
    no_two j m l q p p' =
        let a = held _ _ p in
        let d = body-there s ok k c chart m q in
        let b : reacts_to n d.0 ≡ true = sym (holds-present _ d.0 _ d.1) ∙ p' in
        let t = sym (holds-present _ a.0 _ a.1) ∙ all-at m _ (and_first _ _ d.2) j l in
        let three : role a.0 ≡ internal_reaction = eqb-true _ _ (and_first _ _ a.2) in
        let three' : role d.0 ≡ internal_reaction = eqb-true _ _ (and_first _ _ b) in
        let named : reaction_name a.0 ≡ n = eqb-true _ _ (and_second _ _ a.2) in
        let named' : reaction_name d.0 ≡ n = eqb-true _ _ (and_second _ _ b) in
        let reaction : leb 2 (role a.0) and leb (role a.0) 3 ≡ true = ap (λ r. leb 2 r and leb r 3) three ∙ and-true _ _ refl refl in
        true_false (and-true _ _ reaction (and-true _ _ (eq-eqb _ _ (three ∙ sym three')) (and-true _ _ (eq-eqb _ _ (no_port_lem j a.0 a.1 three ∙ sym (no_port_lem m d.0 d.1 three'))) (eq-eqb _ _ (named ∙ sym named'))))) (not-true _ t)

  -- what a state says of a name that waits or is armed
  one_of : (e n : ℕ) → holds (chart_of s e) (λ c. has_reaction s c n) ≡ true → reactions_to s e n ≡ 1
  unfolding reactions_to
  one_of e n h =
      let c = held _ _ h in
      let x = chart-element s e c.0 c.1 in
      number-present _ c.0 _ c.1 ∙ once-counted _ _ (some_reacts s c.0 n c.2) (no_two (bound_chart x.0) c.0 x.1.chart n)

  pub one_reaction : (st : List ℤ) → OfSheet s st → OneReaction s st
  unfolding internal_fits reaction_awaits
  one_reaction st o = record {
    waits = λ j l i. one_of _ _ (and_second _ _ (and_second _ _ (and_second _ _ (internal_part s _ (telegram_of_lem s st o j l) i))));
    armed = λ e c j a. one_of e _ (clock_awaits s e _ st _ (running s e _ st _ (cell_of_lem s st o e c a.chart j a.variable 0 (has_cell s _ (clock-plain s ok _ a.clock))) a.clock a.runs) a.no_timer);
  }
