-- A telegram reaches an element: which body runs, with which data.
use Rattle.std.specs.Prelude.{Some}
use Prim.Native.Nat.{ℕ, ◌+◌, ◌<◌, ◌≤◌}
use mathlib.Core.Path.{◌≡◌, sym, ap, subst, ◌∙◌}
use mathlib.Core.List.{List}
use mathlib.Core.Bool.{true, false}
use native.Mathlib.Omega.{arith}
use lib.IntN.{ℤ, pos, nat_abs}
use lib.Signed.{le_z}
use borrow.Author.Tests.{le-leb}
use Rattle.sheet.specs.declared.Record.{Record}
use Rattle.sheet.specs.Names.{names, bodies, chart_bodies}
use Rattle.sheet.specs.Sheet.{count_of, record_of}
use Rattle.sheet.proofs.All.{and_first, and_second}
use Rattle.sheet_rules.specs.declared.Checked.TheVariants.{Passed}
use Rattle.machine.specs.declared.Telegram.{Telegram}
use Rattle.sheet_rules.specs.Fields.{holds, externals_of}
use Rattle.sheet_rules.specs.Types.{name_range, reacts_to, has_reaction}
use Rattle.machine.specs.Values.{is_below, is_bound, chart_of}
use Rattle.machine.specs.State.{is_internal}
use Rattle.machine.specs.Valid.{data_fit, name_fits, reaction_awaits, datum_of, internal_fits, external_fits, telegram_fits}
use Rattle.machine.specs.Play.{Outcome, has_panic, reacts_on, element_body, body_event, reacting, panicking, delivered, limit_of}
use Rattle.sheet_rules.specs.Check.{check_of}
use Rattle.sheet_rules.proofs.Fields.{holds-present}
use Rattle.machine_passed.specs.Places.{StandsAt}
use Rattle.machine_passed.proofs.Charts.{chart-element}
use Rattle.machine_states.proofs.Parts.{below_pos}
use Rattle.machine_states.proofs.Telegrams.{internal_part}
use Rattle.machine_promise.proofs.Events.{bound_word_lem, receiver-below, external_part}
use Rattle.machine_events.specs.Called.{Called}
use Rattle.machine_events.proofs.Called.{four_zeros, data_in, panic-called, panic-runs, on-called, on-delivered, panic-delivered, inner-called, inner-runs}

not_negative : (z : ℤ) (n : ℕ) → is_below z n ≡ true → le_z (pos 0) z ≡ true
not_negative z n h = ap (le_z (pos 0)) (below_pos z n h) ∙ le-leb 0 (nat_abs z) (omega arith)

module _ (s : List ℕ) (ok : check_of s ≡ Passed) where
  module _ (e : ℕ) (c : Record) (chart : chart_of s e ≡ Some c) (j : ℕ) (h : StandsAt s c has_panic j) where
    pub panic_asked : Called s e ((chart_bodies c).first + j) four_zeros
    panic_asked = let x = chart-element s e c chart in panic-called s ok e x.0 c x.1 j h

    pub as_panicking : (old st : List ℤ) (x : Outcome) → x ≡ body_event s (limit_of s) old e (record_of s bodies ((chart_bodies c).first + j)) four_zeros st → x ≡ panicking s (limit_of s) old e st
    as_panicking old st x g = let y = chart-element s e c chart in g ∙ sym (panic-runs s ok e y.0 c y.1 j h old st)

  module _ (t : Telegram) (fits : telegram_fits s t ≡ true) where
    pub receiver-number : le_z (pos 0) t.receiver ≡ true
    receiver-number = not_negative _ _ (receiver-below s ok t fits)

    -- ---- an external telegram of a bound receiver

    module _ (outer : is_internal t ≡ false) where
      part : external_fits s t ≡ true
      part = external_part s ok t fits outer

      pub port-number : le_z (pos 0) t.port ≡ true
      unfolding external_fits
      port-number = not_negative _ _ (and_first _ _ (and_second _ _ part))

      name_below : is_below t.name (count_of s names) ≡ true
      unfolding external_fits name_fits
      name_below = and_first _ _ (and_second _ _ (and_second _ _ part))

      pub name-number : le_z (pos 0) t.name ≡ true
      name-number = not_negative _ _ name_below

      data_fit_lem : data_fit s (name_range s (nat_abs t.name)) (datum_of t) ≡ true
      unfolding external_fits name_fits
      data_fit_lem = and_second _ _ (and_second _ _ (and_second _ _ (and_second _ _ part)))

      module _ (far : is_below t.receiver (externals_of s) ≡ false) (e : ℕ) (same : e ≡ nat_abs t.receiver) where
        pub receiver-bound : is_bound s e ≡ true
        receiver-bound = subst (λ e. is_bound s e ≡ true) (sym same) (bound_word_lem s t.receiver (receiver-below s ok t fits) far)

        module _ (c : Record) (chart : chart_of s e ≡ Some c) (port name j : ℕ) (on : port ≡ nat_abs t.port) (of : name ≡ nat_abs t.name) (h : StandsAt s c (reacts_on port name) j) where
          stands : StandsAt s c (reacts_on (nat_abs t.port) (nat_abs t.name)) j
          stands = subst (λ n. StandsAt s c (reacts_on (nat_abs t.port) n) j) of (subst (λ p. StandsAt s c (reacts_on p name) j) on h)

          module _ (l : j < (chart_bodies c).count) (zs : List ℤ) (read : zs ≡ data_in t) where
            pub reaction_called : Called s e ((chart_bodies c).first + j) zs
            reaction_called = let x = chart-element s e c chart in subst (Called s e ((chart_bodies c).first + j)) (sym read) (on-called s ok e x.0 c x.1 t name_below data_fit_lem j stands l)

            pub as_delivered : (old st : List ℤ) (x : Outcome) → x ≡ body_event s (limit_of s) old e (record_of s bodies ((chart_bodies c).first + j)) zs st → x ≡ delivered s (limit_of s) old t st
            as_delivered old st x g =
                let y = chart-element s e c chart in
                g
                ∙ ap (λ zs. body_event s (limit_of s) old e (record_of s bodies ((chart_bodies c).first + j)) zs st) read
                ∙ sym (on-delivered s ok e y.0 c y.1 t name_below data_fit_lem j stands l old st same fits part far)

          pub none-delivered : (chart_bodies c).count ≤ j → (old st : List ℤ) (x : Outcome) → x ≡ panicking s (limit_of s) old e st → x ≡ delivered s (limit_of s) old t st
          none-delivered l old st x g = let y = chart-element s e c chart in g ∙ sym (panic-delivered s ok e y.0 c y.1 t name_below data_fit_lem j stands l old st same fits part far)

    -- ---- an internal telegram

    module _ (inner : is_internal t ≡ true) where
      inside : internal_fits s t ≡ true
      inside = internal_part s t fits inner

      named : name_fits s 1 t.name (datum_of t) ≡ true
      unfolding internal_fits
      named = and_first _ _ (and_second _ _ (and_second _ _ inside))

      inner_below : is_below t.name (count_of s names) ≡ true
      unfolding name_fits
      inner_below = and_first _ _ named

      pub inner_name : le_z (pos 0) t.name ≡ true
      inner_name = not_negative _ _ inner_below

      inner_fit : data_fit s (name_range s (nat_abs t.name)) (datum_of t) ≡ true
      unfolding name_fits
      inner_fit = and_second _ _ (and_second _ _ named)

      module _ (e : ℕ) (same : e ≡ nat_abs t.receiver) where
        pub inner_bound : is_bound s e ≡ true
        unfolding internal_fits
        inner_bound = subst (λ e. is_bound s e ≡ true) (sym same) (and_first _ _ (and_second _ _ inside))

        module _ (c : Record) (chart : chart_of s e ≡ Some c) (name j : ℕ) (of : name ≡ nat_abs t.name) (h : StandsAt s c (reacts_to name) j) (zs : List ℤ) (read : zs ≡ data_in t) where
          awaited : has_reaction s c (nat_abs t.name) ≡ true
          unfolding internal_fits reaction_awaits
          awaited = sym (holds-present _ c _ chart) ∙ subst (λ e. holds (chart_of s e) (λ c. has_reaction s c (nat_abs t.name)) ≡ true) (sym same) (and_second _ _ (and_second _ _ (and_second _ _ inside)))

          reacts : StandsAt s c (reacts_to (nat_abs t.name)) j
          reacts = subst (λ n. StandsAt s c (reacts_to n) j) of h

          pub inner_asked : Called s e ((chart_bodies c).first + j) zs
          inner_asked = let x = chart-element s e c chart in subst (Called s e ((chart_bodies c).first + j)) (sym read) (inner-called s ok e x.0 c x.1 t inner_below inner_fit j reacts awaited)

          pub as_reacting : (old st : List ℤ) (x : Outcome) → x ≡ body_event s (limit_of s) old e (record_of s bodies ((chart_bodies c).first + j)) zs st → x ≡ reacting s (limit_of s) old (nat_abs t.receiver) (element_body s (nat_abs t.receiver) (reacts_to (nat_abs t.name))) t st
          as_reacting old st x g =
              let y = chart-element s e c chart in
              g
              ∙ ap (λ zs. body_event s (limit_of s) old e (record_of s bodies ((chart_bodies c).first + j)) zs st) read
              ∙ sym (inner-runs s ok e y.0 c y.1 t inner_below inner_fit j reacts awaited old st)
              ∙ ap (λ e. reacting s (limit_of s) old e (element_body s e (reacts_to (nat_abs t.name))) t st) same
