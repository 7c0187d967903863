-- The bodies that events and start run, found by number.
use Rattle.std.specs.Prelude.{Option, Some, None}
use Prim.Native.Nat.{ℕ, ◌+◌, ◌<◌, ◌≤◌}
use mathlib.Core.Path.{◌≡◌, refl, sym, ap, subst, ◌∙◌}
use mathlib.Core.List.{List, [], ◌∷◌}
use mathlib.Core.Bool.{Bool, true, false}
use native.Mathlib.Omega.{arith}
use native.Mathlib.Decide.{dec_lt}
use lib.Dec.{leb}
use lib.IntN.{ℤ, pos, nat_abs}
use borrow.Author.Tests.{eqb-true, lt-ltb, le-ltb}
use Rattle.sheet.specs.declared.Record.{Record}
use Rattle.sheet.specs.All.{◌and◌}
use Rattle.sheet.specs.Names.{names, bodies, chart_bodies, body_parameters, role, initial, panic, external_reaction, internal_reaction, reaction_name}
use Rattle.sheet.specs.Sheet.{count_of, record_of}
use Rattle.sheet.proofs.All.{true_false, and_first, and_second, and-true}
use Rattle.sheet_rules.specs.declared.Checked.TheVariants.{Passed}
use Rattle.machine.specs.declared.Telegram.{Telegram}
use Rattle.sheet_rules.specs.Fields.{type_at, externals_of}
use Rattle.sheet_rules.specs.Shape.{is_reaction}
use Rattle.sheet_rules.specs.Types.{name_range, reacts_to, has_reaction}
use Rattle.sheet_rules.specs.Static.{body_of}
use Rattle.machine.specs.Values.{is_below, in_type, is_bound, chart_of}
use Rattle.machine.specs.Valid.{data_fit, datum_of, external_fits, telegram_fits}
use Rattle.machine.specs.Run.{datum}
use Rattle.machine.specs.Play.{body_where, has_panic, is_initial, reacts_on, element_body, alone, body_event, reacting, panicking, bodies_there, delivered, ran_body, limit_of}
use Rattle.sheet_rules.specs.Check.{check_of}
use Rattle.machine_passed.specs.Places.{InChart, Element, StandsAt}
use Rattle.machine_passed.proofs.Charts.{bound-element, element-chart, where_found, body-there, panic-there, initial-there, reaction_there}
use Rattle.machine_passed.proofs.Declared.{bodies-there}
use Rattle.machine_promise.proofs.Bodies.{brought_so, brought_data, no_parameters, runs-alone}
use Rattle.machine_events.specs.Called.{Called}
use Rattle.machine_events.proofs.Laws.{element-body, delivered_reaction, delivered-panic, reacting_is, panicking_is, initial-ran}

abbrev pub four_zeros : List ℤ
four_zeros = pos 0 ∷ pos 0 ∷ pos 0 ∷ pos 0 ∷ []

abbrev pub data_in : Telegram → List ℤ
data_in t = t.d0 ∷ t.d1 ∷ t.d2 ∷ t.d3 ∷ []

absent_differs : (b : Record) → None ≡ Some b → ⊥
absent_differs b e = true_false {b = false} (ap there e) refl
  where
    there : Option Record → Bool
    there (Some q) = true
    there None = false

-- a bound element has a chart
pub has_chart : (s : List ℕ) → check_of s ≡ Passed → (e : ℕ) → is_bound s e ≡ true → chart_of s e ≡ None → ⊥
has_chart s ok e h q = let x = bound-element s ok e h in absent_differs x.1 (sym q ∙ element-chart s e x.0 x.1 x.2)

module _ (s : List ℕ) (ok : check_of s ≡ Passed) (e : ℕ) (b c : Record) (x : Element s e b c) where
  module _ (p : Record → Bool) (j : ℕ) (h : StandsAt s c p j) where
    -- one that is found
    module _ (l : j < (chart_bodies c).count) where
      found : (d : Record) × (body_of s c j ≡ Some d)
      found = let d = body-there s ok _ c x.chart j l in (d.0, d.1)

      abbrev body : Record
      body = found.0

      searched : body_where s c p ≡ Some body
      searched = h.there ∙ ap (λ t. elim t as (λ t. Option Record) [ true ↦ record_of s bodies ((chart_bodies c).first + j) | false ↦ None ]) (lt-ltb _ _ l) ∙ found.1

      inside : InChart s c body
      inside = record { number = j; below = l; there = found.1 }

      meets : p body ≡ true
      meets = (where_found s p c body searched).1

      pub element_found : element_body s e p ≡ record_of s bodies ((chart_bodies c).first + j)
      element_found = element-body s e c p (element-chart s e b c x) ∙ searched ∙ sym found.1

      called : (zs : List ℤ) → ((i : ℕ) → i < (body_parameters body).count → in_type s (type_at s ((body_parameters body).first + i)) (datum zs i) ≡ true) → Called s e ((chart_bodies c).first + j) zs
      unfolding inside
      called zs k = record { binding = b; chart = c; body = body; element = x; inside = inside; at = refl; parameters = k }

    -- none is found
    pub element-none : (chart_bodies c).count ≤ j → element_body s e p ≡ None
    element-none l = element-body s e c p (element-chart s e b c x) ∙ h.there ∙ ap (λ t. elim t as (λ t. Option Record) [ true ↦ record_of s bodies ((chart_bodies c).first + j) | false ↦ None ]) (le-ltb _ _ l)

    stands : (d : Record) → body_where s c p ≡ Some d → j < (chart_bodies c).count
    stands d q = elim (dec_lt j (chart_bodies c).count) [ yes l ↦ l | no l ↦ absurd (absent_differs d (sym (h.there ∙ ap (λ t. elim t as (λ t. Option Record) [ true ↦ record_of s bodies ((chart_bodies c).first + j) | false ↦ None ]) (le-ltb j (chart_bodies c).count (omega arith))) ∙ q)) ]

  -- ---- the panic body

  module _ (j : ℕ) (h : StandsAt s c has_panic j) where
    pub panic_stands : j < (chart_bodies c).count
    panic_stands = stands has_panic j h _ (panic-there s ok _ c x.chart).1

    panic-role : role (body has_panic j h panic_stands) ≤ panic
    panic-role = let one : role (body has_panic j h panic_stands) ≡ panic = eqb-true _ _ (meets has_panic j h panic_stands) in omega arith

    pub panic-called : Called s e ((chart_bodies c).first + j) four_zeros
    panic-called = called has_panic j h panic_stands four_zeros (no_parameters s ok e b c x _ (inside has_panic j h panic_stands) panic-role four_zeros)

    pub panic-runs : (old st : List ℤ) → panicking s (limit_of s) old e st ≡ body_event s (limit_of s) old e (record_of s bodies ((chart_bodies c).first + j)) four_zeros st
    panic-runs old st = panicking_is s old e st _ (ap alone (element_found has_panic j h panic_stands ∙ (found has_panic j h panic_stands).1) ∙ runs-alone s ok e b c x _ (inside has_panic j h panic_stands) panic-role) ∙ ap (λ f. body_event s (limit_of s) old e f four_zeros st) (sym (found has_panic j h panic_stands).1)

  -- ---- the initial body

  module _ (j : ℕ) (h : StandsAt s c is_initial j) where
    pub initial_stands : j < (chart_bodies c).count
    initial_stands = stands is_initial j h _ (initial-there s ok _ c x.chart).1

    initial-role : role (body is_initial j h initial_stands) ≤ panic
    initial-role = let none : role (body is_initial j h initial_stands) ≡ initial = eqb-true _ _ (meets is_initial j h initial_stands) in omega arith

    pub initial-called : Called s e ((chart_bodies c).first + j) four_zeros
    initial-called = called is_initial j h initial_stands four_zeros (no_parameters s ok e b c x _ (inside is_initial j h initial_stands) initial-role four_zeros)

    pub initial-runs : (st : List ℤ) → ran_body s (limit_of s) e (alone (element_body s e is_initial)) [] st ≡ ran_body s (limit_of s) e (record_of s bodies ((chart_bodies c).first + j)) four_zeros st
    initial-runs st = initial-ran s e st _ (ap alone (element_found is_initial j h initial_stands ∙ (found is_initial j h initial_stands).1) ∙ runs-alone s ok e b c x _ (inside is_initial j h initial_stands) initial-role) ∙ ap (λ f. ran_body s (limit_of s) e f four_zeros st) (sym (found is_initial j h initial_stands).1)

  -- ---- reactions, where the telegram's data fit its name

  module _ (t : Telegram) (below : is_below t.name (count_of s names) ≡ true) (fits : data_fit s (name_range s (nat_abs t.name)) (datum_of t) ≡ true) where
    module _ (j : ℕ) (h : StandsAt s c (reacts_on (nat_abs t.port) (nat_abs t.name)) j) (l : j < (chart_bodies c).count) where
      abbrev on : Record → Bool
      on = reacts_on (nat_abs t.port) (nat_abs t.name)

      named-on : reaction_name (body on j h l) ≡ nat_abs t.name
      named-on = eqb-true _ _ (and_second _ _ (and_second _ _ (meets on j h l)))

      reaction_on : is_reaction (role (body on j h l)) ≡ true
      unfolding is_reaction
      reaction_on = ap (λ r. leb 2 r and leb r 3) (eqb-true (role (body on j h l)) external_reaction (and_first _ _ (meets on j h l))) ∙ and-true _ _ refl refl

      pub on-called : Called s e ((chart_bodies c).first + j) (data_in t)
      on-called = called on j h l (data_in t) (brought_data s ok e b c x _ (inside on j h l) t named-on below fits reaction_on)

      pub on-delivered : (old st : List ℤ) → e ≡ nat_abs t.receiver → telegram_fits s t ≡ true → external_fits s t ≡ true → is_below t.receiver (externals_of s) ≡ false → delivered s (limit_of s) old t st ≡ body_event s (limit_of s) old e (record_of s bodies ((chart_bodies c).first + j)) (data_in t) st
      on-delivered old st q whole outer n =
          delivered_reaction s old t st whole outer n (body on j h l) (subst (λ e. element_body s e on ≡ Some (body on j h l)) q (element_found on j h l ∙ (found on j h l).1))
          ∙ ap (λ e. reacting s (limit_of s) old e (Some (body on j h l)) t st) (sym q)
          ∙ reacting_is s old e _ t st (brought_so s ok e b c x _ (inside on j h l) t named-on below fits reaction_on)
          ∙ ap (λ f. body_event s (limit_of s) old e f (data_in t) st) (sym (found on j h l).1)

    -- without a reaction the panic body
    pub panic-delivered : (j : ℕ) → StandsAt s c (reacts_on (nat_abs t.port) (nat_abs t.name)) j → (chart_bodies c).count ≤ j → (old st : List ℤ) → e ≡ nat_abs t.receiver → telegram_fits s t ≡ true → external_fits s t ≡ true → is_below t.receiver (externals_of s) ≡ false → delivered s (limit_of s) old t st ≡ panicking s (limit_of s) old e st
    panic-delivered j h l old st q whole outer n =
        delivered-panic s old t st whole outer n (subst (λ e. bodies_there s e ≡ true) q (bodies-there s ok e x.bound)) (subst (λ e. element_body s e (reacts_on (nat_abs t.port) (nat_abs t.name)) ≡ None) q (element-none (reacts_on (nat_abs t.port) (nat_abs t.name)) j h l))
        ∙ ap (λ e. panicking s (limit_of s) old e st) (sym q)

    -- ---- an internal name that has a reaction

    module _ (j : ℕ) (h : StandsAt s c (reacts_to (nat_abs t.name)) j) (reaction : has_reaction s c (nat_abs t.name) ≡ true) where
      abbrev to : Record → Bool
      to = reacts_to (nat_abs t.name)

      pub inner_stands : j < (chart_bodies c).count
      inner_stands = stands to j h _ (reaction_there s c (nat_abs t.name) reaction).1

      named_to : reaction_name (body to j h inner_stands) ≡ nat_abs t.name
      named_to = eqb-true _ _ (and_second _ _ (meets to j h inner_stands))

      reaction_to : is_reaction (role (body to j h inner_stands)) ≡ true
      unfolding is_reaction
      reaction_to = ap (λ r. leb 2 r and leb r 3) (eqb-true (role (body to j h inner_stands)) internal_reaction (and_first _ _ (meets to j h inner_stands))) ∙ and-true _ _ refl refl

      pub inner-called : Called s e ((chart_bodies c).first + j) (data_in t)
      inner-called = called to j h inner_stands (data_in t) (brought_data s ok e b c x _ (inside to j h inner_stands) t named_to below fits reaction_to)

      pub inner-runs : (old st : List ℤ) → reacting s (limit_of s) old e (element_body s e to) t st ≡ body_event s (limit_of s) old e (record_of s bodies ((chart_bodies c).first + j)) (data_in t) st
      inner-runs old st =
          ap (λ f. reacting s (limit_of s) old e f t st) (element_found to j h inner_stands ∙ (found to j h inner_stands).1)
          ∙ reacting_is s old e _ t st (brought_so s ok e b c x _ (inside to j h inner_stands) t named_to below fits reaction_to)
          ∙ ap (λ f. body_event s (limit_of s) old e f (data_in t) st) (sym (found to j h inner_stands).1)
