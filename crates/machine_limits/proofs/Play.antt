-- Start and the five kinds of event, within one limit.
use Rattle.std.specs.Prelude.{Some, None}
use Prim.Native.Nat.{ℕ, zero, suc, ◌+◌, ◌*◌, ◌-◌}
use mathlib.Core.List.{List, [], ◌∷◌, ◌++◌}
use mathlib.Core.Bool.{Bool, true, false, not}
use mathlib.Core.Path.{◌≡◌, refl}
use lib.ListN.{length, set, replicate}
use lib.Dec.{ltb, leb, eqb}
use lib.IntN.{ℤ, pos, ◌+ℤ◌, ◌-ℤ◌}
use Rattle.sheet.specs.declared.Record.{Record}
use Rattle.sheet.specs.All.{◌and◌, all_below}
use Rattle.sheet.specs.Names.{names, bodies, declared_type, data_of, external, chart_variables, chart_bodies, body_parameters, root, timer_type, timeout_type, is_clock}
use Rattle.sheet_rules.specs.Fields.{holds}
use Rattle.sheet_rules.specs.Types.{reacts_to}
use Rattle.machine.specs.declared.Telegram.{Telegram}
use Rattle.machine.specs.declared.Ran.{Ran}
use Rattle.machine.specs.declared.Ran.TheVariants.{Done, Refused, Stuck}
use Rattle.machine.specs.Values.{is_below, is_zero, same_word}
use Rattle.machine.specs.State.{places, cell_at, word_of, waiting, put_words, on, off, lost, counted}
use Rattle.machine.specs.Valid.{datum_of}
use Rattle.machine.specs.Run.{with_record, provided}
use Rattle.machine.specs.Kinds.{Kind, kind_of}
use Rattle.machine.specs.Play.{answer, body_from, body_where, has_panic, is_initial, reacts_on, ran_body, element_body, alone, event_end, body_event}
use Rattle.machine.specs.Play.{default_cell, alike, default_cells, element_cells, cells_from, default_state, has_head, element_there, elements_there, start_next}
use Rattle.machine.specs.Play.{start_from, started, oldest_from, oldest, goes_from, inner_of, taking, same_declared, brought, reacting}
use Rattle.machine.specs.Play.{panicking, with_number, change_end, outside, bodies_there, received, delivered, deliver, corrupt}
use Rattle.machine.specs.Play.{inner, then_slice, clock_telegram, fires, ticks, sliced_cell, sliced_each, sliced_variable, sliced_cells, sliced_element}
use Rattle.machine.specs.Play.{sliced_from, slice, rest_zero, bound_word, well_formed, is_event, telegram_of_event, happens_as, happens, ended, stuck}
use Rattle.machine.specs.Kinds as kind
use Rattle.sheet_limits.specs.ButLimit.{ButLimit}
use Rattle.sheet_limits.proofs.Fields.{same_components_of, same_declared_so, same_elements_of, same_externals_of, same_in_section, same_ports_of, same_type_at}
use Rattle.sheet_limits.proofs.Indices.{same_cells_taken}
use Rattle.sheet_limits.proofs.Records.{same_bodies, same_count_of, same_declarations, same_head_test}
use Rattle.machine_limits.proofs.Run.{same_locals_of, same_locals_there, same_run_of}
use Rattle.machine_limits.proofs.State.{same_appended, same_state_length, same_telegram_of, same_without_telegram}
use Rattle.machine_limits.proofs.Valid.{same_data_fit, same_name_fits}
use Rattle.machine_limits.proofs.Values.{same_binding_at, same_chart_of, same_default_of, same_first_cell, same_has_default, same_names_by}

module _ {s s' : List ℕ} (h : ButLimit s s') where
  pub same_has_head : has_head s ≡ has_head s'
  unfolding has_head
  same_has_head = same_head_test h (λ r. true) (λ r. refl) 0

  body_from_at : (p : (Record → Bool)) (a : ℕ) → body_from s p a ≡ body_from s' p a
  unfolding body_from
  body_from_at p zero = λ q i. None
  body_from_at p (suc n) = λ q i. elim (holds (same_bodies h q i) p) [ true ↦ same_bodies h q i | false ↦ body_from_at p n q (suc i) ]

  pub same_body_from : body_from s ≡ body_from s'
  same_body_from = λ q p a. body_from_at p a q

  pub same_body_where : body_where s ≡ body_where s'
  unfolding body_where
  same_body_where = λ q c p. same_body_from q p (chart_bodies c).count (chart_bodies c).first

  pub same_ran_body : ran_body s ≡ ran_body s'
  unfolding ran_body
  same_ran_body = λ q limit e f zs st.
      with_record (same_chart_of h q e) st [] (λ c.
      with_record f st [] (λ d.
      provided (same_locals_there h q d) st []
      (same_run_of h q 0 (record { element = e; chart = c; binding = same_binding_at h q e; body = d }) (root d) limit st (same_locals_of h q d zs))))

  pub same_element_body : element_body s ≡ element_body s'
  unfolding element_body
  same_element_body = λ q e p. elim (same_chart_of h q e) [ Some c ↦ same_body_where q c p | None ↦ None ]

  pub same_body_event : body_event s ≡ body_event s'
  same_body_event = λ q limit old e f zs st. let w = same_ran_body q limit e f zs st in event_end limit old w.ran w.st

  pub same_default_cell : default_cell s ≡ default_cell s'
  unfolding default_cell
  same_default_cell = λ q t. same_default_of h q t ∷ replicate 7 (pos 0)

  default_cells_at : (a : ℕ) → default_cells s a ≡ default_cells s' a
  unfolding default_cells
  default_cells_at zero = λ q d. []
  default_cells_at (suc n) = λ q d. alike (same_cells_taken h q d) (same_default_cell q (same_type_at h q d)) ++ default_cells_at n q (suc d)

  pub same_default_cells : default_cells s ≡ default_cells s'
  same_default_cells = λ q a. default_cells_at a q

  pub same_element_cells : element_cells s ≡ element_cells s'
  unfolding element_cells
  same_element_cells = λ q e. elim (same_chart_of h q e) [ Some c ↦ same_default_cells q (chart_variables c).count (chart_variables c).first | None ↦ [] ]

  cells_from_at : (a : ℕ) → cells_from s a ≡ cells_from s' a
  unfolding cells_from
  cells_from_at zero = λ q e. []
  cells_from_at (suc n) = λ q e. same_element_cells q e ++ cells_from_at n q (suc e)

  pub same_cells_from : cells_from s ≡ cells_from s'
  same_cells_from = λ q a. cells_from_at a q

  pub same_default_state : default_state s ≡ default_state s'
  unfolding default_state
  same_default_state = λ q. replicate 8 (pos 0) ++ same_cells_from q (same_elements_of h q) (same_externals_of h q) ++ replicate (8 * places) (pos 0)

  pub same_element_there : element_there s ≡ element_there s'
  unfolding element_there
  same_element_there = λ q e. holds (same_chart_of h q e) (λ c. all_below (chart_variables c).count (λ j. same_has_default h q ((chart_variables c).first + j)))

  pub same_elements_there : elements_there s ≡ elements_there s'
  unfolding elements_there
  same_elements_there = λ q. same_has_head q and all_below (same_elements_of h q) (λ i. same_element_there q (same_externals_of h q + i))

  start_next_within_at : (limit k : ℕ) (a : Ran) → start_next s limit k a ≡ start_next s' limit k a
  unfolding start_next
  start_next_within_at limit k (Done l) = λ q st K. K (k + (limit - l)) st
  start_next_within_at limit k (Refused n l) = λ q st K. ended (answer n (k + (limit - l)) None) (replicate (same_state_length h q) (pos 0))
  start_next_within_at limit k Stuck = λ q st K. stuck

  pub same_start_next : start_next s ≡ start_next s'
  same_start_next = λ q limit k a. start_next_within_at limit k a q

  start_from_within_at : (limit a : ℕ) → start_from s limit a ≡ start_from s' limit a
  unfolding start_from
  start_from_within_at limit zero = λ q e k st. ended (answer 0 k None) st
  start_from_within_at limit (suc n) = λ q e k st. let w = same_ran_body q limit e (alone (same_element_body q e is_initial)) [] st in same_start_next q limit k w.ran w.st (λ k st. start_from_within_at limit n q (suc e) k st)

  pub same_start_from : start_from s ≡ start_from s'
  same_start_from = λ q limit a. start_from_within_at limit a q

  pub same_started : started s ≡ started s'
  unfolding started
  same_started = λ q limit. elim (same_elements_there q) [ true ↦ same_start_from q limit (same_elements_of h q) (same_externals_of h q) 0 (same_default_state q) | false ↦ stuck ]

  oldest_from_at : (st : List ℤ) (p : (Telegram → Bool)) (a : ℕ) → oldest_from s st p a ≡ oldest_from s' st p a
  unfolding oldest_from
  oldest_from_at st p zero = λ q j. j
  oldest_from_at st p (suc n) = λ q j. elim (p (same_telegram_of h q st j)) [ true ↦ j | false ↦ oldest_from_at st p n q (suc j) ]

  pub same_oldest_from : oldest_from s ≡ oldest_from s'
  same_oldest_from = λ q st p a. oldest_from_at st p a q

  pub same_oldest : oldest s ≡ oldest s'
  unfolding oldest
  same_oldest = λ q st p. same_oldest_from q st p (waiting st) 0

  pub same_taking : taking s ≡ taking s'
  unfolding taking
  same_taking = λ q st p K. elim (counted st) [ true ↦ elim (ltb (same_oldest q st p) (waiting st)) [ true ↦ K (same_telegram_of h q st (same_oldest q st p)) (same_without_telegram h q st (same_oldest q st p)) | false ↦ ended (answer 5 0 None) st ] | false ↦ stuck ]

  pub same_same_declared : same_declared s ≡ same_declared s'
  unfolding same_declared
  same_same_declared = λ q d d'. same_declared_so h q d (λ t. same_declared_so h q d' (eqb t))

  pub same_brought : brought s ≡ brought s'
  unfolding brought
  same_brought = λ q t b.
      holds (same_names_by h q t.name) (λ n.
      eqb (data_of n).count (body_parameters b).count
      and leb (data_of n).count 4
      and all_below (data_of n).count (λ j. same_same_declared q ((data_of n).first + j) ((body_parameters b).first + j))
      and same_data_fit h q (data_of n) (datum_of t))

  pub same_reacting : reacting s ≡ reacting s'
  unfolding reacting
  same_reacting = λ q limit old e f t st. elim (holds f (same_brought q t)) [ true ↦ same_body_event q limit old e f (t.d0 ∷ t.d1 ∷ t.d2 ∷ t.d3 ∷ []) st | false ↦ stuck ]

  pub same_panicking : panicking s ≡ panicking s'
  unfolding panicking
  same_panicking = λ q limit old e st. same_body_event q limit old e (alone (same_element_body q e has_panic)) [] st

  pub same_outside : outside s ≡ outside s'
  unfolding outside
  same_outside = λ q st t. change_end st (same_appended h q st t)

  pub same_bodies_there : bodies_there s ≡ bodies_there s'
  unfolding bodies_there
  same_bodies_there = λ q e. holds (same_chart_of h q e) (λ c. same_in_section h q bodies (chart_bodies c))

  pub same_received : received s ≡ received s'
  unfolding received
  same_received = λ q limit old t st e p n.
      elim (same_element_body q e (reacts_on p n)) [
        | Some b ↦ same_reacting q limit old e (Some b) t st
        | None ↦ elim (same_bodies_there q e) [ true ↦ same_panicking q limit old e st | false ↦ stuck ]
      ]

  pub same_delivered : delivered s ≡ delivered s'
  unfolding delivered
  same_delivered = λ q limit old t st.
      elim (is_below t.receiver (same_externals_of h q)) [
        | true ↦ ended (answer 0 0 (Some t)) st
        | false ↦ with_number t.receiver (λ e. with_number t.port (λ p. with_number t.name (λ n. same_received q limit old t st e p n)))
      ]

  pub same_deliver : deliver s ≡ deliver s'
  unfolding deliver
  same_deliver = λ q limit st a r. same_taking q st (goes_from a r) (same_delivered q limit st)

  pub same_corrupt : corrupt s ≡ corrupt s'
  unfolding corrupt
  same_corrupt = λ q limit st a r. same_taking q st (goes_from a r) (λ t st'. with_number r (λ e. same_panicking q limit st e st'))

  pub same_inner : inner s ≡ inner s'
  unfolding inner
  same_inner = λ q limit st r. same_taking q st (inner_of r) (λ t st'. with_number r (λ e. with_number t.name (λ n. same_reacting q limit st e (same_element_body q e (reacts_to n)) t st')))

  pub same_fires : fires s ≡ fires s'
  unfolding fires
  same_fires = λ q e at ws st. elim (is_below (word_of st (at + 3)) (same_count_of h q names)) [ true ↦ then_slice (same_appended h q st (clock_telegram e st at)) (λ st'. on (put_words st' at ws)) | false ↦ lost ]

  pub same_ticks : ticks s ≡ ticks s'
  unfolding ticks
  same_ticks = λ q e t at st.
      elim (eqb t timer_type) [
        | true ↦ elim (same_word (word_of st (at + 1)) (pos 2147483647)) [ true ↦ off 6 | false ↦ on (set st (at + 1) (word_of st (at + 1) +ℤ pos 1)) ]
        | false ↦ elim (eqb t timeout_type) [
          | true ↦ elim (same_word (word_of st (at + 1)) (pos 1)) [ true ↦ same_fires q e at (replicate 8 (pos 0)) st | false ↦ on (set st (at + 1) (word_of st (at + 1) -ℤ pos 1)) ]
          | false ↦ elim (is_zero (word_of st (at + 1))) [ true ↦ same_fires q e at (pos 1 ∷ (word_of st (at + 2) -ℤ pos 1) ∷ []) st | false ↦ on (set st (at + 1) (word_of st (at + 1) -ℤ pos 1)) ]
        ]
      ]

  pub same_sliced_cell : sliced_cell s ≡ sliced_cell s'
  unfolding sliced_cell
  same_sliced_cell = λ q e t at st. elim (is_clock t and not (is_zero (word_of st at))) [ true ↦ same_ticks q e t at st | false ↦ on st ]

  sliced_each_at : (e t a : ℕ) → sliced_each s e t a ≡ sliced_each s' e t a
  unfolding sliced_each
  sliced_each_at e t zero = λ q i st. on st
  sliced_each_at e t (suc n) = λ q i st. then_slice (same_sliced_cell q e t (cell_at i) st) (sliced_each_at e t n q (suc i))

  pub same_sliced_each : sliced_each s ≡ sliced_each s'
  same_sliced_each = λ q e t a. sliced_each_at e t a q

  pub same_sliced_variable : sliced_variable s ≡ sliced_variable s'
  unfolding sliced_variable
  same_sliced_variable = λ q e d i st. elim (same_declarations h q d) [ Some r ↦ same_sliced_each q e (declared_type r) (same_cells_taken h q d) i st | None ↦ lost ]

  sliced_cells_at : (e a : ℕ) → sliced_cells s e a ≡ sliced_cells s' e a
  unfolding sliced_cells
  sliced_cells_at e zero = λ q d i st. on st
  sliced_cells_at e (suc n) = λ q d i st. then_slice (same_sliced_variable q e d i st) (sliced_cells_at e n q (suc d) (i + same_cells_taken h q d))

  pub same_sliced_cells : sliced_cells s ≡ sliced_cells s'
  same_sliced_cells = λ q e a. sliced_cells_at e a q

  pub same_sliced_element : sliced_element s ≡ sliced_element s'
  unfolding sliced_element
  same_sliced_element = λ q e st. elim (same_chart_of h q e) [ Some c ↦ same_sliced_cells q e (chart_variables c).count (chart_variables c).first (same_first_cell h q e) st | None ↦ lost ]

  sliced_from_at : (a : ℕ) → sliced_from s a ≡ sliced_from s' a
  unfolding sliced_from
  sliced_from_at zero = λ q e st. on st
  sliced_from_at (suc n) = λ q e st. then_slice (same_sliced_element q e st) (sliced_from_at n q (suc e))

  pub same_sliced_from : sliced_from s ≡ sliced_from s'
  same_sliced_from = λ q a. sliced_from_at a q

  pub same_slice : slice s ≡ slice s'
  unfolding slice
  same_slice = λ q st. change_end st (elim (same_has_head q) [ true ↦ same_sliced_from q (same_elements_of h q) (same_externals_of h q) st | false ↦ lost ])

  pub same_bound_word : bound_word s ≡ bound_word s'
  same_bound_word = λ q z. is_below z (same_components_of h q) and not (is_below z (same_externals_of h q))

  well_formed_at : (ev : List ℤ) (a : Kind) → well_formed s ev a ≡ well_formed s' ev a
  unfolding well_formed
  well_formed_at ev kind.outside = λ q. is_below (word_of ev 1) (same_externals_of h q) and same_bound_word q (word_of ev 2) and is_below (word_of ev 3) (same_ports_of h q) and same_name_fits h q external (word_of ev 4) (λ j. word_of ev (5 + j))
  well_formed_at ev kind.deliver = λ q. is_below (word_of ev 1) (same_components_of h q) and is_below (word_of ev 2) (same_components_of h q) and not (is_below (word_of ev 1) (same_externals_of h q) and is_below (word_of ev 2) (same_externals_of h q)) and rest_zero ev 3
  well_formed_at ev kind.corrupt = λ q. is_below (word_of ev 1) (same_components_of h q) and same_bound_word q (word_of ev 2) and rest_zero ev 3
  well_formed_at ev kind.inner = λ q. is_zero (word_of ev 1) and is_below (word_of ev 2) (same_components_of h q) and rest_zero ev 3
  well_formed_at ev kind.slice = refl
  well_formed_at ev kind.no_kind = refl

  pub same_well_formed : well_formed s ≡ well_formed s'
  same_well_formed = λ q ev a. well_formed_at ev a q

  pub same_is_event : is_event s ≡ is_event s'
  unfolding is_event
  same_is_event = λ q ev. eqb (length ev) 9 and same_well_formed q ev (kind_of (word_of ev 0))

  happens_as_within_at : (limit : ℕ) (st ev : List ℤ) (a : Kind) → happens_as s limit st ev a ≡ happens_as s' limit st ev a
  unfolding happens_as
  happens_as_within_at limit st ev kind.outside = λ q. same_outside q st (telegram_of_event ev)
  happens_as_within_at limit st ev kind.deliver = λ q. same_deliver q limit st (word_of ev 1) (word_of ev 2)
  happens_as_within_at limit st ev kind.corrupt = λ q. same_corrupt q limit st (word_of ev 1) (word_of ev 2)
  happens_as_within_at limit st ev kind.inner = λ q. same_inner q limit st (word_of ev 2)
  happens_as_within_at limit st ev kind.slice = λ q. same_slice q st
  happens_as_within_at limit st ev kind.no_kind = refl

  pub same_happens_as : happens_as s ≡ happens_as s'
  same_happens_as = λ q limit st ev a. happens_as_within_at limit st ev a q

  pub same_happens : happens s ≡ happens s'
  unfolding happens
  same_happens = λ q limit st ev. same_happens_as q limit st ev (kind_of (word_of ev 0))
