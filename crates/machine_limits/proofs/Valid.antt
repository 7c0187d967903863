-- Which states are of the sheet.
use Prim.Native.Nat.{ℕ, ◌+◌, ◌-◌}
use mathlib.Core.List.{List}
use mathlib.Core.Path.{◌≡◌, sym, ◌∙◌}
use mathlib.Core.Bool.{true, false, not}
use lib.Dec.{ltb, leb, eqb}
use lib.IntN.{ℤ, pos, nat_abs}
use lib.Signed.{le_z, lt_z}
use Rattle.sheet.specs.All.{◌and◌, all_below}
use Rattle.sheet.specs.Names.{names, external, internal, chart_variables, timer_type, timeout_type, is_clock}
use Rattle.sheet_rules.specs.Fields.{holds}
use Rattle.machine.specs.Values.{fits32, is_below, is_zero, same_word}
use Rattle.machine.specs.State.{places, word_of, waiting, is_internal, class_limit}
use Rattle.machine.specs.Valid.{data_fit, name_fits, reaction_awaits, zero_words, running_clock, clock_cell, cell_fits, variable_fits, element_fits, datum_of, internal_fits, external_fits, telegram_fits, head_fits, cells_fit, waiting_fit, unused_zero, classes_fit, content_fits, OfSheet}
use Rattle.sheet_limits.specs.ButLimit.{ButLimit}
use Rattle.sheet_limits.proofs.Fields.{same_components_of, same_declared_so, same_elements_of, same_externals_of, same_ports_of}
use Rattle.sheet_limits.proofs.Indices.{same_cells_taken}
use Rattle.sheet_limits.proofs.Records.{same_count_of}
use Rattle.sheet_limits.proofs.Types.{same_has_class, same_has_reaction, same_name_range}
use Rattle.machine_limits.proofs.State.{same_cell_of, same_place_at, same_telegram_of, same_waiting_like, same_state_length}
use Rattle.machine_limits.proofs.Values.{same_chart_of, same_in_type, same_is_bound}

module _ {s s' : List ℕ} (h : ButLimit s s') where
  pub same_data_fit : data_fit s ≡ data_fit s'
  unfolding data_fit
  same_data_fit = λ q g d. all_below 4 (λ j. elim (ltb j g.count) [ true ↦ same_declared_so h q (g.first + j) (λ t. same_in_type h q t (d j)) | false ↦ is_zero (d j) ])

  pub same_name_fits : name_fits s ≡ name_fits s'
  unfolding name_fits
  same_name_fits = λ q k n d. is_below n (same_count_of h q names) and same_has_class h q (nat_abs n) k and same_data_fit q (same_name_range h q (nat_abs n)) d

  pub same_reaction_awaits : reaction_awaits s ≡ reaction_awaits s'
  unfolding reaction_awaits
  same_reaction_awaits = λ q e n. holds (same_chart_of h q e) (λ c. same_has_reaction h q c (nat_abs n))

  pub same_running_clock : running_clock s ≡ running_clock s'
  unfolding running_clock
  same_running_clock = λ q e t st at.
      fits32 (word_of st (at + 1))
      and fits32 (word_of st (at + 2))
      and elim (eqb t timer_type) [
        | true ↦ le_z (pos 0) (word_of st (at + 1)) and zero_words st at 2
        | false ↦
            elim (eqb t timeout_type) [ true ↦ le_z (pos 1) (word_of st (at + 1)) and le_z (word_of st (at + 1)) (word_of st (at + 2)) | false ↦ le_z (pos 0) (word_of st (at + 1)) and lt_z (word_of st (at + 1)) (word_of st (at + 2)) ]
            and same_name_fits q internal (word_of st (at + 3)) (λ j. word_of st (at + 4 + j))
            and same_reaction_awaits q e (word_of st (at + 3))
      ]

  pub same_clock_cell : clock_cell s ≡ clock_cell s'
  unfolding clock_cell
  same_clock_cell = λ q e t st at. elim (is_zero (word_of st at)) [ true ↦ zero_words st at 1 | false ↦ is_below (word_of st at) 2 and same_running_clock q e t st at ]

  pub same_cell_fits : cell_fits s ≡ cell_fits s'
  unfolding cell_fits
  same_cell_fits = λ q e t st at. elim (is_clock t) [ true ↦ same_clock_cell q e t st at | false ↦ same_in_type h q t (word_of st at) and zero_words st at 1 ]

  pub same_variable_fits : variable_fits s ≡ variable_fits s'
  unfolding variable_fits
  same_variable_fits = λ q st e c j. same_declared_so h q ((chart_variables c).first + j) (λ t. all_below (same_cells_taken h q ((chart_variables c).first + j)) (λ k. same_cell_fits q e t st (same_cell_of h q e c j k)))

  pub same_element_fits : element_fits s ≡ element_fits s'
  unfolding element_fits
  same_element_fits = λ q st e. holds (same_chart_of h q e) (λ c. all_below (chart_variables c).count (same_variable_fits q st e c))

  pub same_internal_fits : internal_fits s ≡ internal_fits s'
  unfolding internal_fits
  same_internal_fits = λ q t. same_word t.sender t.receiver and same_is_bound h q (nat_abs t.receiver) and same_name_fits q internal t.name (datum_of t) and same_reaction_awaits q (nat_abs t.receiver) t.name

  pub same_external_fits : external_fits s ≡ external_fits s'
  unfolding external_fits
  same_external_fits = λ q t. not (is_below t.sender (same_externals_of h q) and is_below t.receiver (same_externals_of h q)) and is_below t.port (same_ports_of h q) and same_name_fits q external t.name (datum_of t)

  pub same_telegram_fits : telegram_fits s ≡ telegram_fits s'
  unfolding telegram_fits
  same_telegram_fits = λ q t. is_below t.sender (same_components_of h q) and is_below t.receiver (same_components_of h q) and elim (is_internal t) [ true ↦ same_internal_fits q t | false ↦ same_external_fits q t ]

  pub same_cells_fit : cells_fit s ≡ cells_fit s'
  unfolding cells_fit
  same_cells_fit = λ q st. all_below (same_elements_of h q) (λ i. same_element_fits q st (same_externals_of h q + i))

  pub same_waiting_fit : waiting_fit s ≡ waiting_fit s'
  unfolding waiting_fit
  same_waiting_fit = λ q st. all_below (waiting st) (λ j. same_telegram_fits q (same_telegram_of h q st j))

  pub same_unused_zero : unused_zero s ≡ unused_zero s'
  unfolding unused_zero
  same_unused_zero = λ q st. all_below (places - waiting st) (λ k. zero_words st (same_place_at h q (waiting st + k)) 0)

  pub same_classes_fit : classes_fit s ≡ classes_fit s'
  unfolding classes_fit
  same_classes_fit = λ q st. all_below (waiting st) (λ j. leb (same_waiting_like h q st (same_telegram_of h q st j)) class_limit)

  pub same_content_fits : content_fits s ≡ content_fits s'
  unfolding content_fits
  same_content_fits = λ q st. head_fits st and same_cells_fit q st and same_waiting_fit q st and same_unused_zero q st and same_classes_fit q st

  pub of_other : (st : List ℤ) → OfSheet s st → OfSheet s' st
  of_other st o = record {
    whole = o.whole ∙ same_state_length h;
    head = o.head;
    cells = (λ q. sym same_cells_fit q st) ∙ o.cells;
    telegrams = (λ q. sym same_waiting_fit q st) ∙ o.telegrams;
    unused = (λ q. sym same_unused_zero q st) ∙ o.unused;
    classes = (λ q. sym same_classes_fit q st) ∙ o.classes;
  }
