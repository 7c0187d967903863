-- Arrays and their cells.
use Rattle.std.specs.Prelude.{Some, None}
use Prim.Native.Nat.{ℕ, ◌+◌, ◌-◌}
use mathlib.Core.List.{List, [], ◌∷◌}
use mathlib.Core.Path.{◌≡◌}
use Rattle.sheet.specs.Table.{up_to, look_up}
use Rattle.sheet.specs.Names.{declared_index, chart_variables, bool_type, int_type, component_type, port_type}
use Rattle.sheet_rules.specs.Fields.{sum_below}
use Rattle.sheet_rules.specs.Indices.{index_table, index_of, index_at, cells_by, cells_taken, cells_before, plain, over, no_index}
use Rattle.sheet_limits.specs.ButLimit.{ButLimit}
use Rattle.sheet_limits.proofs.Fields.{same_components_of, same_members_of, same_ports_of}
use Rattle.sheet_limits.proofs.Records.{same_declarations}

module _ {s s' : List ℕ} (h : ButLimit s s') where
  pub same_index_table : index_table s ≡ index_table s'
  same_index_table = λ q i.
      up_to 0 plain
      ∷ up_to 1 (over bool_type 2)
      ∷ up_to 2 (over component_type (same_components_of h q))
      ∷ up_to 3 (over port_type (same_ports_of h q))
      ∷ up_to 7 no_index
      ∷ up_to 60000 (over i (same_members_of h q (i - 8)))
      ∷ up_to 60064 (over int_type (i - 60000))
      ∷ []

  pub same_index_of : index_of s ≡ index_of s'
  unfolding index_of
  same_index_of = λ q i. look_up (same_index_table q i) no_index i

  pub same_index_at : index_at s ≡ index_at s'
  unfolding index_at
  same_index_at = λ q d. elim (same_declarations h q d) [ Some r ↦ same_index_of q (declared_index r) | None ↦ no_index ]

  pub same_cells_taken : cells_taken s ≡ cells_taken s'
  unfolding cells_taken
  same_cells_taken = λ q d. cells_by (same_index_at q d)

  pub same_cells_before : cells_before s ≡ cells_before s'
  unfolding cells_before
  same_cells_before = λ q c n. sum_below n (λ j. same_cells_taken q ((chart_variables c).first + j))
