-- The checker's answer.
use Prim.Native.Nat.{ℕ}
use mathlib.Core.List.{List}
use mathlib.Core.Bool.{Bool, true, false}
use mathlib.Core.Path.{◌≡◌}
use lib.Dec.{leb, eqb}
use Rattle.sheet.specs.All.{◌and◌, all_below}
use Rattle.sheet.specs.Names.{head, charts}
use Rattle.sheet_rules.specs.declared.Checked.TheVariants.{Passed, Shape, Static}
use Rattle.sheet_rules.specs.Fields.{holds}
use Rattle.sheet_rules.specs.Check.{nodes_shape, sections_shape, shape_with, shape, check_of, check_call}
use Rattle.sheet_limits.specs.ButLimit.{ButLimit}
use Rattle.sheet_limits.proofs.Records.{same_charts, same_count_of, same_directory_right}
use Rattle.sheet_limits.proofs.Shape.{same_bodies_covered, same_cells_of, same_elements_bound, same_section_shape, same_trees_shape}
use Rattle.sheet_limits.proofs.Static.{same_static}
use Rattle.sheet_limits.proofs.Uses.{same_used_once}

module _ {s s' : List ℕ} (h : ButLimit s s') where
  pub same_nodes_shape : nodes_shape s ≡ nodes_shape s'
  unfolding nodes_shape
  same_nodes_shape = λ q. all_below (same_count_of h q charts) (λ k. holds (same_charts h q k) (same_trees_shape h q))

  pub same_sections_shape : sections_shape s ≡ sections_shape s'
  unfolding sections_shape
  same_sections_shape = λ q. all_below 8 (same_section_shape h q)

  pub same_shape_with : (once : Bool) → shape_with once s ≡ shape_with once s'
  unfolding shape_with
  same_shape_with once = λ q.
      same_directory_right h q
      and eqb (same_count_of h q head) 1
      and same_sections_shape q
      and same_bodies_covered h q
      and same_elements_bound h q
      and leb (same_cells_of h q) 512
      and once
      and same_nodes_shape q

  pub same_shape : shape s ≡ shape s'
  unfolding shape
  same_shape = λ q. same_shape_with (same_used_once h q) q

  pub same_check_of : check_of s ≡ check_of s'
  unfolding check_of
  same_check_of = λ q. elim (same_shape q) [ true ↦ elim (same_static h q) [ true ↦ Passed | false ↦ Static ] | false ↦ Shape ]

  pub same_check_call : check_call s ≡ check_call s'
  unfolding check_call
  same_check_call = λ q. elim (same_shape q) [ true ↦ elim (same_static h q) [ true ↦ 0 | false ↦ 2 ] | false ↦ 1 ]
