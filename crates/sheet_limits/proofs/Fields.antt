-- Fields and ranges are the same on both sheets. Here and behind, a law has the body of its definition, read on the way from one sheet to the other.
use Prim.Native.Nat.{ℕ, ◌+◌, ◌-◌}
use mathlib.Core.List.{List}
use mathlib.Core.Path.{◌≡◌, refl}
use lib.Dec.{leb}
use Rattle.sheet.specs.Names.{components, externals, ports, size, declared_type}
use Rattle.sheet_rules.specs.Fields.{holds, number_or0, components_of, externals_of, ports_of, members_of, elements_of, declared_so, type_at, in_section}
use Rattle.sheet_limits.specs.ButLimit.{ButLimit}
use Rattle.sheet_limits.proofs.Records.{same_count_of, same_declarations, same_enumerated_types, same_head-number}

module _ {s s' : List ℕ} (h : ButLimit s s') where
  pub same_components_of : components_of s ≡ components_of s'
  unfolding components_of
  same_components_of = same_head-number h components (λ r. refl) 0

  pub same_externals_of : externals_of s ≡ externals_of s'
  unfolding externals_of
  same_externals_of = same_head-number h externals (λ r. refl) 0

  pub same_ports_of : ports_of s ≡ ports_of s'
  unfolding ports_of
  same_ports_of = same_head-number h ports (λ r. refl) 0

  pub same_members_of : members_of s ≡ members_of s'
  unfolding members_of
  same_members_of = λ q k. number_or0 (same_enumerated_types h q k) size

  pub same_elements_of : elements_of s ≡ elements_of s'
  unfolding elements_of
  same_elements_of = λ q. same_components_of q - same_externals_of q

  pub same_declared_so : declared_so s ≡ declared_so s'
  unfolding declared_so
  same_declared_so = λ q d p. holds (same_declarations h q d) (λ r. p (declared_type r))

  pub same_type_at : type_at s ≡ type_at s'
  unfolding type_at
  same_type_at = λ q d. number_or0 (same_declarations h q d) declared_type

  pub same_in_section : in_section s ≡ in_section s'
  unfolding in_section
  same_in_section = λ q k g. leb (g.first + g.count) (same_count_of h q k)
