-- Laws of the types of forms that name an element of an array, one for a path of the code.
use Rattle.std.specs.Prelude.{Some, None}
use Prim.Native.Nat.{ℕ, ◌+◌}
use mathlib.Core.Path.{◌≡◌, sym, ap, ◌∙◌}
use mathlib.Core.List.{List}
use mathlib.Core.Bool.{Bool, true, false, not}
use Rattle.sheet.specs.declared.Record.{Record}
use Rattle.sheet.specs.Sheet.{record_of}
use Rattle.sheet.proofs.All.{and-true, and-false, false-and}
use Rattle.sheet_rules.specs.declared.Typed.{Typed}
use Rattle.sheet_rules.specs.declared.Typed.TheVariants.{Expression, Statement, Wrong}
use Rattle.sheet_rules.specs.Fields.{type_at}
use Rattle.sheet_rules.specs.Indices.{Index, index_of, index_at}
use Rattle.sheet_rules.specs.Types.{is_of, indexed_by, read_element_type, assign_element_type}
use Rattle.sheet_types.proofs.Laws.{given_false, given_true_lem, no, so}
use Rattle.sheet_indices.proofs.Laws.{index_present, index-absent}

-- whether x is of the index type of declaration d
module _ (s : List ℕ) (d : ℕ) (x : Typed) where
  pub indexed_absent : record_of s 2 d ≡ None → false ≡ indexed_by (index_at s d) x
  unfolding indexed_by
  indexed_absent e = sym (ap (λ k. indexed_by k x) (index-absent s d e))

  module _ (r : Record) (p : record_of s 2 d ≡ Some r) where
    pub indexed : (k : Index) (b : Bool) → index_of s r.f1 ≡ k → b ≡ indexed_by k x → b ≡ indexed_by (index_at s d) x
    indexed k b e q = q ∙ sym (ap (λ k. indexed_by k x) (index_present s d r p ∙ e))

-- x is whether the index is of its type
module _ (s : List ℕ) (c r : Record) (y : Typed) (x : Bool) (e : x ≡ indexed_by (index_at s (c.f2 + r.f1)) y) where
  pub no_element-read : not x ≡ true → Wrong ≡ read_element_type s c r y
  unfolding read_element_type
  no_element-read h = given_false _ _ (no e h)

  pub element-read : (t : ℕ) → not x ≡ false → t ≡ type_at s (c.f2 + r.f1) → Expression t ≡ read_element_type s c r y
  unfolding read_element_type
  element-read t h q = ap Expression q ∙ given_true_lem _ _ (so e h)

  pub no_element-assigned : (z : Typed) → not x ≡ true → Wrong ≡ assign_element_type s c r y z
  unfolding assign_element_type
  no_element-assigned z h = given_false _ _ (false-and _ _ (no e h))

  module _ (z : Typed) (t : ℕ) (k : Bool) (q : t ≡ type_at s (c.f2 + r.f1)) (f : k ≡ is_of z t) where
    value_here : k ≡ is_of z (type_at s (c.f2 + r.f1))
    value_here = f ∙ ap (is_of z) q

    pub not_its_element : not k ≡ true → Wrong ≡ assign_element_type s c r y z
    unfolding assign_element_type
    not_its_element h = given_false _ _ (and-false _ _ (no value_here h))

    pub assigns_element : not x ≡ false → not k ≡ false → Statement ≡ assign_element_type s c r y z
    unfolding assign_element_type
    assigns_element h i = given_true_lem _ _ (and-true _ _ (so e h) (so value_here i))
