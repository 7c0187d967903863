-- Laws of names, data and reactions, one for a path of the code.
use Rattle.std.specs.Prelude.{Some, None}
use Prim.Native.Nat.{ℕ, ◌+◌, ◌≤◌, ◌<◌}
use mathlib.Core.Path.{◌≡◌, refl, sym, ap, ◌∙◌}
use mathlib.Core.List.{List}
use mathlib.Core.Bool.{Bool, true, false, not}
use native.Mathlib.Decide.{dec_lt}
use native.Mathlib.Omega.{arith}
use lib.Dec.{ltb}
use lib.IntN.{ℤ, pos, nat_abs}
use lib.Signed.{le_z}
use borrow.Author.Tests.{lt-ltb, le-ltb}
use Rattle.sheet.specs.declared.Record.{Record}
use Rattle.sheet.specs.declared.Range.{Range}
use Rattle.sheet.specs.Names.{declarations, declared_type}
use Rattle.sheet.specs.Sheet.{record_of}
use Rattle.sheet.proofs.All.{and_first, all_true}
use Rattle.sheet_rules.specs.Fields.{declared_so}
use Rattle.sheet_rules.specs.Types.{has_class, name_range, reacts_to, has_reaction}
use Rattle.machine.specs.Values.{is_zero, in_type, chart_of}
use Rattle.machine.specs.Valid.{data_fit, name_fits, reaction_awaits}
use Rattle.sheet_rules.proofs.Fields.{holds-present, holds_absent}
use Rattle.sheet_types.proofs.Table.{no_reaction, reaction_found, reaction_none}
use Rattle.engine_finders.specs.Bodies.{FirstAt}
use Rattle.engine_valid_words.proofs.Laws.{below-from}
use Rattle.engine_valid_names.specs.Parts.{datum_fits}

-- ---- data

module _ (s : List ℕ) (g : Range) (j : ℕ) (z : ℤ) (b : Bool) where
  pub datum-typed : (r : Record) → j < g.count → record_of s declarations (g.first + j) ≡ Some r → b ≡ in_type s (declared_type r) z → b ≡ datum_fits s g j z
  unfolding datum_fits declared_so
  datum-typed r h p e = e ∙ sym (rw (datum_fits, lt-ltb j g.count h) (holds-present _ r _ p))

  pub datum_surplus : g.count ≤ j → b ≡ is_zero z → b ≡ datum_fits s g j z
  unfolding datum_fits
  datum_surplus h e = e ∙ rw (datum_fits, le-ltb j g.count h) refl

pub datum_absent : (s : List ℕ) (g : Range) (j : ℕ) (z : ℤ) → j < g.count → record_of s declarations (g.first + j) ≡ None → false ≡ datum_fits s g j z
unfolding datum_fits declared_so
datum_absent s g j z h p = sym (rw (datum_fits, lt-ltb j g.count h) (holds_absent _ _ p))

-- ---- names

module _ (s : List ℕ) (n : ℕ) (z : ℤ) (b : Bool) (p : n ≡ nat_abs z) where
  pub name-class : (k : ℕ) → b ≡ has_class s n k → b ≡ has_class s (nat_abs z) k
  name-class k e = e ∙ ap (λ (m : ℕ). has_class s m k) p

  pub name_data_lem : (g : Range) (d : ℕ → ℤ) → g ≡ name_range s n → b ≡ data_fit s g d → b ≡ data_fit s (name_range s (nat_abs z)) d
  name_data_lem g d q e = e ∙ ap (λ (h : Range). data_fit s h d) (q ∙ ap (name_range s) p)

-- a name is a number from 0 on
pub name_from : (s : List ℕ) (k : ℕ) (z : ℤ) (d : ℕ → ℤ) → name_fits s k z d ≡ true → le_z (pos 0) z ≡ true
unfolding name_fits
name_from s k z d h = below-from z _ (and_first _ _ h)

-- ---- reactions

-- whether a chart has one, by where the first of its bodies stands that is one
pub reaction_is : (s : List ℕ) (c : Record) (n j : ℕ) → FirstAt s c (reacts_to n) j → ltb j c.f5 ≡ has_reaction s c n
reaction_is s c n j h = elim (dec_lt j c.f5) [
  | yes l ↦ lt-ltb j c.f5 l ∙ reaction_found s c n j l (h.here l)
  | no l ↦ le-ltb j c.f5 (omega arith) ∙ reaction_none s c n (all_true c.f5 (no_reaction s c.f4 n) (λ i m. ap not (h.before i (let w = h.within in omega arith))))
]

-- whether a reaction of element e awaits the name that a word is: the element's chart tells
module _ (s : List ℕ) (e : ℕ) (z : ℤ) where
  pub chart_awaits : (c : Record) (n : ℕ) (b : Bool) → chart_of s e ≡ Some c → n ≡ nat_abs z → b ≡ has_reaction s c n → b ≡ reaction_awaits s e z
  unfolding reaction_awaits
  chart_awaits c n b p q h = h ∙ ap (has_reaction s c) q ∙ sym (holds-present (chart_of s e) c _ p)

  pub nothing_awaits : chart_of s e ≡ None → false ≡ reaction_awaits s e z
  unfolding reaction_awaits
  nothing_awaits p = sym (holds_absent (chart_of s e) _ p)
