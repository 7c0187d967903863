-- What two sheets that agree but for the limit have in common: counts, the records of every section but the head, and of the head all but the limit.
use Rattle.std.specs.Prelude.{Option, Some, None}
use Prim.Native.Nat.{ℕ, suc}
use mathlib.Core.Path.{◌≡◌, refl, sym, ap, ◌∙◌}
use mathlib.Core.List.{List}
use mathlib.Core.Bool.{Bool}
use Rattle.sheet.specs.declared.Record.{Record}
use Rattle.sheet.specs.Names.{head, enumerated_types, declarations, names, charts, bodies, nodes, bindings}
use Rattle.sheet.specs.Sheet.{directory_right, count_of, record_of}
use Rattle.sheet_rules.specs.Fields.{holds, number_or0}
use Rattle.sheet_limits.specs.ButLimit.{no_limit, compared, ButLimit}

-- a number, or a test, that doesn't look at the limit
head-number : (f : Record → ℕ) → ((r : Record) → f (no_limit r) ≡ f r) → (x : Option Record) → number_or0 (compared head x) f ≡ number_or0 x f
unfolding number_or0 compared
head-number f e (Some r) = e r
head-number f e None = refl

head_test : (p : Record → Bool) → ((r : Record) → p (no_limit r) ≡ p r) → (x : Option Record) → holds (compared head x) p ≡ holds x p
unfolding holds compared
head_test p e (Some r) = e r
head_test p e None = refl

-- a sheet agrees with itself
pub itself : (s : List ℕ) → ButLimit s s
itself s = record { directory = refl; counts = λ k. refl; records = λ k n. refl }

module _ {s s' : List ℕ} (h : ButLimit s s') where
  pub same_directory_right : directory_right s ≡ directory_right s'
  same_directory_right = h.directory

  pub same_count_of : count_of s ≡ count_of s'
  same_count_of = λ q k. h.counts k q

  -- ---- a section behind the head

  pub same_record_of : (k : ℕ) → record_of s (suc k) ≡ record_of s' (suc k)
  unfolding compared
  same_record_of k = λ q n. h.records (suc k) n q

  pub same_enumerated_types : record_of s enumerated_types ≡ record_of s' enumerated_types
  same_enumerated_types = same_record_of 0

  pub same_declarations : record_of s declarations ≡ record_of s' declarations
  same_declarations = same_record_of 1

  pub same_names : record_of s names ≡ record_of s' names
  same_names = same_record_of 2

  pub same_charts : record_of s charts ≡ record_of s' charts
  same_charts = same_record_of 3

  pub same_bodies : record_of s bodies ≡ record_of s' bodies
  same_bodies = same_record_of 4

  pub same_nodes : record_of s nodes ≡ record_of s' nodes
  same_nodes = same_record_of 5

  pub same_bindings : record_of s bindings ≡ record_of s' bindings
  same_bindings = same_record_of 6

  -- ---- the head

  pub same_head-number : (f : Record → ℕ) → ((r : Record) → f (no_limit r) ≡ f r) → (n : ℕ) → number_or0 (record_of s head n) f ≡ number_or0 (record_of s' head n) f
  same_head-number f e n = sym (head-number f e (record_of s head n)) ∙ ap (λ x. number_or0 x f) (h.records head n) ∙ head-number f e (record_of s' head n)

  pub same_head_test : (p : Record → Bool) → ((r : Record) → p (no_limit r) ≡ p r) → (n : ℕ) → holds (record_of s head n) p ≡ holds (record_of s' head n) p
  same_head_test p e n = sym (head_test p e (record_of s head n)) ∙ ap (λ x. holds x p) (h.records head n) ∙ head_test p e (record_of s' head n)
