-- Going on from a word and from data.
use Rattle.std.specs.Prelude.{Option, Some, None, Result, Ok, Err}
use Rattle.std.specs.Result.{IsErrAnd}
use Prim.Native.Nat.{ℕ, ◌≤◌}
use mathlib.Core.Path.{◌≡◌, sym, ap, ◌∙◌}
use mathlib.Core.List.{List}
use lib.IntN.{ℤ}
use borrow.Author.Tests.{leb-true}
use Rattle.sheet.specs.declared.Record.{Record}
use Rattle.sheet.specs.Names.{names}
use Rattle.sheet.specs.Sheet.{record_of}
use Rattle.sheet.proofs.All.{and_first, and_second}
use Rattle.sheet_rules.specs.Shape.{name_shape}
use Rattle.machine.specs.Run.{World, world}
use Rattle.machine_passed.proofs.Records.{name-shape}
use Rattle.engine_ints.specs.declared.Stop.{Stop}
use Rattle.engine_ints.specs.Work.{Work, ran_of}
use Rattle.engine_ints.proofs.Stops.{handed_on}
use Rattle.engine_ready.specs.Ready.{Running}
use Rattle.engine_ready.specs.Words.{then_word, Data, then_data, in_four, four_words}

-- ---- going on from a word

module _ (y : Work) (st lo : List ℤ) (K : ℤ → ℕ → World) where
  pub on_word : (z : ℤ) (m : ℕ) → Ok (z, m) ≡ y → K z m ≡ then_word y st lo K
  unfolding then_word
  on_word z m e = ap (λ y. then_word y st lo K) e

  -- what a `?` returns
  pub on_stop : (o : Result ℕ Stop) (d : Stop) → IsErrAnd o (λ e. e ≡ d) → Err d ≡ y → world (ran_of o) st lo ≡ then_word y st lo K
  unfolding then_word
  on_stop o d h e = ap (λ o. world (ran_of o) st lo) (handed_on o h) ∙ ap (λ y. then_word y st lo K) e

-- ---- going on from data

module _ (d : Data) (st lo : List ℤ) (K : List ℤ → ℕ → World) where
  pub on_data : (zs : List ℤ) (m : ℕ) → d ≡ Ok (zs, m) → K zs m ≡ then_data d st lo K
  unfolding then_data
  on_data zs m e = ap (λ d. then_data d st lo K) (sym e)

-- the words that were given
pub data_given : (d : Data) (ws : List ℤ) (m : ℕ) → Ok (ws, m) ≡ in_four d → (zs : List ℤ) × (ws ≡ four_words zs) × (d ≡ Ok (zs, m))
unfolding in_four
data_given (Ok (zs, l)) ws m e = let q : ◌≡◌ {A = List ℤ × ℕ} (ws, m) (four_words zs, l) = cc in (zs, ap (λ p. p.0) q, ap (λ p. Ok (zs, p.1)) (sym q))
data_given (Err d) ws m e = cc

pub data_stop : (d : Data) (st lo : List ℤ) (K : List ℤ → ℕ → World) (o : Result ℕ Stop) (q : Stop) → IsErrAnd o (λ e. e ≡ q) → Err q ≡ in_four d → world (ran_of o) st lo ≡ then_data d st lo K
unfolding in_four then_data
data_stop (Ok (zs, l)) st lo K o q h e = cc
data_stop (Err d) st lo K o q h e = let k : q ≡ d = cc in ap (λ o. world (ran_of o) st lo) (handed_on o h ∙ ap Err k)

-- a name has at most four data
pub four_data : (s w : List ℕ) → Running s w → (n : ℕ) (a : Record) → record_of s names n ≡ Some a → a.f1 ≤ 4
unfolding name_shape
four_data s w run n a e = leb-true _ _ (and_first _ _ (and_second _ _ (name-shape s run.passed n a e)))

-- ---- a record that is there

pub no_record : {X : Type 0} {f : Option Record} → None ≡ f → (a : Record) × (f ≡ Some a) → X
no_record e h = let k = h.1 in cc
