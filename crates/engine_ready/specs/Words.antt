-- How an engine goes on from words.
use Rattle.std.specs.Prelude.{ℕ, zero, suc, ◌+◌, ◌≤◌, List, [], ◌∷◌, set, ℤ, Option, Some, None, Result, Ok, Err}
use Rattle.sheet.specs.declared.Record.{Record}
use Rattle.sheet.specs.declared.Range.{Range}
use Rattle.machine.specs.declared.Out.{Out}
use Rattle.machine.specs.declared.Ran.TheVariants.{Done, Refused}
use Rattle.sheet_rules.specs.Fields.{field_of}
use Rattle.machine.specs.State.{word_of}
use Rattle.machine.specs.Run.{World, world, datum}
use Rattle.machine_sound.specs.Gives.{WordsOf}
use Rattle.engine_ints.specs.declared.Stop.{Stop}
use Rattle.engine_ints.specs.declared.Stop.TheVariants as stop
use Rattle.engine_ints.specs.Work.{Work, work_of, ran_of}

-- a word goes on; a refusal and stuck end the statement
unfoldable pub then_word : Work → List ℤ → List ℤ → (ℤ → ℕ → World) → World
then_word (Ok (z, l)) st lo K = K z l
then_word (Err e) st lo K = world (ran_of (Err e)) st lo

-- ---- an element where an index leads

-- "11, index outside its number"
unfoldable pub element_word : List ℤ → Option ℕ → ℕ → Work
element_word st (Some k) l = Ok (word_of st k, l)
element_word st None l = Err (stop.Refused 11 l)

unfoldable pub put_at : Option ℕ → ℤ → ℕ → List ℤ → List ℤ → World
put_at (Some k) z l st lo = world (Done l) (set st k z) lo
put_at None z l st lo = world (Refused 11 l) st lo

-- ---- data in words

-- words and the steps left, or why there are none
abbrev pub Data : Type 0
Data = Result (List ℤ × ℕ) Stop

unfoldable pub before : ℤ → Data → Data
before z (Ok (zs, l)) = Ok (z ∷ zs, l)
before z (Err e) = Err e

unfoldable pub then_datum : Work → (ℕ → Data) → Data
then_datum (Ok (z, l)) K = before z (K l)
then_datum (Err e) K = Err e

-- n data of a node from number j on
unfoldable pub data_from : (ℕ → ℕ → Out) → Record → ℕ → ℕ → ℕ → Data
data_from f r zero j l = Ok ([], l)
data_from f r (suc n) j l = then_datum (work_of (f (field_of r (4 + j)) l)) (λ l. data_from f r n (suc j) l)

unfoldable pub then_data : Data → List ℤ → List ℤ → (List ℤ → ℕ → World) → World
then_data (Ok (zs, l)) st lo K = K zs l
then_data (Err e) st lo K = world (ran_of (Err e)) st lo

-- data for a range that are worked out with l steps left: words of its types
abbrev pub DataTold : List ℕ → Range → ℕ → Data → Type 0
DataTold s g l (Ok (zs, m)) = WordsOf s g g.count 0 zs × (m ≤ l)
DataTold s g l (Err e) = Unit {0}

-- data in four words
abbrev pub four_words : List ℤ → List ℤ
four_words zs = datum zs 0 ∷ datum zs 1 ∷ datum zs 2 ∷ datum zs 3 ∷ []

unfoldable pub in_four : Data → Data
in_four (Ok (zs, l)) = Ok (four_words zs, l)
in_four (Err e) = Err e
