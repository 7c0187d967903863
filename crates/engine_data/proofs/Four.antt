-- Data worked out one after another into four words.
use Rattle.std.specs.Prelude.{Ok, Err}
use Prim.Native.Nat.{ℕ, suc, ◌+◌, ◌-◌, ◌<◌, ◌≤◌}
use mathlib.Core.Path.{◌≡◌, refl, sym, ap, ◌∙◌}
use mathlib.Core.List.{List, [], ◌∷◌, ◌++◌}
use native.Mathlib.Omega.{arith}
use lib.ListN.{length, set, length-append}
use lib.IntN.{ℤ}
use Rattle.sheet.specs.declared.Record.{Record}
use Rattle.sheet.specs.declared.Range.{Range}
use Rattle.sheet_rules.specs.Fields.{field_of}
use Rattle.machine.specs.Eval.{eval_of}
use Rattle.engine_ints.specs.declared.Stop.{Stop}
use Rattle.engine_ints.specs.Work.{Work}
use Rattle.engine_ready.specs.Ready.{context_at}
use Rattle.engine_ready.specs.Words.{Data, before, then_datum, data_from, in_four, four_words}
use Rattle.engine_data.specs.Data.{data_at, work_at}

-- ---- words in front of what is to come

unfoldable pub befores : List ℤ → Data → Data
befores [] d = d
befores (z ∷ zs) d = before z (befores zs d)

befores_more : (zs : List ℤ) (z : ℤ) (d : Data) → befores zs (before z d) ≡ befores (zs ++ (z ∷ [])) d
unfolding befores
befores_more [] z d = refl
befores_more (y ∷ zs) z d = ap (before y) (befores_more zs z d)

befores_given : (zs : List ℤ) (l : ℕ) → befores zs (Ok ([], l)) ≡ Ok (zs, l)
unfolding befores before
befores_given [] l = refl
befores_given (y ∷ zs) l = ap (before y) (befores_given zs l)

befores_stopped : (zs : List ℤ) (d : Stop) → befores zs (Err d) ≡ Err d
unfolding befores before
befores_stopped [] d = refl
befores_stopped (y ∷ zs) d = ap (before y) (befores_stopped zs d)

-- ---- four words

pub word_set : (zs : List ℤ) (z : ℤ) (j : ℕ) → length zs ≡ j → j < 4 → set (four_words zs) j z ≡ four_words (zs ++ (z ∷ []))
word_set zs z j e h = rw (sym e) (go zs z (omega arith))
  where
    go : (zs : List ℤ) (z : ℤ) → length zs < 4 → set (four_words zs) (length zs) z ≡ four_words (zs ++ (z ∷ []))
    go [] z h = refl
    go (a ∷ []) z h = refl
    go (a ∷ b ∷ []) z h = refl
    go (a ∷ b ∷ c ∷ []) z h = refl
    go (a ∷ b ∷ c ∷ d ∷ zs) z h = absurd (omega arith)

-- ---- the loop

module _ (s w : List ℕ) (st lo : List ℤ) (r : Record) (g : Range) where
  -- j data are worked out, with l steps left
  pub record SoFar (left j l : ℕ) (into : List ℤ) : Type 0 where
    pub got : List ℤ
    pub number : length got ≡ j
    pub inside : j ≤ g.count
    pub words : into ≡ four_words got
    pub rest : data_at s w st lo r g left ≡ befores got (data_from (eval_of s (context_at s w) st lo) r (g.count - j) j l)

  pub data_start : (left : ℕ) (into : List ℤ) → into ≡ four_words [] → SoFar left 0 left into
  unfolding befores
  data_start left into e = let z : g.count - 0 ≡ g.count = omega arith in record { got = []; number = refl; inside = omega arith; words = e; rest = rw z refl }

  module _ (left j l : ℕ) (into : List ℤ) (c : SoFar left j l into) where
    pub data_end_lem : (j < g.count → ⊥) → Ok (into, l) ≡ in_four (data_at s w st lo r g left)
    unfolding data_from in_four
    data_end_lem h =
        let z : g.count - j ≡ 0 = omega (arith, c.inside) in
        ap (λ into. Ok (into, l)) c.words ∙ sym (ap in_four ((rw z at c.rest) ∙ befores_given c.got l))

    module _ (h : j < g.count) where
      next : (x : Work) → x ≡ work_at s w st lo (field_of r (4 + j)) l → data_at s w st lo r g left ≡ befores c.got (then_datum x (λ m. data_from (eval_of s (context_at s w) st lo) r (g.count - suc j) (suc j) m))
      unfolding data_from
      next x e =
          let z : g.count - j ≡ suc (g.count - suc j) = omega arith in
          (rw z at c.rest) ∙ ap (λ x. befores c.got (then_datum x (λ m. data_from (eval_of s (context_at s w) st lo) r (g.count - suc j) (suc j) m))) (sym e)

      pub data_again : g.count ≤ 4 → (z : ℤ) (m : ℕ) → Ok (z, m) ≡ work_at s w st lo (field_of r (4 + j)) l → SoFar left (j + 1) m (set into j z)
      unfolding then_datum
      data_again small z m e =
          let k : j + 1 ≡ suc j = omega arith in
          record {
            got = c.got ++ (z ∷ []);
            number = length-append c.got (z ∷ []) ∙ ap (λ n. n + 1) c.number;
            inside = omega arith;
            words = ap (λ d. set d j z) c.words ∙ word_set c.got z j c.number (omega arith);
            rest = rw k (next (Ok (z, m)) e ∙ befores_more c.got z _);
          }

      pub data_stopped : (d : Stop) → Err d ≡ work_at s w st lo (field_of r (4 + j)) l → Err d ≡ in_four (data_at s w st lo r g left)
      unfolding then_datum in_four
      data_stopped d e = sym (ap in_four (next (Err d) e ∙ befores_stopped c.got d))
