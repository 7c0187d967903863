-- Data of a send, an arming or a call are of their declared types, and what is sent fits.
use Rattle.std.specs.Prelude.{Some}
use Prim.Native.Nat.{ℕ, zero, suc, ◌+◌, ◌<◌, ◌≤◌}
use mathlib.Core.Path.{◌≡◌, refl, sym, ap, subst, ◌∙◌}
use mathlib.Core.List.{List, ◌∷◌}
use mathlib.Core.Bool.{true, false}
use native.Mathlib.Omega.{arith}
use native.Mathlib.Decide.{dec_lt}
use lib.Dec.{eqb}
use lib.ListN.{get_or, get_or-eq_default}
use lib.IntN.{ℤ, pos}
use borrow.Author.Tests.{leb-true, lt-ltb, le-ltb, eq-eqb}
use Rattle.sheet.specs.declared.Record.{Record}
use Rattle.sheet.specs.declared.Range.{Range}
use Rattle.sheet.specs.Names.{declarations, names, data_of}
use Rattle.sheet.specs.Sheet.{count_of, record_of}
use Rattle.sheet.proofs.All.{and_first, and_second, and-true}
use Rattle.machine.specs.declared.Value.{Value}
use Rattle.machine.specs.declared.Out.{Out}
use Rattle.machine.specs.declared.Out.TheVariants as out
use Rattle.sheet_rules.specs.declared.Checked.TheVariants.{Passed}
use Rattle.sheet_rules.specs.Fields.{field_of, type_at}
use Rattle.sheet_rules.specs.Types.{has_class, has_reaction, name_range}
use Rattle.sheet_rules.specs.Shape.{name_shape}
use Rattle.machine.specs.Values.{is_below, is_zero, in_type, chart_of}
use Rattle.machine.specs.Valid.{data_fit, name_fits, reaction_awaits}
use Rattle.machine.specs.Run.{Values, given, refused, stuck, before, next_value, values_from, are_of, words_in, datum}
use Rattle.sheet_rules.specs.Check.{check_of}
use Rattle.sheet_rules.proofs.Fields.{holds-present}
use Rattle.machine_passed.specs.Places.{Element}
use Rattle.machine_passed.proofs.Records.{present-below, name-shape}
use Rattle.machine_passed.proofs.Charts.{element-chart}
use Rattle.machine_passed.proofs.Declared.{declared_so_lem, name-declared}
use Rattle.machine_states.proofs.Frame.{all_true}
use Rattle.machine_sound.specs.Gives.{Gives, WordsOf, DataGive}

module _ (s : List ℕ) (g : Range) where
  one_more : (v : Value) (n j : ℕ) (d : Values) → g.first + j < count_of s declarations → v.kind ≡ type_at s (g.first + j) → in_type s (type_at s (g.first + j)) v.word ≡ true → DataGive s g n (suc j) d → DataGive s g (suc n) j (before v d)
  unfolding before are_of words_in
  one_more v n j (given vs m) p e h k = (and-true _ _ (declared_so_lem s (g.first + j) (eqb v.kind) p ∙ eq-eqb _ _ e) (let z : g.first + suc j ≡ suc (g.first + j) = omega arith in rw z at k.0), (ap suc k.1.0, each))
    where
      each : (i : ℕ) → i < suc n → in_type s (type_at s (g.first + (j + i))) (datum (v.word ∷ words_in vs) i) ≡ true
      each zero l = let e : g.first + (j + 0) ≡ g.first + j = omega arith in rw e h
      each (suc i) l = let e : g.first + (j + suc i) ≡ g.first + (suc j + i) = omega arith in rw e (k.1.1 i (omega arith))
  one_more v n j (refused q m) p e h k = k
  one_more v n j stuck p e h k = k

  next_gives_lem : (o : Out) (n j : ℕ) (K : ℕ → Values) → g.first + j < count_of s declarations → Gives s (type_at s (g.first + j)) o → ((m : ℕ) → DataGive s g n (suc j) (K m)) → DataGive s g (suc n) j (next_value o K)
  unfolding next_value
  next_gives_lem (out.Val v m) n j K p h k = one_more v n j (K m) p h.0 h.1 (k m)
  next_gives_lem (out.Refused q m) n j K p h k = h
  next_gives_lem out.Stuck n j K p h k = h

  -- data of which there are at most four, for declarations that are there
  pub data_gives : (f : ℕ → ℕ → Out) (r : Record) (n j l : ℕ) → j + n ≤ 4 → ((i : ℕ) → i < n → g.first + (j + i) < count_of s declarations) → ((i m : ℕ) → i < n → Gives s (type_at s (g.first + (j + i))) (f (field_of r (4 + (j + i))) m)) → DataGive s g n j (values_from f r n j l)
  unfolding values_from are_of words_in
  data_gives f r zero j l small there h = (refl, (refl, λ i q. absurd (omega arith)))
  data_gives f r (suc n) j l small there h =
      let z : j + 0 ≡ j = omega arith in
      subst (λ b. DataGive s g (suc n) j (elim b [ true ↦ next_value (f (field_of r (4 + j)) l) (λ l. values_from f r n (suc j) l) | false ↦ stuck ])) (sym (lt-ltb (4 + j) 8 (omega arith)))
      (next_gives_lem (f (field_of r (4 + j)) l) n j (λ m. values_from f r n (suc j) m) (rw z at (there 0 (omega arith))) (rw z at (h 0 l (omega arith)))
      (λ m. data_gives f r n (suc j) m (omega arith)
      (λ i q. let e : j + suc i ≡ suc j + i = omega arith in rw e at (there (suc i) (omega arith)))
      (λ i k q. let e : j + suc i ≡ suc j + i = omega arith in rw e at (h (suc i) k (omega arith)))))

  -- all of a name's or a body's data: "Surplus data are zero"
  pub data_fit_lem : (zs : List ℤ) → g.count ≤ 4 → ((j : ℕ) → j < g.count → g.first + j < count_of s declarations) → WordsOf s g g.count 0 zs → data_fit s g (datum zs) ≡ true
  unfolding data_fit is_zero
  data_fit_lem zs small declared h = all_true 4 _ (λ j q. elim (dec_lt j g.count) [
    | yes k ↦ rw (lt-ltb j g.count k) (declared_so_lem s _ _ (declared j k) ∙ (let z : 0 + j ≡ j = omega arith in rw z at (h.1 j k)))
    | no k ↦ rw (le-ltb j g.count (omega arith)) (let e : get_or zs j (pos 0) ≡ pos 0 = get_or-eq_default zs (pos 0) (omega (arith, h.0)) in rw e refl)
  ])

below_in : (k n : ℕ) → k < n → is_below (pos k) n ≡ true
unfolding is_below
below_in k n h = lt-ltb k n h

-- the data of a name that is there
pub range_of : (s : List ℕ) (n : ℕ) (r : Record) → record_of s names n ≡ Some r → name_range s n ≡ data_of r
unfolding name_range
range_of s n r e = rw (name_range, e) refl

module _ (s : List ℕ) (ok : check_of s ≡ Passed) where
  pub few_data : (n : ℕ) (r : Record) → record_of s names n ≡ Some r → (data_of r).count ≤ 4
  unfolding name_shape
  few_data n r there = leb-true _ _ (and_first _ _ (and_second _ _ (name-shape s ok n r there)))

  -- a name of a class, with data of its types
  module _ (n k : ℕ) (r : Record) (there : record_of s names n ≡ Some r) (classed : has_class s n k ≡ true) (zs : List ℤ) (typed : WordsOf s (data_of r) (data_of r).count 0 zs) where
    pub name-fits : name_fits s k (pos n) (datum zs) ≡ true
    unfolding name_fits
    name-fits = and-true _ _ (below_in n _ (present-below s names n r there)) (and-true _ _ classed (rw (range_of s n r there) (data_fit_lem s (data_of r) zs (few_data n r there) (name-declared s ok n r there) typed)))

    -- it waits or is armed in an element of a chart that reacts to it
    pub awaited : (e : ℕ) (b c : Record) → Element s e b c → has_reaction s c n ≡ true → reaction_awaits s e (pos n) ≡ true
    unfolding reaction_awaits
    awaited e b c x h = holds-present (chart_of s e) c _ (element-chart s e b c x) ∙ h
