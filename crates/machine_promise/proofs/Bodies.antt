-- The bodies that events run.
use Rattle.std.specs.Prelude.{Some}
use Prim.Native.Nat.{ℕ, zero, suc, ◌+◌, ◌<◌, ◌≤◌}
use mathlib.Core.Path.{◌≡◌, refl, sym, ap, subst, ◌∙◌}
use mathlib.Core.List.{List, [], ◌∷◌}
use mathlib.Core.Logic.{inl, inr}
use mathlib.Core.Bool.{Bool, true, false}
use native.Mathlib.Omega.{arith}
use lib.Dec.{leb, eqb}
use lib.IntN.{ℤ, pos, negsuc, nat_abs}
use borrow.Author.Tests.{ltb-true, eqb-true, lt-ltb, le-leb, eq-eqb}
use Rattle.sheet.specs.declared.Record.{Record}
use Rattle.sheet.specs.All.{◌and◌}
use Rattle.sheet.specs.Names.{names, data_of, role, panic, reaction_name, body_parameters, root}
use Rattle.sheet.specs.Sheet.{count_of, record_of}
use Rattle.sheet.proofs.All.{true_false, and_first, and_second, and-true, all-at}
use Rattle.sheet.proofs.Sheet.{record_present}
use Rattle.machine.specs.declared.Ran.{Ran}
use Rattle.machine.specs.declared.Ran.TheVariants.{Done, Refused, Stuck}
use Rattle.sheet_rules.specs.declared.Checked.TheVariants.{Passed}
use Rattle.machine.specs.declared.Telegram.{Telegram}
use Rattle.sheet_rules.specs.Fields.{holds, type_at}
use Rattle.sheet_rules.specs.Shape.{is_reaction}
use Rattle.sheet_rules.specs.Types.{name_range}
use Rattle.sheet_rules.specs.Static.{same_types, reaction_static, role_static, body_static}
use Rattle.machine.specs.Values.{is_below, record_by, in_type, binding_at}
use Rattle.machine.specs.Valid.{data_fit, datum_of, OfSheet}
use Rattle.machine.specs.Eval.{Context}
use Rattle.machine.specs.Run.{with_record, provided, locals_of, datum, run_of}
use Rattle.machine.specs.Play.{limit_of, body_where, has_panic, ran_body, element_body, alone, event_end, body_event, same_declared, brought, reacting, panicking}
use Rattle.sheet_rules.specs.Check.{check_of}
use Rattle.sheet_rules.proofs.Fields.{holds-present}
use Rattle.machine_passed.specs.Places.{InChart, Element, Placed}
use Rattle.machine_passed.proofs.Charts.{element-chart, where_found, body-static, panic-there}
use Rattle.machine_passed.proofs.Declared.{all_true, declared_so_lem, declared_true, name-declared, parameter_declared, locals-there}
use Rattle.machine_sound.specs.Gives.{Ends}
use Rattle.machine_sound.proofs.Data.{range_of, few_data}
use Rattle.machine_sound.proofs.Locals.{fresh_locals}
use Rattle.machine_sound.proofs.Run.{body_ends}
use Rattle.machine_promise.specs.Promise.{EventKept}

-- a record by a word that is a number
record_by_lem : (s : List ℕ) (k : ℕ) (z : ℤ) → is_below z (count_of s k) ≡ true → (r : Record) × (record_by s k z ≡ Some r) × (record_of s k (nat_abs z) ≡ Some r)
unfolding is_below record_by
record_by_lem s k (pos n) h = let p = record_present s k n (ltb-true _ _ h) in (_, p, p)
record_by_lem s k (negsuc n) h = absurd (true_false h refl)

module _ (s : List ℕ) (ok : check_of s ≡ Passed) (e : ℕ) (b c : Record) (x : Element s e b c) where
  -- a body of the element's chart
  module _ (d : Record) (i : InChart s c d) where
    abbrev context : Context
    context = record { element = e; chart = c; binding = binding_at s e; body = d }

    placed : Placed s context
    placed = record { bound = b; element = x; binding = refl; body = i }

    abbrev Parameters : List ℤ → Type 0
    Parameters zs = (j : ℕ) → j < (body_parameters d).count → in_type s (type_at s ((body_parameters d).first + j)) (datum zs j) ≡ true

    pub ran_is : (zs st : List ℤ) → ran_body s (limit_of s) e (Some d) zs st ≡ run_of s 0 context (root d) (limit_of s) st (locals_of s d zs)
    unfolding ran_body with_record provided
    ran_is zs st = rw (ran_body, element-chart s e b c x, locals-there s ok _ c x.chart d i) refl

    pub ran_ends : (zs st : List ℤ) → OfSheet s st → Parameters zs → Ends s context (ran_body s (limit_of s) e (Some d) zs st).ran (ran_body s (limit_of s) e (Some d) zs st).st (ran_body s (limit_of s) e (Some d) zs st).lo
    ran_ends zs st o p = subst (λ w. Ends s context w.ran w.st w.lo) (sym (ran_is zs st)) (body_ends s ok 0 context (limit_of s) st (locals_of s d zs) placed o (fresh_locals s ok context placed zs p))

    end_kept : (old : List ℤ) (r : Ran) (st lo : List ℤ) → Ends s context r st lo → EventKept s old (event_end (limit_of s) old r st)
    unfolding event_end
    end_kept old (Done l) st lo h = (inl refl, λ q. h.0, λ n. absurd (n refl))
    end_kept old (Refused k l) st lo h = (inr (omega arith, omega arith), λ q. absurd (let m = h.0 in omega arith), λ n. refl)
    end_kept old Stuck st lo h = h

    pub body_kept : (old zs st : List ℤ) → OfSheet s st → Parameters zs → EventKept s old (body_event s (limit_of s) old e (Some d) zs st)
    body_kept old zs st o p = end_kept old _ _ _ (ran_ends zs st o p)

    static-role : role_static s d ≡ true
    unfolding body_static
    static-role = and_first _ _ (and_second _ _ (and_second _ _ (body-static s ok _ c x.chart d i)))

    -- "one initial and one panic body, both without parameters"
    pub none_asked : role d ≤ panic → (body_parameters d).count ≡ 0
    unfolding role_static is_reaction ◌and◌
    none_asked h = eqb-true _ _ (go (role d) h static-role)
      where
        go : (r : ℕ) → r ≤ panic → elim (leb 2 r and leb r 3) [ true ↦ reaction_static s d | false ↦ elim (leb r panic) [ true ↦ eqb (body_parameters d).count 0 | false ↦ true ] ] ≡ true → eqb (body_parameters d).count 0 ≡ true
        go zero h q = q
        go (suc zero) h q = q
        go (suc (suc r)) h q = absurd (omega arith)

    pub no_parameters : role d ≤ panic → (zs : List ℤ) → Parameters zs
    no_parameters h zs j l = absurd (omega (arith, none_asked h))

    pub runs-alone : role d ≤ panic → alone (Some d) ≡ Some d
    unfolding alone
    runs-alone h = rw (alone, eq-eqb (body_parameters d).count 0 (none_asked h)) refl

    -- a reaction's parameters have the types of its name's data
    module _ (t : Telegram) (name : reaction_name d ≡ nat_abs t.name) (below : is_below t.name (count_of s names) ≡ true) (data-fits : data_fit s (name_range s (nat_abs t.name)) (datum_of t) ≡ true) where
      reaction_types : is_reaction (role d) ≡ true → same_types s (body_parameters d) (name_range s (nat_abs t.name)) ≡ true
      unfolding role_static reaction_static
      reaction_types h = rw name at (and_second _ _ (rw (role_static, h) at static-role))

      named : (n : Record) × (record_by s names t.name ≡ Some n) × (record_of s names (nat_abs t.name) ≡ Some n)
      named = record_by_lem s names t.name below

      abbrev n : Record
      n = named.0

      range_is_lem : name_range s (nat_abs t.name) ≡ data_of n
      range_is_lem = range_of s _ n named.2

      module _ (h : is_reaction (role d) ≡ true) where
        same_count : (body_parameters d).count ≡ (data_of n).count
        unfolding same_types
        same_count = eqb-true _ _ (and_first _ _ (reaction_types h)) ∙ ap (λ g. g.count) range_is_lem

        same_type_lem : (j : ℕ) → j < (body_parameters d).count → type_at s ((body_parameters d).first + j) ≡ type_at s ((data_of n).first + j)
        unfolding same_types
        same_type_lem j l = eqb-true _ _ (all-at _ _ (and_second _ _ (reaction_types h)) j l) ∙ ap (λ g. type_at s (g.first + j)) range_is_lem

        fits : data_fit s (data_of n) (datum_of t) ≡ true
        fits = ap (λ g. data_fit s g (datum_of t)) (sym range_is_lem) ∙ data-fits

        pub brought_so : brought s t d ≡ true
        unfolding brought same_declared
        brought_so =
            holds-present _ n _ named.1
            ∙ and-true _ _ (eq-eqb _ _ (sym same_count))
            (and-true _ _ (le-leb _ _ (few_data s ok _ n named.2))
            (and-true _ _ (all_true (data_of n).count _ (λ j l.
            declared_so_lem s _ _ (name-declared s ok _ n named.2 j l) ∙ declared_so_lem s _ _ (parameter_declared s ok _ c x.chart d i j (omega (arith, same_count))) ∙ eq-eqb _ _ (sym (same_type_lem j (omega (arith, same_count))))))
            fits))

        pub brought_data : Parameters (t.d0 ∷ t.d1 ∷ t.d2 ∷ t.d3 ∷ [])
        unfolding data_fit
        brought_data j l =
            let k : j < (data_of n).count = omega (arith, same_count) in
            rw (same_type_lem j l) (declared_true s _ (λ t. in_type s t _) (rw (lt-ltb j (data_of n).count k) at (all-at 4 _ fits j (omega (arith, few_data s ok _ n named.2)))))

        pub reacting-kept : (old st : List ℤ) → OfSheet s st → EventKept s old (reacting s (limit_of s) old e (Some d) t st)
        unfolding reacting holds
        reacting-kept old st o = rw (reacting, brought_so) (body_kept old _ st o brought_data)

  -- the body that is looked for in the element's chart
  pub body_of : (p : Record → Bool) → element_body s e p ≡ body_where s c p
  unfolding element_body
  body_of p = rw (element_body, element-chart s e b c x) refl

  pub panicking-kept : (old st : List ℤ) → OfSheet s st → EventKept s old (panicking s (limit_of s) old e st)
  unfolding panicking
  panicking-kept old st o =
      let p = panic-there s ok _ c x.chart in
      let f = where_found s has_panic c p.0 p.1 in
      let one : role p.0 ≡ panic = eqb-true _ _ f.1 in
      subst (λ g. EventKept s old (body_event s (limit_of s) old e g [] st)) (sym (ap alone (body_of has_panic ∙ p.1) ∙ runs-alone p.0 f.0 (omega arith))) (body_kept p.0 f.0 old [] st o (no_parameters p.0 f.0 (omega arith) []))
