-- Where a body that is called runs, as an engine holds it, and what its run comes to.
use Rattle.std.specs.Prelude.{Some, None}
use Prim.Native.Nat.{ℕ, ◌+◌, ◌*◌, ◌-◌, ◌<◌, ◌≤◌}
use mathlib.Core.Path.{◌≡◌, refl, sym, ap, subst, ◌∙◌}
use mathlib.Core.List.{List}
use mathlib.Core.Bool.{true}
use native.Mathlib.Omega.{arith}
use lib.ListN.{length, get_or}
use lib.IntN.{ℤ}
use borrow.Author.Tests.{ltb-true, leb-true}
use Rattle.sheet.specs.declared.Record.{Record}
use Rattle.sheet.specs.Names.{bodies, chart_variables, chart_bodies, body_parameters, body_locals, root}
use Rattle.sheet.specs.Sheet.{record_of}
use Rattle.sheet.proofs.All.{and_first, and_second}
use Rattle.machine.specs.declared.Answer.{Answer}
use Rattle.machine.specs.declared.Ran.{Ran}
use Rattle.machine.specs.declared.Ran.TheVariants.{Done, Refused, Stuck}
use Rattle.sheet_rules.specs.declared.Checked.TheVariants.{Passed}
use Rattle.sheet_rules.specs.Fields.{externals_of, components_of, type_at}
use Rattle.sheet_rules.specs.Indices.{cells_before}
use Rattle.sheet_rules.specs.Shape.{chart_shape, tree_shape, body_shape}
use Rattle.sheet_rules.specs.Types.{type_of}
use Rattle.sheet_rules.specs.Static.{body_static}
use Rattle.machine.specs.Values.{in_type, is_bound, binding_at, first_cell}
use Rattle.machine.specs.Eval.{Context}
use Rattle.machine.specs.Run.{World, world, datum, locals_of, run_of}
use Rattle.machine.specs.Play.{ended, answer, limit_of, ran_body, event_end, body_event}
use Rattle.sheet_rules.specs.Check.{check_of}
use Rattle.machine_equations.proofs.Left.{RanWithin, run-left}
use Rattle.machine_passed.specs.Places.{InChart, Element, Placed, Locals}
use Rattle.machine_passed.proofs.Records.{one_record, chart-shape, body-shape, components_limit}
use Rattle.machine_passed.proofs.Charts.{element-chart, chart-element, body-static, body-tree}
use Rattle.machine_sound.specs.Gives.{Ends}
use Rattle.machine_sound.proofs.Locals.{few, fresh_locals}
use Rattle.machine_sound.proofs.Run.{is_statement_lem}
use Rattle.machine_promise.proofs.Bodies.{ran_is, ran_ends}
use Rattle.engine_ready.specs.Ready.{record_or0, context_at, Running, Ready, IsStatement}
use Rattle.machine_events.specs.Called.{Called}
use Rattle.engine_bodies.specs.Bodies.{ToRun}
use Rattle.engine_cells.specs.Cells.{CellTable}

-- the numbers of the body: row i of the table is the element's
abbrev Numbers : List ℕ → ℕ → ℕ → ℕ → Record → ℕ → List ℕ → Type 0
Numbers table e i n c number w =
    (length w ≡ 38)
    × (get_or w 0 0 ≡ e)
    × (get_or w 1 0 ≡ get_or table (34 * i + 33) 0)
    × (get_or w 2 0 ≡ n)
    × (get_or w 3 0 ≡ (chart_bodies c).first)
    × (get_or w 4 0 ≡ number)
    × ((m : ℕ) → m ≤ (chart_variables c).count → get_or w (5 + m) 0 ≡ get_or table (34 * i + m) 0)

module _ {s : List ℕ} (ok : check_of s ≡ Passed) {st : List ℤ} {e n : ℕ} {c : Record} {number : ℕ} {zs : List ℤ} (h : ToRun s st e n c number zs) where
  abbrev called : Called s e number zs
  called = h.called

  pub not_external : externals_of s ≤ e
  unfolding is_bound
  not_external = leb-true _ _ (and_first _ _ called.element.bound)

  pub few-elements : e < 64
  unfolding is_bound
  few-elements = let l : e < components_of s = ltb-true _ _ (and_second _ _ called.element.bound) in omega (arith, components_limit s ok)

  pub few-cells : (chart_variables c).count ≤ 32
  unfolding chart_shape
  few-cells = leb-true _ _ (and_first _ _ (and_second _ _ (and_second _ _ (and_second _ _ (chart-shape s ok n c h.chart.there)))))

  pub body-there : record_of s bodies number ≡ Some called.body
  body-there = ap (record_of s bodies) called.at ∙ called.inside.there

  same_chart : called.chart ≡ c
  same_chart = one_record _ _ (sym (element-chart s e called.binding called.chart called.element) ∙ h.chart.bound)

  -- ---- where the body runs, its record read

  module _ (b : Record) (read : record_of s bodies number ≡ Some b) where
    abbrev x : Context
    x = record { element = e; chart = c; binding = binding_at s e; body = b }

    same_body : called.body ≡ b
    same_body = one_record _ _ (sym body-there ∙ read)

    element : (f : Record) × Element s e f c
    element = chart-element s e c h.chart.bound

    inside : InChart s c b
    inside = subst (λ c. InChart s c b) same_chart (subst (λ b. InChart s called.chart b) same_body called.inside)

    placed : Placed s x
    placed = record { bound = element.0; element = element.1; binding = refl; body = inside }

    parameters : (j : ℕ) → j < (body_parameters b).count → in_type s (type_at s ((body_parameters b).first + j)) (datum zs j) ≡ true
    parameters = subst (λ b. (j : ℕ) → j < (body_parameters b).count → in_type s (type_at s ((body_parameters b).first + j)) (datum zs j) ≡ true) same_body called.parameters

    pub few-parameters : (body_parameters b).count ≤ 4
    unfolding body_shape
    few-parameters = leb-true _ _ (and_first _ _ (and_second _ _ (and_second _ _ (and_second _ _ (body-shape s ok _ b read)))))

    pub few_variables : (body_parameters b).count + (body_locals b).count ≤ 16
    few_variables = few s ok x placed

    -- its numbers
    module _ {table : List ℕ} (lies : CellTable s table) (i : ℕ) (row : i ≡ e - externals_of s) (w : List ℕ) (is : Numbers table e i n c number w) where
      context_is : context_at s w ≡ x
      unfolding context_at record_or0
      context_is =
          let k : get_or w 1 0 ≡ binding_at s e = is.2 ∙ ap (λ i. get_or table (34 * i + 33) 0) row ∙ lies.binding e c h.chart.bound in
          rw (context_at, is.1, k, is.3, is.5, h.chart.there, read) refl

      abbrev chart_is : (context_at s w).chart ≡ c
      chart_is = ap (λ x. x.chart) context_is

      cells : (m : ℕ) → m ≤ (chart_variables c).count → get_or w (5 + m) 0 ≡ first_cell s e + cells_before s c m
      cells m l = is.6 m l ∙ ap (λ i. get_or table (34 * i + m) 0) row ∙ lies.right e c h.chart.bound m l

      same_cells_lem : (m : ℕ) → first_cell s (get_or w 0 0) + cells_before s (context_at s w).chart m ≡ first_cell s e + cells_before s c m
      same_cells_lem m = ap (λ e. first_cell s e + cells_before s (context_at s w).chart m) is.1 ∙ ap (λ c. first_cell s e + cells_before s c m) chart_is

      running : Running s w
      running = record {
        whole = is.0;
        passed = ok;
        placed = subst (Placed s) (sym context_is) placed;
        cells = λ m l. cells m (subst (λ c. m ≤ (chart_variables c).count) chart_is l) ∙ sym (same_cells_lem m);
        first = is.4 ∙ sym (ap (λ c. (chart_bodies c).first) chart_is);
      }

      pub ready : (lo : List ℤ) → lo ≡ locals_of s b zs → Ready s w st lo
      ready lo l = record {
        running = running;
        state = h.state;
        locals = subst (Locals s (context_at s w)) (sym l) (subst (λ x. Locals s x (locals_of s b zs)) (sym context_is) (fresh_locals s ok x placed zs parameters));
      }

      pub root-statement : IsStatement s w (root b)
      unfolding body_static
      root-statement = record {
        levels = 64;
        tree = ap (λ x. tree_shape s x.chart x.body 64 (root b)) context_is ∙ body-tree s ok n c h.chart.there b inside;
        typed = ap (λ x. type_of s x.chart x.body (root b)) context_is ∙ is_statement_lem _ (and_second _ _ (and_second _ _ (and_second _ _ (body-static s ok n c h.chart.there b inside))));
      }

      abbrev Ended : Ran → List ℤ → Type 0
      Ended r st' = (r ≡ (ran_body s (limit_of s) e (record_of s bodies number) zs st).ran) × (st' ≡ (ran_body s (limit_of s) e (record_of s bodies number) zs st).st)

      pub body-ran : (st' lo lo' : List ℤ) (limit : ℕ) (r : Ran) → lo ≡ locals_of s b zs → limit ≡ limit_of s → world r st' lo' ≡ run_of s 0 (context_at s w) (root b) limit st lo → Ended r st'
      body-ran st' lo lo' limit r l m g = (ap (λ w. w.ran) whole, ap (λ w. w.st) whole)
        where
          whole : world r st' lo' ≡ ran_body s (limit_of s) e (record_of s bodies number) zs st
          whole =
              g
              ∙ ap (λ x. run_of s 0 x (root b) limit st lo) context_is
              ∙ ap (λ n. run_of s 0 x (root b) n st lo) m
              ∙ ap (run_of s 0 x (root b) (limit_of s) st) l
              ∙ sym (ran_is s ok e element.0 c element.1 b inside zs st)
              ∙ sym (ap (λ f. ran_body s (limit_of s) e f zs st) read)

  -- ---- how a run of the body ends

  abbrev ran_world : World
  ran_world = ran_body s (limit_of s) e (record_of s bodies number) zs st

  abbrev then_world : World
  then_world = ran_body s (limit_of s) e (Some called.body) zs st

  abbrev y : Context
  y = record { element = e; chart = called.chart; binding = binding_at s e; body = called.body }

  same_world : ran_world ≡ then_world
  same_world = ap (λ f. ran_body s (limit_of s) e f zs st) body-there

  ends : {r : Ran} → ran_world.ran ≡ r → Ends s y r then_world.st then_world.lo
  ends g =
      subst (λ r. Ends s y r then_world.st then_world.lo) (sym (ap (λ w. w.ran) same_world) ∙ g)
      (ran_ends s ok e called.binding called.chart called.element called.body called.inside zs st h.state called.parameters)

  pub not_stuck : ran_world.ran ≡ Stuck → ⊥
  not_stuck g = ends g

  left-within : RanWithin (limit_of s) ran_world.ran
  left-within =
      subst (λ w. RanWithin (limit_of s) w.ran) (sym (same_world ∙ ran_is s ok e called.binding called.chart called.element called.body called.inside zs st))
      (run-left s 0 y (root called.body) (limit_of s) st (locals_of s called.body zs))

  pub done_left : (l : ℕ) → ran_world.ran ≡ Done l → l ≤ limit_of s
  done_left l g = let q : l < limit_of s = subst (RanWithin (limit_of s)) g left-within in omega arith

  pub refused-left : (m l : ℕ) → ran_world.ran ≡ Refused m l → l ≤ limit_of s
  refused-left m l g = subst (RanWithin (limit_of s)) g left-within

  pub refused_some : (m l : ℕ) → ran_world.ran ≡ Refused m l → m ≡ 0 → ⊥
  refused_some m l g z = let q : 6 ≤ m = (ends g).0 in omega arith

  -- the answer of an event
  module _ (a : Answer) (old st' : List ℤ) (l limit : ℕ) (same : limit ≡ limit_of s) where
    pub done_event : a ≡ answer 0 (limit - l) None → ran_world.ran ≡ Done l → st' ≡ ran_world.st → ended a st' ≡ body_event s (limit_of s) old e (record_of s bodies number) zs st
    unfolding event_end
    done_event is g q =
        ap (λ a. ended a st') (is ∙ ap (λ k. answer 0 (k - l) None) same)
        ∙ ap (ended (answer 0 (limit_of s - l) None)) q
        ∙ sym (ap (λ r. event_end (limit_of s) old r ran_world.st) g)

    pub refused-event : (m : ℕ) → a ≡ answer m (limit - l) None → ran_world.ran ≡ Refused m l → st' ≡ old → ended a st' ≡ body_event s (limit_of s) old e (record_of s bodies number) zs st
    unfolding event_end
    refused-event m is g q =
        ap (λ a. ended a st') (is ∙ ap (λ k. answer m (k - l) None) same)
        ∙ ap (ended (answer m (limit_of s - l) None)) q
        ∙ sym (ap (λ r. event_end (limit_of s) old r ran_world.st) g)
