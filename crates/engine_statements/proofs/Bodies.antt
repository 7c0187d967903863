-- A call: the body that it names, its parameters, and the body's own variables.
use Rattle.std.specs.Prelude.{Option, Some, None, Result, Ok, Err}
use Rattle.std.specs.Result.{IsErrAnd}
use Prim.Native.Nat.{ℕ, zero, suc, ◌+◌, ◌<◌, ◌≤◌}
use mathlib.Core.Path.{◌≡◌, refl, sym, ap, subst, ◌∙◌, fun_ext}
use mathlib.Core.List.{List}
use mathlib.Core.Bool.{Bool, true, false}
use native.Mathlib.Omega.{arith}
use native.Mathlib.Decide.{dec_lt}
use lib.ListN.{length, get_or}
use lib.Dec.{ltb}
use lib.IntN.{ℤ}
use borrow.Author.Tests.{lt-ltb, le-ltb, leb-true}
use Rattle.sheet.specs.declared.Record.{Record}
use Rattle.sheet.specs.Names.{bodies, chart_variables, chart_bodies, body_parameters, body_locals, root}
use Rattle.sheet.specs.Sheet.{record_of}
use Rattle.sheet.proofs.All.{and_first, and_second}
use Rattle.sheet.proofs.Sheet.{count_limit}
use Rattle.machine.specs.declared.Ran.{Ran}
use Rattle.machine.specs.declared.Ran.TheVariants.{Refused}
use Rattle.sheet_rules.specs.Fields.{type_at}
use Rattle.sheet_rules.specs.Forms.{call, called_body}
use Rattle.sheet_rules.specs.Indices.{cells_before}
use Rattle.sheet_rules.specs.Shape.{body_shape, tree_shape}
use Rattle.sheet_rules.specs.Types.{type_of}
use Rattle.sheet_rules.specs.declared.Typed.TheVariants.{Statement}
use Rattle.sheet_rules.specs.Static.{body_static}
use Rattle.machine.specs.Values.{in_type, first_cell}
use Rattle.machine.specs.Eval.{Context}
use Rattle.machine.specs.Run.{World, world, provided, datum, local_at, list_from, locals_of, locals_there, in_body, entered, run_of, open_calls}
use Rattle.machine_passed.specs.Places.{Placed, Locals}
use Rattle.machine_passed.proofs.Records.{present-below, body-shape}
use Rattle.machine_passed.proofs.Charts.{body-tree, body-static}
use Rattle.machine_passed.proofs.Declared.{locals-there}
use Rattle.machine_sound.proofs.Locals.{fresh_locals}
use Rattle.machine_sound.proofs.Run.{called_in, is_statement_lem}
use Rattle.engine_ints.specs.declared.Stop.{Stop}
use Rattle.engine_ints.specs.Work.{ran_of}
use Rattle.engine_context.specs.Context.{element_in, first_body_in}
use Rattle.engine_ready.specs.Ready.{record_or0, context_at, Running, Ready, IsStatement, HasData}
use Rattle.engine_ready.specs.Words.{DataTold, in_four, four_words}
use Rattle.engine_ready.proofs.Statements.{called-there, call_data_lem, call-told, call_word}
use Rattle.engine_data.specs.Visit.{Visit}
use Rattle.engine_data.specs.Data.{data_at}
use Rattle.engine_data.proofs.Data.{on_data, data_stop}
use Rattle.engine_statements.specs.Callable.{Callable}

-- ---- parameters in four words

pub four_datum : (zs : List ℤ) (i : ℕ) → i < 4 → datum (four_words zs) i ≡ datum zs i
four_datum zs zero h = refl
four_datum zs (suc zero) h = refl
four_datum zs (suc (suc zero)) h = refl
four_datum zs (suc (suc (suc zero))) h = refl
four_datum zs (suc (suc (suc (suc i)))) h = absurd (omega arith)

-- ---- the called body

module _ (s w : List ℕ) (st lo : List ℤ) (n : ℕ) (r : Record) (v : Visit s w st lo n r call) where
  abbrev x : Context
  x = context_at s w

  called : (b : Record) × (called_body s x.chart r ≡ Some b)
  called = called-there s w st lo v.ready n r v.there v.statement v.form

  -- "body counted from the chart's first"
  called_at : called_body s x.chart r ≡ record_of s bodies (first_body_in w + r.f1)
  unfolding called_body
  called_at = go (ltb r.f1 (chart_bodies x.chart).count) called.1 ∙ ap (λ f. record_of s bodies (f + r.f1)) (sym v.ready.running.first)
    where
      go : (t : Bool) → ◌≡◌ {A = Option Record} (elim t [ true ↦ record_of s bodies ((chart_bodies x.chart).first + r.f1) | false ↦ None ]) (Some called.0) → ◌≡◌ {A = Option Record} (elim t [ true ↦ record_of s bodies ((chart_bodies x.chart).first + r.f1) | false ↦ None ]) (record_of s bodies ((chart_bodies x.chart).first + r.f1))
      go true h = refl
      go false h = cc

  pub body-called : (b : Record) × (record_of s bodies (first_body_in w + r.f1) ≡ Some b)
  body-called = (called.0, sym called_at ∙ called.1)

  pub number_small : first_body_in w + r.f1 < 65536
  number_small = omega (arith, present-below s bodies (first_body_in w + r.f1) body-called.0 body-called.1, count_limit s bodies)

  module _ (b : Record) (there : record_of s bodies (first_body_in w + r.f1) ≡ Some b) where
    is_called : called_body s x.chart r ≡ Some b
    is_called = called_at ∙ there

    pub has_data : HasData s w st lo r (body_parameters b)
    has_data = call_data_lem s w st lo v.ready n r v.there v.statement v.form b is_called

    pub four_parameters : b.f4 ≤ 4
    unfolding body_shape
    four_parameters = leb-true _ _ (and_first _ _ (and_second _ _ (and_second _ _ (and_second _ _ (body-shape s v.ready.running.passed _ b there)))))

    pub called_word : (depth l : ℕ) (zs : List ℤ) (m : ℕ) → data_at s w st lo r (body_parameters b) l ≡ Ok (zs, m) → entered s x (run_of s) depth b zs m st lo ≡ run_of s depth x n (suc l) st lo
    called_word depth l zs m e = on_data (data_at s w st lo r (body_parameters b) l) st lo (λ zs l. entered s x (run_of s) depth b zs l st lo) zs m e ∙ sym (call_word s w st lo v.ready n r v.there v.statement v.form b is_called depth l)

    pub called_stop : (depth l : ℕ) (o : Result ℕ Stop) (d : Stop) → IsErrAnd o (λ e. e ≡ d) → Err d ≡ in_four (data_at s w st lo r (body_parameters b) l) → world (ran_of o) st lo ≡ run_of s depth x n (suc l) st lo
    called_stop depth l o d h e = data_stop _ st lo (λ zs l. entered s x (run_of s) depth b zs l st lo) o d h e ∙ sym (call_word s w st lo v.ready n r v.there v.statement v.form b is_called depth l)

    pub told : (l : ℕ) (zs : List ℤ) (m : ℕ) → data_at s w st lo r (body_parameters b) l ≡ Ok (zs, m) → DataTold s (body_parameters b) l (Ok (zs, m))
    told l zs m e = subst (DataTold s (body_parameters b) l) e (call-told s w st lo v.ready n r v.there v.statement v.form b is_called l)

    -- its parameters are of their types
    parameter_in : (l : ℕ) (zs : List ℤ) (m : ℕ) → data_at s w st lo r (body_parameters b) l ≡ Ok (zs, m) → (i : ℕ) → i < b.f4 → in_type s (type_at s (b.f3 + i)) (datum zs i) ≡ true
    parameter_in l zs m e i h = let z : 0 + i ≡ i = omega arith in rw z at ((told l zs m e).0.1 i h)

    pub callable : (l : ℕ) (zs d : List ℤ) (m : ℕ) → data_at s w st lo r (body_parameters b) l ≡ Ok (zs, m) → d ≡ four_words zs → Callable s w st (first_body_in w + r.f1) b d
    callable l zs d m e q = record {
      running = v.ready.running;
      state = v.ready.state;
      there = there;
      inside = called_in s x.chart r b is_called;
      parameters = λ i h. ap (λ z. in_type s (type_at s (b.f3 + i)) z) (ap (λ d. datum d i) q ∙ four_datum zs i (omega (arith, four_parameters))) ∙ parameter_in l zs m e i h;
    }

module _ (s : List ℕ) (b : Record) (few : b.f4 ≤ 4) (zs : List ℤ) where
  local_four : (i : ℕ) → local_at s b (four_words zs) i ≡ local_at s b zs i
  unfolding local_at
  local_four i = elim (dec_lt i b.f4) [
    | yes h ↦ rw (local_at, lt-ltb i b.f4 h) (four_datum zs i (omega arith))
    | no h ↦ rw (local_at, le-ltb i b.f4 (omega arith)) refl
  ]

  pub locals_four : locals_of s b (four_words zs) ≡ locals_of s b zs
  unfolding locals_of
  locals_four = ap (list_from 16 0) (fun_ext local_four)

  pub entered_four : (y : Context) (depth l : ℕ) (st lo : List ℤ) → entered s y (run_of s) depth b (four_words zs) l st lo ≡ entered s y (run_of s) depth b zs l st lo
  unfolding entered
  entered_four y depth l st lo = ap (λ ls. elim (ltb depth open_calls) as (λ t. World) [ true ↦ provided (locals_there s b) st lo (world (run_of s (depth + 1) (in_body y b) (root b) l st ls).ran (run_of s (depth + 1) (in_body y b) (root b) l st ls).st lo) | false ↦ world (Refused 9 l) st lo ]) locals_four

-- ---- the body entered

module _ (s : List ℕ) (y : Context) (depth : ℕ) (b : Record) (zs : List ℤ) (l : ℕ) (st lo : List ℤ) where
  pub too_deep_lem : open_calls ≤ depth → world (Refused 9 l) st lo ≡ entered s y (run_of s) depth b zs l st lo
  unfolding entered
  too_deep_lem h = rw (entered, le-ltb depth open_calls h) refl

  pub body-runs : depth < open_calls → locals_there s b ≡ true → (o : Ran) (st' lo' : List ℤ) → world o st' lo' ≡ run_of s (depth + 1) (in_body y b) (root b) l st (locals_of s b zs) → world o st' lo ≡ entered s y (run_of s) depth b zs l st lo
  unfolding entered provided
  body-runs h k o st' lo' e = rw (entered, lt-ltb depth open_calls h, provided, k) (ap (λ v. world v.ran v.st lo) e)

module _ (s w : List ℕ) (st : List ℤ) (k : ℕ) (b : Record) (zs : List ℤ) (c : Callable s w st k b zs) where
  placed : Placed s (in_body (context_at s w) b)
  placed = record { bound = c.running.placed.bound; element = c.running.placed.element; binding = c.running.placed.binding; body = c.inside }

  pub fresh_there : locals_there s b ≡ true
  fresh_there = locals-there s c.running.passed _ _ c.running.placed.element.chart b c.inside

  shaped : body_shape s b ≡ true
  shaped = body-shape s c.running.passed k b c.there

  pub few-parameters : (body_parameters b).count ≤ 4
  unfolding body_shape
  few-parameters = leb-true _ _ (and_first _ _ (and_second _ _ (and_second _ _ (and_second _ _ shaped))))

  pub few_variables : (body_parameters b).count + (body_locals b).count ≤ 16
  unfolding body_shape
  few_variables = leb-true _ _ (and_first _ _ (and_second _ _ (and_second _ _ (and_second _ _ (and_second _ _ (and_second _ _ shaped))))))

  -- the numbers inside are those outside, but for the body's own
  module _ (w' : List ℕ) (inside : (length w' ≡ 38) × (get_or w' 4 0 ≡ k) × ((n : ℕ) → (n ≡ 4 → ⊥) → get_or w' n 0 ≡ get_or w n 0)) where
    same : (n : ℕ) → (n ≡ 4 → ⊥) → get_or w' n 0 ≡ get_or w n 0
    same = inside.2

    pub inner_context : context_at s w' ≡ in_body (context_at s w) b
    unfolding context_at record_or0
    inner_context = rw (same 0 (λ q. omega arith), same 1 (λ q. omega arith), same 2 (λ q. omega arith), inside.1, c.there) refl

    abbrev chart_same : (context_at s w').chart ≡ (context_at s w).chart
    chart_same = ap (λ y. y.chart) inner_context

    inner-running : Running s w'
    inner-running = record {
      whole = inside.0;
      passed = c.running.passed;
      placed = subst (Placed s) (sym inner_context) placed;
      cells = λ n h. same (5 + n) (λ q. omega arith) ∙ c.running.cells n (subst (λ c. n ≤ (chart_variables c).count) chart_same h) ∙ sym (ap (λ e. first_cell s e + cells_before s (context_at s w').chart n) (same 0 (λ q. omega arith)) ∙ ap (λ c. first_cell s (element_in w) + cells_before s c n) chart_same);
      first = same 3 (λ q. omega arith) ∙ c.running.first ∙ ap (λ c. (chart_bodies c).first) (sym chart_same);
    }

    pub inner-ready : Ready s w' st (locals_of s b zs)
    inner-ready = record { running = inner-running; state = c.state; locals = subst (λ y. Locals s y (locals_of s b zs)) (sym inner_context) (fresh_locals s c.running.passed (in_body (context_at s w) b) placed zs c.parameters) }

    pub inner-statement : IsStatement s w' (root b)
    unfolding body_static
    inner-statement = record {
      levels = 64;
      tree = subst (λ y. tree_shape s y.chart y.body 64 (root b) ≡ true) (sym inner_context) (body-tree s c.running.passed _ _ c.running.placed.element.chart b c.inside);
      typed = subst (λ y. type_of s y.chart y.body (root b) ≡ Statement) (sym inner_context) (is_statement_lem _ (and_second _ _ (and_second _ _ (and_second _ _ (body-static s c.running.passed _ _ c.running.placed.element.chart b c.inside)))));
    }

module _ (s w : List ℕ) (st lo : List ℤ) (n : ℕ) (r : Record) (v : Visit s w st lo n r call) (b : Record) (there : record_of s bodies (first_body_in w + r.f1) ≡ Some b) where
  pub given-left : (l : ℕ) (zs : List ℤ) (m : ℕ) → data_at s w st lo r (body_parameters b) l ≡ Ok (zs, m) → m ≤ l
  given-left l zs m e = (told s w st lo n r v b there l zs m e).1

  pub call_done : (depth l : ℕ) (zs d : List ℤ) (m : ℕ) → data_at s w st lo r (body_parameters b) l ≡ Ok (zs, m) → d ≡ four_words zs → entered s (context_at s w) (run_of s) depth b d m st lo ≡ run_of s depth (context_at s w) n (suc l) st lo
  call_done depth l zs d m e q = ap (λ d. entered s (context_at s w) (run_of s) depth b d m st lo) q ∙ entered_four s b (four_parameters s w st lo n r v b there) zs (context_at s w) depth m st lo ∙ called_word s w st lo n r v b there depth l zs m e
