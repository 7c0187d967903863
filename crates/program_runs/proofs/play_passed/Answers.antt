use Rattle.std.proofs.Common.{◌≤◌, sym, ◌∙◌, arith}
use lib.IntN.{pos}
use Rattle.machine_passed.proofs.Records.{cells_limit}
use Rattle.engine_store.specs.Layout.{longest}
use Rattle.engine_store.proofs.Lies.{words_with_lem}
use Rattle.program_text.proofs.Parts.{fresh_front}
use Rattle.program_runs.proofs.play_passed.Goals as goal

pub state_length-n-requires : goal.state_length-n-requires
state_length-n-requires g c = let e = c.args.yard.now.counted in omega (arith, cells_limit _ c.args.yard.now.passed)

pub slice_bounds-st-end : goal.slice_bounds-st-end
slice_bounds-st-end g c =
    let cells = c.args.yard.now.counted in
    let words = c.state_length-n.ensures in
    omega (arith, cells_limit _ c.args.yard.now.passed)

pub slice_bounds-play_states-end : goal.slice_bounds-play_states-end
slice_bounds-play_states-end g c =
    let cells = c.args.yard.now.counted in
    let words = c.state_length-n.ensures in
    fresh_front c.state_length-n.result longest (pos 0) (omega (arith, cells_limit _ c.args.yard.now.passed))

pub slice_bounds-spare-end : goal.slice_bounds-spare-end
slice_bounds-spare-end g c =
    let cells = c.args.yard.now.counted in
    let words = c.state_length-n.ensures in
    omega (arith, cells_limit _ c.args.yard.now.passed)

pub slice_bounds-play_states-end-2 : goal.slice_bounds-play_states-end-2
slice_bounds-play_states-end-2 g c =
    let cells = c.args.yard.now.counted in
    let words = c.state_length-n.ensures in
    fresh_front c.state_length-n.result longest (pos 0) (omega (arith, cells_limit _ c.args.yard.now.passed))

pub play_states-requires : goal.play_states-requires
play_states-requires g c =
    let n = c.state_length-n.result in
    let words = c.state_length-n.ensures in
    let cells = c.args.yard.now.counted in
    let l : n ≤ longest = omega (arith, cells_limit _ c.args.yard.now.passed) in
    let f = fresh_front n longest (pos 0) l in
    (sym f ∙ words ∙ words_with_lem c.args.yard.now.sheet.sheet.now _ cells, sym f ∙ f)
