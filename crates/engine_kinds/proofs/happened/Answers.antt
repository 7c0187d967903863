use mathlib.Core.Path.{ap, ◌∙◌}
use lib.IntN.{pos, nat_abs}
use lib.Signed.{le_z}
use Rattle.machine_events.proofs.Received.{receiver-number}
use Rattle.engine_rows.proofs.Laws.{given}
use Rattle.engine_queue.proofs.Laws.{laid}
use Rattle.engine_kinds.proofs.ByKind.{malformed_happens, outside-happens, slice-copied, slice-happens, deliver_missing, corrupt_missing, inner_missing, takes, plays, old-long, fits, deliver_outer, deliver-happens, corrupted_bound, corrupt-happens, inner-inside, inner-happens}
use Rattle.engine_kinds.proofs.happened.Goals as goal

pub sent_outside-requires : goal.sent_outside-requires
sent_outside-requires c = laid _ _ c.requires.state

pub take-taken-requires : goal.take-taken-requires
take-taken-requires c = laid _ _ c.requires.state

pub delivers-requires : goal.delivers-requires
delivers-requires c = let took = c.take-taken.ensures _ c.requires.state in
    let w = takes c.args.yard.now.passed c.requires took _ c.in-Some.is in
    record { beside = record { state = plays c.args.yard.now.passed c.requires w; long = old-long c.args.yard.now.passed c.requires w }; fits = fits c.args.yard.now.passed c.requires w; class = deliver_outer c.args.yard.now.passed c.requires w _ _ c.in-Deliver.is }

pub take-taken-requires-in-Corrupt : goal.take-taken-requires-in-Corrupt
take-taken-requires-in-Corrupt c = laid _ _ c.requires.state

pub number-requires : goal.number-requires
number-requires c = let took = c.take-taken-in-Corrupt.ensures _ c.requires.state in
    let w = takes c.args.yard.now.passed c.requires took _ c.in-Some-taken.is in
    ap (le_z (pos 0)) (given c.in-Some-taken.t.receiver c.struct_told-1.given.1.0.1) ∙ receiver-number _ c.args.yard.now.passed _ (fits c.args.yard.now.passed c.requires w)

pub panicked-requires : goal.panicked-requires
panicked-requires c = let took = c.take-taken-in-Corrupt.ensures _ c.requires.state in
    let w = takes c.args.yard.now.passed c.requires took _ c.in-Some-taken.is in
    let n = c.number.ensures ∙ ap nat_abs (given c.in-Some-taken.t.receiver c.struct_told-1.given.1.0.1) in
    (record { state = plays c.args.yard.now.passed c.requires w; long = old-long c.args.yard.now.passed c.requires w }, corrupted_bound c.args.yard.now.passed c.requires w _ _ c.in-Corrupt.is _ n)

pub take-taken-requires-in-Inner : goal.take-taken-requires-in-Inner
take-taken-requires-in-Inner c = laid _ _ c.requires.state

pub reacts-requires : goal.reacts-requires
reacts-requires c = let took = c.take-taken-in-Inner.ensures _ c.requires.state in
    let w = takes c.args.yard.now.passed c.requires took _ c.in-Some-taken-2.is in
    record { beside = record { state = plays c.args.yard.now.passed c.requires w; long = old-long c.args.yard.now.passed c.requires w }; fits = fits c.args.yard.now.passed c.requires w; class = inner-inside c.args.yard.now.passed c.requires w _ c.in-Inner.is }

pub sliced-requires : goal.sliced-requires
sliced-requires c = (c.requires.state, slice-copied c.args.yard.now.passed c.requires c.in-Slice.is)

pub returns-in-Malformed : goal.returns-in-Malformed
returns-in-Malformed c = malformed_happens c.args.yard.now.passed c.requires c.in-Malformed.is _ c.answered.ensures

pub returns-in-Outside : goal.returns-in-Outside
returns-in-Outside c = outside-happens c.args.yard.now.passed c.requires _ c.in-Outside.is (c.sent_outside.ensures _ c.requires.state.whole)

pub returns-in-None : goal.returns-in-None
returns-in-None c = deliver_missing c.args.yard.now.passed c.requires (c.take-taken.ensures _ c.requires.state) c.in-None.is _ _ c.in-Deliver.is _ c.answered-in-None.ensures

pub returns-in-Some : goal.returns-in-Some
returns-in-Some c = let took = c.take-taken.ensures _ c.requires.state in
    let w = takes c.args.yard.now.passed c.requires took _ c.in-Some.is in
    deliver-happens c.args.yard.now.passed c.requires w _ _ c.in-Deliver.is c.delivers.ensures

pub returns-in-None-taken : goal.returns-in-None-taken
returns-in-None-taken c = corrupt_missing c.args.yard.now.passed c.requires (c.take-taken-in-Corrupt.ensures _ c.requires.state) c.in-None-taken.is _ _ c.in-Corrupt.is _ c.answered-in-None-taken.ensures

pub returns-in-Some-taken : goal.returns-in-Some-taken
returns-in-Some-taken c = let took = c.take-taken-in-Corrupt.ensures _ c.requires.state in
    let w = takes c.args.yard.now.passed c.requires took _ c.in-Some-taken.is in
    let n = c.number.ensures ∙ ap nat_abs (given c.in-Some-taken.t.receiver c.struct_told-1.given.1.0.1) in
    corrupt-happens c.args.yard.now.passed c.requires w _ _ c.in-Corrupt.is _ n c.panicked.ensures

pub returns-in-None-taken-2 : goal.returns-in-None-taken-2
returns-in-None-taken-2 c = inner_missing c.args.yard.now.passed c.requires (c.take-taken-in-Inner.ensures _ c.requires.state) c.in-None-taken-2.is _ c.in-Inner.is _ c.answered-in-None-taken-2.ensures

pub returns-in-Some-taken-2 : goal.returns-in-Some-taken-2
returns-in-Some-taken-2 c = let took = c.take-taken-in-Inner.ensures _ c.requires.state in
    let w = takes c.args.yard.now.passed c.requires took _ c.in-Some-taken-2.is in
    inner-happens c.args.yard.now.passed c.requires w _ c.in-Inner.is c.reacts.ensures

pub returns-in-Slice : goal.returns-in-Slice
returns-in-Slice c = slice-happens c.args.yard.now.passed c.requires c.in-Slice.is c.sliced.ensures
