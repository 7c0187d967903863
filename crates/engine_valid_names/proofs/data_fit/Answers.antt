use native.Mathlib.Omega.{arith}
use mathlib.Core.Path.{refl, sym, ◌∙◌}
use Rattle.sheet.specs.All.{all_below}
use Rattle.sheet.proofs.All.{all_more, loop_fails, loop_ends}
use Rattle.machine.specs.Valid.{data_fit}
use Rattle.engine_valid_names.specs.Parts.{datum_fits}
use Rattle.engine_valid_names.proofs.data_fit.Goals as goal

pub loop-j-init : goal.loop-j-init
unfolding all_below
loop-j-init c = refl

pub returns-then-not-datum_fits : goal.returns-then-not-datum_fits
unfolding data_fit datum_fits
returns-then-not-datum_fits c = loop_fails 4 4 _ _ refl (omega arith) (sym c.datum_fits.ensures ∙ c.if-not-datum_fits.true)

pub loop-j-preserved : goal.loop-j-preserved
loop-j-preserved c = all_more c.loop-j.j _ c.loop-j.invariant (sym c.datum_fits.ensures ∙ c.if-not-datum_fits.false)

pub returns : goal.returns
unfolding data_fit datum_fits
returns c = loop_ends 4 4 _ _ refl (omega arith) (omega arith) c.loop-j.invariant
