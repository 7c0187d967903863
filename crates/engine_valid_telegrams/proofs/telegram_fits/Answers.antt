use mathlib.Core.Path.{sym, ◌∙◌, ap}
use Rattle.machine.specs.State.{telegram_in}
use Rattle.engine_valid_telegrams.proofs.Laws.{no_component, receiver_from, internal-one, external-one}
use mathlib.Core.Bool.{not}
use Rattle.engine_valid_telegrams.proofs.telegram_fits.Goals as goal

pub returns-then-not-both_components : goal.returns-then-not-both_components
unfolding telegram_in
returns-then-not-both_components c = no_component _ (telegram_in c.args.st.now c.args.at) _ c.both_components.ensures (ap not c.if-not-both_components.true)

pub internal_fits-requires : goal.internal_fits-requires
unfolding telegram_in
internal_fits-requires c = let receiver = receiver_from _ (telegram_in c.args.st.now c.args.at) _ c.both_components.ensures (ap not c.if-not-both_components.false) in
    (c.requires, receiver)

pub returns-then-is_internal : goal.returns-then-is_internal
unfolding telegram_in
returns-then-is_internal c = let kind = sym c.is_internal.ensures ∙ c.if-is_internal.true in
    c.internal_fits.ensures
    ∙ internal-one _ (telegram_in c.args.st.now c.args.at) _ c.both_components.ensures (ap not c.if-not-both_components.false) kind

pub returns : goal.returns
unfolding telegram_in
returns c = let kind = sym c.is_internal.ensures ∙ c.if-is_internal.false in
    c.external_fits.ensures
    ∙ external-one _ (telegram_in c.args.st.now c.args.at) _ c.both_components.ensures (ap not c.if-not-both_components.false) kind
