use mathlib.Core.Path.{◌≡◌, sym, ◌∙◌}
use mir.Syntax.{w32}
use mir.Val.{of_z, to_z}
use borrow.Author.Rules.{rules}
use Rattle.engine_ready.specs.Ready.{context_at}
use Rattle.engine_ready.proofs.Statements.{assign_operand, assign_word}
use Rattle.engine_data.proofs.Data.{on_word, on_stop}
use Rattle.engine_assigning.proofs.Acts.{assign_lies, assign_at, assign_local}
use Rattle.engine_assigning.proofs.assign.Goals as goal

pub eval-requires : goal.eval-requires
eval-requires c = (c.requires.ready, assign_operand _ _ _ _ c.requires.ready _ _ c.requires.there c.requires.statement c.requires.form)

pub put-requires : goal.put-requires
put-requires c = (c.requires.ready.locals.sixteen, assign_lies _ _ _ _ _ _ c.requires, assign_local _ _ _ _ _ _ c.requires)

pub returns-in_err-word : goal.returns-in_err-word
returns-in_err-word c = (
  c.requires.ready.locals.sixteen,
  λ depth. on_stop _ _ _ _ _ _ c.from_residual.ensures.1 c.in_err-word.ensures ∙ sym (assign_word _ _ _ _ c.requires.ready _ _ c.requires.there c.requires.statement c.requires.form depth _),
)

pub returns : goal.returns
returns c = let args = c.args in
    let word : to_z w32 (of_z w32 c.in_ok-word.word) ≡ c.in_ok-word.word = search rules in
    let put-here = c.put.ensures.1 args.sheet.now.sheet.now (context_at args.sheet.now.sheet.now args.context.now) (assign_at _ _ _ _ _ _ c.requires) in (
      c.put.ensures.0,
      λ depth. (rw word at put-here)
          ∙ on_word _ _ _ _ _ _ c.in_ok-word.ensures
          ∙ sym (assign_word _ _ _ _ c.requires.ready _ _ c.requires.there c.requires.statement c.requires.form depth _),
    )
