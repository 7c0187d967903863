use mathlib.Core.Path.{refl}
use Rattle.engine_valid_events.proofs.Laws.{word_is, word_not, another_length, kind_1, kind_2, kind_3, kind_4, kind_5, of_no_kind}
use Rattle.engine_valid_events.proofs.event_of.Goals as goal

pub returns-then-ev-ne-EVENT_WORDS : goal.returns-then-ev-ne-EVENT_WORDS
returns-then-ev-ne-EVENT_WORDS c = another_length _ _ _ c.if-ev-ne-EVENT_WORDS.true refl

pub returns-in-1 : goal.returns-in-1
returns-in-1 c = kind_1 _ _ _ c.if-ev-ne-EVENT_WORDS.false (word_is _ _ 1 c.word-kind.ensures.0 c.word-kind.ensures.1 c.in-1.in-1-own.keys1) c.outside.ensures

pub returns-in-2 : goal.returns-in-2
returns-in-2 c = kind_2 _ _ _ c.if-ev-ne-EVENT_WORDS.false (word_is _ _ 2 c.word-kind.ensures.0 c.word-kind.ensures.1 c.in-2.in-2-own.keys2) c.deliver.ensures

pub returns-in-3 : goal.returns-in-3
returns-in-3 c = kind_3 _ _ _ c.if-ev-ne-EVENT_WORDS.false (word_is _ _ 3 c.word-kind.ensures.0 c.word-kind.ensures.1 c.in-3.in-3-own.keys3) c.corrupt.ensures

pub returns-in-4 : goal.returns-in-4
returns-in-4 c = kind_4 _ _ _ c.if-ev-ne-EVENT_WORDS.false (word_is _ _ 4 c.word-kind.ensures.0 c.word-kind.ensures.1 c.in-4.in-4-own.keys4) c.inner.ensures

pub returns-in-5 : goal.returns-in-5
returns-in-5 c = kind_5 _ _ _ c.if-ev-ne-EVENT_WORDS.false (word_is _ _ 5 c.word-kind.ensures.0 c.word-kind.ensures.1 c.in-5.in-5-own.keys5) (c.slice.ensures _)

pub returns-in_default : goal.returns-in_default
returns-in_default c = let word = c.word-kind.ensures.0 in
    let rest = c.in_default.in_default-own.rest in
    of_no_kind _ _ _ c.if-ev-ne-EVENT_WORDS.false (word_not _ _ 1 word rest.0.0.0.0.1) (word_not _ _ 2 word rest.0.0.0.1) (word_not _ _ 3 word rest.0.0.1) (word_not _ _ 4 word rest.0.1) (word_not _ _ 5 word rest.1) refl
