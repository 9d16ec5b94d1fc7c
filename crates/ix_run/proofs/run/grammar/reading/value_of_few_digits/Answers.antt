use Rattle.std.proofs.Common.{◌≡◌, ◌+◌, ◌-◌, ◌*◌, length, sym, ◌∙◌, arith}
use Rattle.ix_run.specs.declared.run.grammar.reading.TheConstants.{SAFE_LEN}
use Rattle.ix_run.proofs.Numbers.{below_more_digits, after_eight, not_after_eight}
use Rattle.ix_run.proofs.run.grammar.reading.value_of_few_digits.Goals as goal

pub value_after-requires-clause-small : goal.value_after-requires-clause-small
value_after-requires-clause-small c = below_more_digits 0 0 (SAFE_LEN - length c.args.word.now) (omega arith) (omega arith)

pub value_after-requires-in_default-split_first_chunk-clause-small :
    goal.value_after-requires-in_default-split_first_chunk-clause-small
value_after-requires-in_default-split_first_chunk-clause-small c =
    let first = c.in-Some.ensures.cases in
    below_more_digits c.value_of_eight-front.result 8 (SAFE_LEN - length c.in-Some.rest.now) c.value_of_eight-front.ensures.bound (omega (arith, c.requires, first.2))

pub returns-then-not-are_digits-2 : goal.returns-then-not-are_digits-2
returns-then-not-are_digits-2 c =
    let first = c.in-Some.ensures.cases in
    let second = c.in-Some-split_first_chunk.ensures.cases in
    let one = after_eight c.args.word.now c.in-Some.first.now c.in-Some.rest.now 0 (omega (arith, first.2)) first.0 first.1 (sym c.are_digits.ensures ∙ c.if-not-are_digits.false) in
    λ all. not_after_eight c.in-Some.rest.now c.in-Some-split_first_chunk.second.now second.0 (sym c.are_digits-2.ensures ∙ c.if-not-are_digits-2.true) (sym one.0 ∙ all)

pub value_after-requires-2-clause-small : goal.value_after-requires-2-clause-small
value_after-requires-2-clause-small c =
    let front = c.value_of_eight-front.ensures.bound in
    let next = c.value_of_eight.ensures.bound in
    let first = c.in-Some.ensures.cases in
    let second = c.in-Some-split_first_chunk.ensures.cases in
    below_more_digits (c.value_of_eight-front.result * 100000000 + c.value_of_eight.result) 16 (SAFE_LEN - length c.in-Some-split_first_chunk.rest.now) (omega (arith, front, next)) (omega (arith, c.requires, first.2, second.2))

pub returns : goal.returns
returns c =
    let first = c.in-Some.ensures.cases in
    let second = c.in-Some-split_first_chunk.ensures.cases in
    let one = after_eight c.args.word.now c.in-Some.first.now c.in-Some.rest.now 0 (omega (arith, first.2)) first.0 first.1 (sym c.are_digits.ensures ∙ c.if-not-are_digits.false) in
    let two = after_eight c.in-Some.rest.now c.in-Some-split_first_chunk.second.now c.in-Some-split_first_chunk.rest.now c.value_of_eight-front.result (omega (arith, second.2)) second.0 second.1 (sym c.are_digits-2.ensures ∙ c.if-not-are_digits-2.false) in
    let front : 0 * 100000000 + c.value_of_eight-front.result ≡ c.value_of_eight-front.result = omega arith in
    rw (one.0, two.0, one.1, sym c.value_of_eight-front.ensures.value, front, two.1, sym c.value_of_eight.ensures.value) c.value_after-2.ensures
