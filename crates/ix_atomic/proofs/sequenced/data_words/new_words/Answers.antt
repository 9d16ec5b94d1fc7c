use Rattle.std.proofs.Common.{rules, arith, ◌≡◌, ◌*◌, ◌<◌, ◌≤◌, [], ◌∷◌, ◌++◌, length, take, ap, sym, ◌∙◌}
use Rattle.std.proofs.lemmas.List.{take_all}
use Rattle.ix_atomic.specs.inner.DataWords.{words_of}
use Rattle.ix_atomic.proofs.DataWords.{length-words_of, words_of-more}
use Rattle.ix_atomic.proofs.sequenced.data_words.new_words.Goals as goal

pub loop-i-preserved : goal.loop-i-preserved
loop-i-preserved g c =
    let bytes = c.args.bytes.now in let i = c.loop-i.i in let below = c.loop-i-test.true in let end = c.div_ceil-i-end.ensures in
    let inside : 8 * i < length bytes = omega arith in
    let pushed : c.push-in-loop-i.new.self.items ≡ c.loop-i.words.items ++ c.word_at.result ∷ [] = search rules in
    pushed ∙ ap (λ words. words ++ c.word_at.result ∷ []) c.loop-i.invariant
    ∙ ap (λ word. 0 ∷ (take i (words_of bytes) ++ word ∷ [])) c.word_at.ensures.value ∙ ap (λ words. 0 ∷ words) (sym (words_of-more i bytes inside))

pub returns-clause-words : goal.returns-clause-words
returns-clause-words g c =
    let bytes = c.args.bytes.now in let count = length-words_of bytes in let past = c.loop-i-test.false in let end = c.div_ceil-i-end.ensures in
    let all : length (words_of bytes) ≤ c.loop-i.i = omega arith in
    c.loop-i.invariant ∙ ap (λ words. 0 ∷ words) (take_all c.loop-i.i (words_of bytes) all)
