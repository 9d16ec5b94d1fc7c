use Rattle.std.proofs.Common.{◌∙◌, length, take, ap}
use Rattle.ix_atomic.proofs.WordBytes.{to_le_bytes-bytes_of_word, take-bytes_of_word}
use Rattle.ix_atomic.proofs.byte_atomic.words.unpack_word.Goals as goal

pub returns-else-out-eq8 : goal.returns-else-out-eq8
returns-else-out-eq8 c =
    let len = length c.args.out.now in
    let all = c.to_le_bytes-all.ensures ∙ to_le_bytes-bytes_of_word c.args.word in
    record { out = c.copy_from_slice-else-out-eq8.ensures.after ∙ ap (take len) all ∙ take-bytes_of_word len 8 c.args.word c.requires }
