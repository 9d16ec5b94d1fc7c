-- Lemmas on bytes that are kept eight a word.
use Rattle.std.proofs.Common.{◌≡◌, ℕ, zero, suc, ◌+◌, ◌-◌, ◌*◌, ◌<◌, ◌≤◌, min, List, [], ◌∷◌, ◌++◌, map, length, take, drop, get_or, set, refl, sym, ap, ◌∙◌, subst, ⊎_elim, arith, append-nil, append_assoc, length-append, length-drop}
use Rattle.std.specs.Simd.{first_chunks}
use Rattle.std.proofs.Math.Seq.{take-add, take-append-add}
use Rattle.std.proofs.lemmas.Bool.{cases_lt}
use Rattle.std.proofs.lemmas.List.{take_at, drop_at, take_all, take-take, drop-drop, drop-take, drop_all, take_min, length-take, length-take-le, take_more}
use Rattle.std.proofs.lemmas.Slice.{drop-append-drop}
use Rattle.ix_atomic.specs.Words.{word_of, bytes_of_word, word_count}
use Rattle.ix_atomic.specs.inner.DataWords.{words_of}
use Rattle.ix_atomic.proofs.Beginnings.{AreBelow, AreBelow-take, AreBelow-drop, AreBelow-append}
use Rattle.ix_atomic.specs.inner.SequencedSteps.{bytes_at}
use Rattle.ix_atomic.proofs.StageBytes.{bytes_at-next}
use Rattle.ix_atomic.proofs.WordBytes.{bytes_of_word-word_of, length-bytes_of_word}

-- the bytes of the word at an index
abbrev pub chunk_at : ℕ → List ℕ → List ℕ
chunk_at index bytes = take 8 (drop (8 * index) bytes)

abbrev words : ℕ → List ℕ → List ℕ
words count bytes = map word_of (first_chunks 8 count bytes)

pub length-chunk_at : (index : ℕ) (bytes : List ℕ) → length (chunk_at index bytes) ≡ min 8 (length bytes - 8 * index)
length-chunk_at index bytes = length-take 8 (drop (8 * index) bytes) ∙ ap (min 8) (length-drop (8 * index) bytes)

next_index : (index : ℕ) → 8 + 8 * index ≡ 8 * suc index
next_index index = omega arith

chunk_at-drop : (index : ℕ) (bytes : List ℕ) → chunk_at index (drop 8 bytes) ≡ chunk_at (suc index) bytes
chunk_at-drop index bytes = ap (take 8) (drop-drop (8 * index) 8 bytes ∙ ap (λ n. drop n bytes) (next_index index))

length-words : (count : ℕ) (bytes : List ℕ) → length (words count bytes) ≡ count
length-words zero bytes = refl
length-words (suc count) bytes = ap suc (length-words count (drop 8 bytes))

words-get : (count index : ℕ) (bytes : List ℕ) → index < count → get_or (words count bytes) index 0 ≡ word_of (chunk_at index bytes)
words-get zero index bytes inside = absurd (omega arith)
words-get (suc count) zero bytes inside = refl
words-get (suc count) (suc index) bytes inside = words-get count index (drop 8 bytes) (omega arith) ∙ ap word_of (chunk_at-drop index bytes)

-- lists that differ in one chunk
words-set : (count index : ℕ) (xs ys : List ℕ) → index < count → take (8 * index) xs ≡ take (8 * index) ys → drop (8 + 8 * index) xs ≡ drop (8 + 8 * index) ys
    → set (words count xs) index (word_of (chunk_at index ys)) ≡ words count ys
words-set zero index xs ys inside front rest = absurd (omega arith)
words-set (suc count) zero xs ys inside front rest = ap (λ tail. word_of (take 8 ys) ∷ words count tail) rest
words-set (suc count) (suc index) xs ys inside front rest =
    let same : take 8 xs ≡ take 8 ys = sym (take-take 8 (8 * suc index) xs (omega arith)) ∙ ap (take 8) front ∙ take-take 8 (8 * suc index) ys (omega arith) in
    let next = next_index index in
    let cut : take (8 + 8 * index) xs ≡ take (8 + 8 * index) ys = ap (λ n. take n xs) next ∙ front ∙ ap (λ n. take n ys) (sym next) in
    let front' : take (8 * index) (drop 8 xs) ≡ take (8 * index) (drop 8 ys) = sym (drop-take 8 (8 * index) xs) ∙ ap (drop 8) cut ∙ drop-take 8 (8 * index) ys in
    let end : 8 + (8 + 8 * index) ≡ 8 + 8 * suc index = omega arith in
    let ends : (zs : List ℕ) → drop (8 + 8 * index) (drop 8 zs) ≡ drop (8 + 8 * suc index) zs = λ zs. drop-drop (8 + 8 * index) 8 zs ∙ ap (λ n. drop n zs) end in
    let rest' : drop (8 + 8 * index) (drop 8 xs) ≡ drop (8 + 8 * index) (drop 8 ys) = ends xs ∙ rest ∙ sym (ends ys) in
    let tail : set (words count (drop 8 xs)) index (word_of (chunk_at (suc index) ys)) ≡ words count (drop 8 ys) =
    ap (λ chunk. set (words count (drop 8 xs)) index (word_of chunk)) (sym (chunk_at-drop index ys)) ∙ words-set count index (drop 8 xs) (drop 8 ys) (omega arith) front' rest' in
    λ i. word_of (same i) ∷ tail i

pub length-words_of : (bytes : List ℕ) → length (words_of bytes) ≡ word_count (length bytes)
length-words_of bytes = length-words (word_count (length bytes)) bytes

pub words_of-get : (index : ℕ) (bytes : List ℕ) → 8 * index < length bytes → get_or (words_of bytes) index 0 ≡ word_of (chunk_at index bytes)
words_of-get index bytes inside = words-get (word_count (length bytes)) index bytes (omega arith)

pub words_of-more : (index : ℕ) (bytes : List ℕ) → 8 * index < length bytes → take (index + 1) (words_of bytes) ≡ take index (words_of bytes) ++ word_of (chunk_at index bytes) ∷ []
words_of-more index bytes inside =
    let count = length-words_of bytes in
    take_more (words_of bytes) index 0 (omega arith) ∙ ap (λ word. take index (words_of bytes) ++ word ∷ []) (words_of-get index bytes inside)

-- a word is unpacked to the bytes that it was packed of
pub unpacked : (index : ℕ) (bytes : List ℕ) → AreBelow 256 bytes → bytes_of_word (min 8 (length bytes - 8 * index)) (word_of (chunk_at index bytes)) ≡ chunk_at index bytes
unpacked index bytes below =
    ap (λ count. bytes_of_word count (word_of (chunk_at index bytes))) (sym (length-chunk_at index bytes))
    ∙ bytes_of_word-word_of (chunk_at index bytes) (AreBelow-take 256 8 (drop (8 * index) bytes) (omega arith) (AreBelow-drop 256 (8 * index) bytes below))

pub chunk_at-more : (index : ℕ) (bytes : List ℕ) → take (8 * index) bytes ++ chunk_at index bytes ≡ take (8 * (index + 1)) bytes
chunk_at-more index bytes = sym (take-add (8 * index) 8 bytes) ∙ ap (λ n. take n bytes) (omega arith)

-- a chunk before the rest of a list, which is empty if the chunk is short
chunk-first : (chunk old : List ℕ) (from : ℕ) → length chunk ≤ 8 → (length chunk < 8 → length old ≤ from) → take 8 (chunk ++ drop from old) ≡ chunk
chunk-first chunk old from within short =
    ⊎_elim (λ (less : length chunk < 8). ap (λ rest. take 8 (chunk ++ rest)) (drop_all from old (short less)) ∙ ap (take 8) (append-nil chunk) ∙ take_all 8 chunk within)
    (λ (whole : 8 ≤ length chunk). take_at chunk (drop from old) 8 (omega arith)) (cases_lt (length chunk) 8)

-- the bytes with those of a word in the place of a chunk
abbrev pub with_word : ℕ → ℕ → List ℕ → List ℕ
with_word index word bytes = take (8 * index) bytes ++ (bytes_of_word (min 8 (length bytes - 8 * index)) word ++ drop (8 * index + 8) bytes)

pub length-with_word : (index word : ℕ) (bytes : List ℕ) → 8 * index < length bytes → length (with_word index word bytes) ≡ length bytes
length-with_word index word bytes inside =
    let count : ℕ = min 8 (length bytes - 8 * index) in
    let all = length-append (take (8 * index) bytes) (bytes_of_word count word ++ drop (8 * index + 8) bytes) in
    let front = length-take-le (8 * index) bytes (omega arith) in
    let rest = length-append (bytes_of_word count word) (drop (8 * index + 8) bytes) in
    let got = length-bytes_of_word count word in let end = length-drop (8 * index + 8) bytes in omega arith

pub with_word-front : (index word : ℕ) (bytes : List ℕ) → 8 * index < length bytes
    → take (8 * (index + 1)) (with_word index word bytes) ≡ take (8 * index) bytes ++ bytes_of_word (min 8 (length bytes - 8 * index)) word
with_word-front index word bytes inside =
    let count : ℕ = min 8 (length bytes - 8 * index) in let got : List ℕ = bytes_of_word count word in
    let front = length-take-le (8 * index) bytes (omega arith) in let got_len = length-bytes_of_word count word in
    ap (λ n. take n (with_word index word bytes)) (omega arith)
    ∙ take-append-add (take (8 * index) bytes) (got ++ drop (8 * index + 8) bytes) 8
    ∙ ap (λ list. take (8 * index) bytes ++ list) (chunk-first got bytes (8 * index + 8) (omega arith) (λ less. omega arith))

-- one more word is unpacked of those of some bytes
pub unpack-more : (index word : ℕ) (bytes out : List ℕ) → AreBelow 256 bytes → length bytes ≡ length out → 8 * index < length out → word ≡ get_or (words_of bytes) index 0
    → take (8 * index) out ≡ take (8 * index) bytes → take (8 * (index + 1)) (with_word index word out) ≡ take (8 * (index + 1)) bytes
unpack-more index word bytes out below same inside is front =
    let count : min 8 (length out - 8 * index) ≡ min 8 (length bytes - 8 * index) = ap (λ n. min 8 (n - 8 * index)) (sym same) in
    let got : bytes_of_word (min 8 (length out - 8 * index)) word ≡ chunk_at index bytes =
    ap (λ n. bytes_of_word n word) count ∙ ap (bytes_of_word (min 8 (length bytes - 8 * index))) (is ∙ words_of-get index bytes (omega arith)) ∙ unpacked index bytes below in
    with_word-front index word out inside ∙ (λ i. front i ++ got i) ∙ chunk_at-more index bytes

-- one more word is loaded of bytes of which a front is
pub load-more : (size index word : ℕ) (bytes loaded : List ℕ) → AreBelow 256 bytes → length bytes ≡ size → 8 * index < size → length loaded ≡ 8 * index → loaded ≡ take (length loaded) bytes
    → word ≡ get_or (words_of bytes) index 0
    → loaded ++ bytes_of_word (min 8 (size - 8 * index)) word ≡ take (length (loaded ++ bytes_of_word (min 8 (size - 8 * index)) word)) bytes
load-more size index word bytes loaded below long inside count front is =
    let got : List ℕ = bytes_of_word (min 8 (size - 8 * index)) word in
    let chunk : got ≡ chunk_at index bytes =
    ap (bytes_of_word (min 8 (size - 8 * index))) (is ∙ words_of-get index bytes (omega arith))
    ∙ ap (λ n. bytes_of_word (min 8 (n - 8 * index)) (word_of (chunk_at index bytes))) (sym long) ∙ unpacked index bytes below in
    let all : loaded ++ got ≡ take (8 * (index + 1)) bytes =
    ap (λ list. list ++ got) (front ∙ ap (λ n. take n bytes) count) ∙ ap (λ list. take (8 * index) bytes ++ list) chunk ∙ chunk_at-more index bytes in
    all ∙ sym (ap (λ list. take (length list) bytes) all ∙ ap (λ n. take n bytes) (length-take (8 * (index + 1)) bytes) ∙ take_min (8 * (index + 1)) bytes)

-- the bytes that a store of a chunk stores
pub stored-chunk : (size index word : ℕ) (bytes : List ℕ) → AreBelow 256 bytes → length bytes ≡ size → word ≡ word_of (chunk_at index bytes) → bytes_of_word (bytes_at size (index + 1)) word ≡ chunk_at index bytes
stored-chunk size index word bytes below long packed =
    ap (λ count. bytes_of_word count word) (bytes_at-next size index ∙ ap (λ n. min 8 (n - 8 * index)) (sym long))
    ∙ ap (bytes_of_word (min 8 (length bytes - 8 * index))) packed ∙ unpacked index bytes below

-- bytes before the rest of others stay bytes as the front grows
pub grown-below : (front chunk old : List ℕ) → AreBelow 256 (front ++ chunk) → AreBelow 256 (front ++ drop (length front) old) → AreBelow 256 ((front ++ chunk) ++ drop (length (front ++ chunk)) old)
grown-below front chunk old of_front of_all =
    let n : ℕ = length (front ++ chunk) in let parts : n ≡ length front + length chunk = length-append front chunk in
    let rest : drop n (front ++ drop (length front) old) ≡ drop n old = drop-append-drop (length front) old front n (omega arith) refl in
    AreBelow-append 256 (front ++ chunk) (drop n old) of_front (subst (AreBelow 256) rest (AreBelow-drop 256 n (front ++ drop (length front) old) of_all))

-- a chunk is set, where the front ends
pub words_of-set : (index : ℕ) (front chunk old : List ℕ) → length front ≡ 8 * index → 8 * index < length old → length chunk ≡ min 8 (length old - 8 * index)
    → set (words_of (front ++ drop (length front) old)) index (word_of chunk) ≡ words_of ((front ++ chunk) ++ drop (length (front ++ chunk)) old)
words_of-set index front chunk old front_len inside chunk_len =
    let rest : List ℕ = drop (length (front ++ chunk)) old in
    let xs : List ℕ = front ++ drop (length front) old in let ys : List ℕ = (front ++ chunk) ++ rest in
    let both : length (front ++ chunk) ≡ length front + length chunk = length-append front chunk in
    let xs_parts : length xs ≡ length front + length (drop (length front) old) = length-append front (drop (length front) old) in
    let xs_rest : length (drop (length front) old) ≡ length old - length front = length-drop (length front) old in
    let ys_parts : length ys ≡ length (front ++ chunk) + length rest = length-append (front ++ chunk) rest in
    let ys_rest : length rest ≡ length old - length (front ++ chunk) = length-drop (length (front ++ chunk)) old in
    let xs_len : length xs ≡ length old = omega arith in
    let ys_len : length ys ≡ length old = omega arith in
    let apart : ys ≡ front ++ (chunk ++ rest) = append_assoc front chunk rest in
    let xs_front : take (8 * index) xs ≡ front = take_at front (drop (length front) old) (8 * index) front_len in
    let ys_front : take (8 * index) ys ≡ front = ap (take (8 * index)) apart ∙ take_at front (chunk ++ rest) (8 * index) front_len in
    let xs_end : drop (8 + 8 * index) xs ≡ drop (8 + 8 * index) old = drop-append-drop (length front) old front (8 + 8 * index) (omega arith) refl in
    let ys_end : drop (8 + 8 * index) ys ≡ drop (8 + 8 * index) old = drop-append-drop (length (front ++ chunk)) old (front ++ chunk) (8 + 8 * index) (omega arith) refl in
    let here : chunk_at index ys ≡ chunk =
    ap (λ list. take 8 (drop (8 * index) list)) apart ∙ ap (take 8) (drop_at front (chunk ++ rest) (8 * index) front_len)
    ∙ chunk-first chunk old (length (front ++ chunk)) (omega arith) (λ less. omega arith) in
    ap (λ list. set (words_of xs) index (word_of list)) (sym here)
    ∙ words-set (word_count (length xs)) index xs ys (omega arith) (xs_front ∙ sym ys_front) (xs_end ∙ sym ys_end)
    ∙ ap (λ len. words (word_count len) ys) (xs_len ∙ sym ys_len)
