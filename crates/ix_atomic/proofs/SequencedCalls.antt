-- What the steps of one call do together to the seat that takes them.
use Rattle.std.proofs.Common.{◌≡◌, ℕ, suc, ◌+◌, ◌-◌, ◌*◌, ◌/◌, ◌%◌, ◌<◌, ◌≤◌, min, List, [], ◌∷◌, ◌++◌, length, take, refl, sym, ap, ◌∙◌, subst, arith, add-one, append_assoc, All, Some}
use Rattle.std.proofs.Math.Seq.{take-length}
use Rattle.std.proofs.lemmas.List.Elements.{All-push}
use Rattle.atomic_table.specs.Seated.{TableId}
use Rattle.ix_atomic.specs.declared.sequenced.rule.SeatView.{SeatView}
use Rattle.ix_atomic.specs.declared.sequenced.rule.Stage.TheVariants.{Reading, Writing}
use Rattle.ix_atomic.specs.History.{Begins, IsEven, Loads, LoadsTwice, version_of, history_value, data_words, all_words}
use Rattle.ix_atomic.specs.Versions.{last_version}
use Rattle.ix_atomic.specs.Shares.{IsWhole}
use Rattle.ix_atomic.specs.Writers.{IsRising, AreOwn, HoldsEach, Writes}
use Rattle.ix_atomic.specs.inner.SequencedSteps.{Seated, stage_bytes, bytes_at, view_stage, view_bytes, seated_stage, view_end, reader_of, writer_of, ViewLoads, ViewClaims}
use Rattle.ix_atomic.specs.Words.{word_of, bytes_of_word, word_count}
use Rattle.ix_atomic.specs.laws.HistoryLaws.{Begins-trans, Begins-length}
use Rattle.ix_atomic.proofs.Beginnings.{length-push, All-last, AreBelow}
use Rattle.ix_atomic.proofs.DataWords.{chunk_at, chunk_at-more, stored-chunk, with_word, with_word-front}
use Rattle.ix_atomic.proofs.OwnPlaces.{IsRising-push}
use Rattle.ix_atomic.proofs.StageBytes.{stage_bytes-Reading, stage_bytes-Writing, bytes_at-next}

data_words-next : (k : ℕ) → data_words (k + 1) ≡ data_words k ++ (k + 1) ∷ []
data_words-next k = ap data_words (add-one k) ∙ ap (λ word. data_words k ++ word ∷ []) (sym (add-one k))

-- one more word of bytes is touched
touch_more : (before : List ℕ) (k : ℕ) → (before ++ data_words k) ++ (k + 1) ∷ [] ≡ before ++ data_words (k + 1)
touch_more before k = append_assoc before (data_words k) ((k + 1) ∷ []) ∙ ap (λ words. before ++ words) (sym (data_words-next k))

-- all words are touched
touch_all : (before words : List ℕ) → ((before ++ 0 ∷ []) ++ words) ++ 0 ∷ [] ≡ before ++ 0 ∷ (words ++ 0 ∷ [])
touch_all before words = append_assoc (before ++ 0 ∷ []) words (0 ∷ []) ∙ append_assoc before (0 ∷ []) (words ++ 0 ∷ [])

-- an even version of 64 bits
pub below_last : (version : ℕ) → version < 18446744073709551616 → (version % 2 ≡ 1 → ⊥) → (version ≡ last_version → ⊥) → version < last_version
below_last version fits not_odd not_last = omega arith

module _ {T : Type 0} where
  -- one more word is stored
  pub store_more : (size k word : ℕ) (bytes : List ℕ) (seat before after : Seated T) → AreBelow 256 bytes → length bytes ≡ size → word ≡ word_of (chunk_at k bytes) → seat ≡ seated_stage (data_words k) (Writing (take (8 * k) bytes)) before
      → after ≡ (view_bytes (k + 1) (bytes_of_word (bytes_at size (k + 1)) word) seat.0, seat.1) → after ≡ seated_stage (data_words (k + 1)) (Writing (take (8 * (k + 1)) bytes)) before
  store_more size k word bytes seat before after below long packed kept step =
      let got : List ℕ = bytes_of_word (bytes_at size (k + 1)) word in let stored : List ℕ = take (8 * k) bytes in
      let more : stored ++ got ≡ take (8 * (k + 1)) bytes = ap (λ list. stored ++ list) (stored-chunk size k word bytes below long packed) ∙ chunk_at-more k bytes in
      let stage : stage_bytes got (Writing stored) ≡ Writing (take (8 * (k + 1)) bytes) = stage_bytes-Writing got stored ∙ ap Writing more in
      step ∙ ap (λ (s : Seated T). (view_bytes (k + 1) got s.0, s.1)) kept ∙ λ i. (record before.0 { stage = stage i; touched = touch_more before.0.touched k i }, before.1)

  -- one more word is loaded
  pub load_more : (size first k word : ℕ) (bytes : List ℕ) (seat before after : Seated T) → length bytes ≡ size → 8 * k < size → seat ≡ seated_stage (data_words k) (Reading first (take (8 * k) bytes)) before
      → after ≡ (view_bytes (k + 1) (bytes_of_word (bytes_at size (k + 1)) word) seat.0, seat.1) → after ≡ seated_stage (data_words (k + 1)) (Reading first (take (8 * (k + 1)) (with_word k word bytes))) before
  load_more size first k word bytes seat before after long inside kept step =
      let got : List ℕ = bytes_of_word (bytes_at size (k + 1)) word in let loaded : List ℕ = take (8 * k) bytes in
      let count : bytes_at size (k + 1) ≡ min 8 (length bytes - 8 * k) = bytes_at-next size k ∙ ap (λ n. min 8 (n - 8 * k)) (sym long) in
      let more : loaded ++ got ≡ take (8 * (k + 1)) (with_word k word bytes) = ap (λ n. loaded ++ bytes_of_word n word) count ∙ sym (with_word-front k word bytes (omega arith)) in
      let stage : stage_bytes got (Reading first loaded) ≡ Reading first (take (8 * (k + 1)) (with_word k word bytes)) = stage_bytes-Reading got first loaded ∙ ap (Reading first) more in
      step ∙ ap (λ (s : Seated T). (view_bytes (k + 1) got s.0, s.1)) kept ∙ λ i. (record before.0 { stage = stage i; touched = touch_more before.0.touched k i }, before.1)

module _ {T : Type 0} (IsEncoding : T → List ℕ → Type 0) where
  least_version : (known long version : ℕ) → known ≤ long → long ≡ version / 2 + 1 → 2 * (known - 1) ≤ version
  least_version known long version within up_to = omega arith

  pub view-Loads : (cell cell' : TableId) (view view' : SeatView T) (version : ℕ) → cell' ≡ cell → ViewLoads IsEncoding view view' version → Loads (reader_of cell view) (reader_of cell' view') version
  view-Loads cell cell' view view' version same loads = record {
    cell = same;
    seen = loads.seen;
    later = loads.later;
    least = least_version (length view.known) (length view'.known) version (Begins-length view.known view'.known loads.known) loads.up_to;
    known = loads.known;
    up_to = loads.up_to;
  }

  -- two loads of the version, with nothing between that a seat's model shows
  pub two_loads : (cell cell' : TableId) (view between view' : SeatView T) (first last : ℕ) → cell' ≡ cell → ViewLoads IsEncoding view between first → ViewLoads IsEncoding between view' last
      → LoadsTwice (reader_of cell view) (reader_of cell' view') first last
  two_loads cell cell' view between view' first last same one two = record {
    between = reader_of cell between;
    first_load = view-Loads cell cell view between first refl one;
    last_load = view-Loads cell cell' between view' last same two;
    order = All-last view.seen first last (subst (λ list. All (λ earlier. earlier ≤ last) list) one.seen two.later);
  }

  version_of-even : (n long : ℕ) → long ≡ n / 2 + 1 → n % 2 ≡ 0 → 2 * (long - 1) ≡ n
  version_of-even n long up_to even = omega arith

  -- a whole write: the version, its exchange, the bytes, and the next even version
  pub whole_write : (size n : ℕ) (value : T) (bytes : List ℕ) (cell cell' : TableId) (view loaded : SeatView T) (claimed stored ended : Seated T) → IsEven n → n < last_version
      → ViewLoads IsEncoding view loaded n → ViewClaims loaded claimed.0 n → stored ≡ seated_stage (data_words (word_count size)) (Writing bytes) claimed → ended ≡ (view_end value stored.0, stored.1)
      → Writes (writer_of cell view) (writer_of cell' ended.0) value × AreOwn (writer_of cell' ended.0) × (ended.0.touched ≡ view.touched ++ 0 ∷ all_words size)
  whole_write size n value bytes cell cell' view loaded claimed stored ended even below load claim store end = let words = data_words (word_count size) in
      let after : SeatView T → SeatView T = λ v. view_end value (view_stage words (Writing bytes) v) in
      let is : ended.0 ≡ after (view_stage (0 ∷ []) (Writing []) (record loaded { known = claim.history })) = ap (λ (s : Seated T). s.0) end ∙ ap (λ (s : Seated T). view_end value s.0) store ∙ ap after claim.begun in
      let begins : Begins view.known claim.history = Begins-trans view.known loaded.known claim.history load.known claim.known in
      let next : ℕ = length claim.history in let version : version_of claim.history ≡ n = version_of-even n next claim.up_to even in
      let places : ended.0.places ≡ view.places ++ next ∷ [] = ap (λ (v : SeatView T). v.places) is ∙ ap (λ places. places ++ next ∷ []) load.places in
      let known : ended.0.known ≡ claim.history ++ value ∷ [] = ap (λ (v : SeatView T). v.known) is in
      let count : length ended.0.known ≡ suc next = ap length known ∙ length-push claim.history value in
      let earlier_places : All (λ place. place < next) view.places = λ k d inside. let less = (load.inside k d inside).1 in let longer = Begins-length loaded.known claim.history claim.known in omega (arith, less, longer) in
      let own : AreOwn (writer_of cell' ended.0) = subst (λ places. IsRising places × All (λ place. (0 < place) × (place < length ended.0.known)) places) (sym places) (
        IsRising-push view.places next load.rising earlier_places,
        All-push (λ place. (0 < place) × (place < length ended.0.known)) view.places next
            (λ k d inside. let less = earlier_places k d inside in ((load.inside k d inside).0, omega (arith, less, count))) (let up_to = claim.up_to in (omega arith, omega (arith, count))),
      ) in (
        record {
          earlier = claim.history;
          begins = begins;
          known = known;
          places = places;
          seen = ap (λ (v : SeatView T). v.seen) is ∙ load.seen ∙ ap (λ version. view.seen ++ version ∷ []) (sym version);
          later = subst (λ version. All (λ earlier. earlier ≤ version) view.seen) (sym version) load.later;
          not_used_up = subst (λ version. version < last_version) (sym version) below;
        },
        own,
        ap (λ (v : SeatView T). v.touched) is ∙ ap (λ touched. ((touched ++ 0 ∷ []) ++ words) ++ 0 ∷ []) load.touched ∙ touch_all (view.touched ++ 0 ∷ []) words ∙ append_assoc view.touched (0 ∷ []) (all_words size),
      )

  -- a version load shows the places of a seat
  pub loaded-AreOwn : (cell : TableId) (view after : SeatView T) (version : ℕ) → ViewLoads IsEncoding view after version → AreOwn (writer_of cell after)
  loaded-AreOwn cell view after version load = subst (λ places. IsRising places × All (λ place. (0 < place) × (place < length after.known)) places) (sym load.places) (load.rising, load.inside)

  -- and that a seat which has the whole right to write has each place but the first
  pub loaded-HoldsEach : (view after : SeatView T) (version : ℕ) → ViewLoads IsEncoding view after version → IsWhole after.share → HoldsEach (length after.known) after.places
  loaded-HoldsEach view after version load whole = subst (HoldsEach (length after.known)) (sym load.places) (load.whole (subst IsWhole load.share whole))

  -- a whole read: the version, the bytes, and the version again
  pub record Read (size : ℕ) (view after : SeatView T) (first last : ℕ) (bytes : List ℕ) : Type 0 where
    pub seat : (cell cell' : TableId) → cell' ≡ cell → LoadsTwice (reader_of cell view) (reader_of cell' after) first last
    pub whole : first ≡ last → IsEven first → (value : T) × IsEncoding value bytes × (history_value after.known first ≡ Some value)
    pub places : after.places ≡ view.places
    pub touched : after.touched ≡ view.touched ++ all_words size

  pub whole_read : (size : ℕ) → ((value : T) (bytes : List ℕ) → IsEncoding value bytes → length bytes ≡ size)
      → (view opened loaded after : SeatView T) (first last : ℕ) (bytes : List ℕ) → length bytes ≡ size
      → ViewLoads IsEncoding view opened first → loaded ≡ view_stage (data_words (word_count size)) (Reading first bytes) opened → ViewLoads IsEncoding loaded after last
      → Read size view after first last bytes
  whole_read size sized view opened loaded after first last bytes long one between other = let words = data_words (word_count size) in
      let two : ViewLoads IsEncoding (view_stage words (Reading first bytes) opened) after last = subst (λ (v : SeatView T). ViewLoads IsEncoding v after last) between other in record {
        seat = λ cell cell' same. let load = view-Loads cell cell view opened first refl one in record {
          between = reader_of cell (view_stage words (Reading first bytes) opened);
          first_load = record { cell = load.cell; seen = load.seen; later = load.later; least = load.least; known = load.known; up_to = load.up_to };
          last_load = view-Loads cell cell' (view_stage words (Reading first bytes) opened) after last same two;
          order = All-last view.seen first last (subst (λ list. All (λ earlier. earlier ≤ last) list) one.seen two.later);
        };
        whole = λ same even. let front = two.front (sym same) even in (
          front.0,
          subst (IsEncoding front.0) (sym (front.4 ∙ ap (λ n. take n front.1) (long ∙ sym (sized front.0 front.1 front.2)) ∙ take-length front.1)) front.2,
          subst (λ n. history_value after.known n ≡ Some front.0) (sym same) front.3,
        );
        places = two.places ∙ one.places;
        touched = two.touched ∙ ap (λ before. (before ++ words) ++ 0 ∷ []) one.touched ∙ touch_all view.touched words;
      }
