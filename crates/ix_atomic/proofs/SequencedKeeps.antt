-- Each step of a sequenced cell keeps its rule.
use Rattle.std.proofs.Common.{◌≡◌, ◌≢◌, ◌⊎◌, ℕ, zero, suc, ◌+◌, ◌-◌, ◌*◌, ◌/◌, ◌%◌, ◌<◌, ◌≤◌, eqb, min, List, [], ◌∷◌, ◌++◌, length, take, drop, get_or, set, refl, sym, ap, ◌∙◌, subst, inl, inr, ⊎_elim, arith, le_refl, le_trans, append-nil, length-append, All, Some}
use mathlib.Core.Option.{none, some, some-injective, some-ne-none}
use mathlib.Core.Logic.{dite}
use native.Mathlib.Decide.{dec_le, ℕ_discrete}
use lib.ListN.{get_elem?}
use lib.Seq.{set-get_or}
use prog.Atomic.{either}
use Rattle.std.specs.List.{Contains}
use Rattle.atomic_table.specs.Table.{State, step, keeps, stepped, Valid, Allows, Splits, Joins, carried_after, opening, Seen, Final}
use Rattle.atomic_table.proofs.Lists.{at_set, at_snoc, at_longer, set_else, exchanged}
use Rattle.std.proofs.lemmas.List.{length-take-le, take-append-drop}
use Rattle.std.proofs.lemmas.List.Elements.{All-push, All-append, Contains-append_left, Contains-push, Contains-push_cases, Contains-get_or}
use Rattle.ix_atomic.specs.declared.sequenced.rule.SeatView.{SeatView}
use Rattle.ix_atomic.specs.declared.sequenced.rule.Stage.{Stage}
use Rattle.ix_atomic.specs.declared.sequenced.rule.Stage.TheVariants.{Idle, Reading, Writing}
use Rattle.ix_atomic.specs.History.{Begins, IsEven, IsOdd, last_value}
use Rattle.ix_atomic.specs.Words.{word_of, bytes_of_word}
use Rattle.ix_atomic.specs.inner.DataWords.{words_of}
use Rattle.ix_atomic.specs.Shares.{IsWhole, halved}
use Rattle.ix_atomic.specs.Writers.{IsRising, AreApart, HoldsEach}
use Rattle.ix_atomic.specs.inner.SequencedRule.{Content, history, cell_bytes, parity, Holds, Knows, ApartSeats, HaveOwners, AreDealt, SequencedRule}
use Rattle.ix_atomic.specs.inner.SequencedSteps.{Seated, stage_bytes, bytes_at, view_new, view_bytes, view_end, view_further, view_split, view_merged, view_spent, view_stage, WordStep, EndStep, ViewLoads, LoadVersionStep, ClaimStep, IsFrontOf}
use Rattle.ix_atomic.proofs.Beginnings.{Begins-refl, Begins-append, length-push, slice_get-push, front-whole, set-tail, get_or-tail, AreBelow, AreBelow-take, All-weaken}
use Rattle.ix_atomic.proofs.DataWords.{chunk_at, length-chunk_at, chunk_at-more, load-more, stored-chunk, grown-below, words_of-set}
use Rattle.ix_atomic.proofs.StageBytes.{parity-stage_bytes, stage_bytes-Reading, stage_bytes-Writing, bytes_at-next}
use Rattle.ix_atomic.proofs.OwnPlaces.{no_place, IsRising-nil, IsRising-push, merge-cases, merge-rises}
use Rattle.ix_atomic.proofs.Owners.{at_itself, one_view, ApartSeats-set, HaveOwners-set, ApartSeats-push, HaveOwners-push, ApartSeats-merge, HaveOwners-merge}
use Rattle.ix_atomic.proofs.Shares.{AreDealt-set, AreDealt-push, AreDealt-halved, AreDealt-merge, whole-alone, halved-some, some-append, some-append_right}

abbrev stored_by : Stage → List ℕ
stored_by (Writing stored) = stored
stored_by stage = []

-- the last value of a history that the seat's list begins, and its encoding, which the words have
pub record Finished {T : Type 0} (IsEncoding : T → List ℕ → Type 0) (view : SeatView T) (words : List ℕ) : Type 0 where
  pub history : List T
  pub begins : Begins view.known history
  pub whole : IsWhole view.share → HoldsEach (length history) view.places
  pub value : T
  pub bytes : List ℕ
  pub has : words ≡ words_of bytes
  pub is_last : last_value history ≡ Some value
  pub encoding : IsEncoding value bytes
  pub byte_range : AreBelow 256 bytes

module _ {T : Type 0} (IsEncoding : T → List ℕ → Type 0) where
  abbrev Table : Type 0
  Table = State (Unit {0}) (SeatView T)

  abbrev Rule : Table → Type 0
  Rule = SequencedRule IsEncoding

  abbrev version : Table → ℕ
  version table = get_or table.words 0 0

  -- the table with other words, and another view of one seat
  abbrev changed : Table → List ℕ → ℕ → SeatView T → Table
  changed table words seat view = record { words = words; homes = table.homes; views = set table.views seat view }

  seats-set : (Is : ℕ → SeatView T → Type 0) (views : List (SeatView T)) (seat : ℕ) (view : SeatView T) → Is seat view
      → ((other : ℕ) (v : SeatView T) → other ≢ seat → get_elem? views other ≡ some v → Is other v)
      → (any : ℕ) (v : SeatView T) → get_elem? (set views seat view) any ≡ some v → Is any v
  seats-set Is views seat view mine others any v at =
      ⊎_elim (λ (t : (any ≡ seat) × (view ≡ v)). subst (λ (x : ℕ × SeatView T). Is x.0 x.1) (λ i. (sym t.0 i, t.1 i)) mine)
      (λ (t : (any ≢ seat) × (get_elem? views any ≡ some v)). others any v t.0 t.1) (at_set views seat any view v at)

  words-tail : (table : Table) (rule : Rule table) → drop 1 table.words ≡ words_of (cell_bytes rule.content)
  words-tail table rule = ap (λ (words : List ℕ). drop 1 words) rule.words

  -- between two writes the bytes are the last value's
  cell_bytes-rest : (content : Content T) → content.front ≡ [] → cell_bytes content ≡ content.bytes
  cell_bytes-rest content rest = ap (λ (front : List ℕ). front ++ drop (length front) content.bytes) rest

  -- a seat that does not write holds the same, whatever it knows
  Holds-idle : (n : ℕ) (content : Content T) (seat : ℕ) (known known' : List T) (stage : Stage) → parity stage ≡ 0 → Holds n content seat known stage → Holds n content seat known' stage
  Holds-idle n content seat known known' Idle idle holds = tt
  Holds-idle n content seat known known' (Reading first loaded) idle holds = holds
  Holds-idle n content seat known known' (Writing stored) idle holds = absurd (omega (arith, idle))

  -- no seat writes between two writes, and only one does during one
  idle-at_rest : (n : ℕ) (content : Content T) (seat : ℕ) (known : List T) (stage : Stage) → IsEven n → Holds n content seat known stage → parity stage ≡ 0
  idle-at_rest n content seat known Idle even holds = refl
  idle-at_rest n content seat known (Reading first loaded) even holds = refl
  idle-at_rest n content seat known (Writing stored) even holds = let odd = holds.1 in absurd (omega arith)

  idle-others : (n : ℕ) (content : Content T) (seat : ℕ) (known : List T) (stage : Stage) → seat ≢ content.writer → Holds n content seat known stage → parity stage ≡ 0
  idle-others n content seat known Idle other holds = refl
  idle-others n content seat known (Reading first loaded) other holds = refl
  idle-others n content seat known (Writing stored) other holds = absurd (other holds.0)

  abbrev WritesAt : List (SeatView T) → ℕ → Type 0
  WritesAt views seat = (view : SeatView T) × (get_elem? views seat ≡ some view) × (parity view.stage ≡ 1)

  -- the seat that writes is still there when another one changes
  WritesAt-set : (views : List (SeatView T)) (writer seat : ℕ) (view view' : SeatView T) → get_elem? views seat ≡ some view → parity view.stage ≡ 0 → WritesAt views writer → WritesAt (set views seat view') writer
  WritesAt-set views writer seat view view' at idle writes = (
    writes.0,
    set_else views seat writer view' (λ same. let is = ap (λ (v : SeatView T). parity v.stage) (one_view views seat view writes.0 at (subst (λ s. get_elem? views s ≡ some writes.0) same writes.1)) in
        let one = writes.2 in omega arith) ∙ writes.1,
    writes.2,
  )

  -- other views of the same words keep the rule
  views-keep : (table : Table) (rule : Rule table) (views : List (SeatView T)) → ((seat : ℕ) (view : SeatView T) → get_elem? views seat ≡ some view → Knows (version table) rule.content seat view)
      → (IsOdd (version table) → WritesAt views rule.content.writer) → ApartSeats views → HaveOwners (length (history rule.content)) views → AreDealt views
      → Rule (record { words = table.words; homes = table.homes; views = views })
  views-keep table rule views seats writing apart owners dealt = record {
    content = rule.content;
    words = rule.words;
    version = rule.version;
    last = rule.last;
    between_writes = rule.between_writes;
    during_a_write = rule.during_a_write;
    writing = writing;
    byte_range = rule.byte_range;
    seats = seats;
    apart = apart;
    owners = owners;
    dealt = dealt;
  }

  -- a seat that has the whole right to write has each place but the first
  holds_each : (table : Table) (rule : Rule table) (seat : ℕ) (view : SeatView T) → get_elem? table.views seat ≡ some view → IsWhole view.share → HoldsEach (length (history rule.content)) view.places
  holds_each table rule seat view at whole place above below = let owner = rule.owners place above below in dite (ℕ_discrete owner.0 seat)
      (λ same. subst (λ (v : SeatView T). Contains v.places place) (one_view table.views seat owner.1 view (subst (λ s. get_elem? table.views s ≡ some owner.1) same owner.2) at) owner.3)
      (λ differs. absurd (whole-alone table.views seat owner.0 view owner.1 rule.dealt whole at owner.2 differs ((rule.seats owner.0 owner.1 owner.2).wrote place owner.3)))

  -- a load by a seat that does not write keeps the rule
  load-keeps : (table : Table) (rule : Rule table) (word seat : ℕ) (held : List (ℕ × Unit {0})) (view view' : SeatView T) → get_elem? table.views seat ≡ some view → parity view.stage ≡ 0 → view'.places ≡ view.places → view'.share ≡ view.share
      → Knows (version table) rule.content seat view' → Rule (stepped table word (get_or table.words word 0) seat held view' keeps)
  load-keeps table rule word seat held view view' at idle same share knows = subst (λ (words : List ℕ). Rule (changed table words seat view')) (sym (set-get_or table.words word 0))
      (views-keep table rule (set table.views seat view') (seats-set (Knows (version table) rule.content) table.views seat view' knows (λ other v _. rule.seats other v))
      (λ odd. WritesAt-set table.views rule.content.writer seat view view' at idle (rule.writing odd))
      (ApartSeats-set table.views seat view view' at rule.apart (λ place has. inl (subst (λ places. Contains places place) same has)))
      (HaveOwners-set (length (history rule.content)) table.views seat view view' at rule.owners (λ place has. subst (λ places. Contains places place) (sym same) has))
      (AreDealt-set table.views seat view view' at share rule.dealt))

  front_of_last : (table : Table) (rule : Rule table) (seat : ℕ) (known : List T) (stage : Stage) → Holds (version table) rule.content seat known stage → IsFrontOf IsEncoding (history rule.content) (version table) stage
  front_of_last table rule seat known Idle holds = tt
  front_of_last table rule seat known (Writing stored) holds = tt
  front_of_last table rule seat known (Reading first loaded) holds = let content = rule.content in
      let count : length (content.earlier ++ content.last ∷ []) ≡ version table / 2 + 1 = rule.version in
      let push = length-push content.earlier content.last in
      λ same even. (content.last, content.bytes, rule.last, slice_get-push content.earlier content.last (version table / 2) (omega arith), holds.1 (sym same) even)

  -- the seat after a load of the version
  abbrev view_loaded : List T → ℕ → SeatView T → SeatView T
  view_loaded known n view = record view { known = known; seen = view.seen ++ n ∷ []; stage = Reading n []; touched = view.touched ++ 0 ∷ [] }

  load-step : (table : Table) (rule : Rule table) (id : ℕ) (seat : Seated T) → get_elem? table.views id ≡ some seat.0 → parity seat.0.stage ≡ 0
      → Rule (stepped table 0 (version table) id seat.1 (view_loaded (history rule.content) (version table) seat.0) keeps) × ViewLoads IsEncoding seat.0 (view_loaded (history rule.content) (version table) seat.0) (version table)
  load-step table rule id seat at idle = let knows = rule.seats id seat.0 at in let n : ℕ = version table in
      let after : SeatView T = view_loaded (history rule.content) n seat.0 in (
        load-keeps table rule 0 id seat.1 seat.0 after at idle refl refl record {
          known = Begins-refl (history rule.content);
          joined = knows.joined;
          seen = All-push (λ earlier. earlier ≤ n) seat.0.seen n knows.seen (le_refl n);
          rising = knows.rising;
          places = knows.places;
          wrote = knows.wrote;
          writes = λ is. absurd (omega (arith, is));
          stage = (le_refl n, λ _ _. refl);
        },
        record {
          seen = refl;
          later = knows.seen;
          known = knows.known;
          joined = knows.joined;
          up_to = rule.version;
          places = refl;
          rising = knows.rising;
          inside = λ k d inside. knows.places (get_or seat.0.places k d) (Contains-get_or seat.0.places k d inside);
          share = refl;
          whole = holds_each table rule id seat.0 at;
          stage = refl;
          touched = refl;
          front = front_of_last table rule id seat.0.known seat.0.stage knows.stage;
        },
      )

  pub load_version : (slots id : ℕ) (seat : Seated T) → parity seat.0.stage ≡ 0
      → Allows Rule slots id seat 0 (λ word. word) (LoadVersionStep IsEncoding (step slots 0 0 0 none) seat)
  load_version slots id seat idle table rule _ at _ = let t = load-step table rule id seat at idle in
      (view_loaded (history rule.content) (version table) seat.0, keeps, tt, t.0, (t.1, refl))

  pub load_word : (size : ℕ) → ((value : T) (bytes : List ℕ) → IsEncoding value bytes → length bytes ≡ size)
      → (slots id : ℕ) (seat : Seated T) (first k : ℕ) (loaded : List ℕ) → seat.0.stage ≡ Reading first loaded → length loaded ≡ 8 * k → 8 * k < size
      → Allows Rule slots id seat (k + 1) (λ word. word) (WordStep size (step slots (k + 1) 0 0 none) seat)
  load_word size sized slots id seat first k loaded is count inside table rule _ at _ = let knows = rule.seats id seat.0 at in let content = rule.content in
      let n : ℕ = get_or table.words (k + 1) 0 in
      let got : List ℕ = bytes_of_word (bytes_at size (k + 1)) n in let part : List ℕ = bytes_of_word (min 8 (size - 8 * k)) n in
      let same_part : part ≡ got = ap (λ z. bytes_of_word z n) (sym (bytes_at-next size k)) in
      let holds = subst (Holds (version table) content id seat.0.known) is knows.stage in
      let longer : first ≡ version table → IsEven first → loaded ++ part ≡ take (length (loaded ++ part)) content.bytes = λ same even.
      let rest = cell_bytes-rest content (rule.between_writes (ap (λ z. z % 2) (sym same) ∙ even)) in
      let word : n ≡ get_or (words_of content.bytes) k 0 = get_or-tail table.words k ∙ ap (λ words. get_or words k 0) (words-tail table rule) ∙ ap (λ bytes. get_or (words_of bytes) k 0) rest in
      load-more size k n content.bytes loaded (subst (AreBelow 256) rest rule.byte_range) (sized content.last content.bytes rule.last) inside count (holds.1 same even) word in
      let next : Holds (version table) content id seat.0.known (Reading first (loaded ++ got)) = subst (λ bytes. Holds (version table) content id seat.0.known (Reading first (loaded ++ bytes))) same_part (holds.0, longer) in
      let after : SeatView T = view_bytes (k + 1) got seat.0 in (
        after,
        keeps,
        tt,
        load-keeps table rule (k + 1) id seat.1 seat.0 after at (ap parity is) refl refl record {
          known = knows.known;
          joined = knows.joined;
          seen = knows.seen;
          rising = knows.rising;
          places = knows.places;
          wrote = knows.wrote;
          writes = λ writing. knows.writes (sym (parity-stage_bytes got seat.0.stage) ∙ writing);
          stage = subst (λ stage. Holds (version table) content id seat.0.known (stage_bytes got stage)) (sym is) (subst (Holds (version table) content id seat.0.known) (sym (stage_bytes-Reading got first loaded)) next);
        },
        refl,
      )

  -- what a seat that does not write has loaded stays right at a step of another one
  Holds-others : (m n : ℕ) (content content' : Content T) (seat : ℕ) (known : List T) → m ≤ n → ((first : ℕ) → first ≤ m → first ≡ n → IsEven first → ⊥)
      → (stage : Stage) → parity stage ≡ 0 → Holds m content seat known stage → Holds n content' seat known stage
  Holds-others m n content content' seat known up passed Idle idle holds = tt
  Holds-others m n content content' seat known up passed (Reading first loaded) idle holds = (le_trans holds.0 up, λ same even. absurd (passed first holds.0 same even))
  Holds-others m n content content' seat known up passed (Writing stored) idle holds = absurd (omega (arith, idle))

  -- what a writer's step does not change: it keeps its places, or gets the one past the history
  pub record NewPlaces (rule_history : List T) (view view' : SeatView T) (more : List T) : Type 0 where
    pub new : (place : ℕ) → Contains view'.places place → Contains view.places place ⊎ (place ≡ length rule_history)
    pub kept : (place : ℕ) → Contains view.places place → Contains view'.places place
    pub all : (place : ℕ) → length rule_history ≤ place → place < length (rule_history ++ more) → Contains view'.places place
    pub rising : IsRising view'.places
    pub inside : (place : ℕ) → Contains view'.places place → (0 < place) × (place < length (rule_history ++ more))

  -- a step that stores keeps the rule, if no other seat writes
  store-keeps : (table : Table) (rule : Rule table) (seat : ℕ) (view view' : SeatView T) (n : ℕ) (content : Content T) (more : List T) → get_elem? table.views seat ≡ some view
      → ((other : ℕ) (v : SeatView T) → other ≢ seat → get_elem? table.views other ≡ some v → parity v.stage ≡ 0)
      → version table ≤ n → ((first : ℕ) → first ≤ version table → first ≡ n → IsEven first → ⊥)
      → view'.seen ≡ view.seen → view'.joined ≡ view.joined → view'.share ≡ view.share → 0 < length view.share → view'.known ≡ history content → history content ≡ history rule.content ++ more → content.writer ≡ seat
      → (IsOdd n → parity view'.stage ≡ 1) → Holds n content seat view'.known view'.stage → NewPlaces (history rule.content) view view' more → length (history content) ≡ n / 2 + 1 → IsEncoding content.last content.bytes
      → (IsEven n → content.front ≡ []) → (IsOdd n → (value : T) × (bytes : List ℕ) × IsEncoding value bytes × Begins content.front bytes)
      → AreBelow 256 (cell_bytes content)
      → Rule (changed table (n ∷ words_of (cell_bytes content)) seat view')
  store-keeps table rule seat view view' n content more at others_idle up passed seen joined share some_share known longer writer writing holds own count last between during byte_range =
      let old : List T = history rule.content in let knows = rule.seats seat view at in
      let grown : length (history content) ≡ length (old ++ more) = ap length longer in let long = length-append old more in record {
        content = content;
        words = refl;
        version = count;
        last = last;
        between_writes = between;
        during_a_write = during;
        writing = λ odd. (view', subst (λ s. get_elem? (set table.views seat view') s ≡ some view') (sym writer) (at_itself table.views seat view view' at), writing odd);
        byte_range = byte_range;
        seats = seats-set (Knows n content) table.views seat view'
            record {
              known = subst (λ list. Begins list (history content)) (sym known) (Begins-refl (history content));
              joined = subst (Begins view'.joined) (sym longer) (Begins-append view'.joined old more (subst (λ list. Begins list old) (sym joined) knows.joined));
              seen = subst (λ list. All (λ earlier. earlier ≤ n) list) (sym seen) (All-weaken (version table) n view.seen up knows.seen);
              rising = own.rising;
              places = λ place has. let t = own.inside place has in (t.0, subst (λ count. place < count) (sym grown) t.1);
              wrote = λ _ _. subst (λ parts. 0 < length parts) (sym share) some_share;
              writes = λ _. subst (λ parts. 0 < length parts) (sym share) some_share;
              stage = holds;
            }
            (λ other v differs here. let theirs = rule.seats other v here in record {
              known = subst (Begins v.known) (sym longer) (Begins-append v.known old more theirs.known);
              joined = subst (Begins v.joined) (sym longer) (Begins-append v.joined old more theirs.joined);
              seen = All-weaken (version table) n v.seen up theirs.seen;
              rising = theirs.rising;
              places = λ place has. let t = theirs.places place has in (t.0, let inside = t.1 in omega arith);
              wrote = theirs.wrote;
              writes = theirs.writes;
              stage = Holds-others (version table) n rule.content content other v.known up passed v.stage (others_idle other v differs here) theirs.stage;
            });
        apart = ApartSeats-set table.views seat view view' at rule.apart (λ place has. ⊎_elim (λ (t : Contains view.places place). inl t)
            (λ (past : place ≡ length old). inr (λ other v _ there has'. let inside = ((rule.seats other v there).places place has').1 in omega arith)) (own.new place has));
        owners = λ place above below. dite (dec_le (length old) place)
            (λ past. (seat, view', at_itself table.views seat view view' at, own.all place past (omega arith)))
            (λ inside. HaveOwners-set (length old) table.views seat view view' at rule.owners own.kept place above (omega arith));
        dealt = AreDealt-set table.views seat view view' at share rule.dealt;
      }

  same_places : (rule_history : List T) (view view' : SeatView T) → view'.places ≡ view.places → IsRising view.places → ((place : ℕ) → Contains view.places place → (0 < place) × (place < length rule_history)) → NewPlaces rule_history view view' []
  same_places rule_history view view' same rising inside = let nil : length (rule_history ++ []) ≡ length rule_history = ap length (append-nil rule_history) in record {
    new = λ place has. inl (subst (λ places. Contains places place) same has);
    kept = λ place has. subst (λ places. Contains places place) (sym same) has;
    all = λ place past below. absurd (omega arith);
    rising = subst IsRising (sym same) rising;
    inside = λ place has. let t = inside place (subst (λ places. Contains places place) same has) in (t.0, let below = t.1 in omega arith);
  }

  next_place : (rule_history : List T) (view : SeatView T) (value : T) → view.known ≡ rule_history → 0 < length rule_history → IsRising view.places → ((place : ℕ) → Contains view.places place → (0 < place) × (place < length rule_history))
      → NewPlaces rule_history view (view_end value view) (value ∷ [])
  next_place rule_history view value all some_value rising inside = let next : ℕ = length view.known in let count : next ≡ length rule_history = ap length all in
      let push = length-push rule_history value in record {
        new = λ place has. ⊎_elim (λ (t : Contains view.places place). inl t) (λ (same : next ≡ place). inr (sym same ∙ count)) (Contains-push_cases view.places next place has);
        kept = λ place has. Contains-append_left view.places (next ∷ []) place has;
        all = λ place past below. let same : next ≡ place = omega arith in subst (Contains (view.places ++ next ∷ [])) same (Contains-push view.places next);
        rising = IsRising-push view.places next rising (λ k d within. let t = (inside (get_or view.places k d) (Contains-get_or view.places k d within)).1 in omega arith);
        inside = λ place has. ⊎_elim (λ (t : Contains view.places place). let within = inside place t in (within.0, let below = within.1 in omega arith))
            (λ (same : next ≡ place). (omega arith, omega arith)) (Contains-push_cases view.places next place has);
      }

  -- the compare-and-exchange of an even version
  claim-step : (table : Table) (rule : Rule table) (id : ℕ) (seat : Seated T) (n : ℕ) (value : T) (bytes : List ℕ) → IsEncoding value bytes → get_elem? table.views id ≡ some seat.0 → 0 < length seat.0.share → IsEven (version table) → n ≡ version table + 1
      → Rule (stepped table 0 n id seat.1 (view_stage (0 ∷ []) (Writing []) (record seat.0 { known = history rule.content })) keeps)
  claim-step table rule id seat n value bytes encodes at some_share even next = let knows = rule.seats id seat.0 at in
      let old = rule.content in let rest = cell_bytes-rest old (rule.between_writes even) in let count = rule.version in
      let content : Content T = record { earlier = old.earlier; last = old.last; bytes = old.bytes; front = []; writer = id } in
      let words : set table.words 0 n ≡ n ∷ words_of (cell_bytes content) = ap (λ (l : List ℕ). set l 0 n) rule.words ∙ ap (λ (l : List ℕ). n ∷ words_of l) rest in
      let after : SeatView T = view_stage (0 ∷ []) (Writing []) (record seat.0 { known = history old }) in
      subst (λ (words : List ℕ). Rule (changed table words id after)) (sym words)
      (store-keeps table rule id seat.0 after n content [] at (λ other v _ there. idle-at_rest (version table) old other v.known v.stage even (rule.seats other v there).stage)
      (omega arith) (λ first low same is_even. omega arith) refl refl refl some_share refl (sym (append-nil (history old))) refl (λ _. refl) (refl, omega arith, refl, refl)
      (same_places (history old) seat.0 after refl knows.rising knows.places) (omega arith) rule.last (λ _. refl) (λ _. (value, bytes, encodes, (bytes, refl))) (subst (AreBelow 256) rest rule.byte_range))

  pub claim : (slots id : ℕ) (seat : Seated T) (loaded next : ℕ) (value : T) (bytes : List ℕ) → IsEncoding value bytes → parity seat.0.stage ≡ 0 → 0 < length seat.0.share → IsEven loaded → next ≡ loaded + 1
      → Allows Rule slots id seat 0 (λ n. either (eqb n loaded) next n) (ClaimStep IsEncoding (step slots 0 loaded next none) seat)
  claim slots id seat loaded next value bytes encodes idle some_share even is_next table rule _ at _ = let n : ℕ = version table in let knows = rule.seats id seat.0 at in
      let begun : SeatView T = view_stage (0 ∷ []) (Writing []) (record seat.0 { known = history rule.content }) in
      exchanged n loaded next (λ z. (view : SeatView T) × (act : _) × Valid table.homes seat.1 act × Rule (stepped table 0 z id seat.1 view act) × ClaimStep IsEncoding (step slots 0 loaded next none) seat n (view, carried_after seat.1 act))
      (λ hit. (
        begun,
        keeps,
        tt,
        claim-step table rule id seat next value bytes encodes at some_share (ap (λ z. z % 2) hit ∙ even) (is_next ∙ ap (λ z. z + 1) (sym hit)),
        ((λ _. record { history = history rule.content; known = knows.known; up_to = rule.version; begun = refl }), (λ miss. absurd (miss hit)), refl),
      ))
      (λ miss. let t = load-step table rule id seat at idle in (view_loaded (history rule.content) n seat.0, keeps, tt, t.0, ((λ hit. absurd (miss hit)), (λ _. t.1), refl)))

  -- the seat that writes is the one of the write in progress
  others-idle : (table : Table) (rule : Rule table) (id : ℕ) → id ≡ rule.content.writer → (other : ℕ) (v : SeatView T) → other ≢ id → get_elem? table.views other ≡ some v → parity v.stage ≡ 0
  others-idle table rule id mine other v differs there = idle-others (version table) rule.content other v.known v.stage (λ same. differs (same ∙ sym mine)) (rule.seats other v there).stage

  pub store : (size : ℕ) → ((value : T) (bytes : List ℕ) → IsEncoding value bytes → length bytes ≡ size)
      → (slots id : ℕ) (seat : Seated T) (k word : ℕ) (value : T) (bytes : List ℕ) → IsEncoding value bytes → AreBelow 256 bytes → seat.0.stage ≡ Writing (take (8 * k) bytes)
      → 8 * k < size → word ≡ word_of (chunk_at k bytes)
      → Allows Rule slots id seat (k + 1) (λ _. word) (λ _. WordStep size (step slots (k + 1) word 0 none) seat word)
  store size sized slots id seat k word value bytes encodes below is inside packed table rule _ at _ = let knows = rule.seats id seat.0 at in
      let n : ℕ = version table in let old = rule.content in
      let stored : List ℕ = take (8 * k) bytes in let chunk : List ℕ = chunk_at k bytes in
      let mine = subst (Holds n old id seat.0.known) is knows.stage in let odd = mine.1 in let same : stored ≡ old.front = mine.2 in let all = mine.3 in
      let long : length bytes ≡ size = sized value bytes encodes in let old_long : length old.bytes ≡ size = sized old.last old.bytes rule.last in
      let ends : length old.front ≡ 8 * k = ap length (sym same) ∙ length-take-le (8 * k) bytes (omega arith) in
      let chunk_len : length chunk ≡ min 8 (length old.bytes - 8 * k) = length-chunk_at k bytes ∙ ap (λ z. min 8 (z - 8 * k)) (long ∙ sym old_long) in
      let content : Content T = record { earlier = old.earlier; last = old.last; bytes = old.bytes; front = old.front ++ chunk; writer = id } in
      let tail : set (words_of (cell_bytes old)) k word ≡ words_of (cell_bytes content) = ap (set (words_of (cell_bytes old)) k) packed ∙ words_of-set k old.front chunk old.bytes ends (omega arith) chunk_len in
      let words : set table.words (k + 1) word ≡ n ∷ words_of (cell_bytes content) = set-tail n (words_of (cell_bytes old)) table.words k word rule.words ∙ ap (λ (l : List ℕ). n ∷ l) tail in
      let got : List ℕ = bytes_of_word (bytes_at size (k + 1)) word in
      let unpacks : got ≡ chunk = stored-chunk size k word bytes below long packed in
      let front : old.front ++ chunk ≡ take (8 * (k + 1)) bytes = ap (λ (l : List ℕ). l ++ chunk) (sym same) ∙ chunk_at-more k bytes in
      let begins : Begins (old.front ++ chunk) bytes = (drop (8 * (k + 1)) bytes, sym (ap (λ (l : List ℕ). l ++ drop (8 * (k + 1)) bytes) front ∙ take-append-drop (8 * (k + 1)) bytes)) in
      let stage : stage_bytes got seat.0.stage ≡ Writing (old.front ++ chunk) = ap (stage_bytes got) is ∙ stage_bytes-Writing got stored ∙ ap Writing (λ i. same i ++ unpacks i) in
      let after : SeatView T = view_bytes (k + 1) got seat.0 in (
        after,
        keeps,
        tt,
        subst (λ (words : List ℕ). Rule (changed table words id after)) (sym words)
            (store-keeps table rule id seat.0 after n content [] at (others-idle table rule id mine.0) (le_refl n) (λ first low e is_even. omega arith) refl refl refl (knows.writes (ap parity is)) all (sym (append-nil (history old))) refl
            (λ _. parity-stage_bytes got seat.0.stage ∙ ap parity is) (subst (Holds n content id seat.0.known) (sym stage) (refl, odd, refl, all))
            (same_places (history old) seat.0 after refl knows.rising knows.places) rule.version rule.last (λ even. absurd (omega arith))
            (λ _. (value, bytes, encodes, begins)) (grown-below old.front chunk old.bytes (subst (AreBelow 256) (sym front) (AreBelow-take 256 (8 * (k + 1)) bytes (omega arith) below)) rule.byte_range)),
        refl,
      )

  pub end : (size : ℕ) → ((value : T) (bytes : List ℕ) → IsEncoding value bytes → length bytes ≡ size) → ((v w : T) (bytes : List ℕ) → IsEncoding v bytes → IsEncoding w bytes → v ≡ w)
      → (slots id : ℕ) (seat : Seated T) (n : ℕ) (value : T) (bytes : List ℕ) → IsEncoding value bytes → seat.0.stage ≡ Writing bytes → n ≡ 2 * length seat.0.known
      → Allows Rule slots id seat 0 (λ _. n) (λ _. EndStep IsEncoding (step slots 0 n 0 none) seat n)
  end size sized one_value slots id seat n value bytes encodes is next table rule _ at _ = let knows = rule.seats id seat.0 at in let old = rule.content in
      let mine = subst (Holds (version table) old id seat.0.known) is knows.stage in let odd = mine.1 in let same : bytes ≡ old.front = mine.2 in let all = mine.3 in
      let count : length seat.0.known ≡ version table / 2 + 1 = ap length all ∙ rule.version in
      let long : length old.front ≡ length old.bytes = ap length (sym same) ∙ (sized value bytes encodes ∙ sym (sized old.last old.bytes rule.last)) in
      let content : Content T = record { earlier = seat.0.known; last = value; bytes = bytes; front = []; writer = id } in
      let tail : cell_bytes old ≡ cell_bytes content = front-whole old.front old.bytes long ∙ sym same in
      let words : set table.words 0 n ≡ n ∷ words_of (cell_bytes content) = ap (λ (l : List ℕ). set l 0 n) rule.words ∙ ap (λ (l : List ℕ). n ∷ words_of l) tail in
      let push = length-push seat.0.known value in let after : SeatView T = view_end value seat.0 in (
        after,
        keeps,
        tt,
        subst (λ (words : List ℕ). Rule (changed table words id after)) (sym words)
            (store-keeps table rule id seat.0 after n content (value ∷ []) at (others-idle table rule id mine.0) (omega arith) (λ first low e is_even. omega arith) refl refl refl (knows.writes (ap parity is)) refl (ap (λ (l : List T). l ++ value ∷ []) all) refl
            (λ is_odd. absurd (omega arith)) tt (next_place (history old) seat.0 value all (let some_value = rule.version in omega arith) knows.rising knows.places) (omega arith) encodes (λ _. refl) (λ is_odd. absurd (omega arith)) (subst (AreBelow 256) tail rule.byte_range)),
        λ other bytes' encodes' is'.
            ap (λ (v : T). (view_end v seat.0, seat.1)) (one_value value other bytes encodes (subst (IsEncoding other) (ap stored_by (sym is' ∙ is)) encodes')),
      )

  -- a further seat keeps the rule, if the shares still add up
  further : (id : ℕ) (view : SeatView T) (left right : List ℕ) → parity view.stage ≡ 0 → (0 < length view.share → 0 < length left)
      → ((views : List (SeatView T)) → get_elem? views id ≡ some view → AreDealt views → AreDealt (set views id (view_split left view) ++ view_further right view ∷ []))
      → Splits Rule id view (view_split left view) (view_further right view)
  further id view left right idle some_share deals table rule at = let knows = rule.seats id view at in let Is = Knows (version table) rule.content in
      let kept : SeatView T = view_split left view in let new : SeatView T = view_further right view in let views : List (SeatView T) = set table.views id kept in
      views-keep table rule (views ++ new ∷ []) (λ seat v here. ⊎_elim
      (seats-set Is table.views id kept
      record { known = knows.known; joined = knows.joined; seen = knows.seen; rising = knows.rising; places = knows.places; wrote = λ place has. some_share (knows.wrote place has); writes = λ is. some_share (knows.writes is); stage = knows.stage }
      (λ other u _. rule.seats other u) seat v)
      (λ (t : new ≡ v). subst (Is seat) t
      record { known = knows.known; joined = (history rule.content, refl); seen = λ k default inside. absurd (omega arith); rising = IsRising-nil; places = λ place has. absurd (no_place place has); wrote = λ place has. absurd (no_place place has); writes = λ is. absurd (omega (arith, is)); stage = tt })
      (at_snoc views new v seat here))
      (λ odd. let writes = WritesAt-set table.views rule.content.writer id view kept at idle (rule.writing odd) in (writes.0, at_longer views (new ∷ []) rule.content.writer writes.0 writes.1, writes.2))
      (ApartSeats-push views new (ApartSeats-set table.views id view kept at rule.apart (λ place has. inl has)) no_place)
      (HaveOwners-push (length (history rule.content)) views new (HaveOwners-set (length (history rule.content)) table.views id view kept at rule.owners (λ place has. has)))
      (deals table.views at rule.dealt)

  pub new_reader : (id : ℕ) (view : SeatView T) → parity view.stage ≡ 0 → Splits Rule id view (view_split view.share view) (view_further [] view)
  new_reader id view idle = further id view view.share [] idle (λ some_share. some_share)
      (λ views at dealt. AreDealt-push (set views id (view_split view.share view)) (view_further [] view) refl (AreDealt-set views id view (view_split view.share view) at refl dealt))

  pub new_writer : (id : ℕ) (view : SeatView T) → parity view.stage ≡ 0 → Splits Rule id view (view_split (halved view.share) view) (view_further (halved view.share) view)
  new_writer id view idle = further id view (halved view.share) (halved view.share) idle (halved-some view.share)
      (λ views at dealt. AreDealt-halved views id view (view_split (halved view.share) view) (view_further (halved view.share) view) at refl refl dealt)

  -- a merge of two seats that do not write keeps the rule
  pub merge : (id : ℕ) (view : SeatView T) (other : ℕ) (view' : SeatView T) → parity view.stage ≡ 0 → parity view'.stage ≡ 0 → Joins Rule id view other view' (view_merged view view') view_spent
  merge id view other view' idle idle' table rule at differs there' = let knows = rule.seats id view at in let Is = Knows (version table) rule.content in
      let merged : SeatView T = view_merged view view' in
      let there : get_elem? table.views other ≡ some view' = sym (set_else table.views id other merged differs) ∙ there' in let theirs = rule.seats other view' there in
      let apart : AreApart view.places view'.places = λ place has has'. differs (sym (rule.apart id other view view' place at there has has')) in
      views-keep table rule (set (set table.views id merged) other view_spent)
      (seats-set Is (set table.views id merged) other view_spent
      record { known = (history rule.content, refl); joined = (history rule.content, refl); seen = λ k default inside. absurd (omega arith); rising = IsRising-nil; places = λ place has. absurd (no_place place has); wrote = λ place has. absurd (no_place place has); writes = λ is. absurd (omega (arith, is)); stage = tt }
      (λ seat v _ here. seats-set Is table.views id merged
      record {
        known = knows.known;
        joined = theirs.known;
        seen = All-append (λ earlier. earlier ≤ version table) view.seen view'.seen knows.seen theirs.seen;
        rising = merge-rises view.places view'.places knows.rising theirs.rising apart;
        places = λ place has. ⊎_elim (λ (t : Contains view.places place). knows.places place t) (λ (t : Contains view'.places place). theirs.places place t) (merge-cases view.places view'.places place has);
        wrote = λ place has. ⊎_elim (λ (t : Contains view.places place). some-append view.share view'.share (knows.wrote place t)) (λ (t : Contains view'.places place). some-append_right view.share view'.share (theirs.wrote place t)) (merge-cases view.places view'.places place has);
        writes = λ is. absurd (omega (arith, is, idle));
        stage = knows.stage;
      }
      (λ any u _. rule.seats any u) seat v here))
      (λ odd. WritesAt-set (set table.views id merged) rule.content.writer other view' view_spent there' idle' (WritesAt-set table.views rule.content.writer id view merged at idle (rule.writing odd)))
      (ApartSeats-merge table.views id other view view' at there differs rule.apart) (HaveOwners-merge (length (history rule.content)) table.views id other view view' at there differs rule.owners)
      (AreDealt-merge table.views id other view view' at there' there rule.dealt)

  pub new : (value : T) (bytes : List ℕ) → IsEncoding value bytes → AreBelow 256 bytes → Rule (opening (0 ∷ words_of bytes) [] (view_new value))
  new value bytes encodes below = record {
    content = content;
    words = refl;
    version = refl;
    last = encodes;
    between_writes = λ _. refl;
    during_a_write = λ odd. absurd (omega arith);
    writing = λ odd. absurd (omega arith);
    byte_range = below;
    seats = one;
    apart = λ seat other view view' place at at' has has'. absurd (no_place place (subst (λ (v : SeatView T). Contains v.places place) (sym (only seat view at)) has));
    owners = λ place above below. absurd (omega arith);
    dealt = (0, ((le_refl 0, tt), tt), refl);
  }
    where
      content : Content T
      content = record { earlier = []; last = value; bytes = bytes; front = []; writer = 0 }

      only : (seat : ℕ) (view : SeatView T) → get_elem? (view_new value ∷ []) seat ≡ some view → view_new value ≡ view
      only zero view at = some-injective _ _ at
      only (suc seat) view at = absurd (some-ne-none view (sym at))

      one : (seat : ℕ) (view : SeatView T) → get_elem? (view_new value ∷ []) seat ≡ some view → Knows 0 content seat view
      one seat view at = subst (Knows 0 content seat) (only seat view at)
          record { known = ([], refl); joined = (value ∷ [], refl); seen = λ k default inside. absurd (omega arith); rising = IsRising-nil; places = λ place has. absurd (no_place place has); wrote = λ place has. absurd (no_place place has); writes = λ is. absurd (omega (arith, is)); stage = tt }

  -- beside a closed seat that has the whole right to write no write is in progress, and each place but the first is its own
  pub closed-whole : (id : ℕ) (view : SeatView T) (words : List ℕ) (slots : List (Unit {0})) → Final (Seen Rule id view) words slots → parity view.stage ≡ 0 → IsWhole view.share → IsOdd (get_or words 0 0) → ⊥
  closed-whole id view words slots final idle whole odd = let table = final.0 in let rule = final.1.0 in let at = final.1.1 in
      let writing = rule.writing (ap (λ (l : List ℕ). get_or l 0 0 % 2) final.2 ∙ odd) in let writer = rule.content.writer in dite (ℕ_discrete writer id)
      (λ same. let is = ap (λ (v : SeatView T). parity v.stage) (one_view table.views id view writing.0 at (subst (λ s. get_elem? table.views s ≡ some writing.0) same writing.1)) in
      let one = writing.2 in absurd (omega (arith, idle, is, one)))
      (λ differs. whole-alone table.views id writer view writing.0 rule.dealt whole at writing.1 differs ((rule.seats writer writing.0 writing.1).writes writing.2))

  pub finished : (id : ℕ) (view : SeatView T) (words : List ℕ) (slots : List (Unit {0})) → Final (Seen Rule id view) words slots → IsEven (get_or words 0 0) → Finished IsEncoding view (drop 1 words)
  finished id view words slots final even = let table = final.0 in let rule = final.1.0 in let content = rule.content in
      let knows = rule.seats id view final.1.1 in
      let rest = cell_bytes-rest content (rule.between_writes (ap (λ (l : List ℕ). get_or l 0 0 % 2) final.2 ∙ even)) in
      let push = length-push content.earlier content.last in record {
        history = history content;
        begins = knows.known;
        value = content.last;
        bytes = content.bytes;
        has = ap (λ (l : List ℕ). drop 1 l) (sym final.2) ∙ words-tail table rule ∙ ap words_of rest;
        whole = holds_each table rule id view final.1.1;
        is_last = slice_get-push content.earlier content.last (length (history content) - 1) (omega arith);
        encoding = rule.last;
        byte_range = subst (AreBelow 256) rest rule.byte_range;
      }
