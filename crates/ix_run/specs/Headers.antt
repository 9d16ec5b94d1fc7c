-- Headers: a container, and its storage. Each header has exactly one text.
use Rattle.std.specs.Prelude.{ℕ, ◌≤◌, ◌==◌, List, [], ◌∷◌, ◌++◌, nat_le, if◌then◌else◌, Option, None, Some, option_map, option_and_then, unwrap_or, codes, bytes_eq, find, ⊤}
use Rattle.std.specs.List.{slice_split}
use Rattle.ix_slotmap.specs.Generations.{greatest_generation}
use Rattle.ix_run.specs.Words.{is_space, fits_generation, words_text, numbers_in, Form, make_named}
use Rattle.ix_run.specs.declared.run.grammar.header.FixedCapacity.{FixedCapacity}
use Rattle.ix_run.specs.declared.run.grammar.header.FixedCapacity.TheVariants.{Zero, One, Three, Eight}
use Rattle.ix_run.specs.declared.run.devices.limits.TheConstants.{MAX_CAPACITY}
use Rattle.ix_run.specs.declared.run.grammar.header.Container.{Container}
use Rattle.ix_run.specs.declared.run.grammar.header.Container.TheVariants.{Queue, Vector, SlotTable, SlotMap, FlatMap, String}
use Rattle.ix_run.specs.declared.run.grammar.header.Storage.{Storage}
use Rattle.ix_run.specs.declared.run.grammar.header.Storage.TheVariants.{Fixed, Heap, Arena}
use Rattle.ix_run.specs.declared.run.grammar.header.Header.{Header}

abbrev pub fixed_capacity : FixedCapacity → ℕ
fixed_capacity Zero = 0
fixed_capacity One = 1
fixed_capacity Three = 3
fixed_capacity Eight = 8

-- the capacity that a header asks for
abbrev pub capacity_of : Storage → ℕ
capacity_of (Fixed capacity) = fixed_capacity capacity
capacity_of (Heap n) = n
capacity_of (Arena n) = n

abbrev pub container_name : Container → List ℕ
container_name Queue = codes "queue"
container_name Vector = codes "vec"
container_name SlotTable = codes "table"
container_name (SlotMap start) = codes "slot"
container_name FlatMap = codes "flat"
container_name String = codes "text"

abbrev pub storage_text : Storage → List ℕ
storage_text (Fixed capacity) = words_text (codes "fixed") (fixed_capacity capacity ∷ [])
storage_text (Heap n) = words_text (codes "heap") (n ∷ [])
storage_text (Arena n) = words_text (codes "arena") (n ∷ [])

-- the capacity is at most MAX_CAPACITY
abbrev pub IsStorage : Storage → Type 0
IsStorage (Fixed capacity) = ⊤
IsStorage (Heap n) = n ≤ MAX_CAPACITY
IsStorage (Arena n) = n ≤ MAX_CAPACITY

-- the generation of a slot map's slots at first, if a header says it, is a generation
abbrev pub IsStart : Container → Type 0
IsStart (SlotMap (Some generation)) = generation ≤ greatest_generation
IsStart other = ⊤

-- the generation of a slot map's slots at first
abbrev pub first_generation : Option ℕ → ℕ
first_generation start = unwrap_or start 0

-- a text, and behind it the generation, if one is said
abbrev pub with_start : Container → List ℕ → List ℕ
with_start (SlotMap (Some generation)) text = text ++ (codes " " ++ words_text (codes "at") (generation ∷ []))
with_start other text = text

-- the text of a header
abbrev pub header_text : Header → List ℕ
header_text header = with_start header.container (container_name header.container ++ (codes " " ++ storage_text header.storage))

abbrev pub containers : List Container
containers = Queue ∷ Vector ∷ SlotTable ∷ SlotMap None ∷ FlatMap ∷ String ∷ []

abbrev pub fixed_capacities : List FixedCapacity
fixed_capacities = Zero ∷ One ∷ Three ∷ Eight ∷ []

-- the container with this name
abbrev pub named_container : List ℕ → Option Container
named_container name = find (λ container. bytes_eq name (container_name container)) containers

-- one number, which is a fixed capacity
abbrev pub takes_fixed_capacity : List ℕ → Option Storage
takes_fixed_capacity (n ∷ []) = option_map Fixed (find (λ capacity. fixed_capacity capacity == n) fixed_capacities)
takes_fixed_capacity other = None

-- one number, which is at most MAX_CAPACITY
abbrev pub up_to_max : {C : Type 0} → (ℕ → C) → List ℕ → Option C
up_to_max make (n ∷ []) = if nat_le n MAX_CAPACITY then Some (make n) else None
up_to_max make other = None

abbrev pub storage_forms : List (Form Storage)
storage_forms = (codes "fixed", takes_fixed_capacity) ∷ (codes "heap", up_to_max Heap) ∷ (codes "arena", up_to_max Arena) ∷ []

-- one number, which is the generation of a slot map's slots at first
abbrev pub starting_at : List ℕ → Option Container
starting_at (n ∷ []) = if fits_generation n then Some (SlotMap (Some n)) else None
starting_at other = None

-- the container, by the words after its storage
abbrev pub container_with_start : Container → List (List ℕ) → Option Container
container_with_start container [] = Some container
container_with_start (SlotMap start) (word ∷ words) = if bytes_eq word (codes "at") then option_and_then starting_at (numbers_in words) else None
container_with_start other (word ∷ words) = None

-- a container's name, the name and the number of a storage, and where generations start
abbrev pub header_of_words : List (List ℕ) → Option Header
header_of_words (name ∷ storage ∷ number ∷ words) =
    option_and_then (λ c.
    option_and_then (λ s. option_map (λ c'. record { container = c'; storage = s }) (container_with_start c words)) (make_named storage_forms storage (numbers_in (number ∷ []))))
    (named_container name)
header_of_words other = None

-- the header that a line is
abbrev pub header_of : List ℕ → Option Header
header_of line = header_of_words (slice_split is_space line)
