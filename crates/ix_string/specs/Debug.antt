-- The text that `{:?}` prints of a string.
use Rattle.std.specs.Prelude.{ℕ, List, [], ◌∷◌, length, codes}
use Rattle.std.specs.Fmt.{decimal}
use Rattle.std.specs.List.{concat}
use Rattle.ix_tables.specs.Bounded.{Bounded}
use Rattle.ix_string.specs.Escape.{escaped_text}

-- as `StaticString<5> { len: 2, data: "ab" }`
abbrev pub static_debug_text : ℕ → List ℕ → List ℕ
static_debug_text capacity text =
    concat (codes "StaticString<" ∷ decimal capacity ∷ codes "> { len: " ∷ decimal (length text)
    ∷ codes ", data: \"" ∷ escaped_text text ∷ codes "\" }" ∷ [])

-- as `RelocatableString { capacity: 5, len: 2, data: "ab" }`, where kind is the name in front
abbrev pub heap_debug_text : List ℕ → Bounded ℕ → List ℕ
heap_debug_text kind string =
    concat (kind ∷ codes " { capacity: " ∷ decimal string.capacity ∷ codes ", len: " ∷ decimal (length string.items)
    ∷ codes ", data: \"" ∷ escaped_text string.items ∷ codes "\" }" ∷ [])
