-- The ownership and sharing of an item that may have been moved out.
use Rattle.std.specs.Prelude.{ℕ, List, Option, Some, None}
use base.Fml.{Lft, Fml, ftrue}
use mir.Syntax.{Ty}
use mir.Val.{Val}
use denote.Memory.{part_of, raw_all}
use denote.Sharing.{one}

-- the ownership of an item; nothing once the item is moved out
abbrev pub owns_item : {T : Type 0} → (T → Fml) → Option T → Fml
owns_item owns (Some item) = owns item
owns_item owns None = ftrue

-- a `&` to an item, and to the bytes that it left once it is moved out
abbrev pub shares_item : {T : Type 0} → (T → Lft → Fml) → (Lft → Fml) → Option T → Lft → Fml
shares_item shares bytes (Some item) = shares item
shares_item shares bytes None = bytes

-- a `&` to the bytes of these types that an item left
abbrev pub shares_bytes : {T : Type 0} → List Ty → (T → List Val → Fml) → ℕ → ℕ → Lft → Fml
shares_bytes types owns b o =
    one (λ q. part_of (raw_all types) (λ held vs. owns_item (λ x. owns x vs) held) q None b o)
