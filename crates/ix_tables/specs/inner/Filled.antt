-- The view that contracts have of a place that has the bytes of an item at all times.
use Rattle.std.specs.Prelude.{Bool, true, false, Option, Some, None}

-- the item, if the place holds it
abbrev pub shown_item : {T : Type 0} → Bool → T → Option T
shown_item true x = Some x
shown_item false x = None
