-- A bounded list: items in order, and a capacity that their number does not pass.
use Rattle.std.specs.Prelude.{◌≡◌, ℕ, ◌-◌, ◌≤◌, nat_lt, Bool, List, [], length, take, slice_get, if◌then◌else◌, Option, refl}
use Rattle.std.specs.List.{push}
use Rattle.std.specs.Coded.{Coded, code_by, coded×, coded_ℕ, coded_list}

pub record Bounded (T : Type 0) : Type 0 where
  pub items : List T
  pub capacity : ℕ

-- a bounded list is stored as the pair of its parts
abbrev pub bounded_code : {T : Type 0} → Coded T → Coded (Bounded T)
bounded_code {T} code =
    code_by (List T × ℕ) (coded× (coded_list code) coded_ℕ) (λ b. (b.items, b.capacity)) (λ p. record { items = p.0; capacity = p.1 }) (λ _. refl)

module _ {T : Type 0} where
  -- there are no more items than the capacity
  abbrev pub IsWithin : Bounded T → Type 0
  IsWithin b = length b.items ≤ b.capacity

  -- there are as many items as the capacity
  abbrev pub IsFull : Bounded T → Type 0
  IsFull b = length b.items ≡ b.capacity

  -- there are fewer items than the capacity
  abbrev pub has_room : Bounded T → Bool
  has_room b = nat_lt (length b.items) b.capacity

  -- no item, and this capacity
  abbrev pub bounded_new : ℕ → Bounded T
  bounded_new capacity = record { items = []; capacity = capacity }

  -- these items, and the capacity of b
  abbrev pub with_items : Bounded T → List T → Bounded T
  with_items b items = record { items = items; capacity = b.capacity }

  -- x appended, if there is room
  abbrev pub bounded_push : Bounded T → T → Bounded T
  bounded_push b x = if has_room b then with_items b (push b.items x) else b

  -- the last item
  abbrev pub vec_last : Bounded T → Option T
  vec_last vec = slice_get vec.items (length vec.items - 1)

  -- the last item removed
  abbrev pub vec_pop : Bounded T → Bounded T
  vec_pop vec = with_items vec (take (length vec.items - 1) vec.items)

  -- the first n items kept
  abbrev pub vec_truncate : Bounded T → ℕ → Bounded T
  vec_truncate vec n = with_items vec (take n vec.items)
