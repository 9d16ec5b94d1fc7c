-- How a bounded list takes in the entries of a list, whose front has been read.
use Rattle.std.proofs.Common.{◌≡◌, ◌∙◌, ◌+◌, ◌-◌, ◌<◌, ◌≤◌, arith, length, List, [], ◌∷◌, ◌++◌, take, drop, ap, refl, sym}
use Rattle.std.proofs.lemmas.List.{take_all, take-append-le, drop-append-le, take-append-drop, length-append}
use Rattle.std.proofs.Math.Seq.{drop-length}
use Rattle.std.specs.Prelude.{Some, Result, Ok, Err}
use Rattle.serde_json.specs.Data.{Data}
use Rattle.serde_json.specs.Find.{as_array}
use Rattle.serde_json.specs.View.{view, items_view}
use Rattle.serde_json.specs.declared.value.Value.{Value}
use Rattle.ix_tables.specs.Bounded.{Bounded, with_items}
use Rattle.std.specs.Result.{result_map_both}
use Rattle.ix_json.specs.JsonTree.{entries_read, list_read, list_filled}
use Rattle.ix_json.specs.declared.json.json_fault.JsonFault.{JsonFault}
use Rattle.ix_json.specs.declared.json.json_fault.JsonFault.TheVariants.{TooLong}
use Rattle.ix_json.proofs.Entries.{entries_read-push, entries_read-fault, list_read-entries, list_read-too_long}

module _ {T : Type 0} (read : Data → Result T JsonFault) (old : Bounded T) where
  -- the values have been read, and their items are behind those of the old list
  pub record IsFilledWith (values : List Value) (now : Bounded T) : Type 0 where
    pub before : take (length old.items) now.items ≡ old.items
    pub read_so : entries_read read (items_view values) ≡ Ok (drop (length old.items) now.items)
    pub as_many : length now.items ≡ length old.items + length values
    pub capacity : now.capacity ≡ old.capacity

  pub IsFilledWith-none : IsFilledWith [] old
  IsFilledWith-none = record {
    before = take_all (length old.items) old.items (omega arith);
    read_so = ap Ok (sym (drop-length old.items));
    as_many = omega arith;
    capacity = refl;
  }

  pub IsFilledWith-push : (values : List Value) (value : Value) (now new : Bounded T) (item : T) → IsFilledWith values now → Ok item ≡ read (view value) → new ≡ with_items now (now.items ++ item ∷ []) → IsFilledWith (values ++ value ∷ []) new
  IsFilledWith-push values value now new item filled this is =
      let within : length old.items ≤ length now.items = omega (arith, filled.as_many) in
      let items : new.items ≡ now.items ++ item ∷ [] = ap (λ b. b.items) is in
      let longer = length-append now.items (item ∷ []) in let longer_values = length-append values (value ∷ []) in
      let count = ap length items in record {
        before = ap (take (length old.items)) items ∙ take-append-le (length old.items) now.items (item ∷ []) within ∙ filled.before;
        read_so = entries_read-push read values value (drop (length old.items) now.items) item filled.read_so this
            ∙ ap Ok (sym (drop-append-le (length old.items) now.items (item ∷ []) within) ∙ ap (drop (length old.items)) (sym items));
        as_many = omega (arith, filled.as_many);
        capacity = ap (λ b. b.capacity) is ∙ filled.capacity;
      }

  pub IsFilledWith-undone : (values : List Value) (now : Bounded T) → IsFilledWith values now → with_items now (take (length old.items) now.items) ≡ old
  IsFilledWith-undone values now filled = λ i. record { items = filled.before i; capacity = filled.capacity i }

  pub IsFilledWith-all : (tree : Data) (values : List Value) (now : Bounded T) → Some (items_view values) ≡ as_array tree → length values ≤ old.capacity - length old.items → IsFilledWith values now → list_filled read old tree ≡ Ok now
  IsFilledWith-all tree values now same fits filled =
      let so = sym (list_read-entries read (old.capacity - length old.items) tree values same fits) ∙ filled.read_so in
      let whole : old.items ++ drop (length old.items) now.items ≡ now.items = ap (λ front. front ++ drop (length old.items) now.items) (sym filled.before) ∙ take-append-drop (length old.items) now.items in
      rw so (λ i. Ok (record { items = whole i; capacity = sym filled.capacity i }))

  pub list_filled-fault : (tree : Data) (values front back : List Value) (value : Value) (now : Bounded T) (fault : JsonFault) → Some (items_view values) ≡ as_array tree → length values ≤ old.capacity - length old.items → values ≡ front ++ value ∷ back → IsFilledWith front now → Err fault ≡ read (view value) → list_filled read old tree ≡ Err fault
  list_filled-fault tree values front back value now fault same fits parts filled this =
      let so = sym (list_read-entries read (old.capacity - length old.items) tree values same fits) ∙ ap (λ values. entries_read read (items_view values)) parts ∙ entries_read-fault read front back value (drop (length old.items) now.items) fault filled.read_so this in
      rw so refl

  pub list_filled-too_long : (tree : Data) (values : List Value) → Some (items_view values) ≡ as_array tree → old.capacity - length old.items < length values → list_filled read old tree ≡ Err TooLong
  list_filled-too_long tree values same more = let so = sym (list_read-too_long read (old.capacity - length old.items) tree values same more) in rw so refl

-- an empty list takes in the items that a list is read as
pub list_filled-empty : {T : Type 0} (read : Data → Result T JsonFault) (b : Bounded T) (tree : Data) → list_filled read (with_items b []) tree ≡ result_map_both (with_items b) (λ fault. fault) (list_read b.capacity read tree)
list_filled-empty read b tree = let all : b.capacity - 0 ≡ b.capacity = omega arith in ap (λ room. result_map_both (with_items b) (λ fault. fault) (list_read room read tree)) all
