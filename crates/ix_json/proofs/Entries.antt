-- How a list of entries is read, whose front has been read.
use Rattle.std.proofs.Common.{ℕ, ◌≡◌, ◌∙◌, ◌<◌, ◌≤◌, arith, length, List, [], ◌∷◌, ◌++◌, ap, map, refl, sym}
use Rattle.std.proofs.lemmas.Grind.{common_steps}
use Rattle.std.proofs.lemmas.List.{map-append, length-map}
use Rattle.std.specs.Prelude.{Some, Result, Ok, Err}
use Rattle.serde_json.proofs.Views.{items_len-items_view}
use Rattle.serde_json.specs.Data.{Data}
use Rattle.serde_json.specs.Find.{as_array}
use Rattle.serde_json.specs.View.{view, items_of, items_view}
use Rattle.serde_json.specs.declared.value.Value.{Value}
use Rattle.ix_json.specs.JsonTree.{with_first, entries_read, list_read}
use Rattle.ix_json.specs.declared.json.json_fault.JsonFault.{JsonFault}
use Rattle.ix_json.specs.declared.json.json_fault.JsonFault.TheVariants.{TooLong}

module _ {T : Type 0} where
  -- the items of two lists of entries, or the first fault
  joined : Result (List T) JsonFault → Result (List T) JsonFault → Result (List T) JsonFault
  joined (Ok xs) (Ok ys) = Ok (xs ++ ys)
  joined (Ok xs) (Err fault) = Err fault
  joined (Err fault) r = Err fault

  joined-nothing : (r : Result (List T) JsonFault) → joined (Ok []) r ≡ r
  unfolding joined
  joined-nothing (Ok ys) = refl
  joined-nothing (Err fault) = refl

  joined-with_first : (a : Result T JsonFault) (b c : Result (List T) JsonFault) → joined (with_first a b) c ≡ with_first a (joined b c)
  unfolding joined
  joined-with_first (Ok x) (Ok xs) (Ok ys) = refl
  joined-with_first (Ok x) (Ok xs) (Err fault) = refl
  joined-with_first (Ok x) (Err fault) c = refl
  joined-with_first (Err fault) b c = refl

  module _ (read : Data → Result T JsonFault) where
    entries_read-append : (front back : List Data) → entries_read read (items_of (front ++ back)) ≡ joined (entries_read read (items_of front)) (entries_read read (items_of back))
    entries_read-append [] back = sym (joined-nothing (entries_read read (items_of back)))
    entries_read-append (entry ∷ front) back =
        ap (with_first (read entry)) (entries_read-append front back)
        ∙ sym (joined-with_first (read entry) (entries_read read (items_of front)) (entries_read read (items_of back)))

    -- a value that is read appends its item
    pub entries_read-push : (values : List Value) (value : Value) (items : List T) (item : T) → entries_read read (items_view values) ≡ Ok items → Ok item ≡ read (view value) → entries_read read (items_view (values ++ value ∷ [])) ≡ Ok (items ++ item ∷ [])
    unfolding joined
    entries_read-push values value items item so_far this =
        rw (map-append view values (value ∷ [])) (rw (entries_read-append (map view values) (view value ∷ [])) (rw so_far (rw (← this) refl)))

    -- the first fault is the result, whatever comes after it
    pub entries_read-fault : (front back : List Value) (value : Value) (items : List T) (fault : JsonFault) → entries_read read (items_view front) ≡ Ok items → Err fault ≡ read (view value) → entries_read read (items_view (front ++ value ∷ back)) ≡ Err fault
    unfolding joined
    entries_read-fault front back value items fault so_far this =
        rw (map-append view front (value ∷ back)) (rw (entries_read-append (map view front) (view value ∷ map view back)) (rw so_far (rw (← this) refl)))

    -- a list of no more values than fit is read value by value
    pub list_read-entries : (capacity : ℕ) (tree : Data) (values : List Value) → Some (items_view values) ≡ as_array tree → length values ≤ capacity → entries_read read (items_view values) ≡ list_read capacity read tree
    list_read-entries capacity tree values same fits =
        let as_many = items_len-items_view values in
        rw (← same) (grind (arith, common_steps))

    pub list_read-too_long : (capacity : ℕ) (tree : Data) (values : List Value) → Some (items_view values) ≡ as_array tree → capacity < length values → Err TooLong ≡ list_read capacity read tree
    list_read-too_long capacity tree values same more =
        let as_many = items_len-items_view values in
        rw (← same) (grind (arith, common_steps))

    module _ (tree_of : T → Data) where
      -- the values have the trees of the items, and are read as these
      pub record AreForms (values : List Value) (items : List T) : Type 0 where
        pub trees : map view values ≡ map tree_of items
        pub read_back : entries_read read (items_view values) ≡ Ok items

      pub AreForms-push : (values : List Value) (items : List T) (value : Value) (item : T) → AreForms values items → view value ≡ tree_of item → read (view value) ≡ Ok item → AreForms (values ++ value ∷ []) (items ++ item ∷ [])
      AreForms-push values items value item forms tree back = record {
        trees = rw (map-append view values (value ∷ [])) (rw (map-append tree_of items (item ∷ [])) (rw forms.trees (rw tree refl)));
        read_back = entries_read-push values value items item forms.read_back (sym back);
      }

      -- the list of the forms of no more items than fit is read as these
      pub list_read-AreForms : (capacity : ℕ) (tree : Data) (values : List Value) (items : List T) → Some (items_view values) ≡ as_array tree → AreForms values items → length items ≤ capacity → list_read capacity read tree ≡ Ok items
      list_read-AreForms capacity tree values items same forms fits =
          let as_many : length values ≡ length items = sym (length-map values view) ∙ ap length forms.trees ∙ length-map items tree_of in
          sym (list_read-entries capacity tree values same (omega arith)) ∙ forms.read_back
