use Rattle.std.proofs.Common.{◌++◌, ◌∷◌, [], ◌∙◌, length, refl, sym, ap, arith}
use Rattle.ix_cells.specs.Bounded.{Bounded}
use Rattle.ix_string.proofs.Appending.{Appended-ok, IsText-yes, not_refused}
use Rattle.examples.proofs.strings.allocated.Goals as goal
use Rattle.examples.proofs.strings.allocated.Goals.{then-is_err-via-then-is_err, then-is_err-via-else-is_err+then-is_err-2, then-is_err-via-else-is_err+else-is_err-2+then-is_err-3}

pub returns-then-is_err-clause-accepted : goal.returns-then-is_err-clause-accepted
returns-then-is_err-clause-accepted g c =
    let empty = ap (λ (t : Bounded _). length t.items) c.in_ok-path.ensures.value in
    let room = ap (λ (t : Bounded _). t.capacity) c.in_ok-path.ensures.value in (
      λ no. absurd (cc),
      λ all. elim c.then-is_err.branch [
        | then-is_err-via-then-is_err w ↦
            absurd (not_refused c.in_ok-path.path c.push_bytes.new.self c.args.folder.now c.push_bytes.result c.push_bytes.ensures.value (sym c.is_err.ensures.value ∙ w.if-is_err.true) all.0 (omega (arith, empty, room, all.2)))
        | then-is_err-via-else-is_err+then-is_err-2 w ↦
            let first = Appended-ok c.in_ok-path.path c.push_bytes.new.self c.args.folder.now c.push_bytes.result c.push_bytes.ensures.value c.push_bytes.ensures.string (sym c.is_err.ensures.value ∙ w.if-is_err.false) in
            let len = first.len in
            let same = first.capacity in
            absurd (not_refused c.push_bytes.new.self w.push.new.self (47 ∷ []) w.push.result w.push.ensures.value (sym w.is_err-else-is_err.ensures.value ∙ w.if-is_err-2.true) (IsText-yes (47 ∷ []) refl) (omega (arith, empty, room, all.2)))
        | then-is_err-via-else-is_err+else-is_err-2+then-is_err-3 w ↦
            let first = Appended-ok c.in_ok-path.path c.push_bytes.new.self c.args.folder.now c.push_bytes.result c.push_bytes.ensures.value c.push_bytes.ensures.string (sym c.is_err.ensures.value ∙ w.if-is_err.false) in
            let slash = Appended-ok c.push_bytes.new.self w.push.new.self (47 ∷ []) w.push.result w.push.ensures.value w.push.ensures.string (sym w.is_err-else-is_err.ensures.value ∙ w.if-is_err-2.false) in
            let len = first.len in
            let same = first.capacity in
            let len' = slash.len in
            let same' = slash.capacity in
            absurd (not_refused w.push.new.self w.push_bytes-else-is_err-2.new.self c.args.name.now w.push_bytes-else-is_err-2.result w.push_bytes-else-is_err-2.ensures.value (sym w.is_err-else-is_err-2.ensures.value ∙ w.if-is_err-3.true) all.1 (omega (arith, empty, room, all.2)))
      ],
    )

pub returns-clause-path : goal.returns-clause-path
returns-clause-path g c =
    let first = Appended-ok c.in_ok-path.path c.push_bytes.new.self c.args.folder.now c.push_bytes.result c.push_bytes.ensures.value c.push_bytes.ensures.string (sym c.is_err.ensures.value ∙ c.if-is_err.false) in
    let slash = Appended-ok c.push_bytes.new.self c.push.new.self (47 ∷ []) c.push.result c.push.ensures.value c.push.ensures.string (sym c.is_err-else-is_err.ensures.value ∙ c.if-is_err-2.false) in
    let last = Appended-ok c.push.new.self c.push_bytes-else-is_err-2.new.self c.args.name.now c.push_bytes-else-is_err-2.result c.push_bytes-else-is_err-2.ensures.value c.push_bytes-else-is_err-2.ensures.string (sym c.is_err-else-is_err-2.ensures.value ∙ c.if-is_err-3.false) in
    let empty = ap (λ (t : Bounded _). t.items) c.in_ok-path.ensures.value in
    last.items ∙ ap (λ xs. xs ++ c.args.name.now) (slash.items ∙ ap (λ xs. xs ++ (47 ∷ [])) (first.items ∙ ap (λ xs. xs ++ c.args.folder.now) empty))

pub returns-clause-accepted : goal.returns-clause-accepted
returns-clause-accepted g c =
    let first = Appended-ok c.in_ok-path.path c.push_bytes.new.self c.args.folder.now c.push_bytes.result c.push_bytes.ensures.value c.push_bytes.ensures.string (sym c.is_err.ensures.value ∙ c.if-is_err.false) in
    let slash = Appended-ok c.push_bytes.new.self c.push.new.self (47 ∷ []) c.push.result c.push.ensures.value c.push.ensures.string (sym c.is_err-else-is_err.ensures.value ∙ c.if-is_err-2.false) in
    let last = Appended-ok c.push.new.self c.push_bytes-else-is_err-2.new.self c.args.name.now c.push_bytes-else-is_err-2.result c.push_bytes-else-is_err-2.ensures.value c.push_bytes-else-is_err-2.ensures.string (sym c.is_err-else-is_err-2.ensures.value ∙ c.if-is_err-3.false) in
    let empty = ap (λ (t : Bounded _). length t.items) c.in_ok-path.ensures.value in
    let room = ap (λ (t : Bounded _). t.capacity) c.in_ok-path.ensures.value in
    let len = first.len in
    let len' = slash.len in
    let same = first.capacity in
    let same' = slash.capacity in
    let fits = last.fits in
    (λ _. (first.text, last.text, omega (arith, empty, room, fits)), λ _. refl)
