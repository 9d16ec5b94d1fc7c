use Rattle.std.proofs.Common.{ℕ, List, ◌≡◌, None, Some, Err, Ok, refl}
use Rattle.std.proofs.lemmas.Result.{err_from_is_err_and}
use Rattle.ix_run.specs.inner.Progress.{Session, Drives, ReplyResult, opening}
use Rattle.ix_run.specs.Script.{replies_to}
use Rattle.ix_run.proofs.Lines.{replies_to-lines_from}
use Rattle.ix_run.proofs.Progress.{ReplyResult-finish, ReplyResult-same, ReplyResult-then}
use Rattle.ix_run.proofs.run.scripts.run_script.Goals as goal

pub returns-in_err-header-clause-replies : goal.returns-in_err-header-clause-replies
returns-in_err-header-clause-replies g c =
    let p = err_from_is_err_and c.from_residual.result c.from_residual.ensures.1 in
    let was : Session g.row.R.Denot g.row.W.Denot = (c.args.lines.now, c.args.replies.now) in
    let now : Session g.row.R.Denot g.row.W.Denot = (c.next_header.new.lines, c.next_header.new.replies) in
    let same : (more : List ℕ) → replies_to more ≡ opening None was.0 more = λ more. rw c.requires.rest (replies_to-lines_from more) in
    rw (p.1, p.2) (ReplyResult-same g.R.Read.remaining g.W.Write.contents was now (opening None was.0) replies_to (Err _) same c.in_err-header.ensures)

pub returns-in_default-clause-replies : goal.returns-in_default-clause-replies
returns-in_default-clause-replies g c =
    let was : Session g.row.R.Denot g.row.W.Denot = (c.args.lines.now, c.args.replies.now) in
    let then : Session g.row.R.Denot g.row.W.Denot = (c.next_header.new.lines, c.next_header.new.replies) in
    let now : Session g.row.R.Denot g.row.W.Denot = (c.next_header.new.lines, c.flush.new.self) in
    let same : (more : List ℕ) → replies_to more ≡ opening None was.0 more = λ more. rw c.requires.rest (replies_to-lines_from more) in
    let done : ReplyResult g.R.Read.remaining g.W.Write.contents was (opening None was.0) then (Ok tt) = rw c.in_default.is at c.in_ok-header.ensures in
    ReplyResult-finish g.R.Read.remaining g.W.Write.contents was then now replies_to _ (ReplyResult-same g.R.Read.remaining g.W.Write.contents was then (opening None was.0) replies_to (Ok tt) same done) refl
    c.flush.ensures.written

pub returns-in_err-serve_header-clause-replies : goal.returns-in_err-serve_header-clause-replies
returns-in_err-serve_header-clause-replies g c =
    let p = err_from_is_err_and c.from_residual-in_err-serve_header.result c.from_residual-in_err-serve_header.ensures.1 in
    let was : Session g.row.R.Denot g.row.W.Denot = (c.args.lines.now, c.args.replies.now) in
    let then : Session g.row.R.Denot g.row.W.Denot = (c.next_header.new.lines, c.next_header.new.replies) in
    let now : Session g.row.R.Denot g.row.W.Denot = (c.serve_header.new.lines, c.serve_header.new.replies) in
    let same : (more : List ℕ) → replies_to more ≡ opening None was.0 more = λ more. rw c.requires.rest (replies_to-lines_from more) in
    let found : List ℕ → List ℕ = opening (Some c.in-Some.header) then.0 in
    let driven : Drives g.R.Read.remaining g.W.Write.contents was (opening None was.0) then found = rw c.in-Some.is at c.in_ok-header.ensures in
    rw (p.1, p.2) (
    ReplyResult-same g.R.Read.remaining g.W.Write.contents was now (opening None was.0) replies_to (Err _) same
    (ReplyResult-then g.R.Read.remaining g.W.Write.contents was then now (opening None was.0) found (Err _) driven c.in_err-serve_header.ensures)
    )

pub returns-clause-replies : goal.returns-clause-replies
returns-clause-replies g c =
    let was : Session g.row.R.Denot g.row.W.Denot = (c.args.lines.now, c.args.replies.now) in
    let then : Session g.row.R.Denot g.row.W.Denot = (c.next_header.new.lines, c.next_header.new.replies) in
    let served : Session g.row.R.Denot g.row.W.Denot = (c.serve_header.new.lines, c.serve_header.new.replies) in
    let now : Session g.row.R.Denot g.row.W.Denot = (c.serve_header.new.lines, c.flush-2.new.self) in
    let same : (more : List ℕ) → replies_to more ≡ opening None was.0 more = λ more. rw c.requires.rest (replies_to-lines_from more) in
    let found : List ℕ → List ℕ = opening (Some c.in-Some.header) then.0 in
    let driven : Drives g.R.Read.remaining g.W.Write.contents was (opening None was.0) then found = rw c.in-Some.is at c.in_ok-header.ensures in
    let all = ReplyResult-then g.R.Read.remaining g.W.Write.contents was then served (opening None was.0) found (Ok tt) driven c.in_ok-serve_header.ensures in
    ReplyResult-finish g.R.Read.remaining g.W.Write.contents was served now replies_to _ (ReplyResult-same g.R.Read.remaining g.W.Write.contents was served (opening None was.0) replies_to (Ok tt) same all) refl
    c.flush-2.ensures.written
