use Rattle.std.proofs.Common.{ℕ, List, ap₂, arith, rules}
use Rattle.ix_tables.specs.Bounded.{Bounded}
use Rattle.ix_queue.proofs.QueueClones.{AreInfallible-none, clones_are_equal}
use Rattle.ix_queue.proofs.queue.clone.Queue+T+A.try_clone_in.Goals as goal

pub returns-in_err-fill_with_clones-clause-memory : goal.returns-in_err-fill_with_clones-clause-memory
returns-in_err-fill_with_clones-clause-memory g c none =
    let within = c.in_err-fill_with_clones.ensures.within in
    let infallible = AreInfallible-none g.T.Clone.is_infallible c.args.self.now.items (omega arith) in
    absurd (search (rules, c.in_err-fill_with_clones.ensures.memory infallible))

pub returns-clause-value : goal.returns-clause-value
returns-clause-value g c =
    ap₂ (λ (items : List g.row.T.Denot) (capacity : ℕ). let queue : Bounded g.row.T.Denot = record { items = items; capacity = capacity } in queue)
    (clones_are_equal g.T.Clone.is_clone _ _ c.requires c.in_ok-fill_with_clones.ensures.items)
    (search rules)
