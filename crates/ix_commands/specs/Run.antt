-- The run of a list of commands: the reply to each, in order, and what the last leaves.
use Rattle.std.specs.Prelude.{List, [], ◌∷◌}

-- the model after all commands
abbrev pub run_state : {Model Command : Type 0} → (Model → Command → Model) → Model → List Command → Model
run_state after model [] = model
run_state after model (command ∷ commands) = run_state after (after model command) commands

-- the replies to all commands, in order
abbrev pub run_replies : {Model Command Reply : Type 0} → (Model → Command → Reply) → (Model → Command → Model) → Model → List Command → List Reply
run_replies reply after model [] = []
run_replies reply after model (command ∷ commands) = reply model command ∷ run_replies reply after (after model command) commands
