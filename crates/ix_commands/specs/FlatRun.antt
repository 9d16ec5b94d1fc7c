-- `MapRun` by its old names.
pub use Rattle.ix_commands.specs.MapRun.{map_reply as flat_reply, map_after as flat_after}
