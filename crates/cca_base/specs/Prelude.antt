-- the words of this crate that the clauses of those above cite, passed on from one place; declares nothing
pub use Rattle.cca_base.specs.Accepted.{Accepted, AreWays, CompiledModel, IsCompiled}
pub use Rattle.cca_base.specs.Choices.{AreRows, IsRow}
pub use Rattle.cca_base.specs.Coded.{model_codes}
pub use Rattle.cca_base.specs.Cube.{cube_cmp, pair_cmp, IsBeforeCube, IsCube, IsPart, IsRising, IsUnion, Lacks}
pub use Rattle.cca_base.specs.Estimates.{IsEarlier}
pub use Rattle.cca_base.specs.Flags.{is_set, unset, IsSet}
pub use Rattle.cca_base.specs.Formula.{is_within, subject_value, subject_within, truth}
pub use Rattle.cca_base.specs.Goals.{IsFirstUnreached}
pub use Rattle.cca_base.specs.LeastCosts.{lesser_of, IsChange, IsLeast}
pub use Rattle.cca_base.specs.Model.{empty_model, in_second, is_broken, mode_counts, value_counts, with_command, with_component, with_failure, with_move, with_rule, with_variable, HasMode, IsComplete, IsComponent, IsFormula, IsInChain, IsMove, WellFormed}
pub use Rattle.cca_base.specs.Names.{is_name, is_reserved, is_word, is_word_byte, AreNames}
pub use Rattle.cca_base.specs.Orders.{IsEffectsFirst, IsFirstMissing, IsSorted}
pub use Rattle.cca_base.specs.Plans.{IsFirstWorld, IsRoute, Promising}
pub use Rattle.cca_base.specs.PlantModel.{PlantModel}
pub use Rattle.cca_base.specs.Refusals.{bare, stop_code, Answers}
pub use Rattle.cca_base.specs.Relations.{numbers_below, AreExactly, IsAcyclicBy, IsEffectsFirstBy, IsShownCycleBy}
pub use Rattle.cca_base.specs.Repairs.{pairs_of}
pub use Rattle.cca_base.specs.Runs.{is_send, is_unreachable, reply_of}
pub use Rattle.cca_base.specs.Sets.{has}
pub use Rattle.cca_base.specs.Shown.{CanShow, Clash, IsConflict, KeepsOfClash}
pub use Rattle.cca_base.specs.State.{start_modes, Extends, Follows, HasValue, HasWorld, HasWorlds, Holds, IsState, IsWorld}
pub use Rattle.cca_base.specs.Steps.{support, AreReached, Run, Step}
pub use Rattle.cca_base.specs.Successors.{ChangeCosts, Costs, IsCommanded, Nominal}
pub use Rattle.cca_base.specs.Trace.{command_of, start, Changes, ExecutiveState, IsReply, MayCome, Observed, TickShows}
