use Rattle.std.proofs.Common.{arith}
use Rattle.std.proofs.lemmas.Grind.{common_steps}
use Rattle.mmc.specs.Commands.{write_command}
use Rattle.mmc.specs.declared.refusals.Refusal.TheVariants.{OutOfRange}
use Rattle.mmc.proofs.refusals.Laws.{fills_of, fills_not}
use Rattle.mmc.proofs.commands.write.Goals as goal

pub returns-then-not-write_range : goal.returns-then-not-write_range
unfolding write_command
returns-then-not-write_range c = fills_not OutOfRange c.args.out.now (grind (arith, common_steps))

pub returns : goal.returns
unfolding write_command
returns c = fills_of (grind (arith, common_steps)) c.fill.ensures
