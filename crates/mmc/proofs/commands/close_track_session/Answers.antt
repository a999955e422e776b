use Rattle.std.proofs.Common.{arith}
use Rattle.std.proofs.lemmas.Grind.{common_steps}
use Rattle.std.proofs.lemmas.Bool.Decides.{nat_tests}
use Rattle.mmc.specs.Commands.{close_track_session}
use Rattle.mmc.specs.declared.refusals.Refusal.TheVariants.{OutOfRange}
use Rattle.mmc.proofs.refusals.Laws.{fills_of, fills_not}
use Rattle.mmc.proofs.commands.close_track_session.Goals as goal

pub returns-then-not-contains : goal.returns-then-not-contains
unfolding close_track_session
returns-then-not-contains c = fills_not OutOfRange c.args.out.now (grind (arith, common_steps, nat_tests))

pub returns : goal.returns
unfolding close_track_session
returns c = fills_of (grind (arith, common_steps, nat_tests)) c.fill.ensures
