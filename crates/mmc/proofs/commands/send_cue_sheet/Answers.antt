use Rattle.std.proofs.Common.{arith}
use Rattle.std.proofs.lemmas.Grind.{common_steps}
use Rattle.std.proofs.lemmas.Bool.Decides.{nat_tests}
use Rattle.mmc.specs.Commands.{send_cue_sheet}
use Rattle.mmc.specs.Sheet.{sheet_size}
use Rattle.mmc.specs.declared.refusals.Refusal.TheVariants.{OutOfRange}
use Rattle.mmc.proofs.refusals.Laws.{fills_of, fills_not}
use Rattle.mmc.proofs.commands.send_cue_sheet.Goals as goal

pub returns-then-not-sheet_size : goal.returns-then-not-sheet_size
unfolding send_cue_sheet
returns-then-not-sheet_size c = fills_not OutOfRange c.args.out.now (grind (arith, common_steps))

pub overflow_cast-length : goal.overflow_cast-length
unfolding sheet_size
overflow_cast-length c = grind (arith, nat_tests)

pub returns : goal.returns
unfolding send_cue_sheet sheet_size
returns c = fills_of (grind (arith, common_steps, nat_tests)) c.fill.ensures
