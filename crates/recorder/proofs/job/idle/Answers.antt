use Rattle.recorder.proofs.Bench.{starred_sheets, other_sheets, poll_sheets, erase_sheets, charge_sheets, audio_sheets, recipe_sheets}
use Rattle.recorder.proofs.job.Laws.{rests}
use Rattle.recorder.proofs.job.idle.Goals as goal

pub returns : goal.returns
returns c = (rests _ (rw (c.opened.ensures, c.no_order.ensures)), starred_sheets, other_sheets, poll_sheets, erase_sheets, charge_sheets, audio_sheets, recipe_sheets)
