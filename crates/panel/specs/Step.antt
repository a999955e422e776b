-- The step over a recorder that is lent. "The panel's program holds one recorder, lends it with each reply and finds it moved on ..; that is
-- proved to match the by-value step."
use Rattle.recorder.specs.declared.job.Recorder.{Recorder}
use Rattle.recorder.specs.declared.job.Step.{Step}
use Rattle.panel.specs.declared.step.Given.{Given}

-- the by-value step that a state and what is given beside it make together
abbrev pub step_with : Recorder → Given → Step
step_with r g = record { state = r; answer = g.answer; count = g.count; cdb = g.cdb }
