-- Some of what the panel shows, as one statement about the definitions.
use Rattle.std.specs.Prelude.{◌≡◌, false, Some, None}
use Rattle.std.specs.Float.Ieee.Exact.{HasValue}
use Rattle.recorder.specs.Job.{idle_recorder}
use Rattle.recorder.specs.declared.job.Phase.TheVariants.{Stopped, Failed}
use Rattle.panel.specs.declared.display.Panel.TheVariants as D
use Rattle.panel.specs.Panel.{fraction_of, idle, shown_at, shown_of, panel_as}

pub record ExamplePanels : Type 0 where
  -- "Idle is before any order"
  pub before_order : shown_of idle_recorder ≡ idle
  -- half of the way, and all but one step of it
  pub half : HasValue (fraction_of 0x8000) false 1 2
  pub nearly : HasValue (fraction_of 0xFFFF) false 0xFFFF 0x10000
  -- 6 with no triple; 12 with 05h/64h/00h
  pub refused : panel_as (shown_at (Stopped 6) 0) ≡ D.Stopped 6 None
  pub failed : panel_as (shown_at (Failed (record { key = 5; asc = 0x64; ascq = 0 })) 0) ≡ D.Stopped 12 (Some (record { key = 5; asc = 0x64; ascq = 0 }))
