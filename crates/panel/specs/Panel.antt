-- What the panel shows, in document 02's words: "one of four things: idle, busy with its fraction, finished, or stopped with its number."
use Rattle.std.specs.Prelude.{◌≡◌, ℕ, ◌<◌, true, false, pos, Float, Option, Some, None}
use Rattle.std.specs.Float.{binary64}
use Rattle.std.specs.Float.Ieee.{of_int, to_unsigned, div, mul, lt}
use Rattle.std.specs.Float.Ieee.Exact.{HasValue}
use Rattle.recorder.specs.Answers.{Why, because, drive_failed, number}
use Rattle.recorder.specs.Replies.{no_sense}
use Rattle.recorder.specs.Job.{latest_progress}
use Rattle.recorder.specs.declared.replies.Sense.{Sense}
use Rattle.recorder.specs.declared.job.Phase.{Phase}
use Rattle.recorder.specs.declared.job.Phase.TheVariants as P
use Rattle.recorder.specs.declared.job.Recorder.{Recorder}
use Rattle.panel.specs.declared.display.Panel.{Panel}
use Rattle.panel.specs.declared.display.Panel.TheVariants as D

-- ---- the fraction

-- a whole number as a double
abbrev pub double : ℕ → Float
double n = of_int binary64 (pos n)

-- "divided by 65,536", as a double is divided
abbrev pub fraction_of : ℕ → Float
fraction_of p = div binary64 (double p) (double 65536)

-- "times 65,536"
abbrev pub times : Float → Float
times x = mul binary64 x (double 65536)

-- "The fraction is a double below 1: the latest progress .. divided by 65,536; times 65,536 it gives the progress back exactly."
-- `HasValue x false a c`: x is a number, not negative, and it is a / c exactly
pub record Fraction (p : ℕ) (x : Float) : Type 0 where
  pub quotient : x ≡ fraction_of p
  pub exact : HasValue x false p 65536
  pub below_one : lt x (double 1) ≡ true
  pub times_back : times x ≡ double p
  pub as_whole : to_unsigned 16 (times x) ≡ p

-- the progress back from any double, by a cast to 16 bits, and exactly from a fraction
pub record ProgressBack (x : Float) (n : ℕ) : Type 0 where
  pub cast : n ≡ to_unsigned 16 (times x)
  pub exactly : (p : ℕ) → p < 65536 → x ≡ fraction_of p → n ≡ p

-- ---- the four things

-- busy by its progress, stopped by why
pub data Shown : Type 0 where
  idle : Shown
  busy : ℕ → Shown
  finished : Shown
  stopped : Why → Shown

-- which of them: "Idle is before any order"; "the latest progress of a polling under way, else 0"
abbrev pub shown_at : Phase → ℕ → Shown
shown_at P.Idle p = idle
shown_at P.Going p = busy p
shown_at P.Finished p = finished
shown_at (P.Stopped n) p = stopped (because n)
shown_at (P.Failed s) p = stopped (drive_failed s)

abbrev pub shown_of : Recorder → Shown
shown_of r = shown_at r.phase (latest_progress r.progress)

-- the triple that goes with a number: 12 has one
abbrev pub sense_in : Why → Sense
sense_in (because n) = no_sense
sense_in (drive_failed s) = s

-- the same, where a number has none
abbrev pub triple_in : Why → Option Sense
triple_in (because n) = None
triple_in (drive_failed s) = Some s

-- what each case of the enum says
abbrev pub panel_as : Shown → Panel
panel_as idle = D.Idle
panel_as (busy p) = D.Busy (fraction_of p)
panel_as finished = D.Finished
panel_as (stopped w) = D.Stopped (number w) (triple_in w)

-- what the panel shows of a recorder; busy, the fraction is that of the progress
pub record Displays (r : Recorder) (x : Panel) : Type 0 where
  pub panel : x ≡ panel_as (shown_of r)
  pub fraction : (p : ℕ) → shown_of r ≡ busy p → Fraction p (fraction_of p)
