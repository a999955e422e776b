-- What is shown by a phase is shown of a recorder in that phase. Assumes nothing.
use Rattle.std.proofs.Common.{◌≡◌, ℕ, ◌<◌, sym, subst, arith}
use Rattle.recorder.specs.Job.{latest_by, latest_progress}
use Rattle.recorder.specs.declared.job.Phase.{Phase}
use Rattle.recorder.specs.declared.job.Phase.TheVariants as P
use Rattle.recorder.specs.declared.job.Poll.{Poll}
use Rattle.recorder.specs.declared.job.Poll.TheVariants.{Off, Ready, Sense}
use Rattle.recorder.specs.declared.job.Recorder.{Recorder}
use Rattle.panel.specs.declared.display.Panel.{Panel}
use Rattle.panel.specs.Panel.{Shown, idle, busy, finished, stopped, shown_at, panel_as, Displays}
use Rattle.panel.proofs.Halving.{fraction_is}

latest_below : (p : Poll) (n : ℕ) → n < 65536 → latest_by p n < 65536
latest_below Off n h = omega arith
latest_below Ready n h = h
latest_below Sense n h = h

abbrev progress_in : Shown → ℕ
progress_in idle = 0
progress_in (busy p) = p
progress_in finished = 0
progress_in (stopped w) = 0

shown_below : (k : Phase) (n : ℕ) → n < 65536 → progress_in (shown_at k n) < 65536
shown_below P.Idle n h = omega arith
shown_below P.Going n h = h
shown_below P.Finished n h = omega arith
shown_below (P.Stopped m) n h = omega arith
shown_below (P.Failed s) n h = omega arith

pub displays : (r : Recorder) (k : Phase) (x : Panel) → r.phase ≡ k → r.progress.seen.progress < 65536 → x ≡ panel_as (shown_at k (latest_progress r.progress)) → Displays r x
displays r k x e h is = record {
  panel = subst (λ (l : Phase). x ≡ panel_as (shown_at l (latest_progress r.progress))) (sym e) is;
  fraction = λ p b. fraction_is p (subst (λ (s : Shown). progress_in s < 65536) b (shown_below r.phase _ (latest_below r.progress.poll _ h)));
}
