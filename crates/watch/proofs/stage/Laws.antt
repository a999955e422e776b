-- A line in its buffer, and the reads of the program.
use mathlib.Core.Path.{◌≡◌, refl, ap, ◌∙◌}
use mathlib.Core.Bool.{Bool, true}
use mathlib.Core.List.{List, [], ◌∷◌, ◌++◌}
use Prim.Native.Nat.{ℕ, ◌≤◌}
use native.Mathlib.Omega.{arith}
use borrow.Author.Tests.{le-leb}
use lib.ListN.{length, take, drop}
use lib.Seq.{take-append_seam}
use Rattle.std.specs.Prelude.{Result, Ok, Err, is_ok}
use Rattle.std.specs.Result.{result_unwrap_or}
use Rattle.mmc.specs.Refusals.{pass, outcome_of, answer_of, buffer_of}
use Rattle.mmc.specs.ReplyBlock.{read_reply}
use Rattle.mmc.specs.declared.refusals.Refusal.{Refusal}
use Rattle.recorder.specs.declared.job.Recorder.{Recorder}
use Rattle.lines.specs.Lines.{Writes}
use Rattle.lines.specs.Shown.{widest}
use Rattle.watch.specs.Watch.{Stage, replied_of, read_on, Read, Written, Sent, watch_in, after_reads}
use Rattle.watch.specs.Watch.{stage_in, written_in, Stands}
use Rattle.watch.specs.declared.stage.Watch.{Watch}

-- ---- a line

counted : (n : ℕ) (r : Result ℕ Refusal) → outcome_of r ≡ pass n → result_unwrap_or r 0 ≡ n
counted n (Ok k) e = cc
counted n (Err x) e = let z : ◌≡◌ {A = ℕ} 0 1 = cc in absurd (omega arith)

-- a line goes whole into a buffer of the widest
pub stands :
    (r : Recorder) {a b : Bool} {n : ℕ} {line before after : List ℕ} (m : Result ℕ Refusal) →
    a ≡ b → n ≡ result_unwrap_or m 0 → Writes widest line m before after → widest ≤ length before →
    Stands (record { recorder = r; waiting = b; line = line }) (record { recorder = r; waiting = a; used = n }) after
unfolding answer_of buffer_of
stands r {a} {b} {n} {line} {before} {after} m e f w h =
    let l = le-leb (length line) (length before) (omega (arith, w.short)) in
    let k : n ≡ length line = f ∙ counted (length line) m (w.filled.answer ∙ simp l) in
    let q : after ≡ line ++ drop (length line) before = w.filled.buffer ∙ simp l in
    let t : take n after ≡ line = rw (k, q) (take-append_seam line (drop (length line) before)) in
    record { stage = rw (e, t); room = omega (arith, w.short) }

-- ---- what was read

pub read_none : (r : Recorder) (s : List ℕ) → length s ≡ 0 → read_on r [] ≡ read_on r s
read_none r [] e = refl
read_none r (x ∷ s) e = absurd (omega arith)

pub read_some : (r : Recorder) (s : List ℕ) → (length s ≡ 0 → ⊥) → replied_of r (read_reply s) ≡ read_on r s
read_some r [] n = absurd (n refl)
read_some r (x ∷ s) n = refl

-- one read more, where the program reads on, and its line written
abbrev written_at : Stage → Bool → Written
written_at g out = record { stage = g; out = out }

pub again :
    (first : Written) (before shown : Sent) (w next : Watch) (text after s : List ℕ) (rs : List Read) →
    written_in before text ≡ after_reads first rs → before ≡ Ok w → w.waiting ≡ true →
    Stands (read_on w.recorder s) next after → watch_in shown ≡ next →
    written_in shown after ≡ after_reads first (record { bytes = s; out = is_ok shown } ∷ rs)
unfolding after_reads
again first before shown w next text after s rs h b e n f =
    let q = ap (λ (v : Watch). stage_in v after) f ∙ n.stage in
    ap (λ (g : Stage). written_at g (is_ok shown)) q ∙ rw (← h, b, e) refl
