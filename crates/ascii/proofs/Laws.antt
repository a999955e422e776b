-- A text behind an index: where it fits, and where it does not.
use mathlib.Core.Path.{◌≡◌}
use mathlib.Core.List.{List, []}
use Prim.Native.Nat.{ℕ, ◌+◌, ◌≤◌, ◌<◌}
use native.Mathlib.Decide.{dec_le}
use native.Mathlib.Omega.{arith}
use lib.ListN.{length}
use lib.Seq.{paste-zero}
use borrow.Author.Tests.{le-leb, lt-leb}
use Rattle.basics.specs.Bytes.{put_at}
use Rattle.ascii.specs.Text.{end_of, added, Adds}

-- a text that fits is put there
pub fitting : (s d : List ℕ) (at : ℕ) {e : ℕ} {x : List ℕ} → at + length s ≤ length d → e ≡ at + length s → x ≡ put_at d at s → Adds s at d e x
unfolding end_of added
fitting s d at h p q = let l = le-leb (at + length s) (length d) h in record { ends = simp l p; buffer = simp l q }

-- one that does not changes nothing
pub unfitting : (s d : List ℕ) (at : ℕ) → length d < at + length s → Adds s at d at d
unfolding end_of added
unfitting s d at h = let l = lt-leb (at + length s) (length d) h in record { ends = simp l; buffer = simp l }

-- no text is put anywhere
pub empty : (d : List ℕ) (at : ℕ) → Adds [] at d at d
unfolding put_at
empty d at = of (dec_le at (length d))
  where
    of : Dec (at ≤ length d) → Adds [] at d at d
    of (yes h) = fitting [] d at (omega arith) (omega arith) (paste-zero d at [])
    of (no h) = unfitting [] d at (omega arith)
