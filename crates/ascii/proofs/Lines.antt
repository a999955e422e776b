-- What a line holds after a text was put behind it.
use mathlib.Core.Path.{◌≡◌, ◌∙◌}
use mathlib.Core.List.{List, ◌++◌}
use Prim.Native.Nat.{ℕ, ◌+◌, ◌≤◌, ◌<◌}
use native.Mathlib.Decide.{dec_le}
use native.Mathlib.Omega.{arith}
use lib.ListN.{length, take, drop, length-append}
use lib.Seq.{length-take-le, take_at}
use borrow.Author.Tests.{le-leb, lt-leb}
use Rattle.basics.specs.Bytes.{put_at}
use Rattle.ascii.specs.Text.{end_of, added, Adds}

module _ {n : ℕ} {s d x : List ℕ} {at e : ℕ} (p : Adds s at d e x) (within : at ≤ n) (room : length d ≡ n) where
  -- it ends within the buffer
  pub ends : e ≤ n
  unfolding end_of
  ends = of (dec_le (at + length s) (length d))
    where
      of : Dec (at + length s ≤ length d) → e ≤ n
      of (yes h) = let l = le-leb (at + length s) (length d) h in let f : e ≡ at + length s = p.ends ∙ simp l in omega arith
      of (no h) = let l = lt-leb (at + length s) (length d) (omega arith) in let f : e ≡ at = p.ends ∙ simp l in omega arith

  -- a text that fits stands behind what was there
  pub fits : length (take at d) + length s ≤ n → take e x ≡ take at d ++ s
  unfolding end_of added put_at
  fits h =
      let k : length (take at d) ≡ at = length-take-le at d (omega arith) in
      let l = le-leb (at + length s) (length d) (omega arith) in
      let f : e ≡ at + length s = p.ends ∙ simp l in
      let m : length (take at d ++ s) ≡ at + length s = omega (arith, length-append (take at d) s) in
      rw (p.buffer, f, l) (take_at (take at d ++ s) (drop (at + length s) d) (at + length s) m)

  -- one that does not leaves it as it was
  pub full : n < length (take at d) + length s → take e x ≡ take at d
  unfolding end_of added
  full h =
      let k : length (take at d) ≡ at = length-take-le at d (omega arith) in
      let l = lt-leb (at + length s) (length d) (omega arith) in
      let f : e ≡ at = p.ends ∙ simp l in
      rw (p.buffer, f, l)
