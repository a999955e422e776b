-- Laws on sums of signed numbers, as the machine makes them.
use Prim.Native.Nat.{ℕ, suc, ◌-◌, ◌<◌, ◌≤◌, ◌^◌}
use native.Mathlib.Omega.{arith}
use mathlib.Core.Path.{◌≡◌, ◌∙◌}
use mathlib.Core.Logic.{◌⊎◌, inl, inr}
use lib.IntN.{ℤ, pos, negsuc, ◌+ℤ◌, ◌-ℤ◌}
use borrow.Author.Tests.{le-ltb, lt-ltb}
use mir.Syntax.{w64}
use mir.Val.{SFits, to_z, of_z}
use mir.Facts.{to_z-of_z}

-- `z + k` at an i64, where it is the number n: it fits, and n is what is read back
module _ (z : ℤ) (k n : ℕ) (s : SFits w64 z) (e : z +ℤ pos k ≡ pos n) (h : n < 2 ^ 63) where
  pub sum_fits : SFits w64 (to_z w64 (of_z w64 z) +ℤ pos k)
  sum_fits = rw (to_z-of_z s, e) (record { sfits = h })

  pub sum_is : to_z w64 (of_z w64 (to_z w64 (of_z w64 z) +ℤ pos k)) ≡ pos n
  sum_is = to_z-of_z sum_fits ∙ rw (to_z-of_z s, e)

-- f - (m + 1) by its two cases
pub less : (f m : ℕ) → Dec (f < suc m) → ((f < suc m) × (pos f -ℤ pos (suc m) ≡ negsuc (suc m - suc f))) ⊎ ((suc m ≤ f) × (pos f -ℤ pos (suc m) ≡ pos (f - suc m)))
less f m (yes l) = inl (l, simp (lt-ltb f (suc m) l))
less f m (no n) = let g : suc m ≤ f = omega arith in inr (g, simp (le-ltb f (suc m) g))
