-- A number's text is that which `std` writes of it.
use mathlib.Core.Path.{◌≡◌, refl}
use mathlib.Core.List.{List, [], ◌∷◌, ◌++◌}
use Prim.Native.Nat.{ℕ, zero, suc, ◌+◌, ◌/◌, ◌%◌, ◌^◌, ◌≤◌, ◌<◌}
use native.Mathlib.Omega.{arith}
use lib.ListN.{length}
use borrow.Author.Tests.{lt-ltb}
use Rattle.std.specs.Fmt as fmt
use Rattle.std.proofs.lemmas.Fmt.{decimal_from_appends, length-decimal-le, length-decimal-le_succ}
use Rattle.ascii.specs.Text.{digit, leading, decimal}

-- at most k digits of a number, of which it has one at least
written : ℕ → ℕ → List ℕ
written zero n = []
written (suc k) n = leading k (n / 10) ++ digit (n % 10) ∷ []

last_digit : (n : ℕ) → digit (n % 10) ≡ 48 + n % 10
last_digit n = let h : n % 10 < 10 = omega arith in simp (lt-ltb (n % 10) 10 h)

one_digit : (k n : ℕ) → n < 10 → written (suc k) n ≡ (48 + n) ∷ []
unfolding leading written
one_digit zero n h = let e : n % 10 ≡ n = omega arith in rw (last_digit n, e)
one_digit (suc k) n h = let e : n % 10 ≡ n = omega arith in let z : n / 10 ≡ 0 = omega arith in rw (z, last_digit n, e)

another : (k n : ℕ) → 10 ≤ n → written (suc k) n ≡ written k (n / 10) ++ ((48 + n % 10) ∷ [])
unfolding leading written
another zero n h = rw (last_digit n)
another (suc k) n h = rw (last_digit n, of (n / 10) (omega arith))
  where
    of : (m : ℕ) → 0 < m → leading (suc k) m ≡ written (suc k) m
    of zero h = absurd (omega arith)
    of (suc m) h = refl

pub same : (n : ℕ) → n < 2 ^ 64 → decimal n ≡ fmt.decimal n
unfolding decimal leading written
same n h = decimal_from_appends written (record { one = one_digit; more = another }) (suc n) n h (omega (arith, length-decimal-le_succ n h))

-- a number of 64 bits has at most 20 digits
pub short : (n : ℕ) → n < 2 ^ 64 → length (decimal n) ≤ 20
short n h = rw (same n h) (length-decimal-le 20 n (omega arith) (omega arith) h)
