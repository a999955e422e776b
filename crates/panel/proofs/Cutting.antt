-- The cast of a double to 16 bits by tests: what `progress_of` does in each case is the cast. Assumes nothing.
use Rattle.std.proofs.Common.{◌≡◌, ℕ, ◌+◌, ◌-◌, ◌*◌, ◌/◌, ◌^◌, ◌<◌, ◌≤◌, min, true, false, T, pos, sym, refl, ap, ◌∙◌, subst, le_of_lt, div-lt_iff_lt-mul, le-div_iff_mul-le, mul-one, arith, lt→ltb, ltb-false, ltb-true, lt-ltb}
use mathlib.Core.Bool.{false≢true}
use native.Mathlib.Nat.{min-eq_left, min-eq_right}
use lib.Ieee.{Float, nan, inf, fin, up, down, to_unsigned, lt}
use lib.Ieee.Fits.{down_pos}
use Rattle.panel.proofs.Halving.{power}

abbrev minus_one : Float
minus_one = fin true 1 (pos 0)

-- of a / d
less : (a d : ℕ) → 0 < d → a * 1 < 65536 * d → a / d < 65536
less a d pd h = (div-lt_iff_lt-mul pd).1 (subst (λ (z : ℕ). z < 65536 * d) (mul-one a) h)

more : (a d : ℕ) → 0 < d → 65536 * d ≤ a * 1 → 65536 ≤ a / d
more a d pd h = (le-div_iff_mul-le pd).1 (subst (λ (z : ℕ). 65536 * d ≤ z) (mul-one a) h)

short : (k : ℕ) → k < 65536 → min k (2 ^ 64 - 1) ≡ min k 65535
short k h = min-eq_left (omega arith) ∙ sym (min-eq_left (omega arith))

wider : (a d : ℕ) → a < 65536 * d → a < 18446744073709551616 * d
wider a d h = omega arith

some : (a d : ℕ) → 0 < d → (0 < a + 65536 * d) × ((0 < a + 18446744073709551616 * d) × (0 < 1 * 1 * d + a))
some a d h = (omega arith, (omega arith, omega arith))

pub in_64 : (y : Float) → lt y (power 16) ≡ true → T (lt y (power 64))
unfolding lt
in_64 nan h = absurd (false≢true h)
in_64 (inf true) h = tt
in_64 (inf false) h = absurd (false≢true h)
in_64 (fin true m e) h = lt→ltb 0 (m * up e * 1 + 18446744073709551616 * down e) (some (m * up e * 1) (down e) (down_pos e)).1.0
in_64 (fin false m e) h = lt→ltb (m * up e * 1) (18446744073709551616 * down e) (wider (m * up e * 1) (down e) (ltb-true (m * up e * 1) (65536 * down e) h))

pub cut : (y : Float) → lt y (power 16) ≡ true → to_unsigned 64 y ≡ to_unsigned 16 y
unfolding lt to_unsigned
cut nan h = refl
cut (inf true) h = refl
cut (inf false) h = absurd (false≢true h)
cut (fin true m e) h = refl
cut (fin false m e) h = short (m * up e / down e) (less (m * up e) (down e) (down_pos e) (ltb-true (m * up e * 1) (65536 * down e) h))

pub top : (y : Float) → lt minus_one y ≡ true → lt y (power 16) ≡ false → 65535 ≡ to_unsigned 16 y
unfolding lt to_unsigned
top nan h k = absurd (false≢true h)
top (inf true) h k = absurd (false≢true h)
top (inf false) h k = refl
top (fin true m e) h k = absurd (false≢true (sym k ∙ lt-ltb 0 (m * up e * 1 + 65536 * down e) (some (m * up e * 1) (down e) (down_pos e)).0))
top (fin false m e) h k = sym (min-eq_right (le_of_lt (more (m * up e) (down e) (down_pos e) (ltb-false (m * up e * 1) (65536 * down e) k))))

pub none : (y : Float) → lt minus_one y ≡ false → 0 ≡ to_unsigned 16 y
unfolding lt to_unsigned
none nan h = refl
none (inf true) h = refl
none (inf false) h = absurd (false≢true (sym h))
none (fin true m e) h = refl
none (fin false m e) h = absurd (false≢true (sym h ∙ lt-ltb 0 (1 * 1 * down e + m * up e * 1) (some (m * up e * 1) (down e) (down_pos e)).1.1))
