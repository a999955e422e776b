-- A whole number divided by a power of two, as doubles: nothing is rounded. So the quotient is the fraction exactly, times the power it
-- is the number again, and it is below one where the number is below the power. Assumes nothing.
use Rattle.std.proofs.Common.{◌≡◌, ℕ, ◌+◌, ◌-◌, ◌*◌, ◌^◌, ◌<◌, ◌≤◌, true, false, pos, sym, refl, ap, ◌∙◌, subst, lt_of_lt_of_le, le_of_lt, mul_assoc, mul_comm, lt_of_mul-lt-mul_right, mul-lt-mul_of_pos_right, mul-pos, one-mul, mul-one, arith, le→leb, pow_pos, pow_mono, pow-add, shl_lt, lt-ltb}
use mathlib.Core.Bool.{false≢true}
use lib.Ieee.{Float, fin, nan, inf, binary64, low, up, down, round, of_int, to_unsigned, in_float, div, mul, lt}
use lib.Ieee.Digits.{back as low-back}
use lib.Ieee.Fits.{down_pos}
use lib.Ieee.Exact.{HasValue, round_exact}
use lib.Ieee.Back.{round_whole, unsigned_back}
use lib.Ieee.Scale.{round_same}
use Rattle.panel.specs.Panel.{double, fraction_of, times, Fraction, ProgressBack}

-- 2 ^ k
abbrev pub power : ℕ → Float
power k = fin false 1 (pos k)

whole_value : (n : ℕ) → n < 2 ^ 53 → HasValue (double n) false n 1
unfolding of_int
whole_value n h = round_whole binary64 false n (le_of_lt h)

div_power : (k n : ℕ) (x : Float) → HasValue x false n 1 → div binary64 x (power k) ≡ round binary64 false n (2 ^ k)
unfolding div
div_power k n nan v = elim v [ ]
div_power k n (inf s) v = elim v [ ]
div_power k n (fin true m e) v = absurd (false≢true (sym v.0))
div_power k n (fin false m e) v =
    round_same binary64 false (m * up e * 1) (1 * 2 ^ k * down e) n (2 ^ k) (mul-pos (mul-pos (omega arith) (pow_pos k)) (down_pos e)) (pow_pos k)
    (ap (λ (z : ℕ). z * 2 ^ k) v.1 ∙ simp (one-mul, mul_assoc, mul_comm))

mul_power : (k n : ℕ) (x : Float) → HasValue x false n (2 ^ k) → mul binary64 x (power k) ≡ round binary64 false n 1
unfolding mul
mul_power k n nan v = elim v [ ]
mul_power k n (inf s) v = elim v [ ]
mul_power k n (fin true m e) v = absurd (false≢true (sym v.0))
mul_power k n (fin false m e) v =
    round_same binary64 false (m * up e * (1 * 2 ^ k)) (down e * 1) n 1 (mul-pos (down_pos e) (omega arith)) (omega arith)
    (mul-one (m * up e * (1 * 2 ^ k)) ∙ ap (λ (z : ℕ). m * up e * z) (one-mul (2 ^ k)) ∙ v.1 ∙ ap (λ (z : ℕ). n * z) (sym (mul-one (down e))))

-- no digit is lost: n * 2 ^ low is n * 2 ^ (low - k) times 2 ^ k
power_exact : (k n : ℕ) → k ≤ low binary64 → n < 2 ^ 53 → HasValue (round binary64 false n (2 ^ k)) false n (2 ^ k)
power_exact k n hk hn =
    let l = low binary64 in
    round_exact binary64 false n (2 ^ k) n (l - k) (pow_pos k) hn
    (lt_of_lt_of_le (shl_lt 53 (l - k) hn) (pow_mono (room (l - k) (omega arith))))
    (ap (λ (z : ℕ). n * z) (sym (ap (λ (z : ℕ). 2 ^ z) (low-back l k hk)) ∙ pow-add 2 (l - k) k) ∙ sym (mul_assoc n (2 ^ (l - k)) (2 ^ k)))
  where
    room : (j : ℕ) → j ≤ low binary64 → 53 + j ≤ low binary64 + 1024
    room j h = omega arith

lt_one : (k n : ℕ) (x : Float) → HasValue x false n (2 ^ k) → n < 2 ^ k → lt x (fin false 1 (pos 0)) ≡ true
unfolding lt
lt_one k n nan v h = elim v [ ]
lt_one k n (inf s) v h = elim v [ ]
lt_one k n (fin true m e) v h = absurd (false≢true (sym v.0))
lt_one k n (fin false m e) v h =
    lt-ltb (m * up e * 1) (1 * 1 * down e)
    (subst (λ (z : ℕ). z < 1 * 1 * down e) (sym (mul-one (m * up e)))
    (lt_of_mul-lt-mul_right (2 ^ k)
    (subst (λ (z : ℕ). z < 1 * 1 * down e * 2 ^ k) (sym v.1)
    (subst (λ (z : ℕ). n * down e < z) (simp (one-mul, mul_comm)) (mul-lt-mul_of_pos_right h (down_pos e))))))

-- ---- at 2 ^ 16

is_power : double 65536 ≡ power 16
unfolding of_int round
is_power = refl

is_one : double 1 ≡ power 0
unfolding of_int round
is_one = refl

below : (n : ℕ) → n < 65536 → n < 2 ^ 53
below n h = omega arith

-- as a double it counts whole numbers up to 2 ^ 53 one by one
back_whole : (n : ℕ) → n < 65536 → to_unsigned 16 (double n) ≡ n
unfolding in_float
back_whole n h = (unsigned_back binary64 16 n (le→leb n (2 ^ 53) (le_of_lt (below n h))) h).1

rounded : (n : ℕ) → round binary64 false n 1 ≡ double n
unfolding of_int
rounded n = refl

pub fraction_is : (n : ℕ) → n < 65536 → Fraction n (fraction_of n)
fraction_is n h =
    let x : fraction_of n ≡ round binary64 false n 65536 = ap (div binary64 (double n)) is_power ∙ div_power 16 n (double n) (whole_value n (below n h)) in
    let value : HasValue (fraction_of n) false n 65536 = subst (λ (y : Float). HasValue y false n 65536) (sym x) (power_exact 16 n (omega arith) (below n h)) in
    let back : times (fraction_of n) ≡ double n = ap (mul binary64 (fraction_of n)) is_power ∙ mul_power 16 n (fraction_of n) value ∙ rounded n in
    record {
      quotient = refl;
      exact = value;
      below_one = ap (lt (fraction_of n)) is_one ∙ lt_one 16 n (fraction_of n) value h;
      times_back = back;
      as_whole = ap (to_unsigned 16) back ∙ back_whole n h;
    }

-- a number that is the cast of a double times 65,536 is the progress back
pub cast_back : (x : Float) (n : ℕ) → n ≡ to_unsigned 16 (times x) → ProgressBack x n
cast_back x n e = record { cast = e; exactly = λ p h f. e ∙ ap (λ (z : Float). to_unsigned 16 (times z)) f ∙ (fraction_is p h).as_whole }
