-- The division is linear: what stands below the bits that are worked off only moves up.
use mathlib.Core.Path.{◌≡◌, refl, sym, ap, ap₂, ◌∙◌}
use mathlib.Core.Bool.{Bool, true, false}
use Prim.Native.Nat.{ℕ, zero, suc, ◌+◌, ◌*◌, ◌/◌, ◌%◌, ◌<◌}
use native.Mathlib.Nat.{add-zero}
use native.Mathlib.Omega.{arith}
use lib.Arith.{bin_ind}
use lib.Bits.{bit_xor, xor_block, xor_shr, xor_mod, xor_shifted, xor_zero_r, xor_comm, xor_lt}
use lib.Dec.{leb}
use borrow.Author.Tests.{le-leb, lt-leb, leb-true, leb-false}
use Rattle.basics.specs.Bytes.{if}
use Rattle.basics.proofs.Tests.{known}
use Rattle.cdtext.specs.Check.{bit_step, eight_bits, byte_in}

-- ---- laws of bit_xor

-- on single digits
bits : (x y z : ℕ) → x < 2 → y < 2 → z < 2 → bit_xor (bit_xor x y) z ≡ bit_xor x (bit_xor y z)
bits zero y z hx hy hz = refl
bits (suc zero) zero z hx hy hz = refl
bits (suc zero) (suc zero) zero hx hy hz = refl
bits (suc zero) (suc zero) (suc zero) hx hy hz = refl
bits (suc zero) (suc zero) (suc (suc z)) hx hy hz = absurd (omega arith)
bits (suc zero) (suc (suc y)) z hx hy hz = absurd (omega arith)
bits (suc (suc x)) y z hx hy hz = absurd (omega arith)

same_digits : (a b : ℕ) → a / 2 ≡ b / 2 → a % 2 ≡ b % 2 → a ≡ b
same_digits a b h l = omega arith

pub xor_assoc : (a b c : ℕ) → bit_xor (bit_xor a b) c ≡ bit_xor a (bit_xor b c)
xor_assoc =
    bin_ind (λ (n : ℕ). (b c : ℕ) → bit_xor (bit_xor n b) c ≡ bit_xor n (bit_xor b c)) (λ b c. refl)
    (λ n ih b c.
    same_digits (bit_xor (bit_xor n b) c) (bit_xor n (bit_xor b c))
    (rw (xor_shr (bit_xor n b) c 1, xor_shr n b 1, xor_shr n (bit_xor b c) 1, xor_shr b c 1) (ih (b / 2) (c / 2)))
    (rw (xor_mod (bit_xor n b) c 1, xor_mod n b 1, xor_mod n (bit_xor b c) 1, xor_mod b c 1)
    (bits (n % 2) (b % 2) (c % 2) (omega arith) (omega arith) (omega arith))))

-- ---- one bit of the division, and eight

twice_xor : (a b : ℕ) → bit_xor a b * 2 ≡ bit_xor (a * 2) (b * 2)
twice_xor a b =
    same_digits (bit_xor a b * 2) (bit_xor (a * 2) (b * 2))
    (rw (xor_shr (a * 2) (b * 2) 1, half a, half b, half (bit_xor a b)))
    (rw (xor_mod (a * 2) (b * 2) 1, even a, even b, even (bit_xor a b)))
  where
    half : (n : ℕ) → n * 2 / 2 ≡ n
    half n = omega arith

    even : (n : ℕ) → n * 2 % 2 ≡ 0
    even n = omega arith

-- the move up by one place
up : (c m : ℕ) → m < 0x8000 → bit_xor c m * 2 % 65536 ≡ bit_xor (c * 2 % 65536) (m * 2)
up c m h =
    let e : m * 2 % 65536 ≡ m * 2 = omega arith in
    rw (twice_xor c m, xor_mod (c * 2) (m * 2) 16, e)

-- the bit that moves out
top : (c m : ℕ) → m < 0x8000 → leb 0x8000 (bit_xor c m) ≡ leb 0x8000 c
top c m h =
    let e : m / 0x8000 ≡ 0 = omega arith in
    same_top (bit_xor c m) c (rw (xor_shr c m 15, e, xor_zero_r (c / 0x8000)))
  where
    same_top : (a b : ℕ) → a / 0x8000 ≡ b / 0x8000 → leb 0x8000 a ≡ leb 0x8000 b
    same_top a b e =
        known (leb 0x8000 b) (λ t. le-leb 0x8000 a (omega (arith, leb-true 0x8000 b t)) ∙ sym t)
        (λ t. lt-leb 0x8000 a (omega (arith, leb-false 0x8000 b t)) ∙ sym t)

-- one bit is worked off, and m has none to move out
step : (c m : ℕ) → m < 0x8000 → bit_step (bit_xor c m) ≡ bit_xor (bit_step c) (m * 2)
unfolding bit_step
step c m h = rw (top c m h, up c m h) (either (leb 0x8000 c) (c * 2 % 65536) (m * 2))
  where
    either : (t : Bool) (u v : ℕ) → if t (bit_xor 0x1021 (bit_xor u v)) (bit_xor u v) ≡ bit_xor (if t (bit_xor 0x1021 u) u) v
    either true u v = sym (xor_assoc 0x1021 u v)
    either false u v = refl

two : (c m : ℕ) → m < 16384 → bit_step (bit_step (bit_xor c m)) ≡ bit_xor (bit_step (bit_step c)) (m * 4)
two c m h =
    let e : m * 2 * 2 ≡ m * 4 = omega arith in
    ap bit_step (step c m (omega arith)) ∙ step (bit_step c) (m * 2) (omega arith) ∙ ap (bit_xor (bit_step (bit_step c))) e

abbrev four_bits : ℕ → ℕ
four_bits c = bit_step (bit_step (bit_step (bit_step c)))

four : (c m : ℕ) → m < 4096 → four_bits (bit_xor c m) ≡ bit_xor (four_bits c) (m * 16)
four c m h =
    let e : m * 4 * 4 ≡ m * 16 = omega arith in
    ap (λ (x : ℕ). bit_step (bit_step x)) (two c m (omega arith))
    ∙ two (bit_step (bit_step c)) (m * 4) (omega arith)
    ∙ ap (bit_xor (four_bits c)) e

eight : (c m : ℕ) → m < 256 → eight_bits (bit_xor c m) ≡ bit_xor (eight_bits c) (m * 256)
eight c m h =
    let e : m * 16 * 16 ≡ m * 256 = omega arith in
    ap four_bits (four c m (omega arith)) ∙ four (four_bits c) (m * 16) (omega arith) ∙ ap (bit_xor (eight_bits c)) e

-- a byte that comes in meets the high byte
at_top : (r x : ℕ) → bit_xor r (x * 256) ≡ bit_xor (bit_xor (r / 256) x * 256) (r % 256)
at_top r x =
    let e : r / 256 * 256 + r % 256 ≡ r = omega arith in
    let h : r % 256 < 256 = omega arith in
    let t = bit_xor (r / 256) x in
    ap₂ bit_xor (sym e) (sym (add-zero (x * 256)))
    ∙ xor_block 8 (r / 256) x (r % 256) 0 h (omega arith)
    ∙ ap (λ (l : ℕ). t * 256 + l) (xor_zero_r (r % 256))
    ∙ sym (xor_shifted t 8 (r % 256) h)

-- the high byte is worked off with the byte that came in, and the low byte moves up
pub byte_law : (r x : ℕ) → byte_in r x ≡ bit_xor (r * 256 % 65536) (eight_bits (bit_xor (r / 256) x * 256))
byte_law r x =
    let t = bit_xor (r / 256) x * 256 in
    let e : r % 256 * 256 ≡ r * 256 % 65536 = omega arith in
    ap eight_bits (at_top r x) ∙ eight t (r % 256) (omega arith) ∙ xor_comm (eight_bits t) (r % 256 * 256) ∙ rw e

-- a remainder has 16 bits
pub step_lt : (r : ℕ) → bit_step r < 65536
unfolding bit_step
step_lt r = either (leb 0x8000 r) (r * 2 % 65536) (omega arith)
  where
    either : (t : Bool) (u : ℕ) → u < 65536 → if t (bit_xor 0x1021 u) u < 65536
    either true u h = xor_lt 16 0x1021 u (omega arith) h
    either false u h = h
