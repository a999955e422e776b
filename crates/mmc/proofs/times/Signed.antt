-- The facts on signed addresses that the proofs cite. Assumes nothing.
use Prim.Native.Nat.{ℕ, suc, ◌-◌, ◌*◌, ◌<◌, ◌≤◌, ◌^◌, ◌%◌}
use native.Mathlib.Omega.{arith}
use native.Mathlib.Decide.{dec_lt}
use mathlib.Core.Path.{◌≡◌, refl, sym, ap, ◌∙◌}
use mathlib.Core.Bool.{true, false, ◌&&◌}
use mathlib.Core.Logic.{◌⊎◌, inl, inr, ⊎_elim}
use lib.IntN.{ℤ, pos, negsuc, ◌+ℤ◌, nat_abs, sub_ℕ}
use lib.Signed.{le_z}
use borrow.Author.Tests.{le-ltb, lt-ltb, leb-true, leb-false, le-leb}
use mir.Syntax.{w64}
use mir.Val.{SFits, to_z, of_z}
use mir.Facts.{to_z_pos, to_z-of_z}
use Rattle.mmc.specs.Commands.{twos}
use Rattle.mmc.specs.Times.{last_address, first_address, all_frames, lead_in_address, lead_in_minute, lead_in_frames, in_range, has_time, frames_to, time_frames}
use Rattle.std.proofs.lemmas.Bool.{and_parts, false≢true}
use Rattle.basics.proofs.Tests.{known}
use Rattle.mmc.specs.declared.units.BlockAddress.{BlockAddress}

-- an address in range is a number from 0 on or one of -150 to -1
sorted : (z : ℤ) → le_z (negsuc 149) z && le_z z (pos last_address) ≡ true → ((n : ℕ) × (z ≡ pos n) × (n ≤ last_address)) ⊎ ((n : ℕ) × (z ≡ negsuc n) × (n ≤ 149))
sorted (pos n) h = inl (n, refl, leb-true n last_address h)
sorted (negsuc n) h = inr (n, refl, leb-true n 149 (and_parts (le_z (negsuc 149) (negsuc n)) true h).0)

-- k - (n + 1), where that is no less than 0
minus : (k n : ℕ) → n < k → sub_ℕ k (suc n) ≡ pos (k - suc n)
minus k n h = simp (le-ltb k (suc n) h)

-- the frames to an address in range
pub frames : (a : BlockAddress) → in_range a ≡ true → (a.0 +ℤ pos 150 ≡ pos (frames_to a).0) × ((frames_to a).0 < all_frames)
unfolding in_range frames_to
frames a h =
    ⊎_elim
    (λ w. rw w.1 (refl, omega arith))
    (λ w. rw w.1 (let e = minus 150 w.0 (omega arith) in (e ∙ ap (λ (x : ℤ). pos (nat_abs x)) (sym e), rw e (omega arith))))
    (sorted a.0 h)

-- how far below -1 the lead-in begins
abbrev pub deepest : ℕ
deepest = nat_abs lead_in_address - 1

-- the program area has times
pub range_time : (a : BlockAddress) → in_range a ≡ true → has_time a ≡ true
unfolding in_range has_time
range_time a h =
    ⊎_elim
    (λ w. rw w.1 (le-leb w.0 last_address w.2))
    (λ w. rw w.1 (simp (le-leb w.0 deepest (omega arith))))
    (sorted a.0 h)

-- an address that has a time lies there, where it is no lower than -150
pub time_range : (a : BlockAddress) → has_time a ≡ true → le_z first_address a.0 ≡ true → in_range a ≡ true
unfolding in_range has_time
time_range a h l = simp (l, (and_parts (le_z lead_in_address a.0) (le_z a.0 (pos last_address)) h).1)

-- and else in the lead-in, -45,150 to -151
below : (z : ℤ) → le_z lead_in_address z && le_z z (pos last_address) ≡ true → le_z first_address z ≡ false → (n : ℕ) × (z ≡ negsuc n) × (149 < n) × (n ≤ deepest)
below (pos n) h l = absurd (false≢true (sym l))
below (negsuc n) h l = (n, refl, leb-false n 149 l, leb-true n deepest (and_parts (le_z lead_in_address (negsuc n)) true h).0)

-- in the program area a time is the old sum, of minutes 0 to 89
pub in_program : (a : BlockAddress) → le_z first_address a.0 ≡ true → time_frames a ≡ frames_to a
unfolding time_frames
in_program a l = simp l

-- in the lead-in it is so many frames ahead
ahead : (z : ℤ) (n : ℕ) → z ≡ negsuc n → n < lead_in_frames → z +ℤ pos lead_in_frames ≡ pos (lead_in_frames - suc n)
ahead z n e h = rw e (minus lead_in_frames n h)

pub in_lead_in : (a : BlockAddress) → has_time a ≡ true → le_z first_address a.0 ≡ false → (a.0 +ℤ pos lead_in_frames ≡ pos (time_frames a).0) × ((time_frames a).0 < all_frames)
unfolding has_time time_frames
in_lead_in a h l =
    let w = below a.0 h l in
    let e : a.0 +ℤ pos lead_in_frames ≡ pos (lead_in_frames - suc w.0) = ahead a.0 w.0 w.1 (omega arith) in
    let f : (time_frames a).0 ≡ lead_in_frames - suc w.0 = simp l (ap nat_abs e) in
    (e ∙ ap pos (sym f), omega arith)

-- what an address with a time has, by the area that it lies in
pub ruleset by_area = (time_range, in_program, in_lead_in)

-- an address with a time has it before minute 100
pub few_frames : (a : BlockAddress) → has_time a ≡ true → (time_frames a).0 < all_frames
few_frames a h =
    known (le_z first_address a.0)
    (λ l. rw (in_program a l) (omega (arith, (frames a (time_range a h l)).1)))
    (λ l. (in_lead_in a h l).1)

-- the frames before minute 90
abbrev pub early_frames : ℕ
early_frames = lead_in_minute * 60 * 75

-- the program area ends before minute 90, and the lead-in begins there
pub before_90 : (a : BlockAddress) → in_range a ≡ true → (frames_to a).0 < early_frames
unfolding in_range frames_to
before_90 a h =
    ⊎_elim
    (λ w. rw w.1 (omega arith))
    (λ w. rw (w.1, minus 150 w.0 (omega arith)) (omega arith))
    (sorted a.0 h)

pub from_90 : (a : BlockAddress) → has_time a ≡ true → le_z first_address a.0 ≡ false → early_frames ≤ (time_frames a).0
unfolding has_time time_frames
from_90 a h l =
    let w = below a.0 h l in
    let f : (time_frames a).0 ≡ lead_in_frames - suc w.0 = simp l (ap nat_abs (ahead a.0 w.0 w.1 (omega arith))) in
    omega arith

-- an address in range with 2 ^ 32 added: its remainder by 2 ^ 32 is the address in two's complement
abbrev pub raised : ℤ → ℕ
raised z = nat_abs (z +ℤ pos 4294967296)

pub raise : (a : BlockAddress) → in_range a ≡ true → (a.0 +ℤ pos 4294967296 ≡ pos (raised a.0)) × (raised a.0 < 2 ^ 33) × (raised a.0 % 4294967296 ≡ twos a.0)
unfolding in_range
raise a h =
    ⊎_elim
    (λ w. rw w.1 (refl, omega arith, omega arith))
    (λ w. rw w.1 (let e = minus 4294967296 w.0 (omega arith) in (e ∙ ap (λ (x : ℤ). pos (nat_abs x)) (sym e), rw e (omega arith), rw e (omega arith))))
    (sorted a.0 h)

-- an address in range with a length added fits
pub plus_fits : (a : BlockAddress) (k : ℕ) → in_range a ≡ true → k < 2 ^ 32 → SFits w64 (a.0 +ℤ pos k)
unfolding in_range
plus_fits a k h l =
    ⊎_elim
    (λ w. rw w.1 (record { sfits = omega arith }))
    (λ w. rw w.1 (from w.0 w.2 (dec_lt w.0 k)))
    (sorted a.0 h)
  where
    from : (n : ℕ) → n ≤ 149 → Dec (n < k) → SFits w64 (negsuc n +ℤ pos k)
    from n s (yes g) = rw (minus k n g) (record { sfits = omega arith })
    from n s (no g) = let e : sub_ℕ k (suc n) ≡ negsuc (suc n - suc k) = simp (lt-ltb k (suc n) (omega arith)) in rw e (record { sfits = omega arith })

-- and the sum is what the machine makes
pub plus_is : (a : BlockAddress) (k : ℕ) → SFits w64 a.0 → in_range a ≡ true → k < 2 ^ 32
    → to_z w64 (of_z w64 (to_z w64 (of_z w64 a.0) +ℤ to_z w64 k)) ≡ a.0 +ℤ pos k
plus_is a k s h l =
    let back : to_z w64 k ≡ pos k = to_z_pos w64 (omega (arith, l)) in
    rw (to_z-of_z s, back, to_z-of_z (plus_fits a k h l)) refl
