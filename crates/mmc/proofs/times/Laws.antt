-- Addresses and times, both ways. Assumes nothing.
use Prim.Native.Nat.{ℕ, suc, ◌+◌, ◌-◌, ◌<◌, ◌≤◌}
use native.Mathlib.Omega.{arith}
use native.Mathlib.Decide.{dec_lt}
use mathlib.Core.Path.{◌≡◌, sym, ap, ◌∙◌}
use mathlib.Core.Bool.{Bool, true, false, ◌&&◌}
use mathlib.Core.Logic.{⊎_elim}
use lib.IntN.{ℤ, pos, negsuc, ◌+ℤ◌, ◌-ℤ◌, nat_abs, +ℤ-neg_ℤ_cancel, -ℤ-+ℤ_cancel}
use lib.Dec.{leb}
use borrow.Author.Tests.{le-leb, lt-leb, leb-true, leb-false, lt-ltb}
use lib.Signed.{le_z}
use Rattle.mmc.specs.Times.{first_address, last_address, all_frames, lead_in_minute, lead_in_frames, in_range, has_time, frames_to, address_at, time_frames, address_at_time, clock, is_time, frames_of, time_at, time_of, address_of}
use Rattle.std.proofs.lemmas.Bool.{and_parts}
use Rattle.basics.proofs.Tests.{known}
use Rattle.mmc.specs.Refusals.{pass}
use Rattle.basics.proofs.Signed.{less}
use Rattle.mmc.proofs.times.Signed.{frames, range_time, time_range, in_program, in_lead_in, few_frames, deepest, early_frames, before_90, from_90}
use Rattle.mmc.specs.declared.units.BlockAddress.{BlockAddress}
use Rattle.mmc.specs.declared.units.FrameCount.{FrameCount}
use Rattle.mmc.specs.declared.times.Time.{Time}

time_parts : (t : Time) → is_time t ≡ true → (t.minute ≤ 99) × (t.second ≤ 59) × (t.frame ≤ 74)
unfolding is_time
time_parts t h =
    let w = and_parts (leb t.minute _) (leb t.second _ && leb t.frame _) h in
    let v = and_parts (leb t.second _) (leb t.frame _) w.1 in
    (omega (arith, leb-true t.minute _ w.0), omega (arith, leb-true t.second _ v.0), omega (arith, leb-true t.frame _ v.1))

-- a count of frames as a time, and back
count_back : (f : FrameCount) → frames_of (clock f) ≡ f
count_back f =
    let e : (frames_of (clock f)).0 ≡ f.0 = omega arith in
    simp e

clock_is_time : (f : FrameCount) → f.0 < all_frames → is_time (clock f) ≡ true
unfolding is_time
clock_is_time f h = all (le-leb (clock f).minute _ (omega arith)) (le-leb (clock f).second _ (omega arith)) (le-leb (clock f).frame _ (omega arith))
  where
    all : {a b c : Bool} → a ≡ true → b ≡ true → c ≡ true → (a && (b && c)) ≡ true
    all x y z = simp (x, y, z)

clock_back : (t : Time) → is_time t ≡ true → clock (frames_of t) ≡ t
clock_back t h =
    let w = time_parts t h in
    let m : (clock (frames_of t)).minute ≡ t.minute = omega (arith, w) in
    let s : (clock (frames_of t)).second ≡ t.second = omega (arith, w) in
    let a : (clock (frames_of t)).minute + (clock (frames_of t)).second + (clock (frames_of t)).frame ≡ t.minute + t.second + t.frame = simp (m, s) (omega (arith, w)) in
    same (clock (frames_of t)) t m s a
  where
    same : (t u : Time) → t.minute ≡ u.minute → t.second ≡ u.second → t.minute + t.second + t.frame ≡ u.minute + u.second + u.frame → t ≡ u
    same t u m s a = let f : t.frame ≡ u.frame = omega (arith, m, s, a) in rw (m, s, f)

frames_small : (t : Time) → is_time t ≡ true → (frames_of t).0 < all_frames
frames_small t h = omega (arith, time_parts t h)

-- in the program area, an address as a count of frames, and back
address_back : (a : BlockAddress) → in_range a ≡ true → address_at (frames_to a) ≡ a
unfolding address_at
address_back a h =
    ap (λ (x : ℤ). record { 0 = x }) (ap (λ (x : ℤ). x -ℤ pos 150) (sym (frames a h).0) ∙ +ℤ-neg_ℤ_cancel a.0 (pos 150))

frames_back : (f : FrameCount) → frames_to (address_at f) ≡ f
unfolding frames_to address_at
frames_back f = ap (λ (x : ℤ). record { 0 = nat_abs x }) (-ℤ-+ℤ_cancel (pos f.0) (pos 150))

-- the count lies before minute 90, or from there on
early : (f : FrameCount) → f.0 < early_frames → leb lead_in_minute (clock f).minute ≡ false
early f h = lt-leb lead_in_minute (clock f).minute (omega arith)

late : (f : FrameCount) → early_frames ≤ f.0 → leb lead_in_minute (clock f).minute ≡ true
late f h = le-leb lead_in_minute (clock f).minute (omega arith)

-- in the lead-in, the address at a count of frames
abbrev lead_in_at : FrameCount → BlockAddress
lead_in_at f = record { 0 = pos f.0 -ℤ pos lead_in_frames }

-- an address that has a time comes back from it
time_back : (a : BlockAddress) → has_time a ≡ true → address_at_time (time_at a) ≡ a
unfolding address_at_time
time_back a h =
    known (le_z first_address a.0)
    (λ l. let r = time_range a h l in rw (in_program a l) (simp (early (frames_to a) (before_90 a r), count_back, address_back a r)))
    (λ l.
    let w = in_lead_in a h l in
    let e : lead_in_at (time_frames a) ≡ a = ap (λ (x : ℤ). record { 0 = x }) (ap (λ (x : ℤ). x -ℤ pos lead_in_frames) (sym w.0) ∙ +ℤ-neg_ℤ_cancel a.0 (pos lead_in_frames)) in
    simp (late (time_frames a) (from_90 a h l)) (ap lead_in_at (count_back (time_frames a)) ∙ e))

-- the address at a count of frames has a time, which is as many frames: before minute 90, and from there on
abbrev Found : BlockAddress → FrameCount → Type 0
Found a f = (has_time a ≡ true) × (time_frames a ≡ f)

before : (f : FrameCount) → f.0 < early_frames → (in_range (address_at f) ≡ true) × (le_z first_address (address_at f).0 ≡ true)
unfolding in_range address_at
before f h =
    ⊎_elim
    (λ w. let l = le-leb (150 - suc f.0) 149 (omega arith) in (simp (w.1, l), simp (w.1, l)))
    (λ w. (simp (w.1, le-leb (f.0 - 150) last_address (omega arith)), simp w.1))
    (less f.0 149 (dec_lt f.0 150))

in_minutes_0 : (f : FrameCount) → f.0 < early_frames → Found (address_at f) f
in_minutes_0 f h = let w = before f h in (range_time (address_at f) w.0, in_program (address_at f) w.1 ∙ frames_back f)

in_minutes_90 : (f : FrameCount) → early_frames ≤ f.0 → f.0 < all_frames → Found (lead_in_at f) f
unfolding has_time time_frames
in_minutes_90 f l h =
    let n : ℕ = lead_in_frames - suc f.0 in
    let e : pos f.0 -ℤ pos lead_in_frames ≡ negsuc n = simp (lt-ltb f.0 lead_in_frames (omega arith)) in
    let s : pos f.0 -ℤ pos lead_in_frames +ℤ pos lead_in_frames ≡ pos f.0 = -ℤ-+ℤ_cancel (pos f.0) (pos lead_in_frames) in
    let q : le_z first_address (pos f.0 -ℤ pos lead_in_frames) ≡ false = rw e (lt-leb n 149 (omega arith)) in
    (rw e (simp (le-leb n deepest (omega arith))), simp q (ap (λ (x : ℤ). record { 0 = nat_abs x }) s))

found : (t : Time) → is_time t ≡ true → Found (address_at_time t) (frames_of t)
unfolding address_at_time
found t h =
    let w = time_parts t h in
    known (leb lead_in_minute t.minute)
    (λ e. let l = leb-true lead_in_minute t.minute e in simp e (in_minutes_90 (frames_of t) (omega (arith, l)) (frames_small t h)))
    (λ e. let l = leb-false lead_in_minute t.minute e in simp e (in_minutes_0 (frames_of t) (omega (arith, l, w))))

-- an address that has a time is that time's
pub stands : (a : BlockAddress) → has_time a ≡ true → address_of (time_at a) ≡ pass a
unfolding address_of
stands a h = simp (clock_is_time (time_frames a) (few_frames a h), time_back a h)

there : (a : BlockAddress) → has_time a ≡ true → (t : Time) × (time_of a ≡ pass t) × (address_of t ≡ pass a)
unfolding time_of
there a h = (time_at a, simp h, stands a h)

-- a time has an address, whose time it is
back : (t : Time) → is_time t ≡ true → (a : BlockAddress) × (address_of t ≡ pass a) × (time_of a ≡ pass t)
unfolding time_of address_of
back t h = let w = found t h in (address_at_time t, simp h, simp (w.0, w.1, clock_back t h))

-- both ways: t is the time of a just where a is the address of t
pub time_address : (a : BlockAddress) (t : Time) → time_of a ≡ pass t → address_of t ≡ pass a
unfolding time_of
time_address a t e =
    known (has_time a)
    (λ h. let w = there a h in let x : t ≡ w.0 = cc in rw x w.2)
    (λ h. let r = simp h at e in cc)

pub address_time : (a : BlockAddress) (t : Time) → address_of t ≡ pass a → time_of a ≡ pass t
unfolding address_of
address_time a t e =
    known (is_time t)
    (λ h. let w = back t h in let x : a ≡ w.0 = cc in rw x w.2)
    (λ h. let r = simp h at e in cc)
