-- What the makers' promises come to for a block of twelve zeros.
use mathlib.Core.Path.{◌≡◌, refl, ap}
use mathlib.Core.Bool.{Bool, true, false}
use mathlib.Core.List.{List, [], ◌++◌}
use Prim.Native.Nat.{ℕ, zero, suc, ◌-◌}
use lib.ListN.{length, drop}
use lib.Dec.{leb}
use native.Mathlib.Omega.{arith}
use Rattle.basics.specs.Bytes.{if, bytes32}
use Rattle.mmc.specs.Refusals.{Outcome, pass, refuse, value_or, answer_of, buffer_of, outcome_of, Fills}
use Rattle.mmc.specs.Commands.{send_cue_sheet, write_range, write_bytes, write_command, close_track_session}
use Rattle.mmc.specs.Sheet.{sheet_bytes, sheet_size}
use Rattle.mmc.specs.declared.units.BlockAddress.{BlockAddress}
use Rattle.mmc.specs.declared.refusals.Refusal.{Refusal}
use Rattle.std.specs.declared.result.Result.{Result}
use Rattle.std.specs.declared.result.Result.TheVariants.{Ok, Err}
use Rattle.basics.proofs.Lists.{zeros}
use Rattle.recorder.specs.declared.script.Op.{Op}
use Rattle.recorder.specs.declared.script.Op.TheVariants.{GetConfiguration, ReadDiscInformation, ReadTrackInformation, ModeSelect, SendCueSheet, Write, SynchronizeCache, CloseTrack, CloseSession, Blank, TestUnitReady, RequestSense}
use Rattle.recorder.specs.Answers.{made_by, cdb_of}

-- ---- every maker makes at most twelve bytes, if it makes any

abbrev pub Short : Outcome (List ℕ) → Type 0
Short (pass b) = leb (length b) 12 ≡ true
Short (refuse n) = Unit {0}

short_if : (t : Bool) (b : List ℕ) → leb (length b) 12 ≡ true → Short (if t (pass b) (refuse 15))
short_if true b e = e
short_if false b e = tt

pub short : (immed : Bool) (n : ℕ) (a : BlockAddress) (x : Op) → Short (made_by immed n a x)
unfolding bytes32 send_cue_sheet write_bytes write_command close_track_session
short immed n a GetConfiguration = refl
short immed n a ReadDiscInformation = refl
short immed n a (ReadTrackInformation t) = refl
short immed n a (ModeSelect t) = refl
short immed n a SendCueSheet = short_if (sheet_size (sheet_bytes n)) _ refl
short immed n a (Write t f k) = short_if (write_range a k) _ refl
short immed n a (SynchronizeCache t) = refl
short immed n a (CloseTrack t) = refl
short immed n a CloseSession = refl
short immed n a Blank = refl
short immed n a TestUnitReady = refl
short immed n a RequestSense = refl

-- ---- so they fit into twelve zeros, and leave the last ones

drop_zeros : (k n : ℕ) → drop k (zeros n) ≡ zeros (n - k)
drop_zeros zero n = let e : n - 0 ≡ n = omega arith in rw e
drop_zeros (suc k) zero = let e : 0 - suc k ≡ 0 = omega arith in rw e
drop_zeros (suc k) (suc n) = let e : suc n - suc k ≡ n - k = omega arith in rw e (drop_zeros k n)

module _ {after : List ℕ} where
  pub filled : (q : Outcome (List ℕ)) {m : Result ℕ Refusal} (n : ℕ) → Short q → m ≡ Ok n → Fills q m (zeros 12) after → record { bytes = after; length = n } ≡ cdb_of (value_or [] q)
  unfolding answer_of buffer_of cdb_of
  filled (pass b) n t e f =
      let a : n ≡ length b = cc (ap outcome_of e, rw t at f.answer) in
      let w : after ≡ b ++ drop (length b) (zeros 12) = rw t at f.buffer in
      rw (a, w, drop_zeros (length b) 12)
  filled (refuse k) n t e f = cc (ap outcome_of e)

  pub unfilled : (q : Outcome (List ℕ)) {m : Result ℕ Refusal} (r : Refusal) → Short q → m ≡ Err r → Fills q m (zeros 12) after → cdb_of [] ≡ cdb_of (value_or [] q)
  unfolding answer_of buffer_of
  unfilled (pass b) r t e f = cc (ap outcome_of e, rw t at f.answer)
  unfilled (refuse k) r t e f = refl
