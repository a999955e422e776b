-- Every refusal bears a number, so a fault of 0 is none.
use mathlib.Core.Path.{◌≡◌, refl}
use mathlib.Core.Bool.{Bool, true, false}
use mathlib.Core.List.{List}
use Prim.Native.Nat.{ℕ}
use native.Mathlib.Omega.{arith}
use lib.Dec.{eqb}
use Rattle.std.specs.Prelude.{Result, Err}
use borrow.Author.Tests.{eqb-true}
use Rattle.basics.specs.Bytes.{if}
use Rattle.mmc.specs.Refusals.{Outcome, pass, refuse, unless, number_of, answer_of, buffer_of, Fills}
use Rattle.mmc.specs.declared.refusals.Refusal.{Refusal}
use Rattle.mmc.specs.declared.refusals.Refusal.TheVariants.{BlockLength, BlockCheck, FieldValue, ReplyForm, Profile, DiscStatus, TrackInformation, MixedOrKept, ShortTrack, NoRoom, ShortBuffer, DriveFailed, JobEnded, NoCueSheet, OutOfRange, NotErasable, AudioInTao}

pub numbered : (r : Refusal) → eqb (number_of r) 0 ≡ false
numbered BlockLength = refl
numbered BlockCheck = refl
numbered FieldValue = refl
numbered ReplyForm = refl
numbered Profile = refl
numbered DiscStatus = refl
numbered TrackInformation = refl
numbered MixedOrKept = refl
numbered ShortTrack = refl
numbered NoRoom = refl
numbered ShortBuffer = refl
numbered DriveFailed = refl
numbered JobEnded = refl
numbered NoCueSheet = refl
numbered OutOfRange = refl
numbered NotErasable = refl
numbered AudioInTao = refl

-- what a maker promises of some bytes, it promises of all that are equal
pub fills_of : {x y : Outcome (List ℕ)} {r : Result ℕ Refusal} {before after : List ℕ} → y ≡ x → Fills x r before after → Fills y r before after
fills_of {r = r} {before = before} {after = after} e f = rw e f

-- a maker that refuses leaves the buffer as it was
pub fills_not : {y : Outcome (List ℕ)} (r : Refusal) (d : List ℕ) → y ≡ refuse (number_of r) → Fills y (Err r) d d
unfolding answer_of buffer_of
fills_not r d e = rw e (record { answer = refl; buffer = refl })

-- what has a value has no fault, and that is its value
pub without_fault : {A : Type 0} (f : ℕ) (a b : A) → unless f a ≡ pass b → (f ≡ 0) × (a ≡ b)
without_fault f a b e = by (eqb f 0) refl e
  where
    by : (t : Bool) → eqb f 0 ≡ t → if t (pass a) (refuse f) ≡ pass b → (f ≡ 0) × (a ≡ b)
    by true z h = (eqb-true f 0 z, cc)
    by false z h = absurd (let y : ◌≡◌ {A = ℕ} 0 1 = cc in omega arith)
