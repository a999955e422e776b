-- What of the script comes behind an operation, and that the operation after it, as the job finds it, is the first of that.
use mathlib.Core.Path.{◌≡◌, refl, ap, ◌∙◌}
use mathlib.Core.Bool.{Bool, true, false}
use mathlib.Core.List.{List, [], ◌∷◌, ◌++◌}
use Prim.Native.Nat.{ℕ, suc, ◌+◌, ◌-◌, ◌≤◌, ◌<◌}
use native.Mathlib.Omega.{arith}
use borrow.Author.Tests.{ltb-true, ltb-false}
use lib.Dec.{ltb}
use lib.ListN.{length, get_or, drop, drop_of_length-le, length-take}
use lib.Seq.{get_or-take, drop-cons}
use Rattle.basics.specs.Bytes.{if}
use Rattle.mmc.specs.Order.{most_tracks, no_track, tracks_in, valid_order}
use Rattle.mmc.specs.declared.units.TrackNumber.{TrackNumber}
use Rattle.mmc.specs.declared.order.Order.{Order}
use Rattle.mmc.specs.declared.order.Track.{Track}
use Rattle.mmc.specs.declared.order.Method.{Method}
use Rattle.mmc.specs.declared.order.Method.TheVariants.{Tao, Sao}
use Rattle.mmc.specs.declared.order.Recipe.{Recipe}
use Rattle.mmc.specs.declared.order.Recipe.TheVariants.{Old, New}
use Rattle.recorder.specs.declared.script.Op.{Op}
use Rattle.recorder.specs.declared.script.Op.TheVariants.{GetConfiguration, ReadDiscInformation, ReadTrackInformation, ModeSelect, SendCueSheet, Write, SynchronizeCache, CloseTrack, CloseSession, Blank, TestUnitReady, RequestSense}
use Rattle.std.specs.declared.option.Option.{Option}
use Rattle.std.specs.declared.option.Option.TheVariants.{Some, None}
use Rattle.recorder.specs.Script.{write, portion, writes_for, writes, writes_from, before_tracks, close_by, track_by, each_track, script}
use Rattle.recorder.specs.Places.{piece_ended, before_block, after_track, after_synchronize, piece_of, after_in}
use Rattle.recorder.proofs.Scripts.{by}

-- an order as it is read
pub record Sized (o : Order) : Type 0 where
  pub some : 1 ≤ o.count
  pub few : o.count ≤ most_tracks
  pub rows : length o.tracks ≡ most_tracks
  pub all : length (tracks_in o) ≡ o.count
  pub valid : valid_order o ≡ true

-- ---- the parts of the script that are left

-- the tracks after the first t, and the end
abbrev pub tracks_from : Order → ℕ → List Op
tracks_from o t = each_track o t (drop t (tracks_in o))

-- after the piece t
abbrev tail_by : Method → Order → ℕ → List Op
tail_by Tao o t = SynchronizeCache (record { 0 = t }) ∷ close_by o.recipe t (tracks_from o t)
tail_by Sao o t = tracks_from o t

-- from the block f of the piece t on
abbrev piece : Order → ℕ → ℕ → List Op
piece o t f = writes_from t (piece_of o t) f ++ tail_by o.method o t

abbrev page_by : Method → Order → ℕ → List Op
page_by Tao o t = piece o t 0
page_by Sao o t = SendCueSheet ∷ piece o 0 0

abbrev synchronized_by : Method → Order → ℕ → List Op
synchronized_by Tao o t = close_by o.recipe t (tracks_from o t)
synchronized_by Sao o t = []

-- behind an operation of the script, or A1h; a poll is none
abbrev pub behind : Order → Op → List Op
behind o GetConfiguration = ReadDiscInformation ∷ before_tracks o (tracks_from o 0)
behind o ReadDiscInformation = before_tracks o (tracks_from o 0)
behind o (ReadTrackInformation t) = ModeSelect t ∷ page_by o.method o t.0
behind o (ModeSelect t) = page_by o.method o t.0
behind o SendCueSheet = piece o 0 0
behind o (Write t f k) = piece o t.0 (f.0 + k.0)
behind o (SynchronizeCache t) = synchronized_by o.method o t.0
behind o (CloseTrack t) = tracks_from o t.0
behind o CloseSession = []
behind o Blank = ReadDiscInformation ∷ before_tracks o (tracks_from o 0)
behind o TestUnitReady = []
behind o RequestSense = []

abbrev pub onto : Order → Option Op → List Op
onto o (Some x) = x ∷ behind o x
onto o None = []

pub from_start : (o : Order) → script o ≡ GetConfiguration ∷ behind o GetConfiguration
from_start o = refl

-- ---- the next track

pub track_length : (o : Order) (t : ℕ) → t < length (tracks_in o) → (get_or (tracks_in o) t no_track).length.0 ≡ piece_of o (suc t)
track_length o t h =
    let n = length-take o.count o.tracks in
    let l : t < o.count = omega arith in
    ap (λ (x : Track). x.length.0) (get_or-take o.count o.tracks t no_track l)

pub next_track_lem : (o : Order) (t : ℕ) → t < length (tracks_in o) → tracks_from o t ≡ track_by o.method o.recipe (suc t) (piece_of o (suc t)) (tracks_from o (suc t))
next_track_lem o t h =
    ap (each_track o t) (drop-cons (tracks_in o) t no_track h) ∙
    ap (λ (l : ℕ). track_by o.method o.recipe (suc t) l (tracks_from o (suc t))) (track_length o t h)

no_track_left : (o : Order) (t : ℕ) → length (tracks_in o) ≤ t → tracks_from o t ≡ each_track o t []
no_track_left o t h = ap (each_track o t) (drop_of_length-le (tracks_in o) h)

-- ---- within a piece

pub writes_some : (l f : ℕ) → f < l → writes_for (l - f) ≡ suc (writes_for (l - (f + portion l f)))
writes_some l f h = omega arith

-- a WRITE is due
piece_write : (o : Order) (t f : ℕ) → f < piece_of o t → piece o t f ≡ write t f (portion (piece_of o t) f) ∷ piece o t (f + portion (piece_of o t) f)
piece_write o t f h = ap (λ (k : ℕ). writes t (piece_of o t) f k ++ tail_by o.method o t) (writes_some (piece_of o t) f h)

piece_end : (o : Order) (t f : ℕ) → piece_of o t ≤ f → piece o t f ≡ tail_by o.method o t
piece_end o t f h = let z : writes_for (piece_of o t - f) ≡ 0 = omega arith in ap (λ (k : ℕ). writes t (piece_of o t) f k ++ tail_by o.method o t) z

-- what SAO needs of the piece t: it is one of the order, and the next track is not empty
abbrev pub Goes : Method → Order → ℕ → Type 0
Goes Tao o t = Unit {0}
Goes Sao o t = (t ≤ o.count) × (t < o.count → 0 < piece_of o (suc t))

-- what comes after a piece
after_piece : (m : Method) (o : Order) (t : ℕ) → length (tracks_in o) ≡ o.count → Goes m o t → tail_by m (by o m) t ≡ onto (by o m) (Some (piece_ended m o.count (piece_of (by o m) (suc t)) t))
unfolding piece_ended
after_piece Tao o t n g = refl
after_piece Sao o t n g = go (ltb t o.count) refl
  where
    go : (b : Bool) → ltb t o.count ≡ b → tracks_from (by o Sao) t ≡ onto (by o Sao) (Some (if b (write (suc t) 0 (portion (piece_of (by o Sao) (suc t)) 0)) (SynchronizeCache (record { 0 = t }))))
    go true q =
        let h : t < o.count = ltb-true _ _ q in
        next_track_lem (by o Sao) t (omega arith) ∙ piece_write (by o Sao) (suc t) 0 (g.1 h)
    go false q =
        let h : o.count ≤ t = ltb-false _ _ q in
        let l = g.0 in
        let e : o.count ≡ t = omega arith in
        no_track_left (by o Sao) t (omega arith) ∙ ap (λ (k : ℕ). SynchronizeCache (record { 0 = k }) ∷ []) e

piece_on : (m : Method) (o : Order) (t f : ℕ) → length (tracks_in o) ≡ o.count → Goes m o t → piece (by o m) t f ≡ onto (by o m) (Some (before_block m o.count (piece_of (by o m) t) (piece_of (by o m) (suc t)) t f))
unfolding before_block
piece_on m o t f n g = go (ltb f (piece_of (by o m) t)) refl
  where
    go : (b : Bool) → ltb f (piece_of (by o m) t) ≡ b → piece (by o m) t f ≡ onto (by o m) (Some (if b (write t f (portion (piece_of (by o m) t) f)) (piece_ended m o.count (piece_of (by o m) (suc t)) t)))
    go true q = piece_write (by o m) t f (ltb-true _ _ q)
    go false q = piece_end (by o m) t f (ltb-false _ _ q) ∙ after_piece m o t n g

-- ---- the operation after another is the first behind it

abbrev pub GoesOn : Method → Order → Op → Type 0
GoesOn m o GetConfiguration = Unit {0}
GoesOn m o ReadDiscInformation = Unit {0}
GoesOn m o (ReadTrackInformation t) = Unit {0}
GoesOn m o (ModeSelect t) = Unit {0}
GoesOn m o SendCueSheet = Goes m o 0
GoesOn m o (Write t f k) = Goes m o t.0
GoesOn m o (SynchronizeCache t) = Unit {0}
GoesOn m o (CloseTrack t) = m ≡ Tao
GoesOn m o CloseSession = Unit {0}
GoesOn m o Blank = Unit {0}
GoesOn m o TestUnitReady = Unit {0}
GoesOn m o RequestSense = Unit {0}

after_page_lem : (m : Method) (o : Order) (t : ℕ) → length (tracks_in o) ≡ o.count → page_by m (by o m) t ≡ onto (by o m) (after_in (by o m) (ModeSelect (record { 0 = t })))
after_page_lem Tao o t n = piece_on Tao o t 0 n tt
after_page_lem Sao o t n = refl

after_closed : (o : Order) (t : ℕ) → length (tracks_in o) ≡ o.count → tracks_from (by o Tao) t ≡ onto (by o Tao) (Some (after_track o.count t))
unfolding after_track
after_closed o t n = go (ltb t o.count) refl
  where
    go : (b : Bool) → ltb t o.count ≡ b → tracks_from (by o Tao) t ≡ onto (by o Tao) (Some (if b (ReadTrackInformation (record { 0 = suc t })) CloseSession))
    go true q = let h : t < o.count = ltb-true _ _ q in next_track_lem (by o Tao) t (omega arith)
    go false q = let h : o.count ≤ t = ltb-false _ _ q in no_track_left (by o Tao) t (omega arith)

opened : (m : Method) (o : Order) → Sized o → before_tracks (by o m) (tracks_from (by o m) 0) ≡ onto (by o m) (Some (ReadTrackInformation (record { 0 = 1 })))
opened Tao o z = let n = z.some in let a = z.all in next_track_lem (by o Tao) 0 (omega arith)
opened Sao o z = refl

closed : (m : Method) (o : Order) (t : TrackNumber) → length (tracks_in o) ≡ o.count → m ≡ Tao → tracks_from (by o m) t.0 ≡ onto (by o m) (Some (after_track o.count t.0))
closed Tao o t n e = after_closed o t.0 n
closed Sao o t n e = absurd (no_method e)
  where
    no_method : Sao ≡ Tao → ⊥
    no_method e = let c : ◌≡◌ {A = ℕ} 0 1 = cc in omega arith

-- by the new recipe 35h closes the track
synchronized_by_lem : (q : Recipe) (o : Order) (t : ℕ) → length (tracks_in o) ≡ o.count → close_by q t (tracks_from (by o Tao) t) ≡ onto (by o Tao) (after_synchronize Tao q o.count t)
synchronized_by_lem Old o t n = refl
synchronized_by_lem New o t n = after_closed o t n

synchronized : (m : Method) (o : Order) (t : TrackNumber) → length (tracks_in o) ≡ o.count → synchronized_by m (by o m) t.0 ≡ onto (by o m) (after_in (by o m) (SynchronizeCache t))
synchronized Tao o t n = synchronized_by_lem o.recipe o t.0 n
synchronized Sao o t n = refl

goes_by : (m : Method) (o : Order) (x : Op) → Sized o → GoesOn m o x → behind (by o m) x ≡ onto (by o m) (after_in (by o m) x)
goes_by m o GetConfiguration z g = refl
goes_by m o ReadDiscInformation z g = opened m o z
goes_by m o (ReadTrackInformation t) z g = refl
goes_by m o (ModeSelect t) z g = after_page_lem m o t.0 z.all
goes_by m o SendCueSheet z g = piece_on m o 0 0 z.all g
goes_by m o (Write t f k) z g = piece_on m o t.0 (f.0 + k.0) z.all g
goes_by m o (SynchronizeCache t) z g = synchronized m o t z.all
goes_by m o (CloseTrack t) z g = closed m o t z.all g
goes_by m o CloseSession z g = refl
goes_by m o Blank z g = refl
goes_by m o TestUnitReady z g = refl
goes_by m o RequestSense z g = refl

pub goes_on : (o : Order) (x : Op) → Sized o → GoesOn o.method o x → behind o x ≡ onto o (after_in o x)
goes_on o x z g = goes_by o.method o x z g
