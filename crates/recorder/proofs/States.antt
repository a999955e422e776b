-- What an operation that is due gives: the state passes the recorder's own test, a WRITE of a track at once is fresh, and the mode data
-- and the cue sheet that go with a command are made.
use mathlib.Core.Path.{◌≡◌, refl, sym, ap, subst, ◌∙◌}
use mathlib.Core.Bool.{Bool, true, false, not, ◌&&◌}
use mathlib.Core.List.{List, [], ◌∷◌}
use Prim.Native.Nat.{ℕ, suc, ◌+◌, ◌-◌, ◌*◌, ◌≤◌, ◌<◌}
use lib.IntN.{pos}
use native.Mathlib.Omega.{arith}
use borrow.Author.Tests.{lt-ltb, le-ltb, le-leb, eq-eqb, ltb-true, ltb-false, not-false}
use lib.Dec.{ltb, eqb}
use lib.ListN.{length}
use Rattle.basics.specs.Bytes.{if}
use Rattle.mmc.specs.Refusals.{pass}
use Rattle.mmc.specs.Order.{tracks_in, order_kind, valid_order, all_kind, blocks_of, keeps_sao, mixed_or_kept, overlong}
use Rattle.mmc.specs.Page.{mode_bytes, page_fault, mode_data}
use Rattle.mmc.specs.Sheet.{sheet_fault, cue_entry, lead_in_entry, pause_entry, start_entry, lead_out_entry, next_track, behind as behindBlocks, track_entries, sheet_of, sheet_bytes, cue_sheet}
use Rattle.mmc.specs.Times.{last_address, frames_to}
use Rattle.mmc.specs.declared.units.BlockAddress.{BlockAddress}
use Rattle.mmc.specs.declared.units.FrameCount.{FrameCount}
use Rattle.mmc.specs.declared.units.TrackNumber.{TrackNumber}
use Rattle.mmc.specs.declared.order.Order.{Order}
use Rattle.mmc.specs.declared.order.Track.{Track}
use Rattle.mmc.specs.declared.order.Kind.{Kind}
use Rattle.mmc.specs.declared.order.Method.{Method}
use Rattle.mmc.specs.declared.order.Method.TheVariants.{Tao, Sao}
use Rattle.recorder.specs.declared.script.Op.{Op}
use Rattle.recorder.specs.declared.script.Op.TheVariants.{GetConfiguration, ReadDiscInformation, ReadTrackInformation, ModeSelect, SendCueSheet, Write, SynchronizeCache, CloseTrack, CloseSession, Blank, TestUnitReady, RequestSense}
use Rattle.recorder.specs.declared.answers.Command.{Command}
use Rattle.recorder.specs.declared.exchanges.Seen.{Seen}
use Rattle.recorder.specs.declared.job.Poll.{Poll}
use Rattle.recorder.specs.declared.job.Poll.TheVariants.{Off, Ready, Sense}
use Rattle.recorder.specs.Script.{is_poll, track_in, write, stepwise}
use Rattle.recorder.specs.Exchanges.{Named}
use Rattle.recorder.specs.Rules.{last_frame}
use Rattle.recorder.specs.Places.{piece_of}
use Rattle.recorder.specs.Job.{due_at, command_of, latest_progress, in_order, in_time, in_piece, is_write, stands_at, stands_in, stands_polled, stands_erasing, stands}
use Rattle.recorder.specs.History.{Accompanied, FreshWrite}
use Rattle.std.proofs.lemmas.Bool.{false≢true, or_parts}
use Rattle.recorder.proofs.Lists.{if_yes, if_no, frames_back, clash}
use Rattle.recorder.proofs.Scripts.{by}
use Rattle.recorder.proofs.Behind.{Sized}
use Rattle.recorder.proofs.Standing.{blocks_less, long_at, InOrder, InSession, IsWrite, Standing}
use Rattle.recorder.proofs.Moves.{at, PolledAt, Stood}

-- ---- the recorder's own test

two : (a b : Bool) → a ≡ true → b ≡ true → a && b ≡ true
two a b p q = ap (λ (x : Bool). x && b) p ∙ q

order_so : (o : Order) (t : ℕ) → InOrder o t → in_order o.count t ≡ true
unfolding in_order
order_so o t i = two _ _ (le-leb _ _ i.one) (le-leb _ _ i.few)

time_so : (l : ℕ) (f : FrameCount) → f.0 + l ≤ last_frame → in_time l f ≡ true
unfolding in_time
time_so l f h = le-leb _ _ h

write_so : (l f c : ℕ) (a : FrameCount) → IsWrite l f c → a.0 + (l - f) ≤ last_frame → is_write l f c a ≡ true
unfolding is_write
write_so l f c a w h = two _ _ (lt-ltb _ _ w.within) (two _ _ (eq-eqb _ _ w.part) (time_so (l - f) a h))

-- in SAO the next track has a block
piece_so : (o : Order) (t : ℕ) → Sized o → InSession o → t ≤ o.count → in_piece Sao o.count (piece_of o (suc t)) t ≡ true
unfolding in_piece
piece_so o t z i h = go (ltb t o.count) refl
  where
    go : (b : Bool) → ltb t o.count ≡ b → if b (ltb 0 (piece_of o (suc t))) (eqb t o.count) ≡ true
    go true q =
        let l : t < o.count = ltb-true _ _ q in
        let a = z.all in
        lt-ltb _ _ (long_at o t i.long (omega arith))
    go false q =
        let l : o.count ≤ t = ltb-false _ _ q in
        let e : t ≡ o.count = omega arith in
        eq-eqb _ _ e

-- the first track ends in time where the session does
first_fits : (o : Order) → Sized o → InSession o → piece_of o 1 ≤ last_address
first_fits o z i =
    let s = z.some in
    let a = z.all in
    let b = blocks_less o 0 (omega arith) in
    let l = i.limit in
    omega arith

stands_by : (m : Method) (o : Order) (x : Op) (v : Seen) (n : Named) → Sized (by o m) → Standing m (by o m) x v n → stands_at m o.recipe o.count (piece_of (by o m) (track_in x)) (piece_of (by o m) (suc (track_in x))) v.at x ≡ true
unfolding in_piece
stands_by m o GetConfiguration v n z s = refl
stands_by m o ReadDiscInformation v n z s = refl
stands_by Tao o (ReadTrackInformation t) v n z s = order_so (by o Tao) t.0 s
stands_by Sao o (ReadTrackInformation t) v n z s = let e = s.0 in let h = z.some in order_so (by o Sao) t.0 (record { one = omega arith; few = omega arith })
stands_by Tao o (ModeSelect t) v n z s =
    let e = s.1 in
    let l = s.0.limit in
    two _ _ (order_so (by o Tao) t.0 s.0.in_order) (time_so _ v.at (omega arith))
stands_by Sao o (ModeSelect t) v n z s =
    let e = s.1.0 in
    let a = s.1.1 in
    let h = z.some in
    let f = first_fits (by o Sao) z s.0 in
    let l : piece_of (by o Sao) t.0 ≡ piece_of (by o Sao) 1 = ap (piece_of (by o Sao)) e in
    two _ _ (order_so (by o Sao) t.0 (record { one = omega arith; few = omega arith })) (time_so _ v.at (omega arith))
stands_by Tao o SendCueSheet v n z s = absurd s
stands_by Sao o SendCueSheet v n z s = let e = s.1 in time_so _ v.at (omega arith)
stands_by Tao o (Write t f c) v n z s =
    let l = s.0.limit in
    let e = s.1.1 in
    let w = s.1.0.within in
    two _ _ (order_so (by o Tao) t.0 s.0.in_order) (write_so _ f.0 c.0 v.at s.1.0 (omega arith))
stands_by Sao o (Write t f c) v n z s =
    let l = s.0.limit in
    let e = s.1.1.fills in
    two _ _ (piece_so (by o Sao) t.0 z s.0 s.1.1.few) (write_so _ f.0 c.0 v.at s.1.0 (omega arith))
stands_by m o (SynchronizeCache t) v n z s = order_so (by o m) t.0 s
stands_by Tao o (CloseTrack t) v n z s = two _ _ (ap not s.0) (order_so (by o Tao) t.0 s.1)
stands_by Sao o (CloseTrack t) v n z s = absurd s
stands_by Tao o CloseSession v n z s = refl
stands_by Sao o CloseSession v n z s = absurd s
stands_by m o Blank v n z s = refl
stands_by m o TestUnitReady v n z s = absurd s
stands_by m o RequestSense v n z s = absurd s

polled_so : (o : Order) (x : Op) (p : Poll) → PolledAt o x p → stands_polled o.immed x p ≡ true
polled_so o x Off c = refl
polled_so o x Ready c = c
polled_so o x Sense c = c

-- an order whose A1h is due has flag bit 3
erasing_so : (m : Method) (o : Order) (x : Op) (v : Seen) (n : Named) → Standing m o x v n → stands_erasing o.erase x ≡ true
erasing_so m o GetConfiguration v n s = refl
erasing_so m o ReadDiscInformation v n s = refl
erasing_so m o (ReadTrackInformation t) v n s = refl
erasing_so m o (ModeSelect t) v n s = refl
erasing_so m o SendCueSheet v n s = refl
erasing_so m o (Write t f c) v n s = refl
erasing_so m o (SynchronizeCache t) v n s = refl
erasing_so m o (CloseTrack t) v n s = refl
erasing_so m o CloseSession v n s = refl
erasing_so m o Blank v n s = s.0
erasing_so m o TestUnitReady v n s = absurd s
erasing_so m o RequestSense v n s = absurd s

pub stood_stands : (o : Order) (x : Op) (p : Poll) (v : Seen) (n : Named) → Sized o → Stood o x p v n → stands o (at x p v) ≡ true
unfolding stands_in
stood_stands o x p v n z s =
    two _ _ (polled_so o x p s.polled_at)
    (two _ _ (erasing_so o.method o x v n s.standing) (two _ _ (le-leb _ _ z.some) (two _ _ (le-leb _ _ z.few) (stands_by o.method o x v n z s.standing))))

-- ---- no stale address

-- from a WRITE as it stands to its numbers
fresh_by : (o : Order) (c : Command) (v : Seen) (n : Named) (t f k : ℕ) → (frames_to c.address).0 ≡ v.at.0 → Standing Tao o (write t f k) v n → FreshWrite n c t f k
fresh_by o c v n t f k a s =
    let w = s.1.0.within in
    let p = s.1.0.part in
    let r = s.0.room in
    record { of_track = s.0.of_track; at_address = a ∙ s.1.1; within = omega arith }

fresh_in : (m : Method) (o : Order) (x : Op) (c : Command) (v : Seen) (n : Named) → (frames_to c.address).0 ≡ v.at.0 → stepwise m ≡ true → Standing m o x v n → (t f k : ℕ) → x ≡ write t f k → FreshWrite n c t f k
fresh_in Tao o x c v n a w s t f k e = fresh_by o c v n t f k a (subst (λ (y : Op). Standing Tao o y v n) e s)
fresh_in Sao o x c v n a w s t f k e = absurd (false≢true w)

-- a poll is no WRITE
fresh_at : (o : Order) (x : Op) (p : Poll) (v : Seen) (n : Named) → stepwise o.method ≡ true → Standing o.method o x v n → (t f k : ℕ) → due_at x p ≡ write t f k → FreshWrite n (command_of (at x p v)) t f k
fresh_at o x Off v n w s t f k e = fresh_in o.method o x _ v n (frames_back v.at) w s t f k e
fresh_at o x Ready v n w s t f k e = clash (cc)
fresh_at o x Sense v n w s t f k e = clash (cc)

pub stood_fresh : (o : Order) (x : Op) (p : Poll) (v : Seen) (n : Named) → stepwise o.method ≡ true → Stood o x p v n → (t f k : ℕ) → due_at x p ≡ write t f k → FreshWrite n (command_of (at x p v)) t f k
stood_fresh o x p v n w s = fresh_at o x p v n w s.standing

-- ---- the mode data and the cue sheet

-- 8 bytes an entry
entries_length : (k : Kind) (n : TrackNumber) (a : BlockAddress) (ts : List Track) → length (track_entries k n a ts) ≡ 8 * (length ts + 1)
unfolding track_entries start_entry lead_out_entry cue_entry
entries_length k n a [] = refl
entries_length k n a (t ∷ ts) = let i = entries_length k (next_track n) (behindBlocks a t.length) ts in omega arith

sheet_length : (o : Order) → length (tracks_in o) ≡ o.count → length (sheet_of o) ≡ sheet_bytes o.count
unfolding sheet_of lead_in_entry pause_entry cue_entry
sheet_length o n = let i = entries_length (order_kind o) (record { 0 = 1 }) (record { 0 = pos 0 }) (tracks_in o) in omega arith

-- an order that passes 8, 9 and the lead-out limit has a sheet
no_fault : (o : Order) → valid_order (by o Sao) ≡ true → InSession (by o Sao) → sheet_fault (by o Sao) ≡ 0
unfolding sheet_fault mixed_or_kept overlong
no_fault o v i =
    let a = or_parts o.keep _ i.alike in
    let k : all_kind (order_kind o) (tracks_in o) ≡ true = not-false _ a.1 in
    let l : ltb last_address (blocks_of (tracks_in o)) ≡ false = le-ltb _ _ i.limit in
    rw v (simp (a.0, k, i.long, l))

sheet_so : (o : Order) → valid_order (by o Sao) ≡ true → InSession (by o Sao) → cue_sheet (by o Sao) ≡ pass (sheet_of (by o Sao))
unfolding cue_sheet
sheet_so o v i = if_yes _ _ (eq-eqb _ _ (no_fault o v i))

page_so : (o : Order) (k : Kind) → valid_order o ≡ true → keeps_sao o ≡ false → mode_data o k ≡ pass (mode_bytes o k)
unfolding mode_data page_fault
page_so o k v q = rw (v, q)

not_kept : (o : Order) → InSession (by o Sao) → o.keep ≡ false
unfolding mixed_or_kept
not_kept o i = (or_parts o.keep _ i.alike).0

accompanied_by : (m : Method) (o : Order) (x : Op) (v : Seen) (n : Named) → Sized (by o m) → Standing m (by o m) x v n → Accompanied (by o m) x
accompanied_by m o x v n z s =
    record {
      page = λ t e. (_, page_so (by o m) _ z.valid (kept m t (subst (λ (y : Op). Standing m (by o m) y v n) e s)));
      sheet = λ e. sheet m z (subst (λ (y : Op). Standing m (by o m) y v n) e s);
    }
  where
    kept : (m : Method) (t : TrackNumber) → Standing m (by o m) (ModeSelect t) v n → keeps_sao (by o m) ≡ false
    kept Tao t s = refl
    kept Sao t s = not_kept o s.0

    sheet : (m : Method) → Sized (by o m) → Standing m (by o m) SendCueSheet v n → (bytes : List ℕ) × ((cue_sheet (by o m) ≡ pass bytes) × (length bytes ≡ sheet_bytes o.count))
    sheet Tao z s = absurd s
    sheet Sao z s = (sheet_of (by o Sao), (sheet_so o z.valid s.0, sheet_length (by o Sao) z.all))

accompanied_at : (o : Order) (x : Op) (p : Poll) (v : Seen) (n : Named) → Sized o → Standing o.method o x v n → Accompanied o (due_at x p)
accompanied_at o x Off v n z s = accompanied_by o.method o x v n z s
accompanied_at o x Ready v n z s = record { page = λ t e. clash (cc); sheet = λ e. clash (cc) }
accompanied_at o x Sense v n z s = record { page = λ t e. clash (cc); sheet = λ e. clash (cc) }

pub stood_accompanied : (o : Order) (x : Op) (p : Poll) (v : Seen) (n : Named) → Sized o → Stood o x p v n → Accompanied o (due_at x p)
stood_accompanied o x p v n z s = accompanied_at o x p v n z s.standing

-- ---- the progress that the panel shows

no_poll : (m : Method) (o : Order) (x : Op) (v : Seen) (n : Named) → Standing m o x v n → is_poll x ≡ false
no_poll m o GetConfiguration v n s = refl
no_poll m o ReadDiscInformation v n s = refl
no_poll m o (ReadTrackInformation t) v n s = refl
no_poll m o (ModeSelect t) v n s = refl
no_poll m o SendCueSheet v n s = refl
no_poll m o (Write t f c) v n s = refl
no_poll m o (SynchronizeCache t) v n s = refl
no_poll m o (CloseTrack t) v n s = refl
no_poll m o CloseSession v n s = refl
no_poll m o Blank v n s = refl
no_poll m o TestUnitReady v n s = absurd s
no_poll m o RequestSense v n s = absurd s

-- that of the polling, where the poll that is due says that one is under way
pub stood_shows : (o : Order) (x : Op) (p : Poll) (v : Seen) (n : Named) (b : Bool) → Stood o x p v n → is_poll (due_at x p) ≡ b → latest_progress (at x p v) ≡ if b v.progress 0
stood_shows o x Off v n b s e = sym (if_no _ _ (sym e ∙ no_poll o.method o x v n s.standing))
stood_shows o x Ready v n b s e = sym (if_yes _ _ (sym e))
stood_shows o x Sense v n b s e = sym (if_yes _ _ (sym e))
