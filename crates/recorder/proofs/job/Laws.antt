-- What the job's parts come to, over its definitions alone.
use mathlib.Core.Path.{◌≡◌, refl, sym, ap, ◌∙◌}
use mathlib.Core.Bool.{Bool, true, false, not}
use mathlib.Core.List.{List, []}
use Prim.Native.Nat.{ℕ, suc, ◌<◌, ◌^◌}
use native.Mathlib.Omega.{arith}
use borrow.Author.Tests.{leb-true}
use lib.Dec.{leb}
use lib.ListN.{length}
use Rattle.basics.specs.Bytes.{if}
use Rattle.mmc.specs.Refusals.{pass, refuse, number_of}
use Rattle.mmc.specs.Order.{most_tracks, no_order}
use Rattle.mmc.specs.OrderBlock.{read_order}
use Rattle.mmc.specs.ReplyBlock.{reply_of}
use Rattle.mmc.specs.declared.units.FrameCount.{FrameCount}
use Rattle.mmc.specs.declared.order.Order.{Order}
use Rattle.mmc.specs.declared.order.Method.{Method}
use Rattle.mmc.specs.declared.order.Recipe.{Recipe}
use Rattle.mmc.specs.declared.order.Method.TheVariants.{Tao, Sao}
use Rattle.mmc.specs.declared.refusals.Refusal.{Refusal}
use Rattle.recorder.specs.declared.script.Op.{Op}
use Rattle.recorder.specs.declared.script.Op.TheVariants.{GetConfiguration, ReadDiscInformation, ReadTrackInformation, ModeSelect, SendCueSheet, Write, SynchronizeCache, CloseTrack, CloseSession, Blank, TestUnitReady, RequestSense}
use Rattle.recorder.specs.declared.replies.TrackInformation.{TrackInformation}
use Rattle.recorder.specs.declared.replies.Reading.{Reading}
use Rattle.recorder.specs.declared.replies.Reading.TheVariants.{Busy, NotReady, Failed, Malformed, Profile, Disc, Information, ProgressIndication, Unread}
use Rattle.recorder.specs.declared.exchanges.Seen.{Seen}
use Rattle.recorder.specs.declared.rules.Verdict.{Verdict}
use Rattle.recorder.specs.declared.rules.Verdict.TheVariants as V
use Rattle.recorder.specs.declared.job.Poll.{Poll}
use Rattle.recorder.specs.declared.job.Poll.TheVariants.{Off, Ready, Sense}
use Rattle.recorder.specs.declared.job.Progress.{Progress}
use Rattle.recorder.specs.declared.job.Recorder.{Recorder}
use Rattle.recorder.specs.Answers.{because}
use Rattle.recorder.specs.Replies.{is_busy, read_failed, is_unready, read_unready, whole_profile, read_profile, whole_disc, read_disc, whole_information, read_information, read_progress, read_good, failed_by, reading, ForTrack}
use Rattle.recorder.specs.Script.{track_in, asks_ready}
use Rattle.recorder.specs.Exchanges.{start_at, past, see}
use Rattle.recorder.specs.Rules.{needed, fits, track_tests, verdict_in, judge, none, refused_by}
use Rattle.recorder.specs.Places.{piece_of}
use Rattle.recorder.specs.Job.{due_at, due_in, in_order, in_piece, stands_at, stands_in, stands_polled, stands_erasing, stands, rests_at, idle_recorder, Next, goes, halt, turn_of, step_of, unchanged, opening, taken_as, take_of, give_of}
use Rattle.std.proofs.lemmas.Bool.{and_parts}
use Rattle.recorder.proofs.Lists.{passed_clear}
use Rattle.recorder.proofs.Apart.{passed}
use Rattle.recorder.proofs.Standing.{limits}
use Rattle.recorder.specs.History.{Rests}
use Rattle.recorder.proofs.Makes.{of_piece}
use Rattle.recorder.proofs.Steps.{ended_valid, give_over}

-- ---- where the job stands, what comes after it is a number of 32 bits

module _ (m : Method) (u : Recipe) (n l k : ℕ) (at : FrameCount) where
  at_place : (x : Op) → stands_in m u n l k at x ≡ true → stands_at m u n l k at x ≡ true
  unfolding stands_in
  at_place x e = (and_parts (leb n most_tracks) _ (and_parts (leb 1 n) _ e).1).1

  -- a WRITE ends in its piece, and this in time
  past_fits : (x : Op) → stands_in m u n l k at x ≡ true → at.0 < 2 ^ 32 → (past x at).0 < 2 ^ 32
  past_fits GetConfiguration e h = h
  past_fits ReadDiscInformation e h = h
  past_fits (ReadTrackInformation t) e h = h
  past_fits (ModeSelect t) e h = h
  past_fits SendCueSheet e h = h
  past_fits (Write t f c) e h =
      let w = of_piece l f.0 c.0 at (and_parts (in_piece m n k t.0) _ (at_place (Write t f c) e)).1 in
      let d = w.part in
      let y = w.limit in
      omega arith
  past_fits (SynchronizeCache t) e h = h
  past_fits (CloseTrack t) e h = h
  past_fits CloseSession e h = h
  past_fits Blank e h = h
  past_fits TestUnitReady e h = h
  past_fits RequestSense e h = h

-- ---- where the judgement of a 52h has passed, its track begins in time

start_fits : (m : Method) (blocks : ℕ) (at : FrameCount) (i : TrackInformation) → not (fits m blocks i) ≡ false → at.0 < 2 ^ 32 → (start_at m at i).0 < 2 ^ 32
start_fits Tao blocks at i e h = let k = (limits Tao blocks i e).1 in omega arith
start_fits Sao blocks at i e h = h

-- the last part of the test
pub in_place : (o : Order) (s : Progress) → stands o s ≡ true → stands_in o.method o.recipe o.count (piece_of o (track_in s.place)) (piece_of o (suc (track_in s.place))) s.seen.at s.place ≡ true
in_place o s e = (and_parts (stands_erasing o.erase s.place) _ (and_parts (stands_polled o.immed s.place s.poll) _ e).1).1

module _ (o : Order) (x : Op) (v : Seen) (h : v.at.0 < 2 ^ 32) (e : stands_in o.method o.recipe o.count (piece_of o (track_in x)) (piece_of o (suc (track_in x))) v.at x ≡ true) where
  -- a poll puts no block
  past_due : (p : Poll) → (past (due_at x p) v.at).0 < 2 ^ 32
  past_due Off = past_fits o.method o.recipe o.count _ _ v.at x e h
  past_due Ready = h
  past_due Sense = h

  fits_by : (p : Poll) (r : Reading) → refused_by (judge o v (due_at x p) r) ≡ none → (see o.method (due_at x p) r v).at.0 < 2 ^ 32
  fits_by p Busy j = h
  fits_by p NotReady j = h
  fits_by p (Failed y) j = h
  fits_by p Malformed j = h
  fits_by p (Profile n) j = h
  fits_by p (Disc q) j = h
  fits_by p (Information i) j =
      let t = track_in (due_at x p) in
      start_fits o.method (needed o t) v.at i (passed o t v i (passed_clear (track_tests o t v i) [] j)).fitting h
  fits_by p (ProgressIndication n) j = h
  fits_by p Unread j = past_due p

pub seen_fits : (o : Order) (s : Progress) (r : Reading) → s.seen.at.0 < 2 ^ 32 → stands o s ≡ true → refused_by (judge o s.seen (due_in s) r) ≡ none → (see o.method (due_in s) r s.seen).at.0 < 2 ^ 32
seen_fits o s r h e j = fits_by o s.place s.seen h (in_place o s e) s.poll r j

-- no verdict refuses
passes : (v : Verdict) → refused_by (verdict_in v) ≡ none
passes V.Again = refl
passes V.Onward = refl
passes V.Poll = refl
passes V.Erase = refl

pub seen_by : (o : Order) (s : Progress) (r : Reading) (v : Verdict) {d : Op} → d ≡ due_in s → s.seen.at.0 < 2 ^ 32 → stands o s ≡ true → verdict_in v ≡ judge o s.seen d r → (see o.method d r s.seen).at.0 < 2 ^ 32
seen_by o s r v i h e j = rw i (seen_fits o s r h e (ap refused_by (sym (rw i at j)) ∙ passes v))

-- ---- what a reply says where the job stands: of a 52h, that it is for a track

for_if : (t : ℕ) (b : Bool) (x y : Reading) → ForTrack t x → ForTrack t y → ForTrack t (if b x y)
for_if t true x y p q = p
for_if t false x y p q = q

module _ (m : Method) (u : Recipe) (n l k : ℕ) (at : FrameCount) (d : List ℕ) where
  -- a 52h comes before a track of the order
  for_good : (x : Op) → stands_at m u n l k at x ≡ true → ForTrack (track_in x) (read_good x d)
  unfolding in_order read_profile read_disc read_information read_progress
  for_good GetConfiguration e = for_if 0 (whole_profile d) _ _ tt tt
  for_good ReadDiscInformation e = for_if 0 (whole_disc d) _ _ tt tt
  for_good (ReadTrackInformation t) e = for_if t.0 (whole_information d) _ _ (leb-true 1 _ (and_parts _ _ e).0) tt
  for_good (ModeSelect t) e = tt
  for_good SendCueSheet e = tt
  for_good (Write t f c) e = tt
  for_good (SynchronizeCache t) e = tt
  for_good (CloseTrack t) e = tt
  for_good CloseSession e = tt
  for_good Blank e = tt
  for_good TestUnitReady e = tt
  for_good RequestSense e = for_if 0 (leb 18 (length d)) _ _ tt tt

  for_failed : (x : Op) → ForTrack (track_in x) (failed_by x d)
  unfolding read_failed read_unready
  for_failed x = for_if (track_in x) (asks_ready x) _ _ (for_if (track_in x) (is_unready d) _ _ tt tt) (for_if (track_in x) (is_busy d) _ _ tt tt)

  -- neither poll is for one
  for_due : (x : Op) (p : Poll) → stands_at m u n l k at x ≡ true → ForTrack (track_in (due_at x p)) (read_good (due_at x p) d)
  unfolding read_progress
  for_due x Off e = for_good x e
  for_due x Ready e = tt
  for_due x Sense e = for_if 0 (leb 18 (length d)) _ _ tt tt

  for_reply : (x : Op) (p : Poll) (good : Bool) → stands_in m u n l k at x ≡ true → ForTrack (track_in (due_at x p)) (reading (due_at x p) (reply_of good d))
  for_reply x p good e = for_if (track_in (due_at x p)) good _ _ (for_due x p (at_place m u n l k at x e)) (for_failed (due_at x p))

pub for_track : (o : Order) (s : Progress) (good : Bool) (d : List ℕ) → stands o s ≡ true → ForTrack (track_in (due_in s)) (reading (due_in s) (reply_of good d))
for_track o s good d e = for_reply o.method o.recipe o.count _ _ s.seen.at d s.place s.poll good (in_place o s e)

-- ---- an order that is taken

module _ (b : List ℕ) {x : Next} where
  pub taken : (o : Order) → pass o ≡ read_order b → x ≡ step_of o opening 0 (goes opening) → x ≡ take_of b
  unfolding take_of
  taken o e q = q ∙ ap taken_as e

  pub taken_not : (r : Refusal) → refuse (number_of r) ≡ read_order b → x ≡ step_of no_order opening 0 (halt (because (number_of r))) → x ≡ take_of b
  unfolding take_of
  taken_not r e q = q ∙ ap taken_as e

-- ---- a reply that is given, by the two tests: the job has ended, it can stand where it does

module _ (r : Recorder) (good : Bool) (d : List ℕ) {x : Next} where
  pub has_ended : rests_at r.phase ≡ true → x ≡ unchanged r 13 → x ≡ give_of r good d
  unfolding give_of
  has_ended h q = rw h q

  module _ (h : rests_at r.phase ≡ false) where
    pub fails : stands r.order r.progress ≡ false → x ≡ unchanged r 3 → x ≡ give_of r good d
    unfolding give_of
    fails k q = rw (h, k) q

    pub goes_on : stands r.order r.progress ≡ true → x ≡ step_of r.order r.progress r.count (turn_of r.order r.progress (reading (due_in r.progress) (reply_of good d))) → x ≡ give_of r good d
    unfolding give_of
    goes_on k q = rw (h, k) q

-- ---- a recorder that has taken no order

pub rests : (r : Recorder) → r ≡ idle_recorder → Rests r
rests r e =
    record {
      state = e;
      unmoved = λ good d. give_over r good d h;
      is_idle = ap (λ (x : Recorder). x.phase) e;
      none_given = ap (λ (x : Recorder). x.count) e;
      is_valid = ended_valid r h;
    }
  where
    h : rests_at r.phase ≡ true
    h = ap (λ (x : Recorder). rests_at x.phase) e
