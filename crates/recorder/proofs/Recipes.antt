-- The two recipes side by side: a job by the new one is a job by the old one without 5Bh function 1 and the polls after it.
use mathlib.Core.Path.{◌≡◌, refl, sym, ap, subst, ◌∙◌}
use mathlib.Core.Bool.{Bool, true, false, not, ◌&&◌, ◌||◌}
use mathlib.Core.List.{List, [], ◌∷◌, ◌++◌}
use Prim.Native.Nat.{ℕ, zero, suc, ◌+◌, ◌-◌}
use Rattle.basics.specs.Bytes.{if}
use Rattle.mmc.specs.Refusals.{Outcome, pass}
use Rattle.mmc.specs.Order.{tracks_in, mixed_or_kept}
use Rattle.mmc.specs.Times.{lead_frames, address_at}
use Rattle.mmc.specs.ReplyBlock.{Reply}
use Rattle.mmc.specs.declared.order.Order.{Order}
use Rattle.mmc.specs.declared.order.Track.{Track}
use Rattle.mmc.specs.declared.order.Method.{Method}
use Rattle.mmc.specs.declared.order.Method.TheVariants.{Tao, Sao}
use Rattle.mmc.specs.declared.order.Recipe.TheVariants.{Old, New}
use Rattle.recorder.specs.declared.script.Op.{Op}
use Rattle.recorder.specs.declared.script.Op.TheVariants.{GetConfiguration, ReadDiscInformation, ReadTrackInformation, ModeSelect, SendCueSheet, Write, SynchronizeCache, CloseTrack, CloseSession, Blank, TestUnitReady, RequestSense}
use Rattle.recorder.specs.declared.replies.Reading.{Reading}
use Rattle.recorder.specs.declared.replies.Reading.TheVariants.{Busy, NotReady, Failed, Malformed, Profile, Disc, Information, ProgressIndication, Unread}
use Rattle.recorder.specs.declared.exchanges.Seen.{Seen}
use Rattle.recorder.specs.Answers.{Why, Ruling, done, stop}
use Rattle.recorder.specs.Replies.{reading}
use Rattle.recorder.specs.Script.{is_poll, polls, erasing, write, portion, writes_for, writes, writes_from, each_track, script}
use Rattle.recorder.specs.Exchanges.{Exchange, see, seen}
use Rattle.recorder.specs.Rules.{too_long, Judgement, onward, polls_if, is_last, judge, judged, rest, move, left, none, found, refused_by, first_refused, ruled, exchanged, play}
use Rattle.recorder.specs.Recipes.{under, is_function1, other_ops, closing_track, of_function1, others, latest_of_function1, replies_in}
use Rattle.std.proofs.lemmas.Bool.{false≢true}
use Rattle.recorder.proofs.Lists.{if_yes, if_no, clash, none_found}
use Rattle.recorder.proofs.Turns.{made, Played, nothing, then, Reads, busy, not_ready_lem, failed, malformed, profile, status, information, indication, ready, unread, reads, Turn, repeats, refuses, works, polls_begin, erases_first, asks, polls_on, polls_end, turn}
use Rattle.recorder.proofs.Plans.{Scripted, scripted_before}
use Rattle.recorder.proofs.Scripts.{by, scripted}
use Rattle.recorder.proofs.Rulings.{refused_next, unrefused_last, is_done, ruled_at, ruled_stop, rule_stop}

-- ---- over the scripts

writes_others : (t l f k : ℕ) (m : List Op) → other_ops (writes t l f k ++ m) ≡ writes t l f k ++ other_ops m
writes_others t l f zero m = refl
writes_others t l f (suc k) m = ap (λ (n : List Op). write t f (portion l f) ∷ n) (writes_others t l (f + portion l f) k m)

track_others : (t l : ℕ) (m n : List Op) → other_ops m ≡ n → other_ops (writes_from t l 0 ++ m) ≡ writes_from t l 0 ++ n
track_others t l m n e = writes_others t l 0 (writes_for (l - 0)) m ∙ ap (λ (k : List Op). writes_from t l 0 ++ k) e

each_others : (m : Method) (o : Order) (t : ℕ) (xs : List Track) → other_ops (each_track (under Old (by o m)) t xs) ≡ each_track (under New (by o m)) t xs
each_others Tao o t [] = refl
each_others Sao o t [] = refl
each_others Tao o t (x ∷ xs) =
    ap (λ (l : List Op). ReadTrackInformation (record { 0 = suc t }) ∷ ModeSelect (record { 0 = suc t }) ∷ l)
    (track_others (suc t) x.length.0 _ _ (ap (λ (l : List Op). SynchronizeCache (record { 0 = suc t }) ∷ l) (each_others Tao o (suc t) xs)))
each_others Sao o t (x ∷ xs) = track_others (suc t) x.length.0 _ _ (each_others Sao o (suc t) xs)

pub script_others : (o : Order) → other_ops (script (under Old o)) ≡ script (under New o)
script_others o = go o.method
  where
    go : (m : Method) → other_ops (script (under Old (by o m))) ≡ script (under New (by o m))
    go Tao = ap (λ (l : List Op). GetConfiguration ∷ ReadDiscInformation ∷ l) (each_others Tao o 0 (tracks_in o))
    go Sao =
        ap (λ (l : List Op). GetConfiguration ∷ ReadDiscInformation ∷ ReadTrackInformation (record { 0 = 1 }) ∷ ModeSelect (record { 0 = 1 }) ∷ SendCueSheet ∷ l)
        (track_others 0 lead_frames (each_track (under Old (by o Sao)) 0 (tracks_in o)) (each_track (under New (by o Sao)) 0 (tracks_in o)) (each_others Sao o 0 (tracks_in o)))

-- ---- what was seen, but for what a polling leaves behind

abbrev retold : Seen → Bool → ℕ → Seen
retold v a n = record { profile = v.profile; status = v.status; at = v.at; erased = v.erased; ready = a; progress = n }

abbrev Alike : Seen → Seen → Type 0
Alike v w = w ≡ retold v w.ready w.progress

see_alike : (m : Method) (x : Op) (r : Reading) (v w : Seen) → Alike v w → Alike (see m x r v) (see m x r w)
see_alike m x r v w e = subst (λ (u : Seen). Alike (see m x r v) (see m x r u)) (sym e) (go r)
  where
    go : (r : Reading) → Alike (see m x r v) (see m x r (retold v w.ready w.progress))
    go Busy = refl
    go NotReady = refl
    go (Failed s) = refl
    go Malformed = refl
    go (Profile p) = refl
    go (Disc d) = refl
    go (Information i) = refl
    go (ProgressIndication n) = refl
    go Unread = refl

-- function 1 and its polls leave the rest as it was
past_function_1 : (m : Method) (x : Op) (g : Bool) (r : Reading) (v w : Seen) → is_function1 x ≡ true → Reads x g r → Alike v w → Alike (see m x r v) w
past_function_1 m (CloseTrack t) g r v w q (busy i) e = e
past_function_1 m (CloseTrack t) g r v w q failed e = e
past_function_1 m (CloseTrack t) g r v w q (malformed a) e = elim a [ ]
past_function_1 m (CloseTrack t) g r v w q (unread i n) e = e
past_function_1 m GetConfiguration g r v w q i e = absurd (false≢true q)
past_function_1 m ReadDiscInformation g r v w q i e = absurd (false≢true q)
past_function_1 m (ReadTrackInformation t) g r v w q i e = absurd (false≢true q)
past_function_1 m (ModeSelect t) g r v w q i e = absurd (false≢true q)
past_function_1 m SendCueSheet g r v w q i e = absurd (false≢true q)
past_function_1 m (Write t f k) g r v w q i e = absurd (false≢true q)
past_function_1 m (SynchronizeCache t) g r v w q i e = absurd (false≢true q)
past_function_1 m CloseSession g r v w q i e = absurd (false≢true q)
past_function_1 m Blank g r v w q i e = absurd (false≢true q)
past_function_1 m TestUnitReady g r v w q i e = absurd (false≢true q)
past_function_1 m RequestSense g r v w q i e = absurd (false≢true q)

past_ready : (m : Method) (g : Bool) (r : Reading) (v w : Seen) → Reads TestUnitReady g r → Alike v w → Alike (see m TestUnitReady r v) w
past_ready m g r v w (busy i) e = e
past_ready m g r v w not_ready_lem e = e
past_ready m g r v w failed e = e
past_ready m g r v w (malformed a) e = elim a [ ]
past_ready m g r v w ready e = e
past_ready m g r v w (unread i n) e = e

past_sense : (m : Method) (g : Bool) (r : Reading) (v w : Seen) → Reads RequestSense g r → Alike v w → Alike (see m RequestSense r v) w
past_sense m g r v w (busy i) e = e
past_sense m g r v w failed e = e
past_sense m g r v w (malformed a) e = e
past_sense m g r v w indication e = e
past_sense m g r v w (unread i n) e = e

-- ---- the same judgement: neither the recipe nor what a polling left behind is looked at, but at a 03h whether the drive was ready

judge_retold : (o : Order) (v : Seen) (a : Bool) (n : ℕ) (x : Op) (g : Bool) (r : Reading) → Reads x g r → (x ≡ RequestSense → v.ready ≡ a) → judge (under New o) (retold v a n) x r ≡ judge (under Old o) v x r
unfolding mixed_or_kept too_long
judge_retold o v a n x g r (busy i) h = refl
judge_retold o v a n x g r not_ready_lem h = refl
judge_retold o v a n x g r failed h = refl
judge_retold o v a n x g r (malformed b) h = refl
judge_retold o v a n x g r profile h = refl
judge_retold o v a n x g r status h = refl
judge_retold o v a n x g r information h = refl
judge_retold o v a n x g r (indication {n = k}) h = ap (λ (b : Bool). polls_if (not (is_last b k))) (sym (h refl))
judge_retold o v a n x g r ready h = refl
judge_retold o v a n x g r (unread i k) h = refl

judge_same : (o : Order) (v w : Seen) (x : Op) (g : Bool) (r : Reading) → Alike v w → Reads x g r → (x ≡ RequestSense → v.ready ≡ w.ready) → judge (under New o) w x r ≡ judge (under Old o) v x r
judge_same o v w x g r e i h = ap (λ (u : Seen). judge (under New o) u x r) e ∙ judge_retold o v w.ready w.progress x g r i h

-- ---- the plans side by side: by the old recipe, and by the new

-- with the latest command but polls function 1 or not (c), and whether the drive was seen ready in each
data Beside (c a b : Bool) : List Op → List Op → Type 0 where
  working : {l m : List Op} → Scripted l → m ≡ other_ops l → Beside c a b l m
  asking : {l m : List Op} → Scripted l → m ≡ TestUnitReady ∷ RequestSense ∷ other_ops l → c ≡ false → Beside c a b (TestUnitReady ∷ RequestSense ∷ l) m
  hearing : {l m : List Op} → Scripted l → m ≡ RequestSense ∷ other_ops l → c ≡ false → a ≡ b → Beside c a b (RequestSense ∷ l) m
  asking_1 : {l m : List Op} → Scripted l → m ≡ other_ops l → c ≡ true → Beside c a b (TestUnitReady ∷ RequestSense ∷ l) m
  hearing_1 : {l m : List Op} → Scripted l → m ≡ other_ops l → c ≡ true → Beside c a b (RequestSense ∷ l) m

-- while neither is refused
record Level (o : Order) (es ds : List Exchange) : Type 0 where
  unrefused : first_refused (under New o) ds ≡ none
  alike : Alike (seen o.method es) (seen o.method ds)
  beside : Beside (closing_track es) (seen o.method es).ready (seen o.method ds).ready (left (under Old o) es) (left (under New o) ds)

record Along (o : Order) (es ds : List Exchange) : Type 0 where
  played : Played (under New o) ds
  going : first_refused (under Old o) es ≡ none → Level o es ds
  stops : (w : Why) → first_refused (under Old o) es ≡ found w → latest_of_function1 es ≡ false → first_refused (under New o) ds ≡ found w

-- ---- one reply more

-- the last round of a polling ends it, any other is followed by one more
heard_beside : (P : Judgement → Type 0) (b : Bool) → P (onward []) → P (onward polls) → P (polls_if (not b))
heard_beside P true p q = p
heard_beside P false p q = q

-- the operation is another than function 1 and its polls
same_op : (x : Op) (l m : List Op) → is_function1 x ≡ false → m ≡ other_ops (x ∷ l) → m ≡ x ∷ other_ops l
same_op x l m q e = e ∙ ap (λ (b : Bool). if b [] (x ∷ []) ++ other_ops l) q

-- or is one of them
no_op : (x : Op) (l m : List Op) → is_function1 x ≡ true → m ≡ other_ops (x ∷ l) → m ≡ other_ops l
no_op x l m q e = e ∙ ap (λ (b : Bool). if b [] (x ∷ []) ++ other_ops l) q

beside_function_1 : {c a b : Bool} (x : Op) (l k : List Op) (p g q : Bool) (j : Judgement) → Scripted (x ∷ l) → k ≡ other_ops (x ∷ l) → is_function1 x ≡ true → c ≡ true → Turn p x g q j → refused_by j ≡ none → Beside c a b (move j (x ∷ l)) k
beside_function_1 x l k p g q j z i e h (repeats n) f = working z i
beside_function_1 x l k p g q j z i e h (refuses n) f = absurd (none_found _ (sym f))
beside_function_1 x l k p g q j z i e h (works n) f = working z.1.1 (no_op x l k e i)
beside_function_1 x l k p g q j z i e h (polls_begin n) f = asking_1 z.1.1 (no_op x l k e i) h
beside_function_1 x l k p g q j z i e h erases_first f = absurd (false≢true e)
beside_function_1 x l k p g q j z i e h asks f = absurd (false≢true e)
beside_function_1 x l k p g q j z i e h polls_on f = absurd (false≢true e)
beside_function_1 x l k p g q j z i e h polls_end f = absurd (false≢true e)

beside_other : {c a b : Bool} (x : Op) (l k : List Op) (p g q : Bool) (j : Judgement) → Scripted (x ∷ l) → k ≡ x ∷ other_ops l → is_function1 x ≡ false → c ≡ false → Turn p x g q j → refused_by j ≡ none → Beside c a b (move j (x ∷ l)) (move j k)
beside_other x l k p g q j z i e h (repeats n) f = working z (i ∙ sym (same_op x l _ e refl))
beside_other x l k p g q j z i e h (refuses n) f = absurd (none_found _ (sym f))
beside_other x l k p g q j z i e h (works n) f = working z.1.1 (ap rest i)
beside_other x l k p g q j z i e h (polls_begin n) f = asking z.1.1 (ap (λ (d : List Op). TestUnitReady ∷ RequestSense ∷ rest d) i) h
beside_other x l k p g q j z i e h erases_first f = working (scripted_before erasing l (refl, (refl, tt)) z.0 z.1.1) (ap (λ (d : List Op). Blank ∷ ReadDiscInformation ∷ rest d) i)
beside_other x l k p g q j z i e h asks f = absurd (false≢true (sym z.1.0))
beside_other x l k p g q j z i e h polls_on f = absurd (false≢true (sym z.1.0))
beside_other x l k p g q j z i e h polls_end f = absurd (false≢true (sym z.1.0))

module _ (o : Order) (es : List Exchange) (x : Op) (l : List Op) (y : Reply) (s : Along o es (others es)) (u : first_refused (under Old o) es ≡ none) (e : left (under Old o) es ≡ x ∷ l) where
  abbrev m : Method
  m = o.method

  abbrev v : Seen
  v = seen m es

  abbrev w : Seen
  w = seen m (others es)

  abbrev r : Reading
  r = reading x y

  abbrev j : Judgement
  j = judge (under Old o) v x r

  abbrev old : Exchange
  old = made (under Old o) es x y

  abbrev new : Exchange
  new = made (under New o) (others es) x y

  abbrev k : List Op
  k = left (under New o) (others es)

  level : Level o es (others es)
  level = s.going u

  -- where the reply passes, the plans stand side by side after it, with the new one so
  abbrev Then : Seen → List Op → Type 0
  Then z n = refused_by j ≡ none → Beside (closing_track (old ∷ es)) (see m x r v).ready z.ready (move j (x ∷ l)) n

  -- the old plan after the reply
  after_old : (z : Seen) (n : List Op) → Then z n → first_refused (under Old o) (old ∷ es) ≡ none → Beside (closing_track (old ∷ es)) (seen m (old ∷ es)).ready z.ready (left (under Old o) (old ∷ es)) n
  after_old z n t f =
      subst (λ (i : List Op). Beside (closing_track (old ∷ es)) (see m x r v).ready z.ready i n) (sym (ap (move j) e)) (t (unrefused_last (under Old o) es old u f))

  -- by the new recipe there is no such command
  left_out : of_function1 es x ≡ true → Alike (see m x r v) w → Then w k → Along o (old ∷ es) (others (old ∷ es))
  left_out q a t =
      subst (Along o (old ∷ es)) (sym (if_yes (others es) (old ∷ others es) q))
      (record {
        played = s.played;
        going = λ f. record { unrefused = level.unrefused; alike = a; beside = after_old w k t f };
        stops = λ z f n. absurd (false≢true (sym n ∙ q));
      })

  -- it is the same command
  same_exchange : new ≡ old
  same_exchange = ap (λ (z : Seen). record { command = record { op = x; address = address_at z.at }; reply = y }) level.alike

  taken_too : of_function1 es x ≡ false → (n : List Op) → k ≡ x ∷ n → (x ≡ RequestSense → v.ready ≡ w.ready) → Then (see m x r w) (move j k) → Along o (old ∷ es) (others (old ∷ es))
  taken_too q n i h t = subst (Along o (old ∷ es)) (sym (if_no (others es) (old ∷ others es) q ∙ ap (λ (d : Exchange). d ∷ others es) (sym same_exchange))) here
    where
      same : judged (under New o) (others es) new ≡ j
      same = judge_same o v w x y.good r level.alike (reads x y) h

      here : Along o (old ∷ es) (new ∷ others es)
      here =
          record {
            played = then s.played level.unrefused i y;
            going = λ f.
                record {
                  unrefused = refused_next (under New o) (others es) new none level.unrefused (ap refused_by same ∙ unrefused_last (under Old o) es old u f);
                  alike = see_alike m x r v w level.alike;
                  beside = subst (λ (c : Judgement). Beside (closing_track (old ∷ es)) (see m x r v).ready (see m x r w).ready (left (under Old o) (old ∷ es)) (move c k)) (sym same) (after_old (see m x r w) (move j k) t f);
                };
            stops = λ z f a. refused_next (under New o) (others es) new (found z) level.unrefused (ap refused_by same ∙ sym (refused_next (under Old o) es old (refused_by j) u refl) ∙ f);
          }

  -- with an operation of the script due
  worked : Scripted (x ∷ l) → k ≡ other_ops (x ∷ l) → (b : Bool) → is_function1 x ≡ b → Along o (old ∷ es) (others (old ∷ es))
  worked z i true q =
      left_out (ap (λ (b : Bool). b || (is_poll x && closing_track es)) q) (past_function_1 m x y.good r v w q (reads x y) level.alike)
      (beside_function_1 x l k _ y.good _ j z i q (if_no _ _ z.1.0 ∙ q) (turn (under Old o) es x y))
  worked z i false q =
      taken_too (ap (λ (b : Bool). b || (is_poll x && closing_track es)) q ∙ ap (λ (b : Bool). b && closing_track es) z.1.0) (other_ops l) (same_op x l k q i)
      (λ c. absurd (false≢true (sym z.1.0 ∙ ap is_poll c)))
      (beside_other x l k _ y.good _ j z (same_op x l k q i) q (if_no _ _ z.1.0 ∙ q) (turn (under Old o) es x y))

-- with a poll due: of another operation, or of function 1
module _ (o : Order) (es : List Exchange) (n : List Op) (y : Reply) (s : Along o es (others es)) (u : first_refused (under Old o) es ≡ none) (z : Scripted n) where
  abbrev sn : Seen
  sn = seen o.method es

  abbrev new-left : List Op
  new-left = left (under New o) (others es)

  abbrev after : Op → Exchange
  after x = made (under Old o) es x y

  asked : left (under Old o) es ≡ TestUnitReady ∷ RequestSense ∷ n → new-left ≡ TestUnitReady ∷ RequestSense ∷ other_ops n → closing_track es ≡ false → Along o (after TestUnitReady ∷ es) (others (after TestUnitReady ∷ es))
  asked e i q = taken_too o es TestUnitReady (RequestSense ∷ n) y s u e q (RequestSense ∷ other_ops n) i (λ c. clash (cc)) (on y.good (reading TestUnitReady y) (reads TestUnitReady y))
    where
      on : (g : Bool) (r : Reading) → Reads TestUnitReady g r → refused_by (judge (under Old o) sn TestUnitReady r) ≡ none → Beside (closing_track es) (see o.method TestUnitReady r sn).ready (see o.method TestUnitReady r (seen o.method (others es))).ready (move (judge (under Old o) sn TestUnitReady r) (TestUnitReady ∷ RequestSense ∷ n)) (move (judge (under Old o) sn TestUnitReady r) new-left)
      on g r (busy b) f = absurd (false≢true (sym b))
      on g r not_ready_lem f = hearing z (ap rest i) q refl
      on g r failed f = absurd (none_found _ (sym f))
      on g r (malformed a) f = elim a [ ]
      on g r ready f = hearing z (ap rest i) q refl
      on g r (unread a b) f = absurd (false≢true (sym b))

  heard : left (under Old o) es ≡ RequestSense ∷ n → new-left ≡ RequestSense ∷ other_ops n → closing_track es ≡ false → sn.ready ≡ (seen o.method (others es)).ready → Along o (after RequestSense ∷ es) (others (after RequestSense ∷ es))
  heard e i q h = taken_too o es RequestSense n y s u e q (other_ops n) i (λ c. h) (on y.good (reading RequestSense y) (reads RequestSense y))
    where
      on : (g : Bool) (r : Reading) → Reads RequestSense g r → refused_by (judge (under Old o) sn RequestSense r) ≡ none → Beside (closing_track es) (see o.method RequestSense r sn).ready (see o.method RequestSense r (seen o.method (others es))).ready (move (judge (under Old o) sn RequestSense r) (RequestSense ∷ n)) (move (judge (under Old o) sn RequestSense r) new-left)
      on g r (busy b) f = hearing z i q h
      on g r failed f = absurd (none_found _ (sym f))
      on g r (malformed a) f = absurd (none_found _ (sym f))
      on g r (indication {n = d}) f =
          heard_beside (λ (c : Judgement). Beside (closing_track es) false false (move c (RequestSense ∷ n)) (move c new-left)) (is_last sn.ready d)
          (working z (ap rest i)) (asking z (ap (λ (k : List Op). TestUnitReady ∷ RequestSense ∷ rest k) i) q)
      on g r (unread a b) f = absurd (false≢true (sym b))

  asked_1 : left (under Old o) es ≡ TestUnitReady ∷ RequestSense ∷ n → new-left ≡ other_ops n → closing_track es ≡ true → Along o (after TestUnitReady ∷ es) (others (after TestUnitReady ∷ es))
  asked_1 e i q = left_out o es TestUnitReady (RequestSense ∷ n) y s u e q (past_ready o.method y.good _ _ _ (reads TestUnitReady y) (s.going u).alike) (on y.good (reading TestUnitReady y) (reads TestUnitReady y))
    where
      on : (g : Bool) (r : Reading) → Reads TestUnitReady g r → refused_by (judge (under Old o) sn TestUnitReady r) ≡ none → Beside (closing_track es) (see o.method TestUnitReady r sn).ready (seen o.method (others es)).ready (move (judge (under Old o) sn TestUnitReady r) (TestUnitReady ∷ RequestSense ∷ n)) new-left
      on g r (busy b) f = absurd (false≢true (sym b))
      on g r not_ready_lem f = hearing_1 z i q
      on g r failed f = absurd (none_found _ (sym f))
      on g r (malformed a) f = elim a [ ]
      on g r ready f = hearing_1 z i q
      on g r (unread a b) f = absurd (false≢true (sym b))

  heard_1 : left (under Old o) es ≡ RequestSense ∷ n → new-left ≡ other_ops n → closing_track es ≡ true → Along o (after RequestSense ∷ es) (others (after RequestSense ∷ es))
  heard_1 e i q = left_out o es RequestSense n y s u e q (past_sense o.method y.good _ _ _ (reads RequestSense y) (s.going u).alike) (on y.good (reading RequestSense y) (reads RequestSense y))
    where
      on : (g : Bool) (r : Reading) → Reads RequestSense g r → refused_by (judge (under Old o) sn RequestSense r) ≡ none → Beside (closing_track es) (see o.method RequestSense r sn).ready (seen o.method (others es)).ready (move (judge (under Old o) sn RequestSense r) (RequestSense ∷ n)) new-left
      on g r (busy b) f = hearing_1 z i q
      on g r failed f = absurd (none_found _ (sym f))
      on g r (malformed a) f = absurd (none_found _ (sym f))
      on g r (indication {n = d}) f =
          heard_beside (λ (c : Judgement). Beside (closing_track es) false (seen o.method (others es)).ready (move c (RequestSense ∷ n)) new-left) (is_last sn.ready d) (working z i) (asking_1 z i q)
      on g r (unread a b) f = absurd (false≢true (sym b))

along_by : (o : Order) (es : List Exchange) (x : Op) (l : List Op) (y : Reply) → Along o es (others es) → first_refused (under Old o) es ≡ none → left (under Old o) es ≡ x ∷ l → Beside (closing_track es) (seen o.method es).ready (seen o.method (others es)).ready (x ∷ l) (left (under New o) (others es)) → Along o (made (under Old o) es x y ∷ es) (others (made (under Old o) es x y ∷ es))
along_by o es x l y s u e (working z i) = worked o es x l y s u e z i (is_function1 x) refl
along_by o es x l y s u e (asking {l = n} z i q) = asked o es n y s u z e i q
along_by o es x l y s u e (hearing {l = n} z i q h) = heard o es n y s u z e i q h
along_by o es x l y s u e (asking_1 {l = n} z i q) = asked_1 o es n y s u z e i q
along_by o es x l y s u e (hearing_1 {l = n} z i q) = heard_1 o es n y s u z e i q

along : (o : Order) (es : List Exchange) → Played (under Old o) es → Along o es (others es)
along o es nothing =
    record {
      played = nothing;
      going = λ f. record { unrefused = refl; alike = refl; beside = working (scripted (under Old o)) (sym (script_others o)) };
      stops = λ w f. absurd (none_found w f);
    }
along o es (then {es = before} {x = x} {l = l} p u e y) =
    let s = along o before p in
    along_by o before x l y s u e
    (subst (λ (n : List Op). Beside (closing_track before) (seen o.method before).ready (seen o.method (others before)).ready n (left (under New o) (others before))) e (s.going u).beside)

-- ---- what comes of it

play_snoc : (q : Outcome Order) (es : List Exchange) (ys : List Reply) (y : Reply) → play q es (ys ++ (y ∷ [])) ≡ exchanged (ruled q (play q es ys)) y (play q es ys)
play_snoc q es [] y = refl
play_snoc q es (z ∷ ys) y = play_snoc q (exchanged (ruled q es) z es) ys y

-- exchanges that the rules make are made of their replies
replayed : (o : Order) (es : List Exchange) → Played o es → play (pass o) [] (replies_in es) ≡ es
replayed o es nothing = refl
replayed o es (then {es = before} {x = x} {l = l} p u e y) =
    play_snoc (pass o) [] (replies_in before) y ∙
    ap (λ (d : List Exchange). exchanged (ruled (pass o) d) y d) (replayed o before p) ∙
    ap (λ (a : Ruling). exchanged a y before) (ruled_at o before (x ∷ l) u e)

module _ (o : Order) (es : List Exchange) (p : Played (under Old o) es) where
  pub others_played : play (pass (under New o)) [] (replies_in (others es)) ≡ others es
  others_played = replayed (under New o) (others es) (along o es p).played

  pub others_done : ruled (pass (under Old o)) es ≡ done → ruled (pass (under New o)) (others es) ≡ done
  others_done d =
      let e = is_done (under Old o) es d in
      let s = (along o es p).going e.0 in
      ruled_at (under New o) (others es) [] s.unrefused
      (none_left (subst (λ (n : List Op). Beside (closing_track es) (seen o.method es).ready (seen o.method (others es)).ready n (left (under New o) (others es))) e.1 s.beside))
    where
      none_left : {c a b : Bool} {m : List Op} → Beside c a b [] m → m ≡ []
      none_left (working z i) = i

  pub others_stop : (w : Why) → ruled (pass (under Old o)) es ≡ stop w → latest_of_function1 es ≡ false → ruled (pass (under New o)) (others es) ≡ stop w
  others_stop w d q = ruled_stop (under New o) (others es) w ((along o es p).stops w ((rule_stop (under Old o) es w).0 d) q)
